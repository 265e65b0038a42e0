use denote.Param.Send.{sendable}
use Rattle.lethe_dirdisk.proofs.Crossing.{port_send}
use Rattle.lethe_embed.proofs.tour.Goals as goal

pub open-requires-2-send-D-Port : goal.open-requires-2-send-D-Port
open-requires-2-send-D-Port c κs = search (sendable, port_send)

pub new_port-requires-send-D-Port : goal.new_port-requires-send-D-Port
new_port-requires-send-D-Port c κs = search (sendable, port_send)

pub put-requires-send-D-Port : goal.put-requires-send-D-Port
put-requires-send-D-Port c κs = search (sendable, port_send)

pub put-requires-2-send-D-Port : goal.put-requires-2-send-D-Port
put-requires-2-send-D-Port c κs = search (sendable, port_send)

pub delete-requires-send-D-Port : goal.delete-requires-send-D-Port
delete-requires-send-D-Port c κs = search (sendable, port_send)

pub get-requires-send-D-Port : goal.get-requires-send-D-Port
get-requires-send-D-Port c κs = search (sendable, port_send)

pub scan-requires-send-D-Port : goal.scan-requires-send-D-Port
scan-requires-send-D-Port c κs = search (sendable, port_send)
