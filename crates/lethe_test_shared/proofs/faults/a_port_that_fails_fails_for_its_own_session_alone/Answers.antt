use denote.Param.Send.{sendable}
use Rattle.lethe_memdisk.proofs.Crossing.{port_send}
use Rattle.lethe_test_shared.proofs.faults.a_port_that_fails_fails_for_its_own_session_alone.Goals as goal

pub filled-requires-send-D-Port : goal.filled-requires-send-D-Port
filled-requires-send-D-Port c κs = search (sendable, port_send)

pub shared-store-requires-send-D-Port : goal.shared-store-requires-send-D-Port
shared-store-requires-send-D-Port c κs = search (sendable, port_send)

pub split-requires-send-D-Port : goal.split-requires-send-D-Port
split-requires-send-D-Port c κs = search (sendable, port_send)

pub get-requires-send-D-Port : goal.get-requires-send-D-Port
get-requires-send-D-Port c κs = search (sendable, port_send)

pub get-requires-2-send-D-Port : goal.get-requires-2-send-D-Port
get-requires-2-send-D-Port c κs = search (sendable, port_send)

pub get-requires-3-send-D-Port : goal.get-requires-3-send-D-Port
get-requires-3-send-D-Port c κs = search (sendable, port_send)

pub get-requires-4-send-D-Port : goal.get-requires-4-send-D-Port
get-requires-4-send-D-Port c κs = search (sendable, port_send)

pub join-requires-send-D-Port : goal.join-requires-send-D-Port
join-requires-send-D-Port c κs = search (sendable, port_send)

pub finish-engine-requires-send-D-Port : goal.finish-engine-requires-send-D-Port
finish-engine-requires-send-D-Port c κs = search (sendable, port_send)

pub count-requires-send-D-Port : goal.count-requires-send-D-Port
count-requires-send-D-Port c κs = search (sendable, port_send)
