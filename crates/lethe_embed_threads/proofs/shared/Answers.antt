use denote.Param.Send.{sendable}
use Rattle.lethe_dirdisk.proofs.Crossing.{port_send}
use Rattle.lethe_embed_threads.proofs.shared.Goals as goal

pub open-requires-2-send-D-Port : goal.open-requires-2-send-D-Port
open-requires-2-send-D-Port c κs = search (sendable, port_send)

pub open-requires-3-send-D-Port : goal.open-requires-3-send-D-Port
open-requires-3-send-D-Port c κs = search (sendable, port_send)
