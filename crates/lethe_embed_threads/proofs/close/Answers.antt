use denote.Param.Send.{sendable}
use Rattle.lethe_dirdisk.proofs.Crossing.{port_send}
use Rattle.lethe_embed_threads.proofs.close.Goals as goal

pub join-requires-send-D-Port : goal.join-requires-send-D-Port
join-requires-send-D-Port c κs = search (sendable, port_send)
