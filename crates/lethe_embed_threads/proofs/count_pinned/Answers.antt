use denote.Param.Send.{sendable}
use Rattle.lethe_dirdisk.proofs.Crossing.{port_send}
use Rattle.lethe_embed_threads.proofs.count_pinned.Goals as goal

pub scan-requires-send-D-Port : goal.scan-requires-send-D-Port
scan-requires-send-D-Port c κs = search (sendable, port_send)
