use denote.Param.Send.{sendable}
use Rattle.lethe_dirdisk.proofs.Crossing.{port_send}
use Rattle.lethe_embed_threads.proofs.serve.Goals as goal

pub finish-requires-send-D-Port : goal.finish-requires-send-D-Port
finish-requires-send-D-Port g c κs within = search (sendable, port_send)
