use denote.Param.Send.{sendable}
use Rattle.lethe_dirdisk.proofs.Crossing.{port_send}
use Rattle.lethe_embed_threads.proofs.new_report.Goals as goal

pub split-requires-send-D-Port : goal.split-requires-send-D-Port
split-requires-send-D-Port g c κs within = search (sendable, port_send)
