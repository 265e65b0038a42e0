use denote.Param.Send.{sendable}
use Rattle.lethe_dirdisk.proofs.Crossing.{port_send}
use Rattle.lethe_embed_threads.proofs.put_records.Goals as goal

pub put-requires-send-D-Port : goal.put-requires-send-D-Port
put-requires-send-D-Port g c κs within = search (sendable, port_send)

pub get-requires-send-D-Port : goal.get-requires-send-D-Port
get-requires-send-D-Port g c κs within = search (sendable, port_send)
