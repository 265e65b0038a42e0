use denote.Param.Send.{sendable}
use Rattle.lethe_dirdisk.proofs.Crossing.{port_send}
use Rattle.lethe_embed_threads.proofs.count_records.Goals as goal

pub port-requires-send-D-Port : goal.port-requires-send-D-Port
port-requires-send-D-Port c κs = search (sendable, port_send)
