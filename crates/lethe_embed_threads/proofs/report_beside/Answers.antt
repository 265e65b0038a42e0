use denote.Param.Send.{sendable}
use Rattle.lethe_dirdisk.proofs.Crossing.{port_send}
use Rattle.lethe_embed_threads.proofs.report_beside.Goals as goal

pub pin-requires-send-D-Port : goal.pin-requires-send-D-Port
pin-requires-send-D-Port g c κs within = search (sendable, port_send)

pub release-requires-send-D-Port : goal.release-requires-send-D-Port
release-requires-send-D-Port g c κs within = search (sendable, port_send)

pub join-requires-send-D-Port : goal.join-requires-send-D-Port
join-requires-send-D-Port g c κs = search (sendable, port_send)
