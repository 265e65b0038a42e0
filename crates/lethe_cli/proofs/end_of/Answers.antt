use denote.Param.Send.{sendable}
use Rattle.lethe_dirdisk.proofs.Crossing.{port_send}
use Rattle.lethe_cli.proofs.end_of.Goals as goal

pub run_told-told-requires-send-D-Port : goal.run_told-told-requires-send-D-Port
run_told-told-requires-send-D-Port c κs = search (sendable, port_send)
