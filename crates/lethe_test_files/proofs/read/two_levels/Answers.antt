use denote.Param.Send.{sendable}
use Rattle.lethe_memdisk.proofs.Crossing.{port_send}
use Rattle.lethe_test_files.proofs.read.two_levels.Goals as goal

pub of-requires-send-D-Port : goal.of-requires-send-D-Port
of-requires-send-D-Port g c κs = search (sendable, port_send)
