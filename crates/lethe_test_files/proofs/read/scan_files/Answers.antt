use denote.Param.Send.{sendable}
use Rattle.lethe_memdisk.proofs.Crossing.{port_send}
use Rattle.lethe_test_files.proofs.read.scan_files.Goals as goal

pub scan-requires-send-D-Port : goal.scan-requires-send-D-Port
scan-requires-send-D-Port c κs = search (sendable, port_send)
