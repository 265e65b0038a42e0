use denote.Param.Send.{sendable}
use Rattle.lethe_memdisk.proofs.Crossing.{port_send}
use Rattle.lethe_test_files.proofs.read.file_of.Goals as goal

pub new-requires-send-D-Port : goal.new-requires-send-D-Port
new-requires-send-D-Port g c κs = search (sendable, port_send)
