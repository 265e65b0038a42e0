use denote.Param.Send.{sendable}
use Rattle.lethe_memdisk.proofs.Crossing.{port_send}
use Rattle.lethe_test_snapshot.proofs.places.reads_again.Goals as goal

pub delete-requires-send-D-Port : goal.delete-requires-send-D-Port
delete-requires-send-D-Port c κs = search (sendable, port_send)
