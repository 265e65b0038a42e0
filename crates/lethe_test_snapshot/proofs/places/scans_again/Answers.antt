use denote.Param.Send.{sendable}
use Rattle.lethe_memdisk.proofs.Crossing.{port_send}
use Rattle.lethe_test_snapshot.proofs.places.scans_again.Goals as goal

pub listed-requires-in-loop-failing-send-D-Port : goal.listed-requires-in-loop-failing-send-D-Port
listed-requires-in-loop-failing-send-D-Port c κs = search (sendable, port_send)
