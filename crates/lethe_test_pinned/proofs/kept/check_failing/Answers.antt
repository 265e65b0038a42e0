use denote.Param.Send.{sendable}
use Rattle.lethe_memdisk.proofs.Crossing.{port_send}
use Rattle.lethe_test_pinned.proofs.kept.check_failing.Goals as goal

pub check_rows-requires-send-D-Port : goal.check_rows-requires-send-D-Port
check_rows-requires-send-D-Port g c κs = search (sendable, port_send)
