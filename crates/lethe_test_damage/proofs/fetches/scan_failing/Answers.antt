use denote.Param.Send.{sendable}
use Rattle.lethe_memdisk.proofs.Crossing.{port_send}
use Rattle.lethe_test_damage.proofs.fetches.scan_failing.Goals as goal

pub three_files-requires-send-D-Port : goal.three_files-requires-send-D-Port
three_files-requires-send-D-Port c = search (sendable, port_send)

pub scan-requires-send-D-Port : goal.scan-requires-send-D-Port
scan-requires-send-D-Port c = search (sendable, port_send)
