use denote.Param.Send.{sendable}
use Rattle.lethe_memdisk.proofs.Crossing.{port_send}
use Rattle.lethe_test_crashes.proofs.levels.check_flaky.Goals as goal

pub run_on-ran-requires-send-D-Port : goal.run_on-ran-requires-send-D-Port
run_on-ran-requires-send-D-Port g c κs = search (sendable, port_send)
