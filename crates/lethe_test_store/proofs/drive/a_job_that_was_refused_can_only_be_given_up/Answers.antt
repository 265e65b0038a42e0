use denote.Param.Send.{sendable}
use Rattle.lethe_memdisk.proofs.Crossing.{port_send}
use Rattle.lethe_test_store.proofs.drive.a_job_that_was_refused_can_only_be_given_up.Goals as goal

pub run_over_two_files-requires-send-D-Port : goal.run_over_two_files-requires-send-D-Port
run_over_two_files-requires-send-D-Port c κs = search (sendable, port_send)
