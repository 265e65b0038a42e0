use denote.Param.Send.{sendable}
use Rattle.lethe_dirdisk.proofs.Crossing.{port_send}
use Rattle.lethe_test_shared.proofs.fifty.in_a_folder_two_threads_have_a_hundred_places.Goals as goal

pub check_fifty-requires-send-D-Port : goal.check_fifty-requires-send-D-Port
check_fifty-requires-send-D-Port c κs = search (sendable, port_send)
