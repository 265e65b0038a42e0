use denote.Param.Send.{sendable}
use Rattle.lethe_dirdisk.proofs.Crossing.{port_send}
use Rattle.lethe_test_crossing.proofs.disks.a_store_in_a_folder_crosses.Goals as goal

pub crosses-requires-send-D-Port : goal.crosses-requires-send-D-Port
crosses-requires-send-D-Port g c κs = search (sendable, port_send)
