use denote.Param.Send.{sendable}
use Rattle.lethe_memdisk.proofs.Crossing.{port_send}
use Rattle.lethe_test_objects.proofs.faults.is_refused_at.Goals as goal

pub came_over-requires-send-D-Port : goal.came_over-requires-send-D-Port
came_over-requires-send-D-Port g c κs = search (sendable, port_send)
