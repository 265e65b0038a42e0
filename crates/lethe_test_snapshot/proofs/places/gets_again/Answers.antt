use denote.Param.Send.{sendable}
use Rattle.lethe_memdisk.proofs.Crossing.{port_send}
use Rattle.lethe_test_snapshot.proofs.places.gets_again.Goals as goal

pub got-requires-send-D-Port : goal.got-requires-send-D-Port
got-requires-send-D-Port c κs = search (sendable, port_send)

pub got-requires-in-loop-text-send-D-Port : goal.got-requires-in-loop-text-send-D-Port
got-requires-in-loop-text-send-D-Port c κs = search (sendable, port_send)
