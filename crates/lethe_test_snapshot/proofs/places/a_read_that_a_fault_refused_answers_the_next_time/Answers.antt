use denote.Param.Send.{sendable}
use Rattle.lethe_memdisk.proofs.Crossing.{port_send}
use Rattle.lethe_test_snapshot.proofs.places.a_read_that_a_fault_refused_answers_the_next_time.Goals as goal

pub taken-requires-send-D-Port : goal.taken-requires-send-D-Port
taken-requires-send-D-Port c κs = search (sendable, port_send)

pub let_go-requires-send-D-Port : goal.let_go-requires-send-D-Port
let_go-requires-send-D-Port g c κs = search (sendable, port_send)
