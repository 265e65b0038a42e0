use Rattle.lethe_state.specs.Writable.{IsWritable}
use Rattle.lethe_test_snapshot.proofs.places.shows_all_behind_each.Given as goal

abbrev pub invariant-loop-text : goal.invariant-loop-text
invariant-loop-text l = IsWritable l.state
