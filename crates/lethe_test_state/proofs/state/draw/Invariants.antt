use Rattle.std.proofs.Common.{◌≡◌}
use Rattle.lethe_state.specs.Writable.{IsWritable}
use Rattle.lethe_test_state.proofs.state.draw.Given as goal

abbrev pub invariant-loop : goal.invariant-loop
invariant-loop l = IsWritable l.state × (l.state.frozen ≡ l.initial.state.frozen)
