use Rattle.std.proofs.Common.{◌≡◌, ◌≤◌, length, take}
use Rattle.std.specs.Prelude.{reverse}
use Rattle.lethe_memdisk.specs.Undo.{start_of, Follows}
use Rattle.lethe_memdisk.proofs.crash.undo_all.Given as goal

abbrev pub invariant-loop-at : goal.invariant-loop-at
invariant-loop-at l = record {
  within : l.at ≤ length l.calls;
  follows : Follows l.objects (reverse (take l.at l.calls));
  same : start_of l.objects (reverse (take l.at l.calls)) ≡ start_of l.initial.objects (reverse l.calls);
}

abbrev pub decreases-loop-at : goal.decreases-loop-at
decreases-loop-at l = l.at
