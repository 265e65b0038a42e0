use Rattle.std.proofs.Common.{◌≡◌, ◌≤◌, ◌*◌, ◌-◌, ◌^◌, take}
use Rattle.lethe_fade.specs.Saturation.{entries_in}
use Rattle.lethe_fade.specs.Spans.{hull, overlapping}
use Rattle.lethe_fade.proofs.merge.merge_of.Given as goal

abbrev pub invariant-loop-file : goal.invariant-loop-file
invariant-loop-file l = record {
  keys : l.keys ≡ hull l.sources (overlapping l.sources (take l.file-index l.next));
  below : l.below ≡ entries_in (overlapping l.sources (take l.file-index l.next));
  small : l.below ≤ l.file-index * (2 ^ 64 - 1);
}
