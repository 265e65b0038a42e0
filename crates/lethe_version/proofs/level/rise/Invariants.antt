use Rattle.std.proofs.Common.{◌≡◌, ◌+◌, ◌<◌, ℕ, true, get_or}
use Rattle.std.specs.Ordering.{is_lt}
use Rattle.lethe_base.specs.Keys.{key_cmp}
use Rattle.lethe_header.specs.Facts.{least_key, greatest_key}
use Rattle.lethe_version.proofs.level.rise.Given as goal

abbrev pub invariant-loop-place : goal.invariant-loop-place
invariant-loop-place g l = (k : ℕ) (d : _) → k + 1 < l.place → is_lt (key_cmp (greatest_key (get_or l.files k d).file.value.header.tiles) (least_key (get_or l.files (k + 1) d).file.value.header.tiles)) ≡ true
