use Rattle.std.proofs.Common.{◌≡◌, ℕ, ◌<◌, [], length, get_or}
use Rattle.lethe_recover.proofs.leveled.empty_lists.Given as goal

abbrev pub invariant-loop-made : goal.invariant-loop-made
invariant-loop-made g l = record {
  count : length l.levels.items ≡ l.made;
  each : (level : ℕ) (given : _) → level < length l.levels.items → (get_or l.levels.items level given).items ≡ [];
}
