use Rattle.std.proofs.Common.{◌≡◌, ℕ, ◌<◌, ◌++◌, length, get_or}
use Rattle.lethe_recover.specs.Leveled.{files_at}
use Rattle.lethe_recover.proofs.leveled.by_level.Given as goal

abbrev pub invariant-loop-file : goal.invariant-loop-file
invariant-loop-file g l = record {
  rest : l.yielded ++ l.file-iterator.rest.items ≡ l.fn.files.items;
  place : l.place ≡ length l.yielded;
  count : length l.levels.items ≡ l.count;
  each : (level : ℕ) (given : _) → level < length l.levels.items → (get_or l.levels.items level given).items ≡ files_at level l.cited l.yielded;
}
