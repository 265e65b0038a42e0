use Rattle.std.proofs.Common.{◌≡◌, ◌<◌, ◌≤◌, ℕ, Some}
use Rattle.std.specs.Prelude.{slice_get}
use Rattle.lethe_due.specs.Due.{Due}
use Rattle.lethe_orders.specs.Changes.{KeepFiles}
use Rattle.lethe_orders.proofs.levels.reserve_each.Given as goal

abbrev pub invariant-loop-place : goal.invariant-loop-place
invariant-loop-place l = record {
  room : (level : ℕ) (due : Due) → level < l.place → slice_get l.lists.items level ≡ Some due → l.files ≤ due.spare;
  kept : KeepFiles l.initial.lists.items l.lists.items;
}
