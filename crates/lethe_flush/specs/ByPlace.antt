-- Erases by their places.
use Rattle.std.specs.Prelude.{ℕ, List, [], ◌∷◌}
use Rattle.std.specs.BTreeMap.{insert_entry}
use Rattle.std.specs.Ordering.{nat_cmp}
use Rattle.lethe_base.specs.declared.pending.Pending.{Pending}

-- erases by place, with these added; of equal places the first of them stays
abbrev pub with_erases : List Pending → List (ℕ × Pending) → List (ℕ × Pending)
with_erases [] by_place = by_place
with_erases (erase ∷ erases) by_place = insert_entry nat_cmp (with_erases erases by_place) erase.seq erase
