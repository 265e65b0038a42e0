-- Words two by two.
use Rattle.std.proofs.Common.{◌≡◌, ◌<◌, List, [], ◌∷◌, length, map, refl, arith}
use Rattle.lethe_base.specs.Keys.{Bytes}
use Rattle.lethe_run.specs.Asked.{two_by_two}

-- fewer than two give none
pub no_two : {X : Type 0} (f : X → Bytes) (words : List X) → length words < 2 → two_by_two (map f words) ≡ []
no_two f [] few = refl
no_two f (word ∷ []) few = refl
no_two f (word ∷ next ∷ more) few = absurd (omega arith)
