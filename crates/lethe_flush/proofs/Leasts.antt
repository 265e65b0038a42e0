-- The least of some places, as `min` gives it.
use Rattle.std.proofs.Common.{◌≡◌, ℕ, List, [], ◌∷◌, min, Some, refl, ◌∙◌}
use Rattle.std.specs.List.{fold, reduce}
use Rattle.lethe_base.specs.Shapes.{earlier}
use Rattle.lethe_base.specs.Spent.{least}
use Rattle.lethe_merge.proofs.Times.{earlier-assoc}

reduced : (place : ℕ) (places : List ℕ) → Some (fold min place places) ≡ earlier (Some place) (least places)
reduced place [] = refl
reduced place (next ∷ places) = reduced (min place next) places ∙ earlier-assoc (Some place) (Some next) (least places)

pub reduce_is_least : (places : List ℕ) → reduce min places ≡ least places
reduce_is_least [] = refl
reduce_is_least (place ∷ places) = reduced place places
