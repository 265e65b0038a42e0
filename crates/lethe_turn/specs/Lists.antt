-- Beginnings of lists, their weights, and entries at their places.
use Rattle.std.specs.Prelude.{◌≡◌, ◌⊎◌, ℕ, ◌+◌, List, [], ◌∷◌, ◌++◌}
use mathlib.Core.Option.{some}
use lib.ListN.{get_elem?}

module _ {A : Type 0} where
  -- ys begins with xs
  abbrev pub IsBeginning : List A → List A → Type 0
  IsBeginning xs ys = (rest : List A) × (xs ++ rest ≡ ys)

  -- zs is the longer of two lists, of which the other one is a beginning
  abbrev pub IsLonger : List A → List A → List A → Type 0
  IsLonger xs ys zs = ((zs ≡ xs) ⊎ (zs ≡ ys)) × IsBeginning xs zs × IsBeginning ys zs

  -- the weights of all elements, added up
  abbrev pub total : (A → ℕ) → List A → ℕ
  total weight [] = 0
  total weight (x ∷ xs) = weight x + total weight xs

  -- however elements are weighed, the two lists weigh the same: they have the same elements, each as often
  abbrev pub WeighsAs : List A → List A → Type 0
  WeighsAs xs ys = (weight : A → ℕ) → total weight xs ≡ total weight ys

  -- however elements are weighed, the first two lists together weigh as much as the third
  abbrev pub WeighTogether : List A → List A → List A → Type 0
  WeighTogether xs ys zs = (weight : A → ℕ) → total weight xs + total weight ys ≡ total weight zs

  -- entries with their places, of which the first is this one
  abbrev pub placed : ℕ → List A → List (ℕ × A)
  placed place [] = []
  placed place (x ∷ xs) = (place, x) ∷ placed (place + 1) xs

  -- each of these entries stands in the history, at its place. Behind the count of the opening places go on by one
  abbrev pub AllStand : ℕ → List A → List (ℕ × A) → Type 0
  AllStand start history [] = Unit {0}
  AllStand start history (m ∷ ms) = ((before : ℕ) × (m.0 ≡ start + before + 1) × (get_elem? history before ≡ some m.1)) × AllStand start history ms
