-- The first of some items that isn't as it should be.
use Rattle.std.specs.Prelude.{◌≡◌, List, ◌∷◌, ◌++◌, All}

-- the item isn't good, and all before it are
pub record IsFirstBut {A : Type 0} (Good : A → Type 0) (items : List A) (item : A) : Type 0 where
  pub before : List A
  pub behind : List A
  pub split : items ≡ before ++ item ∷ behind
  pub good : All Good before
  pub bad : Good item → ⊥
