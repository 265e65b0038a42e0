-- The pins of a store: which are held, in which order, and which names they keep.
use Rattle.std.specs.Prelude.{◌≡◌, ◌≢◌, ℕ, ◌<◌, ◌≤◌, ◌==◌, Bool, not, List, [], ◌∷◌, filter, if◌then◌else◌, nat_lt, All, AllPairs, Option, None, Some}
use Rattle.std.specs.List.{list_any}
use Rattle.std.specs.declared.cmp.Ordering.TheVariants.{Less}
use Rattle.lethe_base.specs.Limits.{max_place}
use Rattle.lethe_base.specs.Names.{name_cmp, name_eq}
use Rattle.lethe_base.specs.declared.name.Name.{Name}
use Rattle.lethe_pins.specs.declared.pin.Pin.{Pin}

-- the pins that are held, by limit, then by number, and how many were made
pub record Held : Type 0 where
  pub pins : List Pin
  pub made : ℕ

-- each name is less than all behind it
abbrev pub Ascend : List Name → Type 0
Ascend names = AllPairs (λ a b. name_cmp a b ≡ Less) names

-- the one of this number and this limit is the pin, or comes before it
pub record IsFirst (first least : ℕ) (pin : Pin) : Type 0 where
  pub limit : least ≤ pin.limit
  pub number : least ≡ pin.limit → first ≤ pin.number

-- it has a lesser limit, or the same one and a lesser number
pub record ComesBefore (pin other : Pin) : Type 0 where
  pub limit : pin.limit ≤ other.limit
  pub number : pin.limit ≡ other.limit → pin.number < other.number

-- it has one of the numbers that were given
pub record IsGiven (made : ℕ) (pin : Pin) : Type 0 where
  pub from : 0 < pin.number
  pub to : pin.number ≤ made

-- what is true of the pins that are held: their numbers were given, each once; they come in order, and so do the names of each
pub record AreHeld (held : Held) : Type 0 where
  pub made : held.made ≤ max_place
  pub given : All (IsGiven held.made) held.pins
  pub once : AllPairs (λ pin other. pin.number ≢ other.number) held.pins
  pub ordered : AllPairs ComesBefore held.pins
  pub names : All (λ pin. Ascend pin.names) held.pins

-- with one that came after all of these: it stands before the first of a greater limit
abbrev pub placed_by : {X : Type 0} → (X → ℕ) → X → List X → List X
placed_by limit_of item [] = item ∷ []
placed_by limit_of item (first ∷ rest) = if nat_lt (limit_of item) (limit_of first) then item ∷ first ∷ rest else first ∷ placed_by limit_of item rest

-- with a pin that was made after all of these
abbrev pub placed : Pin → List Pin → List Pin
placed = placed_by (λ pin. pin.limit)

-- whether one of them has that number
abbrev pub is_held : ℕ → List Pin → Bool
is_held number pins = list_any (λ pin. pin.number == number) pins

-- those of another number
abbrev pub without : ℕ → List Pin → List Pin
without number pins = filter (λ pin. not (pin.number == number)) pins

-- the number and the limit of the first one
abbrev pub first_limit_of : List Pin → Option (ℕ × ℕ)
first_limit_of [] = None
first_limit_of (pin ∷ pins) = Some (pin.number, pin.limit)

-- whether the name is one of them
abbrev pub has_name : List Name → Name → Bool
has_name names name = list_any (λ other. name_eq other name) names

-- whether one of the pins keeps the name
abbrev pub is_named : List Pin → Name → Bool
is_named pins name = list_any (λ pin. has_name pin.names name) pins
