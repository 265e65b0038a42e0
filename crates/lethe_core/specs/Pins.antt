-- A pin that was made, and the pins that are held with it.
use Rattle.std.specs.Prelude.{◌≡◌, ◌↔◌, ℕ, ◌+◌, ◌==◌, not, List, filter, Contains}
use Rattle.lethe_base.specs.declared.name.Name.{Name}
use Rattle.lethe_pins.specs.Held.{placed, placed_by}
use Rattle.lethe_core.specs.Pinned.{IsPageIn}
use Rattle.lethe_core.specs.View.{Face, View}

-- The pin of this number and this limit came to those that are held, in its place. It names the pages of the store's files, and nothing else.
pub record IsPinOf (old new : View) (number limit : ℕ) : Type 0 where
  pub names : List Name
  pub pages : (name : Name) → Contains names name ↔ IsPageIn old.levels name
  pub is : new.pins ≡ record { pins = placed (record { number = number; names = names; limit = limit }) old.pins.pins; made = number }

-- one pin more was made, which has the next number and is held with this limit
abbrev pub with_pin : Face → ℕ → Face
with_pin face limit = record face { made = face.made + 1; held = placed_by (λ pin. pin.limit) (record { number = face.made + 1; limit = limit }) face.held }

-- the pin of this number is held no more
abbrev pub without_pin : Face → ℕ → Face
without_pin face number = record face { held = filter (λ pin. not (pin.number == number)) face.held }
