-- Pins that a run makes and lets go.
use Rattle.std.specs.Prelude.{◌≡◌, ◌↔◌, ◌⊎◌, ℕ, ◌+◌, List, [], ◌∷◌, ◌++◌, Contains, Result, Ok, Err}
use Rattle.lethe_base.specs.History.{History}
use Rattle.lethe_base.specs.Limits.{max_place}
use Rattle.lethe_base.specs.declared.name.Name.{Name}
use Rattle.lethe_base.specs.declared.refused.Refused.{Refused}
use Rattle.lethe_base.specs.declared.refused.Refused.TheVariants.{Exhausted, NoMemory}
use Rattle.lethe_bound.specs.Limits.{IsLimit}
use Rattle.lethe_pins.specs.Held.{placed, without}
use Rattle.lethe_pins.specs.declared.pin.Pin.{Pin}
use Rattle.lethe_stored.specs.Stored.{layout_of}
use Rattle.lethe_core.specs.Pinned.{pages_in}
use Rattle.lethe_drive.specs.Moments.{Moment}
use Rattle.lethe_drive.specs.declared.event.Reply.{Reply}
use Rattle.lethe_drive.specs.declared.event.Reply.TheVariants as reply

-- The pin has the next number. It names the pages of the stored files, and nothing else, and its limit is that of what is stored. It comes in its place among those that are
-- held.
pub record HasPinned (old : Moment) (number : ℕ) (new : Moment) : Type 0 where
  pub number_is : number ≡ old.pins.made + 1
  pub names : List Name
  pub pages : (name : Name) → Contains names name ↔ Contains (pages_in old.stored.files) name
  pub limit : ℕ
  pub limit_is : IsLimit old.stored.manifest.config.threshold (layout_of old.stored) limit
  pub pins : new.pins ≡ record { pins = placed (record { number = number; names = names; limit = limit }) old.pins.pins; made = number }
  pub snapshots : new.snapshots ≡ old.snapshots ++ number ∷ []

-- it was made; or numbers or memory were wanting, and all is as it was
abbrev pub PinAnswers : Moment → Result ℕ Refused → Moment → Type 0
PinAnswers old (Ok number) new = HasPinned old number new
PinAnswers old (Err why) new = ((why ≡ Exhausted max_place) ⊎ (why ≡ NoMemory)) × (new ≡ old)

-- Nothing but the pins changes, on a store that is stopped too.
pub record IsPin (h : History) (old : Moment) (result : Result ℕ Refused) (g : History) (new : Moment) : Type 0 where
  pub history : g ≡ h
  pub answers : PinAnswers old result new
  pub last : (result ≡ Err (Exhausted max_place)) ↔ (old.pins.made ≡ max_place)
  pub same : new ≡ record old { pins = new.pins; snapshots = new.snapshots }

-- the run holds no pin of that number: nothing is done
pub record IsNoPin (number : ℕ) (h : History) (old : Moment) (answer : Reply) (g : History) (new : Moment) : Type 0 where
  pub none : Contains old.snapshots number → ⊥
  pub is : answer ≡ reply.NoSuch
  pub history : g ≡ h
  pub same : new ≡ old

-- its pin of that number is held no more, and nothing else changes
pub record IsReleased (number : ℕ) (h : History) (old : Moment) (answer : Reply) (g : History) (new : Moment) : Type 0 where
  pub front : List ℕ
  pub back : List ℕ
  pub among : old.snapshots ≡ front ++ number ∷ back
  pub is : answer ≡ reply.Unit
  pub history : g ≡ h
  pub moment : new ≡ record old { pins = record old.pins { pins = without number old.pins.pins }; snapshots = front ++ back }

-- Where a run ends

-- those that are held but for those of these numbers
abbrev pub released : List ℕ → List Pin → List Pin
released [] pins = pins
released (number ∷ numbers) pins = without number (released numbers pins)

-- the pins of the run are held no more
abbrev pub all_released : Moment → Moment
all_released m = record m { pins = record m.pins { pins = released m.snapshots m.pins.pins }; snapshots = [] }
