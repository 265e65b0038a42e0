-- The pins of a run, along the one order of its lines.
use Rattle.std.specs.Prelude.{◌≡◌, ◌≤◌, ◌<◌, ℕ, ◌+◌, ◌==◌, not, List, [], length, filter, map, All, Contains}
use Rattle.lethe_core.specs.View.{Limited, View, limited_of}
use Rattle.lethe_pins.specs.Held.{placed_by}
use Rattle.lethe_run.specs.declared.reply.Reply.{Reply}
use Rattle.lethe_run.specs.declared.reply.Reply.TheVariants.{Done, Ticked, Got, Scanned, Counted, Pinned, PinGot, PinScanned, Unpinned, Fault, Stopped, Exhausted, Backwards, Barred, ReadFault, Damaged}

-- how many were made, and those that are held, by limit, then by number
pub record Pins : Type 0 where
  pub made : ℕ
  pub held : List Limited

-- at first none was made
abbrev pub no_pins : Pins
no_pins = record { made = 0; held = [] }

-- those of a store
abbrev pub pins_of : View → Pins
pins_of view = record { made = view.pins.made; held = map limited_of view.pins.pins }

-- with one more, which has the next number and this limit
abbrev pub with_pin : ℕ → Pins → Pins
with_pin limit pins = record { made = pins.made + 1; held = placed_by (λ pin. pin.limit) (record { number = pins.made + 1; limit = limit }) pins.held }

-- where the one of this number is held no more
abbrev pub without_pin : ℕ → Pins → Pins
without_pin number pins = record pins { held = filter (λ pin. not (pin.number == number)) pins.held }

-- What a reply says of the pins, from those before to those behind. On any disk.
abbrev pub InPins : Reply → Pins → Pins → Type 0
InPins (Pinned point number limit) s t = (number ≡ s.made + 1) × (t ≡ with_pin limit s)
InPins (Unpinned point number) s t = t ≡ without_pin number s
-- a pin bars it that is held, of the least limit
InPins (Barred number limit) s t = Contains s.held (record { number = number; limit = limit }) × All (λ pin. limit ≤ pin.limit) s.held × (t ≡ s)
-- a tick that is done is below the limit of each pin that is held
InPins (Ticked ticked) s t = All (λ pin. ticked.clock < pin.limit) s.held × (t ≡ s)
InPins (Counted point stat) s t = (stat.pins ≡ length s.held) × (t ≡ s)
InPins (PinGot number point found) s t = t ≡ s
InPins (PinScanned number point pairs) s t = t ≡ s
InPins (Done place) s t = t ≡ s
InPins (Got point found) s t = t ≡ s
InPins (Scanned point pairs) s t = t ≡ s
InPins (Fault place before after) s t = t ≡ s
InPins (Stopped at) s t = t ≡ s
InPins (Exhausted last) s t = t ≡ s
InPins (Backwards point clock) s t = t ≡ s
InPins ReadFault s t = t ≡ s
InPins (Damaged page) s t = t ≡ s
