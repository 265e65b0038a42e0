-- What a caller's slots hold.
use Rattle.std.specs.Prelude.{◌≡◌, ℕ, List, [], ◌∷◌, replicate, slice_index_or, slice_set, Option, Some, None}
use Rattle.lethe_base.specs.Keys.{Bytes}
use Rattle.lethe_script.specs.declared.order.Act.{Act}
use Rattle.lethe_script.specs.declared.order.Act.TheVariants as acts
use Rattle.lethe_script.specs.declared.order.Order.{Order}
use Rattle.lethe_run.specs.declared.reply.Line.{Line}
use Rattle.lethe_run.specs.declared.reply.Line.TheVariants as line
use Rattle.lethe_run.specs.declared.reply.Reply.{Reply}
use Rattle.lethe_run.specs.declared.reply.Reply.TheVariants.{Done, Ticked, Got, Scanned, Counted, Pinned, PinGot, PinScanned, Unpinned, Fault, Stopped, Exhausted, Backwards, Barred, ReadFault, Damaged}

-- a pin as its line told it: its number, counted from 1 in the run, the point that it shows, and the time from which on a tick is refused while it is held
pub record Pin : Type 0 where
  pub number : ℕ
  pub point : ℕ
  pub limit : ℕ

-- the ten slots of a caller
abbrev pub Slots : Type 0
Slots = List (Option Pin)

-- at first none holds a pin
abbrev pub no_slots : Slots
no_slots = replicate 10 None

-- the pin in a slot
abbrev pub pin_in : Slots → ℕ → Option Pin
pin_in slots slot = slice_index_or slots slot None

-- the slot holds the pin of this number, which shows this point
abbrev pub IsPinIn : Slots → ℕ → ℕ → ℕ → Type 0
IsPinIn slots slot number point = (pin : Pin) × (pin_in slots slot ≡ Some pin) × (pin.number ≡ number) × (pin.point ≡ point)

-- What an act and its reply say of the slots of their caller, from those before to those behind. On any disk.
abbrev pub InSlots : Act → Reply → Slots → Slots → Type 0
InSlots act (Pinned point number limit) s t =
    (slot : ℕ) × (act ≡ acts.Pin slot) × (pin_in s slot ≡ None) × (t ≡ slice_set s slot (Some (record { number = number; point = point; limit = limit })))
InSlots act (PinGot number point found) s t = (slot : ℕ) × (key : Bytes) × (act ≡ acts.PinGet slot key) × IsPinIn s slot number point × (t ≡ s)
InSlots act (PinScanned number point pairs) s t = (slot : ℕ) × (lo : Bytes) × (hi : Bytes) × (act ≡ acts.PinScan slot lo hi) × IsPinIn s slot number point × (t ≡ s)
InSlots act (Unpinned point number) s t = (slot : ℕ) × (act ≡ acts.Unpin slot) × (pin : Pin) × (pin_in s slot ≡ Some pin) × (pin.number ≡ number) × (t ≡ slice_set s slot None)
InSlots act (Barred number limit) s t = t ≡ s
InSlots act (Ticked ticked) s t = t ≡ s
InSlots act (Counted point stat) s t = t ≡ s
InSlots act (Done place) s t = t ≡ s
InSlots act (Got point found) s t = t ≡ s
InSlots act (Scanned point pairs) s t = t ≡ s
InSlots act (Fault place before after) s t = t ≡ s
InSlots act (Stopped at) s t = t ≡ s
InSlots act (Exhausted last) s t = t ≡ s
InSlots act (Backwards point clock) s t = t ≡ s
InSlots act ReadFault s t = t ≡ s
InSlots act (Damaged page) s t = t ≡ s

-- the same of the orders of a caller and the lines that answer them, one after another
abbrev pub AreInSlots : List Order → Slots → List Line → Slots → Type 0
AreInSlots [] s [] t = t ≡ s
AreInSlots (order ∷ orders) s (line.Answer caller reply ∷ lines) t = (middle : Slots) × InSlots order.act reply s middle × AreInSlots orders middle lines t
AreInSlots [] s (line ∷ lines) t = ⊥
AreInSlots (order ∷ orders) s [] t = ⊥
