-- The pins of a store, as the lines of a run tell them.
use Rattle.std.proofs.Common.{◌≡◌, ◌≤◌, ◌<◌, ℕ, List, [], ◌∷◌, map, length, All, AllPairs, Option, Some, None, refl, sym, ap, arith}
use Rattle.std.specs.Prelude.{Contains}
use Rattle.std.proofs.lemmas.List.{length-map}
use Rattle.std.proofs.lemmas.List.Elements.{All-cons, All-map, All-nil, All-weaker}
use Rattle.lethe_core.specs.Pins as face
use Rattle.lethe_core.specs.View.{Face, Limited, View, face_of, limited_of}
use Rattle.lethe_pins.specs.Held.{ComesBefore, Held, first_limit_of}
use Rattle.lethe_pins.specs.declared.pin.Pin as store
use Rattle.lethe_pins.proofs.Placed.{pairs_head}
use Rattle.lethe_run.specs.Pins.{Pins, no_pins, pins_of, with_pin, without_pin}

-- the pins that a face has
abbrev of_face : Face → Pins
of_face face = record { made = face.made; held = face.held }

-- where those of a store stay, so do these
pub same_pins : (old new : View) → new.pins ≡ old.pins → pins_of new ≡ pins_of old
same_pins old new same = ap (λ (pins : Held). record { made = pins.made; held = map limited_of pins.pins }) same

pub same_by_face : (old new : View) → face_of new ≡ face_of old → pins_of new ≡ pins_of old
same_by_face old new same = ap of_face same

pub pins_more : (old new : View) (limit : ℕ) → face_of new ≡ face.with_pin (face_of old) limit → pins_of new ≡ with_pin limit (pins_of old)
pins_more old new limit is = ap of_face is

pub pins_fewer : (old new : View) (number : ℕ) → face_of new ≡ face.without_pin (face_of old) number → pins_of new ≡ without_pin number (pins_of old)
pins_fewer old new number is = ap of_face is

pub fresh_pins : (view : View) → view.pins ≡ record { pins = []; made = 0 } → pins_of view ≡ no_pins
fresh_pins view fresh = ap (λ (pins : Held). record { made = pins.made; held = map limited_of pins.pins }) fresh

-- as many are held
pub counted : (view : View) → length view.pins.pins ≡ length (pins_of view).held
counted view = sym (length-map view.pins.pins limited_of)

-- A pin bars a tick

abbrev limited_in : Option (ℕ × ℕ) → Limited
limited_in None = record { number = 0; limit = 0 }
limited_in (Some pin) = record { number = pin.0; limit = pin.1 }

-- it is held, and none that is has a lesser limit
pub barred_by : (pins : List store.Pin) (number limit : ℕ) → AllPairs ComesBefore pins → first_limit_of pins ≡ Some (number, limit)
    → Contains (map limited_of pins) (record { number = number; limit = limit }) × All (λ pin. limit ≤ pin.limit) (map limited_of pins)
barred_by [] number limit ordered first = absurd (let clash : ◌≡◌ {A = Option (ℕ × ℕ)} None (Some (number, limit)) = first in cc)
barred_by (pin ∷ pins) number limit ordered first =
    let it : limited_of pin ≡ record { number = number; limit = limit } = ap limited_in first in
    let limit_is : pin.limit ≡ limit = ap (λ (pin : Limited). pin.limit) it in
    let rest = All-weaker (ComesBefore pin) (λ (other : store.Pin). limit ≤ other.limit) (λ other before. let le = before.limit in omega (arith, le, limit_is)) pins (pairs_head ComesBefore pin pins ordered) in
    let whole = All-cons (λ (other : store.Pin). limit ≤ other.limit) pin pins (omega (arith, limit_is)) rest in
    ((0, omega arith, λ i. it i), All-map (λ (pin : Limited). limit ≤ pin.limit) limited_of (pin ∷ pins) whole)

-- A tick passes

-- where the first limit is above a time, all are
pub all_above : (pins : List store.Pin) (to : ℕ) → AllPairs ComesBefore pins → ((number limit : ℕ) → first_limit_of pins ≡ Some (number, limit) → to < limit) → All (λ pin. to < pin.limit) pins
all_above [] to ordered above = All-nil (λ (pin : store.Pin). to < pin.limit)
all_above (pin ∷ pins) to ordered above =
    let first : to < pin.limit = above pin.number pin.limit refl in
    All-cons (λ (pin : store.Pin). to < pin.limit) pin pins first
    (All-weaker (ComesBefore pin) (λ (other : store.Pin). to < other.limit) (λ other before. let le = before.limit in omega (arith, le, first)) pins (pairs_head ComesBefore pin pins ordered))

-- and so are those that are told
pub passed_by : (pins : List store.Pin) (to : ℕ) → All (λ pin. to < pin.limit) pins → All (λ pin. to < pin.limit) (map limited_of pins)
passed_by pins to above = All-map (λ (pin : Limited). to < pin.limit) limited_of pins above
