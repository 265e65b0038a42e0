-- A pin that goes.
use Rattle.std.proofs.Common.{◌≡◌, ◌≢◌, ℕ, Bool, true, false, not, cond, eqb, List, [], ◌∷◌, All, refl, sym, ap, ◌∙◌}
use Rattle.std.specs.Prelude.{◌==◌, ◌||◌}
use Rattle.std.proofs.lemmas.Bool.{ne_eqb}
use Rattle.std.proofs.lemmas.List.Elements.{All-head, All-tail, All-filter}
use Rattle.std.proofs.lemmas.List.Kept.{AllPairs-filter}
use Rattle.lethe_pins.specs.declared.pin.Pin.{Pin}
use Rattle.lethe_pins.specs.Held.{AreHeld, Ascend, ComesBefore, IsGiven, is_held, without}

abbrev Other : ℕ → Pin → Type 0
Other number pin = pin.number ≢ number

-- where none has the number, all stay
pub all_stay : (number : ℕ) (pins : List Pin) → All (Other number) pins → without number pins ≡ pins
all_stay number [] other = refl
all_stay number (pin ∷ pins) other =
    ap (λ b. cond (not b) (pin ∷ without number pins) (without number pins)) (ne_eqb _ _ (All-head (Other number) pin pins other))
    ∙ ap (λ l. pin ∷ l) (all_stay number pins (All-tail (Other number) pin pins other))

-- what stays is held as before
pub others_held : (number : ℕ) (pins : List Pin) (made : ℕ) → AreHeld (record { pins = pins; made = made }) → AreHeld (record { pins = without number pins; made = made })
others_held number pins made held =
    let other : Pin → Bool = λ pin. not (eqb pin.number number) in
    record {
      made = held.made;
      given = All-filter other (IsGiven made) pins held.given;
      once = AllPairs-filter (λ pin other. pin.number ≢ other.number) other pins held.once;
      ordered = AllPairs-filter ComesBefore other pins held.ordered;
      names = All-filter other (λ pin. Ascend pin.names) pins held.names;
    }

-- where none is held of that number, all stay
pub none_goes : (number : ℕ) (pins : List Pin) → is_held number pins ≡ false → without number pins ≡ pins
none_goes number [] none = refl
none_goes number (pin ∷ pins) none = by (pin.number == number) refl (none_goes number pins)
  where
    by : (b : Bool) → (pin.number == number) ≡ b → (is_held number pins ≡ false → without number pins ≡ pins) → without number (pin ∷ pins) ≡ pin ∷ pins
    by true is rest = let e : true ≡ false = ap (λ b. b || is_held number pins) (sym is) ∙ none in absurd cc
    by false is rest =
        ap (λ b. cond (not b) (pin ∷ without number pins) (without number pins)) is ∙ ap (λ l. pin ∷ l) (rest (ap (λ b. b || is_held number pins) (sym is) ∙ none))
