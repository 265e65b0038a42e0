-- What pins name stays through the calls of a run, and no page is retired but those that were and those that they name.
use Rattle.std.proofs.Common.{◌≡◌, inl, inr, Option, refl, sym, ap, ◌∙◌, subst}
use Rattle.std.specs.Prelude.{Contains, IsTrue}
use Rattle.lethe_base.specs.declared.refused.Refused.{Refused}
use Rattle.lethe_disk.specs.Directory.{object}
use Rattle.lethe_pins.specs.Held.{Held, is_named}
use Rattle.lethe_core.specs.Asked.{Asked}
use Rattle.lethe_core.specs.View.{Face, View}
use Rattle.lethe_engine.specs.Answers.{Answers}
use Rattle.lethe_drive.specs.Driving.{IsPinnedKept}

-- through a call
pub kept_call : {Tells : Type 0} {asked : Asked} {why : Option Refused} {face : Face} {old new : View} → Answers Tells asked why face old new → Tells → IsPinnedKept old new
kept_call answers told = record { pinned = answers.pinned told; retired = answers.retired }

-- where nothing is done
pub kept_itself : (view : View) → IsPinnedKept view view
kept_itself view = record { pinned = λ name was now. refl; retired = λ name is. inl is }

-- where the pins alone change
pub kept_but_pins : (old new : View) (pins : Held) → new ≡ record old { pins = pins } → IsPinnedKept old new
kept_but_pins old new pins same = record {
  pinned = λ name was now. ap (λ (view : View). object view.disk.directory name) same;
  retired = λ name is. inl (subst (λ (view : View). Contains view.retired name) same is);
}

-- through one call behind another, of which the first leaves the pins
pub kept_then : (old mid new : View) → mid.pins ≡ old.pins → IsPinnedKept old mid → IsPinnedKept mid new → IsPinnedKept old new
kept_then old mid new pins first next = record {
  pinned = λ name was now.
      let between : IsTrue (is_named mid.pins.pins name) = subst (λ (held : Held). IsTrue (is_named held.pins name)) (sym pins) was in
      next.pinned name between now ∙ first.pinned name was between;
  retired = λ name is. elim (next.retired name is) [
    | inl was ↦ first.retired name was
    | inr named ↦ inr (subst (λ (held : Held). IsTrue (is_named held.pins name)) pins named)
  ];
}
