-- What the jobs have come to behind a call, by what the store's steps say.
use Rattle.std.proofs.Common.{◌≡◌, ◌≤◌, ◌<◌, ℕ, List, map, Option, Some, None, Result, Ok, Err, refl, ap, ◌∙◌}
use Rattle.std.specs.Prelude.{◌&&◌, Bool, IfErr, OnErr, OnOk, is_none, nat_le, if◌then◌else◌}
use Rattle.std.proofs.lemmas.Bool.{le-leb, lt-leb}
use Rattle.lethe_base.specs.Limits.{max_place}
use Rattle.lethe_base.specs.declared.name.Name.{Name}
use Rattle.lethe_base.specs.declared.refused.Refused.{Refused}
use Rattle.lethe_disk.specs.declared.disk.Disk.{Ghosts}
use Rattle.lethe_state.specs.declared.state.State.{State}
use Rattle.lethe_core.specs.Flights.{with_page_of, without}
use Rattle.lethe_core.specs.Pinned.{AreNamed}
use Rattle.lethe_core.specs.View.{Face, View, face_of, limited_of, view_of}
use Rattle.lethe_core.specs.declared.holding.Core.{Core}
use Rattle.lethe_core.proofs.Likes.{jobs_same}
use Rattle.lethe_engine.specs.Jobs.{ended_face, given_up, written_face}

-- it was installed, or it stays
pub ended_by : {D Page Port : Type 0} {kind : Ghosts D Page Port} (number : ℕ) (old new : Core D Page Port kind) (result : Result (Unit {0}) Refused) → new.begun ≡ old.begun → new.pins ≡ old.pins
    → OnOk result ((new.flights ≡ without number old.flights) × AreNamed new.pins.pins new.retired.items) → IfErr result (λ why. (new.flights ≡ old.flights) × (new.retired ≡ old.retired))
    → face_of (view_of new) ≡ ended_face number (face_of (view_of old)) result
ended_by number old new (Ok done) begun pins ended kept = λ i. record { begun = (begun i).jobs; rounds = (begun i).rounds; flights = ended.0 i; made = (pins i).made; held = map limited_of (pins i).pins }
ended_by number old new (Err why) begun pins ended kept = jobs_same old new begun kept.0 pins

-- it has one page more, or is as it was
pub written_by : (number : ℕ) (old new : View) (page : Name × List ℕ) (result : Result (Unit {0}) Refused) → new.begun ≡ old.begun → new.rounds ≡ old.rounds → new.pins ≡ old.pins
    → OnOk result (new.flights ≡ with_page_of number page old.flights) → OnErr result (new.flights ≡ old.flights) → face_of new ≡ written_face number (face_of old) page result
written_by number old new page (Ok done) begun rounds pins is kept =
    λ i. record { begun = begun i; rounds = rounds i; flights = is i; made = (pins i).made; held = map limited_of (pins i).pins }
written_by number old new page (Err why) begun rounds pins is kept = λ i. record { begun = begun i; rounds = rounds i; flights = kept i; made = (pins i).made; held = map limited_of (pins i).pins }

module _ (number : ℕ) (face : Face) (state : State) where
  -- it is in flight no more
  abbrev ended : Face
  ended = record face { flights = without number face.flights }

  -- where an earlier call failed
  pub given_up_stopped : (at : ℕ) → state.stopped ≡ Some at → given_up number face state ≡ ended
  given_up_stopped at stopped = ap (λ stopped. if is_none stopped && nat_le max_place state.count then face else ended) stopped

  -- where no place is left
  pub given_up_never : state.stopped ≡ None → max_place ≤ state.count → given_up number face state ≡ face
  given_up_never runs full =
      ap (λ stopped. if is_none stopped && nat_le max_place state.count then face else ended) runs
      ∙ ap (λ (b : Bool). if b then face else ended) (le-leb max_place state.count full)

  -- and where one is
  pub given_up_now : state.stopped ≡ None → state.count < max_place → given_up number face state ≡ ended
  given_up_now runs left =
      ap (λ stopped. if is_none stopped && nat_le max_place state.count then face else ended) runs
      ∙ ap (λ (b : Bool). if b then face else ended) (lt-leb max_place state.count left)

  pub given_up_free : (state.stopped ≡ None → state.count < max_place) → given_up number face state ≡ ended
  given_up_free may = by state.stopped refl
    where
      by : (stopped : Option ℕ) → state.stopped ≡ stopped → given_up number face state ≡ ended
      by None runs = given_up_now runs (may runs)
      by (Some at) stopped = given_up_stopped at stopped
