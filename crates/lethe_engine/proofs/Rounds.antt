-- A job of the present round, and one of an earlier round.
use Rattle.std.proofs.Common.{◌≡◌, ◌≤◌, ◌⊎◌, inl, inr, ℕ, List, [], ◌∷◌, Result, Ok, Err, sym, ap, ◌∙◌, arith}
use Rattle.std.specs.Prelude.{Bool, option_map, if◌then◌else◌}
use Rattle.std.proofs.lemmas.Bool.{le-leb, lt-leb}
use Rattle.lethe_base.specs.declared.name.Name.{Name}
use Rattle.lethe_base.specs.declared.refused.Refused.{Refused}
use Rattle.lethe_disk.specs.declared.disk.Disk.{Ghosts}
use Rattle.lethe_job.specs.Works.{plain_task}
use Rattle.lethe_job.specs.declared.job.Job.{Job}
use Rattle.lethe_core.specs.Flights.{Flying, flying_by, with_pages}
use Rattle.lethe_core.specs.Jobs.{IsAtWork, IsInFlight}
use Rattle.lethe_core.specs.View.{Face, View, face_of}
use Rattle.lethe_core.proofs.Flying.{flying_pages}
use Rattle.lethe_engine.specs.Jobs.{IsPast, cancelled_face, given_up, written_face}
use Rattle.lethe_engine.specs.Refusals.{HasReasonOfJob, HasReasonOfWork}

module _ {D Page Port : Type 0} {kind : Ghosts D Page Port} (view : View) (job : Job D Page Port kind) where
  -- a job in flight is of the present round
  pub flies_now : IsInFlight view job → IsPast view job → ⊥
  flies_now flies past = let round = flies.round in omega (arith, round, past)

  -- one that isn't of an earlier round is at work
  pub at_work : (Tells : Type 0) → IsAtWork Tells view job ⊎ IsPast view job → (IsPast view job → ⊥) → IsAtWork Tells view job
  at_work Tells (inl works) present = works
  at_work Tells (inr past) present = absurd (present past)

  -- and is refused for a reason of work
  pub reason_of_work : (Short : Type 0) (new : View) (why : Refused) → (IsPast view job → ⊥) → HasReasonOfJob Short job view new why → HasReasonOfWork Short view new why
  reason_of_work Short new why present (inl is) = is
  reason_of_work Short new why present (inr is) = absurd (present is.1)

  -- the cancel of a job of an earlier round leaves the jobs as they were
  pub cancelled_past : IsPast view job → cancelled_face view job ≡ face_of view
  cancelled_past past = ap (λ (b : Bool). if b then given_up job.number (face_of view) view.state else face_of view) (lt-leb view.rounds job.round past)

  -- that of another gives it up
  pub cancelled_now : view.rounds ≤ job.round → cancelled_face view job ≡ given_up job.number (face_of view) view.state
  cancelled_now present = ap (λ (b : Bool). if b then given_up job.number (face_of view) view.state else face_of view) (le-leb view.rounds job.round present)

  pub cancelled_flying : IsInFlight view job → cancelled_face view job ≡ given_up job.number (face_of view) view.state
  cancelled_flying flies = cancelled_now (let round = flies.round in omega (arith, round))

-- A job in flight stays so

module _ {D Page Port : Type 0} {kind : Ghosts D Page Port} (old new : View) (job next : Job D Page Port kind) (number : next.number ≡ job.number) (task : next.task.value ≡ job.task.value) (round : next.round ≡ job.round) (flies : IsInFlight old job) where
  -- while the store's jobs stay as they are
  pub flies_still : new.flights ≡ old.flights → new.rounds ≡ old.rounds → IsInFlight new next
  flies_still flights rounds = record {
    flying = flies.flying;
    is = (λ i. flying_by (number i) (flights i)) ∙ flies.is;
    task = ap plain_task task ∙ flies.task;
    round = round ∙ flies.round ∙ sym rounds;
  }

  -- whether or not a page of it is written
  pub flies_written : (page : Name × List ℕ) (result : Result (Unit {0}) Refused) → face_of new ≡ written_face job.number (face_of old) page result → IsInFlight new next
  flies_written page (Err why) face = flies_still (ap (λ (face : Face). face.flights) face) (ap (λ (face : Face). face.rounds) face)
  flies_written page (Ok done) face = record {
    flying = with_pages flies.flying (page ∷ []);
    is = (λ i. flying_by (number i) (face i).flights) ∙ flying_pages job.number (page ∷ []) old.flights ∙ ap (option_map (λ (flying : Flying). with_pages flying (page ∷ []))) flies.is;
    task = ap plain_task task ∙ flies.task;
    round = round ∙ flies.round ∙ sym (ap (λ (face : Face). face.rounds) face);
  }
