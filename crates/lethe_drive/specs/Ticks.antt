-- What a tick answers in a run of events.
use Rattle.std.specs.Prelude.{◌≡◌, ◌↔◌, ◌⊎◌, ◌≤◌, ◌<◌, ℕ, ◌+◌, Bool, true, false, ◌&&◌, is_none, nat_le, nat_lt, List, [], length, Some, None, IfSome, Result, Ok, Err}
use Rattle.lethe_base.specs.History.{History}
use Rattle.lethe_base.specs.Limits.{max_place}
use Rattle.lethe_base.specs.declared.call.Call.TheVariants as call
use Rattle.lethe_base.specs.declared.refused.Refused.{Refused}
use Rattle.lethe_base.specs.declared.refused.Refused.TheVariants.{Backwards, Exhausted, Pinned}
use Rattle.lethe_cover.specs.Steps.{with_done}
use Rattle.lethe_follows.specs.Ticked.{ticked}
use Rattle.lethe_pins.specs.Held.{first_limit_of}
use Rattle.lethe_job.specs.MadeOf.{numbers_in}
use Rattle.lethe_job.specs.Works.{PlainTask}
use Rattle.lethe_job.specs.declared.made.Made.{Made}
use Rattle.lethe_stored.specs.Clean.{IsClean}
use Rattle.lethe_stored.specs.Stored.{Stored}
use Rattle.lethe_state.specs.Room.{IsShortToFlush, IsShortToFreeze}
use Rattle.lethe_core.specs.Asked.{failure_of, refused_to}
use Rattle.lethe_core.specs.Merges.{AreOutcomesBy, IsBegunBy, Outcome, due_choice, pages_of}
use Rattle.lethe_core.specs.Pinned.{AreNamed}
use Rattle.lethe_core.specs.Reasons.{HasReason, IsUnreadable}
use Rattle.lethe_engine.specs.Certificates.{IsTrueCertificate}
use Rattle.lethe_engine.specs.Ticks.{IsCertificateAt, IsRipened, IsTickedInPart, lets_pass}
use Rattle.lethe_engine.specs.declared.ticking.Ticked.{Ticked}
use Rattle.lethe_drive.specs.Answers.{AreOutputsFor, StopsIn}
use Rattle.lethe_drive.specs.Moments.{ArePinsSame, IsAllButPort, Moment}

-- the tests that come before a tick's work: nothing has failed, its time isn't behind the clock, there is a place and a round for it, and no held pin bars it
abbrev pub passes : Moment → ℕ → Bool
passes m to =
    is_none m.state.stopped && nat_le m.state.manifest.clock to && nat_lt m.state.count max_place && nat_lt m.rounds max_place && lets_pass m.pins.pins to

-- It passes all tests but the last: a pin is held whose limit is at most its time. Of those of the least limit it is the first.
pub record IsBarred (to : ℕ) (m : Moment) (pin limit : ℕ) : Type 0 where
  pub runs : m.state.stopped ≡ None
  pub forward : m.state.manifest.clock ≤ to
  pub place : m.state.count < max_place
  pub round : m.rounds < max_place
  pub first : first_limit_of m.pins.pins ≡ Some (pin, limit)
  pub reached : limit ≤ to

-- the numbers of the objects of a job that is due at a time, and of a manifest, can't be drawn
pub record IsShortToRipen (to : ℕ) (m : Moment) : Type 0 where
  pub task : PlainTask
  pub begun : IsBegunBy (due_choice to) m.stored task
  pub made : Made
  pub are : AreOutputsFor task made
  pub short : max_place ≤ m.state.next + numbers_in made

-- It takes the next place. The buffers were flushed where a record was as old as level 0 may have it, exactly the merges and sweeps that were due were carried out, each page of
-- what was merged was fetched once, and of what was swept those that the header tells, and the clock moved. No page is retired but those that a held pin names. The directory is
-- clean: no object is without a meaning, and none spells a value that was erased a threshold ago. Where the time is at least the threshold, and only there, it answers a
-- certificate, which is true of the directory and the history.
pub record IsTicked (to : ℕ) (h : History) (old : Moment) (answer : Ticked) (g : History) (new : Moment) : Type 0 where
  pub place_is : answer.place ≡ length h + 1
  pub clock_is : answer.clock ≡ to
  pub history : g ≡ with_done h 0 (call.Tick to)
  pub ripe : Stored
  pub ripened : IsRipened to old.stored ripe
  pub outcomes : List Outcome
  pub merged : Stored
  pub merges : AreOutcomesBy (due_choice to) ripe outcomes merged
  pub number : ℕ
  pub stored : new.stored ≡ ticked merged to number
  pub retired : AreNamed old.pins.pins new.retired
  pub fetches : new.fetches ≡ old.fetches + pages_of outcomes
  pub clean : IsClean old.stored.manifest.config.threshold new.directory g to
  pub due : IsCertificateAt old.stored.manifest.config.threshold to answer.certificate
  pub is_true : IfSome answer.certificate (λ certificate. IsTrueCertificate old.stored.manifest.config.threshold certificate new.directory g)

-- Its time is behind the clock, or a pin bars it; or an earlier call failed, the places or the rounds are used up or numbers are short, the disk failed, or there was no memory;
-- or a page that was to be fetched couldn't be read.
abbrev pub HasReasonOfTick : Type 0 → ℕ → Moment → Moment → Refused → Type 0
HasReasonOfTick PortsFail to old new why =
    ((old.state.stopped ≡ None) × (to < old.state.manifest.clock) × (why ≡ Backwards old.state.manifest.clock))
    ⊎ ((pin limit : ℕ) × IsBarred to old pin limit × (why ≡ Pinned pin limit))
    ⊎ HasReason ((max_place ≤ old.rounds) ⊎ IsShortToFlush new.state ⊎ IsShortToFreeze new.state ⊎ IsShortToRipen to new) old.state old.faults new.faults why
    ⊎ ((old.state.stopped ≡ None) × IsUnreadable (Unit {0}) PortsFail old.port_faults new.port_faults why)

-- It is refused for a reason, and is in the history where the disk failed in it. Else some of the steps before its last may have been done.
pub record IsUnticked (PortsFail : Type 0) (to : ℕ) (h : History) (old : Moment) (why : Refused) (g : History) (new : Moment) : Type 0 where
  pub history : g ≡ refused_to h 0 (call.Tick to) why
  pub reason : HasReasonOfTick PortsFail to old new why
  pub begun : failure_of why ≡ None → IsTickedInPart to old.stored new.stored

abbrev pub TickAnswers : Type 0 → ℕ → History → Moment → Result Ticked Refused → History → Moment → Type 0
TickAnswers PortsFail to h old (Ok answer) g new = IsTicked to h old answer g new
TickAnswers PortsFail to h old (Err why) g new = IsUnticked PortsFail to h old why g new

-- a round has ended, and its job was given up
pub record EndsRound (old new : Moment) : Type 0 where
  pub rounds : new.rounds ≡ old.rounds + 1
  pub flights : new.flights ≡ []
  pub there : new.there ≡ None
  pub begun : new.begun ≡ old.begun

pub record IsTick (PortsFail : Type 0) (to : ℕ) (h : History) (old : Moment) (result : Result Ticked Refused) (g : History) (new : Moment) : Type 0 where
  pub answers : TickAnswers PortsFail to h old result g new
  pub stops : StopsIn old result
  pub backwards : old.state.stopped ≡ None → to < old.state.manifest.clock → result ≡ Err (Backwards old.state.manifest.clock)
  pub last : old.state.stopped ≡ None → old.state.manifest.clock ≤ to → (old.state.count ≡ max_place) ⊎ (max_place ≤ old.rounds) → result ≡ Err (Exhausted max_place)
  -- it is refused for a pin exactly where that bars it
  pub pinned : (pin limit : ℕ) → (result ≡ Err (Pinned pin limit)) ↔ IsBarred to old pin limit
  pub pins : ArePinsSame old new
  -- one that passes its tests ends the round, whatever it answers, and one that doesn't does nothing
  pub round : passes old to ≡ true → EndsRound old new
  pub same : passes old to ≡ false → IsAllButPort old new × (new.rounds ≡ old.rounds)
