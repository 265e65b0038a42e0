-- A whole run of events.
use Rattle.std.specs.Prelude.{◌≡◌, ◌⊎◌, ◌≤◌, ◌-◌, ◌^◌, ℕ, List, [], ◌++◌, length, Option, Some, None, option_map, Result, OnOk, IfErr, IfSome, false}
use Rattle.lethe_base.specs.History.{History}
use Rattle.lethe_base.specs.Limits.{max_place}
use Rattle.lethe_base.specs.declared.config.Fields.{Fields}
use Rattle.lethe_base.specs.declared.name.Name.{Name}
use Rattle.lethe_base.specs.declared.refused.Refused.{Refused}
use Rattle.lethe_disk.specs.declared.disk.Disk.{Ghosts}
use Rattle.lethe_stored.specs.Stored.{Stored}
use Rattle.lethe_job.specs.MadeOf.{pages_of}
use Rattle.lethe_job.specs.Tasks.{AreSound}
use Rattle.lethe_job.specs.Works.{inputs_in, plain_task}
use Rattle.lethe_job.specs.declared.job.Job.{Job}
use Rattle.lethe_core.specs.Asked.{failure_of}
use Rattle.lethe_core.specs.Reasons.{HasReason, IsUnreadable}
use Rattle.lethe_core.specs.Jobs.{IsAtWork, IsInFlight}
use Rattle.lethe_core.specs.Pinned.{AreKeptBy, AreRetiredFrom}
use Rattle.lethe_core.specs.Flights.{Flying, flying_by, with_pages_of}
use Rattle.lethe_core.specs.View.{View}
use Rattle.lethe_drive.specs.Moments.{IsMomentOf, Moment}
use Rattle.lethe_drive.specs.Past.{Run}
use Rattle.lethe_drive.specs.Pins.{all_released}
use Rattle.lethe_drive.specs.Steps.{Steps, cancels_for}
use Rattle.lethe_drive.specs.declared.jobs.Jobs.{Jobs}
use Rattle.lethe_drive.specs.declared.event.Event.{Event}
use Rattle.lethe_drive.specs.declared.event.Reply.{Reply}

-- The events are answered one after another, then the jobs that haven't ended are given up, whose replies stand behind those of the events, and then the pins that the run made
-- and still holds are let go, without replies.
pub record IsDriven (PortsFail : Type 0) (config : Fields) (h : History) (start : Moment) (events : List Event) (replies : List Reply) (g : History) (finish : Moment) : Type 0 where
  pub begins : IsMomentOf config h start
  pub history : History
  pub middle : Run
  pub answered : List Reply
  pub steps : Steps PortsFail config h (record { now = start; past = [] }) events answered history middle
  pub given_up : List Reply
  pub last : Moment
  pub cancels : Steps PortsFail config history middle (cancels_for middle) given_up g (record { now = last; past = [] })
  pub replies_are : replies ≡ answered ++ given_up
  pub finish_is : finish ≡ all_released last
  pub ended : finish.there ≡ None
  pub ends : IsMomentOf config g finish

-- The job that hasn't ended is in flight, and unless one of its calls was refused the pages that were written are the first of its outputs. The pages of its inputs
-- agree with their headers.
pub record IsTheirs {D Page Port : Type 0} {kind : Ghosts D Page Port} (Tells : Type 0) (view : View) (jobs : Jobs D Page Port kind) : Type 0 where
  pub flies : IfSome jobs.there (λ numbered. IsInFlight view numbered.job)
  pub works : IfSome jobs.there (λ numbered. numbered.job.refused ≡ false → IsAtWork Tells view numbered.job)
  pub reads : IfSome jobs.there (λ numbered. Tells → AreSound (inputs_in (plain_task numbered.job.task.value)))

-- how many pages of a job are left to be written; more than any job has where they aren't made yet
abbrev pub pages_left_of : Option ℕ → ℕ → ℕ
pages_left_of None written = 2 ^ 64
pages_left_of (Some pages) written = pages - written

abbrev pub pages_left : {D Page Port : Type 0} {kind : Ghosts D Page Port} → Job D Page Port kind → ℕ
pages_left job = pages_left_of (option_map (λ made. length (pages_of made)) job.made) job.written

-- the job of a number, which is in flight, has more pages, and the others are as they were
pub record IsWrittenOn (number : ℕ) (old new : List Flying) : Type 0 where
  pub flying : Flying
  pub flies : flying_by number old ≡ Some flying
  pub pages : List (Name × List ℕ)
  pub is : new ≡ with_pages_of number pages old

-- Each object that is named by a pin that is held before and by one behind is as it was, byte for byte; and each page that is retired behind was so before, or is named by a held pin.
pub record IsPinnedKept (old new : View) : Type 0 where
  pub pinned : AreKeptBy old.pins.pins new.pins.pins old.disk.directory new.disk.directory
  pub retired : AreRetiredFrom old.pins.pins old.retired new.retired

-- what is stored stays while pages of a job are written, and the same pins are held
pub record IsWritingOn (PortsFail : Type 0) (number : ℕ) (old new : View) (before now : ℕ) (s t : Stored) (result : Result (Unit {0}) Refused) : Type 0 where
  pub done : OnOk result (t ≡ s)
  pub why : IfErr result (λ why. ((b : ℕ) × (n : ℕ) × (old.faults ≤ b) × (n ≤ new.faults) × HasReason (max_place ≤ new.state.next) old.state b n why)
      ⊎ IsUnreadable (Unit {0}) PortsFail before now why)
  pub kept : IfErr result (λ why. failure_of why ≡ None → t ≡ s)
  pub flights : IsWrittenOn number old.flights new.flights
  pub retired : new.retired ≡ old.retired
  pub pins : new.pins ≡ old.pins
