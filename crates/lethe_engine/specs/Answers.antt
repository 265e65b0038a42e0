-- What each call of a store says of itself: what it was asked, why it was refused if it was, the store before and the store behind.
use Rattle.std.specs.Prelude.{◌≡◌, ◌≤◌, ◌+◌, ℕ, List, Option, None, IfSome, IsSome}
use Rattle.lethe_base.specs.History.{History}
use Rattle.lethe_base.specs.declared.call.Call.{Call}
use Rattle.lethe_base.specs.declared.call.Call.TheVariants.{Put, Delete, Erase, Tick, Work}
use Rattle.lethe_base.specs.declared.config.Fields.{Fields}
use Rattle.lethe_base.specs.declared.refused.Refused.{Refused}
use Rattle.lethe_disk.specs.Disk.{IsIdle}
use Rattle.lethe_disk.specs.Goes.{Goes}
use Rattle.lethe_stored.specs.Left.{IsKeptOr}
use Rattle.lethe_stored.specs.Numbers.{GoesFrom}
use Rattle.lethe_stored.specs.Stored.{Stored}
use Rattle.lethe_state.specs.Clock.{clock_of}
use Rattle.lethe_state.specs.declared.state.State.{State}
use Rattle.lethe_core.specs.Asked.{Asked, Makes, Serves, behind, clock_behind, counted, stopped_by, written_by}
use Rattle.lethe_core.specs.Merges.{IsRoomBegun}
use Rattle.lethe_core.specs.Pinned.{AreKeptBy, AreRetiredFrom}
use Rattle.lethe_core.specs.Running.{IsSound}
use Rattle.lethe_core.specs.StandsNow.{StandsNow}
use Rattle.lethe_core.specs.Steps.{IsDoneInPart, IsUndone}
use Rattle.lethe_core.specs.View.{Face, Flying, View, face_of}
use Rattle.lethe_tick.specs.Ripened.{IsTickedInPart}
use Rattle.lethe_engine.specs.Refusals.{SeesRoom}
use Rattle.lethe_engine.specs.StandsFor.{IsKeptFor, Opened, StandsSince}

-- the steps of a change that may have been done where it was refused
abbrev pub IsBegun : Call → List Flying → Stored → Stored → Type 0
IsBegun (Put key dkey value) flights = IsRoomBegun flights
IsBegun (Delete key) flights = IsRoomBegun flights
IsBegun (Erase range) flights = IsRoomBegun flights
IsBegun (Tick to) flights = IsTickedInPart to
IsBegun Work flights = λ s t. t ≡ s

-- Of a change nothing is done before its record is written, as the store sees it: there is room for that. A tick writes no record.
abbrev pub IsReadyFor : Call → State → Type 0
IsReadyFor (Put key dkey value) state = SeesRoom state
IsReadyFor (Delete key) state = SeesRoom state
IsReadyFor (Erase range) state = SeesRoom state
IsReadyFor (Tick to) state = ⊥
IsReadyFor Work state = SeesRoom state

-- What stands behind a call that was refused, unless the disk failed in it. Work and looks leave all as it was. So does a change where there was room; where there
-- was none, some of the steps that make it may have been done, and nothing else. Of a tick, too, some steps may have been done.
abbrev pub IsRefused : Type 0 → Asked → View → View → Refused → Type 0
IsRefused Tells (Makes call) old new why = (IsReadyFor call old.state → IsUndone Tells old new why) × IsDoneInPart Tells (IsBegun call old.flights) old new why
IsRefused Tells (Serves call) old new why = IsUndone Tells old new why

-- nothing was done, but that a job may have been forgotten
pub record IsStill (Tells : Type 0) (old new : View) : Type 0 where
  pub state : new.state ≡ old.state
  pub levels : new.levels ≡ old.levels
  pub faults : new.faults ≡ old.faults
  pub disk : Tells → IsIdle old.disk new.disk

pub record Answers (Tells : Type 0) (asked : Asked) (why : Option Refused) (face : Face) (old new : View) : Type 0 where
  pub sound : IsSound Tells new
  -- it counts a change that was made, and a call in which the disk failed, which stops it
  pub count : new.state.count ≡ counted asked why old.state.count
  pub stopped : new.state.stopped ≡ stopped_by why old.state.stopped
  -- a tick that is done moves the clock to its time, and prepares a certificate where that is due; nothing else changes it
  pub clock : clock_of new.state.manifest ≡ clock_behind asked why (clock_of old.state.manifest)
  -- over a store that stands for a history it stands for that with the call, done or failed, or for the same where it was refused
  pub stands : Tells → (config : Fields) (opened : Opened) (h : History) → StandsSince config opened h old → (caller : ℕ) → StandsSince config opened (behind h caller asked why) new
  -- A crash at any moment of the call leaves what is kept for a prefix of what a crash may make of that history, which is not shorter than the opened one; what a crash
  -- at an earlier moment may leave is as it was.
  pub goes : Tells → (config : Fields) (opened : Opened) (h : History) → StandsSince config opened h old → (caller : ℕ) → Goes (IsKeptFor config opened.history (behind h caller asked why)) old.disk new.disk
  -- Where no earlier call failed it is kept for the history, or for that with the change where this was written, and numbers keep pace with the calls.
  pub any_moment : Tells → (config : Fields) (h : History) → StandsNow config h old → old.state.stopped ≡ None → (caller : ℕ) → GoesFrom old.state.next (IsKeptOr config h (written_by caller asked why)) old.disk new.disk
  -- numbers are drawn no faster than device calls are made
  pub numbers : Tells → new.state.next + old.disk.moment ≤ old.state.next + new.disk.moment
  -- the next number doesn't fall, and on a disk that tells what it holds nor does the moment
  pub drawn : old.state.next ≤ new.state.next
  pub later : Tells → old.disk.moment ≤ new.disk.moment
  pub faults : old.faults ≤ new.faults
  -- where an earlier call failed nothing is done, whatever is asked
  pub still : IsSome old.state.stopped → IsStill Tells old new
  pub refused : IfSome why (IsRefused Tells asked old new)
  -- what the jobs and the pins have come to
  pub face_is : face_of new ≡ face
  -- each page that is retired behind it was so before, or is named by a held pin
  pub retired : AreRetiredFrom old.pins.pins old.retired new.retired
  -- each object that a pin names which is held before and behind is as it was, byte for byte, also where the disk failed
  pub pinned : Tells → AreKeptBy old.pins.pins new.pins.pins old.disk.directory new.disk.directory
