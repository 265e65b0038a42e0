-- The steps of a run of events.
use Rattle.std.specs.Prelude.{◌≡◌, ◌⊎◌, ℕ, Bool, false, List, [], ◌∷◌, ◌++◌, map, Option, Some, None, Result}
use Rattle.lethe_base.specs.History.{History}
use Rattle.lethe_base.specs.Keys.{Bytes}
use Rattle.lethe_base.specs.Read as reads
use Rattle.lethe_base.specs.declared.call.Call.TheVariants as call
use Rattle.lethe_base.specs.declared.config.Fields.{Fields}
use Rattle.lethe_base.specs.declared.refused.Refused.{Refused}
use Rattle.lethe_state.specs.Room.{IsFlushed, IsFrozen, IsShortToFlush, IsShortToFreeze}
use Rattle.lethe_core.specs.Changes.{erase_over, put_over}
use Rattle.lethe_engine.specs.Rows.{IsDeleteOver}
use Rattle.lethe_engine.specs.Reads.{listed}
use Rattle.lethe_engine.specs.Work.{HasNoFlush, HasNoFreeze}
use Rattle.lethe_engine.specs.declared.ticking.Ticked.{Ticked}
use Rattle.lethe_drive.specs.Answers.{IsBegin, IsCancel, IsChange, IsInstall, IsRead, IsWork, IsWriteOut}
use Rattle.lethe_drive.specs.Moments.{Going, IsLater, IsMomentOf, Moment}
use Rattle.lethe_drive.specs.Past.{AreEarlier, IsNoneOf, IsPastGivenUp, IsPastRefused, IsRoundEnded, IsRoundKept, Run}
use Rattle.lethe_drive.specs.Pins.{IsNoPin, IsPin, IsReleased}
use Rattle.lethe_drive.specs.Replies.{flagged, got, numbered, paired, pinned, placed, told, united}
use Rattle.lethe_drive.specs.Ticks.{IsTick}
use Rattle.lethe_drive.specs.declared.event.Event.{Event}
use Rattle.lethe_drive.specs.declared.event.Event.TheVariants.{Put, Delete, Erase, Tick, Get, Scan, Freeze, Flush, Begin, WriteOut, Install, Cancel, Pin, Release}
use Rattle.lethe_drive.specs.declared.event.Reply.{Reply}
use Rattle.lethe_drive.specs.declared.event.Reply.TheVariants.{NoSuch}

-- a job of that number was begun and hasn't ended
abbrev pub IsThere : ℕ → Moment → Going → Type 0
IsThere number m going = (m.there ≡ Some going) × (going.number ≡ number)

-- and none of its calls was refused
abbrev pub IsAsked : ℕ → Moment → Going → Type 0
IsAsked number m going = IsThere number m going × (going.refused ≡ false)

-- there is no such job: nothing is done
pub record IsNoSuch (There : Going → Type 0) (h : History) (old : Moment) (reply : Reply) (g : History) (new : Moment) : Type 0 where
  pub none : (going : Going) → There going → ⊥
  pub is : reply ≡ NoSuch
  pub history : g ≡ h
  pub same : new ≡ old

-- one event, answered by this reply, brings the store from one history and moment to another, where it names no job of an earlier round
abbrev pub IsStep : Type 0 → History → Moment → Event → Reply → History → Moment → Type 0
IsStep PortsFail h old (Put key dkey value) reply g new =
    (result : Result ℕ Refused) × (reply ≡ placed result) × IsChange PortsFail (call.Put key dkey value) (λ s headers next. next ≡ put_over s key dkey value) h old result g new
IsStep PortsFail h old (Delete key) reply g new =
    (result : Result ℕ Refused) × (reply ≡ placed result) × IsChange PortsFail (call.Delete key) (λ s headers next. IsDeleteOver s headers key next) h old result g new
IsStep PortsFail h old (Erase range) reply g new =
    (result : Result ℕ Refused) × (reply ≡ placed result) × IsChange PortsFail (call.Erase range) (λ s headers next. next ≡ erase_over s range) h old result g new
IsStep PortsFail h old (Tick to) reply g new = (result : Result Ticked Refused) × (reply ≡ told result) × IsTick PortsFail to h old result g new
IsStep PortsFail h old (Get key) reply g new = (result : Result (Option (ℕ × Bytes)) Refused) × (reply ≡ got result) × IsRead PortsFail (reads.Get key) reads.Found h old result g new
IsStep PortsFail h old (Scan lo hi) reply g new = (result : Result (List (Bytes × ℕ × Bytes)) Refused) × (reply ≡ paired result) × IsRead PortsFail (reads.Scan lo hi) listed h old result g new
IsStep PortsFail h old Freeze reply g new = (result : Result Bool Refused) × (reply ≡ flagged result) × IsWork (λ m. HasNoFreeze m.state) IsFrozen (IsShortToFreeze old.state) h old result g new
IsStep PortsFail h old Flush reply g new = (result : Result Bool Refused) × (reply ≡ flagged result) × IsWork (λ m. HasNoFlush m.state) IsFlushed (IsShortToFlush old.state) h old result g new
IsStep PortsFail h old Begin reply g new = (result : Result ℕ Refused) × (reply ≡ numbered result) × IsBegin h old result g new
IsStep PortsFail h old (WriteOut job) reply g new =
    IsNoSuch (IsAsked job old) h old reply g new
    ⊎ ((going : Going) × IsAsked job old going × (result : Result Bool Refused) × (reply ≡ flagged result) × IsWriteOut PortsFail going h old result g new)
IsStep PortsFail h old (Install job) reply g new =
    IsNoSuch (IsAsked job old) h old reply g new
    ⊎ ((going : Going) × IsAsked job old going × (result : Result (Unit {0}) Refused) × (reply ≡ united result) × IsInstall PortsFail going h old result g new)
IsStep PortsFail h old (Cancel job) reply g new =
    IsNoSuch (IsThere job old) h old reply g new
    ⊎ ((going : Going) × IsThere job old going × (result : Result (Unit {0}) Refused) × (reply ≡ united result) × IsCancel h old result g new)
IsStep PortsFail h old Pin reply g new = (result : Result ℕ Refused) × (reply ≡ pinned result) × IsPin h old result g new
IsStep PortsFail h old (Release pin) reply g new = IsNoPin pin h old reply g new ⊎ IsReleased pin h old reply g new

-- one that goes on in the present round
abbrev pub IsPresent : Type 0 → History → Run → Event → Reply → History → Run → Type 0
IsPresent PortsFail h old event reply g new = IsStep PortsFail h old.now event reply g new.now × IsRoundKept old new

-- one event, answered by this reply, brings the run from one time to another
abbrev pub IsEvent : Type 0 → History → Run → Event → Reply → History → Run → Type 0
IsEvent PortsFail h old (WriteOut job) reply g new = IsPastRefused job h old reply g new ⊎ (IsNoneOf job old.past × IsPresent PortsFail h old (WriteOut job) reply g new)
IsEvent PortsFail h old (Install job) reply g new = IsPastRefused job h old reply g new ⊎ (IsNoneOf job old.past × IsPresent PortsFail h old (Install job) reply g new)
IsEvent PortsFail h old (Cancel job) reply g new = IsPastGivenUp job h old reply g new ⊎ (IsNoneOf job old.past × IsPresent PortsFail h old (Cancel job) reply g new)
IsEvent PortsFail h old (Tick to) reply g new = IsStep PortsFail h old.now (Tick to) reply g new.now × (IsRoundKept old new ⊎ IsRoundEnded old new)
IsEvent PortsFail h old (Put key dkey value) reply g new = IsPresent PortsFail h old (Put key dkey value) reply g new
IsEvent PortsFail h old (Delete key) reply g new = IsPresent PortsFail h old (Delete key) reply g new
IsEvent PortsFail h old (Erase range) reply g new = IsPresent PortsFail h old (Erase range) reply g new
IsEvent PortsFail h old (Get key) reply g new = IsPresent PortsFail h old (Get key) reply g new
IsEvent PortsFail h old (Scan lo hi) reply g new = IsPresent PortsFail h old (Scan lo hi) reply g new
IsEvent PortsFail h old Freeze reply g new = IsPresent PortsFail h old Freeze reply g new
IsEvent PortsFail h old Flush reply g new = IsPresent PortsFail h old Flush reply g new
IsEvent PortsFail h old Begin reply g new = IsPresent PortsFail h old Begin reply g new
IsEvent PortsFail h old Pin reply g new = IsPresent PortsFail h old Pin reply g new
IsEvent PortsFail h old (Release pin) reply g new = IsPresent PortsFail h old (Release pin) reply g new

-- the store is at a moment of the history, and the jobs of earlier rounds are of such
pub record IsRunOf (config : Fields) (h : History) (run : Run) : Type 0 where
  pub now : IsMomentOf config h run.now
  pub earlier : AreEarlier run.now.rounds run.past

-- The events, one after another, each with its reply. Behind each the run is at a time of the history there.
abbrev pub Steps : Type 0 → Fields → History → Run → List Event → List Reply → History → Run → Type 0
Steps PortsFail config h old [] [] g new = (g ≡ h) × (new ≡ old)
Steps PortsFail config h old [] (reply ∷ replies) g new = ⊥
Steps PortsFail config h old (event ∷ events) [] g new = ⊥
Steps PortsFail config h old (event ∷ events) (reply ∷ replies) g new =
    (next : History) × (middle : Run) × IsRunOf config next middle × IsLater old.now middle.now × IsEvent PortsFail h old event reply next middle
    × Steps PortsFail config next middle events replies g new

-- the cancel of the job that hasn't ended
abbrev pub cancel_for : Option Going → List Event
cancel_for None = []
cancel_for (Some going) = Cancel going.number ∷ []

-- the cancels of the jobs that haven't ended, those of earlier rounds first
abbrev pub cancels_for : Run → List Event
cancels_for run = map (λ job. Cancel job.number) run.past ++ cancel_for run.now.there
