-- What a call of a run answers, by the moments before and behind it and the histories for which the store stands there.
use Rattle.std.specs.Prelude.{◌≡◌, ◌≢◌, ◌⊎◌, ◌↔◌, ◌≤◌, ◌<◌, ℕ, ◌+◌, ◌-◌, Bool, true, false, List, [], ◌∷◌, length, map, slice_index_or, Some, None, Result, Ok, Err, IfErr, IfSome}
use Rattle.std.specs.FinMap.{insert}
use Rattle.std.specs.Result.{result_err}
use Rattle.lethe_advance.specs.Settled.{names_in}
use Rattle.lethe_base.specs.History.{History, after}
use Rattle.lethe_base.specs.Limits.{max_place}
use Rattle.lethe_base.specs.Read.{Read, Answer, answer}
use Rattle.lethe_base.specs.declared.call.Call.{Call}
use Rattle.lethe_base.specs.declared.call.Call.TheVariants as call
use Rattle.lethe_base.specs.declared.name.Name.{Name}
use Rattle.lethe_base.specs.declared.refused.Refused.{Refused}
use Rattle.lethe_base.specs.declared.refused.Refused.TheVariants.{Fault, Stopped, Backwards, Pinned, NothingDue, Cancelled, Exhausted, ReadFault, NoMemory, Damaged}
use Rattle.lethe_build.specs.Drafts.{AreDraftsOf}
use Rattle.lethe_cover.specs.Steps.{with_done}
use Rattle.lethe_file.specs.Agreement as pages
use Rattle.lethe_file.specs.Agreement.{page_name}
use Rattle.lethe_follows.specs.Merged.{entries_in}
use Rattle.lethe_header.specs.declared.header.Header.{Header}
use Rattle.lethe_merge.specs.Merge.{merged}
use Rattle.lethe_segment.specs.declared.record.Record.{Record}
use Rattle.lethe_stored.specs.Stored.{Stored, appended}
use Rattle.lethe_state.specs.Records.{headers_in}
use Rattle.lethe_sweep_task.specs.Outcome.{IsDraftLeft}
use Rattle.lethe_job.specs.MadeOf.{numbers_in, pages_of}
use Rattle.lethe_job.specs.Tasks.{merge_inputs}
use Rattle.lethe_job.specs.Works.{IsBegunIn, Merges, PlainTask, Sweeps}
use Rattle.lethe_job.specs.declared.made.Made.{Made}
use Rattle.lethe_job.specs.declared.made.Made.TheVariants.{Files, Left}
use Rattle.lethe_core.specs.Asked.{Serves, behind, failure_of, refused_to}
use Rattle.lethe_core.specs.Merges.{AreFirst, AreRetiredBehind, HasNoMerge, IsInstalledWith, IsRoomBegun, IsRoomMadeBy, Outcome}
use Rattle.lethe_core.specs.Merges as merges
use Rattle.lethe_core.specs.Pinned.{AreNamed}
use Rattle.lethe_core.specs.Reasons.{HasReason, IsShort, IsUnreadable}
use Rattle.lethe_core.specs.Flights.{Flying, company_of, flying_by, with_page_of, with_pages_of, without}
use Rattle.lethe_engine.specs.Refusals.{SeesRoom}
use Rattle.lethe_drive.specs.Moments.{AreJobsSame, ArePinsSame, Going, IsAllButPort, IsPortSame, IsUntouched, Moment}

-- a store that was stopped refuses
abbrev pub StopsIn : {T : Type 0} → Moment → Result T Refused → Type 0
StopsIn old result = (at : ℕ) → old.state.stopped ≡ Some at → result ≡ Err (Stopped at)

-- What a task makes: the drafts of a merge's outputs, or that of what a sweep leaves of its file.
abbrev pub AreOutputsFor : PlainTask → Made → Type 0
AreOutputsFor (Merges task) (Files drafts) = AreDraftsOf task.config (merged (entries_in (merge_inputs task)) task.erases task.alone) drafts.items
AreOutputsFor (Merges task) (Left draft) = ⊥
AreOutputsFor (Sweeps task) (Files drafts) = ⊥
AreOutputsFor (Sweeps task) (Left draft) = IsDraftLeft task.alone task.erase task.file.header.tiles (map pages.entries_in task.file.pages) draft

-- the numbers of the objects of the job that is due, and of a manifest, can't be drawn
pub record IsShortToMerge (m : Moment) : Type 0 where
  pub task : PlainTask
  pub begun : IsBegunIn m.stored task
  pub made : Made
  pub are : AreOutputsFor task made
  pub short : max_place ≤ m.state.next + numbers_in made

-- Changes

-- A change takes the next place: room was made, for which each page of what was merged was fetched once, and of what was swept those that the header tells, and the record
-- stands behind the others.
pub record IsChanged (call : Call) (IsNext : Stored → List Header → Record → Type 0) (h : History) (old : Moment) (place : ℕ) (g : History) (new : Moment) : Type 0 where
  pub place_is : place ≡ length h + 1
  pub history : g ≡ with_done h 0 call
  pub cleared : Stored
  pub outcomes : List Outcome
  pub room : IsRoomMadeBy old.flights old.stored outcomes cleared
  pub next : Record
  pub next_is : IsNext cleared (headers_in new.levels) next
  pub stored : new.stored ≡ appended cleared next
  pub retired : AreRetiredBehind outcomes old.pins.pins old.retired new.retired
  pub fetches : new.fetches ≡ old.fetches + merges.pages_of outcomes

-- there was no room for a record
abbrev pub IsFull : Moment → Type 0
IsFull m = SeesRoom m.state → ⊥

-- It is refused for a reason, and is in the history where the disk failed in it. Else all is as it was where there was room, and where there was none some of the steps that
-- make it may have been done.
pub record IsUnchanged (PortsFail : Type 0) (call : Call) (h : History) (old : Moment) (why : Refused) (g : History) (new : Moment) : Type 0 where
  pub history : g ≡ refused_to h 0 call why
  pub reason : HasReason (IsFull old × (IsShort old.state ⊎ IsShortToMerge new)) old.state old.faults new.faults why
      ⊎ (IsFull old × (old.state.stopped ≡ None) × IsUnreadable (Unit {0}) PortsFail old.port_faults new.port_faults why)
  pub untouched : SeesRoom old.state → failure_of why ≡ None → IsUntouched old new
  pub begun : failure_of why ≡ None → IsRoomBegun old.flights old.stored new.stored

abbrev pub ChangeAnswers : Type 0 → Call → (Stored → List Header → Record → Type 0) → History → Moment → Result ℕ Refused → History → Moment → Type 0
ChangeAnswers PortsFail call IsNext h old (Ok place) g new = IsChanged call IsNext h old place g new
ChangeAnswers PortsFail call IsNext h old (Err why) g new = IsUnchanged PortsFail call h old why g new

pub record IsChange (PortsFail : Type 0) (call : Call) (IsNext : Stored → List Header → Record → Type 0) (h : History) (old : Moment) (result : Result ℕ Refused) (g : History) (new : Moment) : Type 0 where
  pub answers : ChangeAnswers PortsFail call IsNext h old result g new
  pub stops : StopsIn old result
  pub last : old.state.stopped ≡ None → old.state.count ≡ max_place → result ≡ Err (Exhausted max_place)
  pub jobs : AreJobsSame old new
  pub pins : ArePinsSame old new

-- Reads

-- it answers what the map has, or a fetch failed or there was no memory, and nothing but the port's counts changes
abbrev pub ReadAnswers : {T : Type 0} → Type 0 → Read → (T → Answer) → History → Moment → Result T Refused → Moment → Type 0
ReadAnswers PortsFail read told h old (Ok given) new = answer (after h) read ≡ told given
ReadAnswers PortsFail read told h old (Err why) new = (why ≡ NoMemory) ⊎ IsUnreadable (Unit {0}) PortsFail old.port_faults new.port_faults why

pub record IsRead {T : Type 0} (PortsFail : Type 0) (read : Read) (told : T → Answer) (h : History) (old : Moment) (result : Result T Refused) (g : History) (new : Moment) : Type 0 where
  pub history : g ≡ h
  pub answers : ReadAnswers PortsFail read told h old result new
  pub same : IsAllButPort old new

-- Freezes and flushes

-- It is false exactly where there is nothing to do, and then nothing is done. Where it is refused all is as it was, unless the disk failed.
pub record IsWork (Nothing : Moment → Type 0) (Does : Stored → Stored → Type 0) (Short : Type 0) (h : History) (old : Moment) (result : Result Bool Refused) (g : History) (new : Moment) : Type 0 where
  pub history : g ≡ behind h 0 (Serves call.Work) (result_err result)
  pub idle : (result ≡ Ok false) ↔ Nothing old
  pub same : result ≡ Ok false → IsAllButPort old new
  pub done : result ≡ Ok true → Does old.stored new.stored
  pub why : IfErr result (HasReason Short old.state old.faults new.faults)
  pub untouched : IfErr result (λ why. failure_of why ≡ None → IsUntouched old new)
  pub stops : StopsIn old result
  pub last : old.state.stopped ≡ None → (Nothing old → ⊥) → old.state.count ≡ max_place → result ≡ Err (Exhausted max_place)
  pub jobs : AreJobsSame old new
  pub retired : new.retired ≡ old.retired
  pub pins : ArePinsSame old new
  pub port : IsPortSame old new

-- Jobs

-- the job has the next number and the task that is due, and is in flight with no page
pub record HasBegun (old : Moment) (number : ℕ) (new : Moment) : Type 0 where
  pub number_is : number ≡ old.begun
  pub task : PlainTask
  pub begun : IsBegunIn old.stored task
  pub own : ℕ
  pub free : old.flights ≡ []
  pub flights : new.flights ≡ record { number = own; task = task; written = [] } ∷ []
  pub there : new.there ≡ Some (record { number = number; own = own; round = old.rounds; refused = false; task = task; written = 0; port_faults = 0 })
  pub count : new.begun ≡ old.begun + 1

-- why no job was begun
abbrev pub IsUnbegun : Moment → Refused → Type 0
IsUnbegun old (Stopped at) = old.state.stopped ≡ Some at
IsUnbegun old NothingDue = (old.state.stopped ≡ None) × ((old.flights ≢ []) ⊎ HasNoMerge old.stored)
IsUnbegun old NoMemory = Unit {0}
IsUnbegun old (Fault place before after) = ⊥
IsUnbegun old (Backwards clock) = ⊥
IsUnbegun old (Pinned pin limit) = ⊥
IsUnbegun old (Cancelled begun now) = ⊥
IsUnbegun old (Exhausted last) = ⊥
IsUnbegun old (ReadFault before after) = ⊥
IsUnbegun old (Damaged name) = ⊥

abbrev pub BeginAnswers : Moment → Result ℕ Refused → Moment → Type 0
BeginAnswers old (Ok number) new = HasBegun old number new
BeginAnswers old (Err why) new = IsUnbegun old why × AreJobsSame old new

pub record IsBegin (h : History) (old : Moment) (result : Result ℕ Refused) (g : History) (new : Moment) : Type 0 where
  pub history : g ≡ h
  pub answers : BeginAnswers old result new
  pub stops : StopsIn old result
  pub busy : old.state.stopped ≡ None → old.flights ≢ [] → result ≡ Err NothingDue
  pub stored : new.stored ≡ old.stored
  pub state : new.state ≡ old.state
  pub levels : new.levels ≡ old.levels
  pub retired : new.retired ≡ old.retired
  pub pins : ArePinsSame old new
  pub directory : new.directory ≡ old.directory
  pub calls : new.calls ≡ old.calls
  pub port : IsPortSame old new

-- Why a job's call was refused that may have read its inputs: of several device calls one failed, between these counts of faults.
abbrev pub IsJobRefusal : Type 0 → Type 0 → Moment → Going → ℕ → Moment → Refused → Type 0
IsJobRefusal PortsFail Short old going port_faults new why =
    ((before : ℕ) × (now : ℕ) × (old.faults ≤ before) × (now ≤ new.faults) × HasReason Short old.state before now why)
    ⊎ IsUnreadable (Unit {0}) PortsFail going.port_faults port_faults why

-- it can only be given up
pub record IsSpoilt (going : Going) (new : Moment) : Type 0 where
  pub written : ℕ
  pub port_faults : ℕ
  pub there : new.there ≡ Some (record going { refused = true; written = written; port_faults = port_faults })

-- it is there as it was, with so many pages
pub record GoesOn (going : Going) (written : ℕ) (new : Moment) : Type 0 where
  pub port_faults : ℕ
  pub there : new.there ≡ Some (record going { written = written; port_faults = port_faults })

-- the next page of the outputs was written, under the next number, and is the one object that came
pub record HasWritten (old : Moment) (going : Going) (new : Moment) : Type 0 where
  pub flying : Flying
  pub flies : flying_by going.own old.flights ≡ Some flying
  pub made : Made
  pub outputs : AreOutputsFor going.task made
  pub left : length flying.written < length (pages_of made)
  pub bytes : List ℕ
  pub next : bytes ≡ slice_index_or (pages_of made) (length flying.written) []
  pub flights : new.flights ≡ with_page_of going.own (page_name old.state.next, bytes) old.flights
  pub directory : new.directory ≡ insert old.directory (page_name old.state.next) bytes
  pub stored : new.stored ≡ old.stored
  pub goes_on : GoesOn going (going.written + 1) new

-- none was left, and nothing was done
pub record HasNoPage (old : Moment) (going : Going) (new : Moment) : Type 0 where
  pub flying : Flying
  pub flies : flying_by going.own old.flights ≡ Some flying
  pub made : Made
  pub outputs : AreOutputsFor going.task made
  pub all : length flying.written ≡ length (pages_of made)
  pub flights : new.flights ≡ old.flights
  pub stored : new.stored ≡ old.stored
  pub state : new.state ≡ old.state
  pub calls : new.calls ≡ old.calls
  pub goes_on : GoesOn going going.written new

-- It was refused: the job can only be given up. It is in flight as it was, and all else is as it was, unless the disk failed.
pub record IsUnwritten (PortsFail : Type 0) (old : Moment) (going : Going) (why : Refused) (new : Moment) : Type 0 where
  pub spoilt : IsSpoilt going new
  pub reason : IsJobRefusal PortsFail (max_place ≤ old.state.next) old going spoilt.port_faults new why
  pub flights : new.flights ≡ old.flights
  pub untouched : failure_of why ≡ None → IsUntouched old new

abbrev pub WriteAnswers : Type 0 → Moment → Going → Result Bool Refused → Moment → Type 0
WriteAnswers PortsFail old going (Ok true) new = HasWritten old going new
WriteAnswers PortsFail old going (Ok false) new = HasNoPage old going new
WriteAnswers PortsFail old going (Err why) new = IsUnwritten PortsFail old going why new

pub record IsWriteOut (PortsFail : Type 0) (going : Going) (h : History) (old : Moment) (result : Result Bool Refused) (g : History) (new : Moment) : Type 0 where
  pub history : g ≡ behind h 0 (Serves call.Work) (result_err result)
  pub answers : WriteAnswers PortsFail old going result new
  pub retired : new.retired ≡ old.retired
  pub pins : ArePinsSame old new
  pub begun : new.begun ≡ old.begun
  pub port : IsPortSame old new

-- the numbers of a page, or those of the headers and a manifest, can't be drawn
abbrev pub IsShortToInstall : Going → Moment → Type 0
IsShortToInstall going new = (max_place ≤ new.state.next) ⊎ ((made : Made) × AreOutputsFor going.task made × (max_place ≤ new.state.next + (numbers_in made - length (pages_of made))))

-- what is stored is the outcome of its task, whose new pages begin with those that the job had written, of the pages that it left none is retired but those that a held pin names,
-- and it has ended
pub record HasInstalled (old : Moment) (going : Going) (new : Moment) : Type 0 where
  pub installed : IsInstalledWith (company_of (without going.own old.flights)) old.stored going.task new.stored
  pub first : IfSome (flying_by going.own old.flights) (λ flying. AreFirst (names_in flying.written) old.stored new.stored)
  pub retired : AreNamed old.pins.pins new.retired
  pub flights : new.flights ≡ without going.own old.flights
  pub there : new.there ≡ None

-- It was refused: the job can only be given up, and more of its pages may have been written. What is stored is as it was, unless the disk failed.
pub record IsUninstalled (PortsFail : Type 0) (old : Moment) (going : Going) (why : Refused) (new : Moment) : Type 0 where
  pub spoilt : IsSpoilt going new
  pub reason : IsJobRefusal PortsFail (IsShortToInstall going new) old going spoilt.port_faults new why
  pub flying : Flying
  pub flies : flying_by going.own old.flights ≡ Some flying
  pub pages : List (Name × List ℕ)
  pub flights : new.flights ≡ with_pages_of going.own pages old.flights
  pub retired : new.retired ≡ old.retired
  pub stored : failure_of why ≡ None → new.stored ≡ old.stored

abbrev pub InstallAnswers : Type 0 → Moment → Going → Result (Unit {0}) Refused → Moment → Type 0
InstallAnswers PortsFail old going (Ok done) new = HasInstalled old going new
InstallAnswers PortsFail old going (Err why) new = IsUninstalled PortsFail old going why new

pub record IsInstall (PortsFail : Type 0) (going : Going) (h : History) (old : Moment) (result : Result (Unit {0}) Refused) (g : History) (new : Moment) : Type 0 where
  pub history : g ≡ behind h 0 (Serves call.Work) (result_err result)
  pub answers : InstallAnswers PortsFail old going result new
  pub pins : ArePinsSame old new
  pub begun : new.begun ≡ old.begun
  pub port : IsPortSame old new

-- the reason for which giving up is refused: an earlier call failed, or the disk failed in this one
abbrev pub IsKeptUp : Moment → Moment → Refused → Type 0
IsKeptUp old new (Fault place before after) = HasReason ⊥ old.state old.faults new.faults (Fault place before after)
IsKeptUp old new (Stopped at) = old.state.stopped ≡ Some at
IsKeptUp old new (Backwards clock) = ⊥
IsKeptUp old new (Pinned pin limit) = ⊥
IsKeptUp old new NothingDue = ⊥
IsKeptUp old new (Cancelled begun now) = ⊥
IsKeptUp old new (Exhausted last) = ⊥
IsKeptUp old new (ReadFault before after) = ⊥
IsKeptUp old new NoMemory = ⊥
IsKeptUp old new (Damaged name) = ⊥

-- The job has ended, and is in flight no more, but where the last place is taken: then nothing is done. What is stored stays; where it is refused all is as it was, unless the
-- disk failed.
pub record IsCancel (h : History) (old : Moment) (result : Result (Unit {0}) Refused) (g : History) (new : Moment) : Type 0 where
  pub history : g ≡ behind h 0 (Serves call.Work) (result_err result)
  pub why : IfErr result (IsKeptUp old new)
  pub stops : StopsIn old result
  pub there : new.there ≡ None
  pub free : (old.state.stopped ≡ None → old.state.count < max_place) → IfSome old.there (λ going. new.flights ≡ without going.own old.flights)
  pub last : old.state.stopped ≡ None → old.state.count ≡ max_place → (result ≡ Ok tt) × IsUntouched old new × (new.flights ≡ old.flights)
  pub stored : (done : Unit {0}) → result ≡ Ok done → new.stored ≡ old.stored
  pub untouched : IfErr result (λ why. failure_of why ≡ None → IsUntouched old new)
  pub retired : new.retired ≡ old.retired
  pub pins : ArePinsSame old new
  pub begun : new.begun ≡ old.begun
  pub port : IsPortSame old new
