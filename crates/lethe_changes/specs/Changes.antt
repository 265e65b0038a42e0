-- What making a list of changes comes to.
use Rattle.std.specs.Prelude.{◌≡◌, ◌≤◌, ◌+◌, ℕ, IsSome, List, [], ◌∷◌, ◌++◌, flat_map, length, Option, Some, None, option_map}
use Rattle.lethe_base.specs.History.{History}
use Rattle.lethe_base.specs.Limits.{max_place}
use Rattle.lethe_base.specs.declared.config.Fields.{Fields}
use Rattle.lethe_base.specs.declared.name.Name.{Name}
use Rattle.lethe_base.specs.declared.refused.Refused.{Refused}
use Rattle.lethe_base.specs.declared.refused.Refused.TheVariants.{NoMemory}
use Rattle.lethe_disk.specs.Goes.{Goes}
use Rattle.lethe_stored.specs.Files.{Parts}
use Rattle.lethe_stored.specs.Levels.{HasFiles}
use Rattle.lethe_stored.specs.Numbers.{GoesFrom}
use Rattle.lethe_stored.specs.Stored.{Stored, appended}
use Rattle.lethe_segment.specs.declared.record.Record.{Record}
use Rattle.lethe_state.specs.Remembered.{Remembers}
use Rattle.lethe_state.specs.Room.{HasRoom}
use Rattle.lethe_state.specs.Records.{headers_in}
use Rattle.lethe_state.specs.Writable.{IsWritable}
use Rattle.lethe_state.specs.declared.state.State.{State}
use Rattle.lethe_core.specs.Asked.{Failure, failure_of, stopped_by}
use Rattle.lethe_core.specs.Merges.{AreRetiredBehind, IsCleared, IsRoomBegun, Outcome, pages_of}
use Rattle.lethe_core.specs.Pinned.{AreKept, AreRetiredFrom}
use Rattle.lethe_core.specs.Running.{Holds, IsSmall, IsSound}
use Rattle.lethe_core.specs.View.{View, face_of}
use Rattle.lethe_engine.specs.Along.{AreAppended, IsKeptAlong, IsRecordOver, calls_of, row_behind, tried}
use Rattle.lethe_engine.specs.Asked.{Asked}
use Rattle.lethe_engine.specs.Answers.{IsStill}
use Rattle.lethe_engine.specs.Refusals.{HasReasonAt}
use Rattle.lethe_engine.specs.StandsFor.{IsKeptFor, Opened, StandsSince}

-- how often a port has fetched, and how many of its fetches failed
pub record PortCounts : Type 0 where
  pub fetches : ℕ
  pub faults : ℕ

abbrev pub counts_of : ℕ → ℕ → PortCounts
counts_of fetches faults = record { fetches = fetches; faults = faults }

-- that the disk failed in the first of the changes that weren't made, where it did
abbrev pub failed_of : Option Refused → List Asked → Option (Asked × Failure)
failed_of None rest = None
failed_of (Some why) [] = None
failed_of (Some why) (next ∷ more) = option_map (λ failure. (next, failure)) (failure_of why)

-- the active segment has room for the records of all these changes, and there is a place for each
abbrev pub HaveRoom : List Asked → View → Type 0
HaveRoom asked view = (view.state.records + length asked ≤ view.state.manifest.config.buffer) × (view.state.count + length asked ≤ max_place)

-- What the store remembered where these changes were made and the next one wasn't yet: it counts them, its parts are within their limits, and numbers were drawn no faster than
-- device calls were made.
pub record IsBehind (Tells : Type 0) (made : List Asked) (old new : View) (state : State) : Type 0 where
  pub count : state.count ≡ old.state.count + length made
  pub stopped : state.stopped ≡ old.state.stopped
  pub writable : IsWritable state
  pub small : IsSmall state
  pub told : Tells → (config : Fields) (opened : Opened) (h : History) → StandsSince config opened h old → (state.manifest.config ≡ config) × (state.next + old.disk.moment ≤ old.state.next + new.disk.moment)

-- The change behind those that were made has the reason of a change by itself, by what the store remembered then, the disk's counts of faults and the port's, those from before any of
-- them and those of now.
pub record IsReason (Tells PortsFail : Type 0) (state : State) (old new : View) (before now : PortCounts) (why : Refused) : Type 0 where
  pub faults : ℕ
  pub later : old.faults ≤ faults
  pub port_faults : ℕ
  pub since : before.faults ≤ port_faults
  pub reason : HasReasonAt Tells PortsFail state faults new port_faults now.faults why

-- all changes were made, or the first of those that weren't has a reason
abbrev pub IsWhy : Type 0 → Type 0 → Option Refused → List Asked → State → View → View → PortCounts → PortCounts → Type 0
IsWhy Tells PortsFail None rest state old new before now = rest ≡ []
IsWhy Tells PortsFail (Some why) rest state old new before now = ((next : Asked) × (more : List Asked) × (rest ≡ next ∷ more)) × IsReason Tells PortsFail state old new before now why

-- A point on the way through a list: what is stored, how many device calls the disk has taken, how often the port has fetched, and the pages that are retired.
pub record Point : Type 0 where
  pub stored : Stored
  pub moment : ℕ
  pub fetches : ℕ
  pub retired : List Name

-- where a store is that holds this
abbrev pub point_of : Stored → View → ℕ → Point
point_of s view fetches = record { stored = s; moment = view.disk.moment; fetches = fetches; retired = view.retired }

-- The changes of a row: each record is over what the ones before it left, with the same files below. Nothing is fetched, and the retired pages stay.
pub record IsRowOver (p : Point) (row : List Asked) (q : Point) : Type 0 where
  pub levels : List (List Parts)
  pub files : HasFiles p.stored levels
  pub records : AreAppended (headers_in levels) p.stored row q.stored
  pub fetches : q.fetches ≡ p.fetches
  pub retired : q.retired ≡ p.retired

-- A change that made room first, where there was none: its record is over what that left. The merges of that fetched each page once, and left none retired but what held pins name.
pub record IsMadeAlone (view : View) (p : Point) (asked : Asked) (q : Point) : Type 0 where
  pub full : HasRoom p.stored → ⊥
  pub outcomes : List Outcome
  pub cleared : Stored
  pub room : IsCleared view.flights p.stored outcomes cleared
  pub levels : List (List Parts)
  pub files : HasFiles q.stored levels
  pub next : Record
  pub over : IsRecordOver (headers_in levels) cleared asked next
  pub is : q.stored ≡ appended cleared next
  pub fetches : q.fetches ≡ p.fetches + pages_of outcomes
  pub retired : AreRetiredBehind outcomes view.pins.pins p.retired q.retired
  pub later : p.moment ≤ q.moment

-- a row, and the change behind it, which made room
pub record Round : Type 0 where
  pub row : List Asked
  pub alone : Asked

abbrev pub changes_in : List Round → List Asked
changes_in rounds = flat_map (λ round. round.row ++ round.alone ∷ []) rounds

-- the row took three device calls for each change and one more, and then the other was made
pub record IsRound (view : View) (p : Point) (round : Round) (q : Point) : Type 0 where
  pub full : Point
  pub row : IsRowOver p round.row full
  pub calls : full.moment ≡ p.moment + calls_of round.row
  pub alone : IsMadeAlone view full round.alone q

-- they were made one after another
abbrev pub AreMade : View → List Round → Point → Point → Type 0
AreMade view [] p q = q ≡ p
AreMade view (round ∷ more) p q = (next : Point) × IsRound view p round next × AreMade view more next q

-- These changes were made in rows, and between two rows one that made room. The device calls of the last row are counted unless there was no memory for the next change.
pub record IsWritten (view : View) (refused : Option Refused) (made : List Asked) (p q : Point) : Type 0 where
  pub rounds : List Round
  pub last : List Asked
  pub are : made ≡ changes_in rounds ++ last
  pub middle : Point
  pub before : AreMade view rounds p middle
  pub row : IsRowOver middle last q
  pub calls : (refused ≡ Some NoMemory → ⊥) → q.moment ≡ middle.moment + calls_of last

-- Behind this point some of the steps that make room for the next change may have been done, and nothing else.
pub record IsRefusedAt (view : View) (p : Point) (new : View) (fetches : ℕ) : Type 0 where
  pub left : Stored
  pub room : IsRoomBegun view.flights p.stored left
  pub holds : Holds new left
  pub later : p.moment ≤ new.disk.moment
  pub fetched : p.fetches ≤ fetches
  pub retired : AreRetiredFrom view.pins.pins p.retired new.retired

-- the store is at this point, or it was where the next change was refused
abbrev pub IsEndedAt : View → Option Refused → Point → View → ℕ → Type 0
IsEndedAt view None p new fetches = (p ≡ point_of p.stored new fetches) × Holds new p.stored
IsEndedAt view (Some why) p new fetches = IsRefusedAt view p new fetches

-- So many changes were made, the first ones of those that were asked, and the next one wasn't for this reason, if any is left; by the port's counts before and now.
pub record AnswersAll (Tells PortsFail : Type 0) (asked : List Asked) (done : ℕ) (refused : Option Refused) (before now : PortCounts) (old new : View) : Type 0 where
  pub made : List Asked
  pub rest : List Asked
  pub are : asked ≡ made ++ rest
  pub many : length made ≡ done
  -- what the store remembered behind those that were made
  pub state : State
  pub behind : IsBehind Tells made old new state
  pub why : IsWhy Tells PortsFail refused rest state old new before now
  pub sound : IsSound Tells new
  -- it counts those that were made, and that in which the disk failed
  pub count : new.state.count ≡ old.state.count + length (tried made (failed_of refused rest))
  pub stopped : new.state.stopped ≡ stopped_by refused old.state.stopped
  -- over a store that stands for a history it stands for that with the changes that were made, and with that in which the disk failed
  pub stands : Tells → (config : Fields) (opened : Opened) (h : History) → StandsSince config opened h old → (caller : ℕ) → StandsSince config opened (row_behind h caller made (failed_of refused rest)) new
  -- A crash at any moment leaves what is kept for a prefix of what a crash may make of that history, which is not shorter than the opened one; what a crash at an earlier moment
  -- may leave is as it was.
  pub goes : Tells → (config : Fields) (opened : Opened) (h : History) → StandsSince config opened h old → (caller : ℕ)
      → Goes (IsKeptFor config opened.history (row_behind h caller made (failed_of refused rest))) old.disk new.disk
  -- Where no earlier call failed, what a crash at any moment leaves is kept for the history with the first ones of the changes, none or all of them among these.
  pub any_moment : Tells → (config : Fields) (opened : Opened) (h : History) → StandsSince config opened h old → old.state.stopped ≡ None → (caller : ℕ)
      → GoesFrom old.state.next (IsKeptAlong config h caller (tried made (failed_of refused rest))) old.disk new.disk
  -- of a store that was stopped before no change is made, and nothing is done
  pub idle : IsSome old.state.stopped → (done ≡ 0) × IsStill Tells old new
  -- Unless the disk failed each was made over what the ones before it left, and that was remembered where the next one wasn't made.
  pub rows : Tells → failed_of refused rest ≡ None → (s : Stored) → Holds old s
      → (last : Point) × IsWritten old refused made (point_of s old before.fetches) last × ((levels : List (List Parts)) × Remembers last.stored state levels)
      × IsEndedAt old refused last new now.fetches
  -- where there was room for all they are one row, of three device calls for each and one more
  pub calls : Tells → refused ≡ None → HaveRoom asked old → new.disk.moment ≡ old.disk.moment + calls_of asked
  pub written : Tells → refused ≡ None → HaveRoom asked old → (s : Stored) → Holds old s → (t : Stored) × AreAppended (headers_in old.levels) s asked t × Holds new t
  pub numbers : Tells → new.state.next + old.disk.moment ≤ old.state.next + new.disk.moment
  -- the next number doesn't fall, nor does the moment
  pub drawn : old.state.next ≤ new.state.next
  pub later : Tells → old.disk.moment ≤ new.disk.moment
  pub faults : old.faults ≤ new.faults
  -- Jobs and pins stay as they are, each page that is retired was so before or is named by a held pin, and each object that a pin names is as it was, byte for byte.
  pub face_is : face_of new ≡ face_of old
  pub retired : AreRetiredFrom old.pins.pins old.retired new.retired
  pub pinned : Tells → AreKept old.pins.pins old.disk.directory new.disk.directory
