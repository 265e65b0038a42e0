-- Changes that are made one behind another, in a row.
use Rattle.std.specs.Prelude.{◌≡◌, ◌⊎◌, ◌≤◌, ◌+◌, ◌*◌, ℕ, IsSome, List, [], ◌∷◌, ◌++◌, length, map, Option, Some, None, Result, Ok, Err, option_map, option_to_list}
use Rattle.lethe_base.specs.Counts.{Rose}
use Rattle.lethe_base.specs.History.{History}
use Rattle.lethe_base.specs.Limits.{max_place}
use Rattle.lethe_base.specs.declared.config.Fields.{Fields}
use Rattle.lethe_base.specs.declared.refused.Refused.{Refused}
use Rattle.lethe_base.specs.declared.refused.Refused.TheVariants.{Fault, Stopped, Backwards, Pinned, NothingDue, Cancelled, Exhausted, ReadFault, NoMemory, Damaged}
use Rattle.lethe_disk.specs.Directory.{Directory}
use Rattle.lethe_header.specs.declared.header.Header.{Header}
use Rattle.lethe_segment.specs.declared.record.Record.{Record}
use Rattle.lethe_cover.specs.Steps.{with_failed}
use Rattle.lethe_stored.specs.Kept.{IsKept}
use Rattle.lethe_stored.specs.Numbers.{GoesFrom}
use Rattle.lethe_stored.specs.Stored.{Stored, appended}
use Rattle.lethe_state.specs.Records.{headers_in}
use Rattle.lethe_state.specs.declared.state.State.{State}
use Rattle.lethe_core.specs.Asked.{Failure, done_by, stopped_by}
use Rattle.lethe_core.specs.Changes.{erase_over, put_over}
use Rattle.lethe_core.specs.Pinned.{AreKept}
use Rattle.lethe_core.specs.Running.{Holds, IsSound}
use Rattle.lethe_core.specs.StandsNow.{StandsNow}
use Rattle.lethe_core.specs.View.{View}
use Rattle.lethe_row.specs.Deletes.{IsDeleteOver}
use Rattle.lethe_row.specs.Rows.{call_of}
use Rattle.lethe_row.specs.declared.asking.Asked.{Asked}
use Rattle.lethe_row.specs.declared.row.Row.{Row}
use Rattle.lethe_row.specs.declared.asking.Asked.TheVariants.{Put, Delete, Erase}

-- the history with these changes of a caller
abbrev pub with_all : History → ℕ → List Asked → History
with_all h caller asked = h ++ map (λ change. done_by caller (call_of change)) asked

-- kept for the history with the first ones of these changes, none or all of them among these
abbrev pub IsKeptAlong : Fields → History → ℕ → List Asked → Directory → Type 0
IsKeptAlong config h caller asked d = (front : List Asked) × (rest : List Asked) × (asked ≡ front ++ rest) × IsKept config d (with_all h caller front)

-- the history with the changes that were made, and with that in which the disk failed, if it did
abbrev pub row_behind : History → ℕ → List Asked → Option (Asked × Failure) → History
row_behind h caller made None = with_all h caller made
row_behind h caller made (Some (asked, failure)) = with_failed (with_all h caller made) caller (call_of asked) failure.before failure.after

-- the changes that may have been written: those that were made, and that in which the disk failed
abbrev pub tried : List Asked → Option (Asked × Failure) → List Asked
tried made failed = made ++ option_to_list (option_map (λ f. f.0) failed)

-- the record of the change over what is stored
abbrev pub IsRecordOver : List Header → Stored → Asked → Record → Type 0
IsRecordOver headers s (Put key dkey value) next = next ≡ put_over s key dkey value
IsRecordOver headers s (Delete key) next = IsDeleteOver s headers key next
IsRecordOver headers s (Erase range) next = next ≡ erase_over s range

-- the records of these changes were appended one after another, each over what was stored by then
abbrev pub AreAppended : List Header → Stored → List Asked → Stored → Type 0
AreAppended headers s [] t = t ≡ s
AreAppended headers s (asked ∷ more) t = (next : Record) × IsRecordOver headers s asked next × AreAppended headers (appended s next) more t

-- a row goes no further here: the store is stopped, the active segment has no room for one more record, or all places are used up
abbrev pub IsAtEnd : View → Type 0
IsAtEnd view = IsSome view.state.stopped ⊎ (view.state.manifest.config.buffer ≤ view.state.records) ⊎ (max_place ≤ view.state.count)

-- what is left of the changes behind the one in which the disk failed: all of them, or all but the next one, whose record was made already
abbrev pub IsLeftBehind : List Asked → List Asked → Type 0
IsLeftBehind more left = (left ≡ more) ⊎ ((next : Asked) × (more ≡ next ∷ left))

-- Where a row ended. It went on to the last change, or as far as a row goes; there was no memory for the next; or the disk failed in it, by which the store is stopped.
abbrev pub IsEnded : Option Refused → List Asked → List Asked → Option (Asked × Failure) → View → View → Type 0
IsEnded None rest left failed old new = (failed ≡ None) × (left ≡ rest) × ((rest ≡ []) ⊎ IsAtEnd new)
IsEnded (Some NoMemory) rest left failed old new = (failed ≡ None) × (next : Asked) × (rest ≡ next ∷ left)
IsEnded (Some (Fault place before after)) rest left failed old new =
    (next : Asked) × (more : List Asked) × (rest ≡ next ∷ more) × (failed ≡ Some (next, record { place = place; before = before; after = after }))
    × (place ≡ new.state.count) × (before ≡ old.faults) × (after ≡ new.faults) × Rose before after × IsLeftBehind more left
IsEnded (Some (Stopped at)) rest left failed old new = ⊥
IsEnded (Some (Exhausted last)) rest left failed old new = ⊥
IsEnded (Some (Backwards clock)) rest left failed old new = ⊥
IsEnded (Some (Pinned pin limit)) rest left failed old new = ⊥
IsEnded (Some NothingDue) rest left failed old new = ⊥
IsEnded (Some (Cancelled begun now)) rest left failed old new = ⊥
IsEnded (Some (ReadFault before after)) rest left failed old new = ⊥
IsEnded (Some (Damaged name)) rest left failed old new = ⊥

-- how far a row went behind so many changes, by whether the record of the last one was made to count
abbrev pub ended_as : Result ℕ Refused → ℕ → Option Refused → Row
ended_as (Ok place) done refused = record { done = done + 1; refused = refused }
ended_as (Err why) done refused = record { done = done; refused = Some why }

-- a row of so many changes takes three device calls for each, and one more
abbrev pub calls_of : List Asked → ℕ
calls_of [] = 0
calls_of (asked ∷ more) = 3 * length (asked ∷ more) + 1

-- The active segment has so many records more. What is frozen is as it was, and so are the manifest and the numbers that were drawn.
pub record HasGrown (many : ℕ) (old new : State) : Type 0 where
  pub records : new.records ≡ old.records + many
  pub manifest : new.manifest ≡ old.manifest
  pub drawn : new.next ≡ old.next
  pub frozen : new.frozen ≡ old.frozen

-- The first of the changes that were asked were made in a row, so many, and these are left.
pub record IsRow (Tells : Type 0) (asked left : List Asked) (done : ℕ) (refused : Option Refused) (old new : View) : Type 0 where
  pub made : List Asked
  pub rest : List Asked
  pub are : asked ≡ made ++ rest
  pub many : length made ≡ done
  pub failed : Option (Asked × Failure)
  pub ended : IsEnded refused rest left failed old new
  pub sound : IsSound Tells new
  -- it counts those that were made, and that in which the disk failed
  pub count : new.state.count ≡ old.state.count + length (tried made failed)
  pub stopped : new.state.stopped ≡ stopped_by refused old.state.stopped
  pub stands : Tells → (config : Fields) (h : History) → StandsNow config h old → (caller : ℕ) → StandsNow config (row_behind h caller made failed) new
  -- a crash at any moment of the row leaves what is kept for the history with the first ones of the changes
  pub any_moment : Tells → (config : Fields) (h : History) → StandsNow config h old → old.state.stopped ≡ None → (caller : ℕ) → GoesFrom old.state.next (IsKeptAlong config h caller (tried made failed)) old.disk new.disk
  -- unless the disk failed the active segment has a record for each; what is frozen, the manifest and the numbers are as they were
  pub grown : failed ≡ None → HasGrown (length made) old.state new.state
  -- each record is over what the ones before it left, and the store holds those
  pub written : Tells → failed ≡ None → (s : Stored) → Holds old s → (t : Stored) × AreAppended (headers_in old.levels) s made t × Holds new t
  pub calls : Tells → refused ≡ None → new.disk.moment ≡ old.disk.moment + calls_of made
  pub numbers : Tells → new.state.next + old.disk.moment ≤ old.state.next + new.disk.moment
  pub drawn : old.state.next ≤ new.state.next
  pub faults : old.faults ≤ new.faults
  pub pinned : Tells → AreKept old.pins.pins old.disk.directory new.disk.directory
