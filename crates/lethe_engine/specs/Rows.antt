-- What a row of changes says of itself: what was asked and what is left, how far it went and why no further, the store before and the store behind.
use Rattle.std.specs.Prelude.{◌≡◌, ◌≤◌, ℕ, IsSome, List, Option, None}
use Rattle.lethe_base.specs.History.{History}
use Rattle.lethe_base.specs.declared.config.Fields.{Fields}
use Rattle.lethe_base.specs.declared.refused.Refused.{Refused}
use Rattle.lethe_disk.specs.Goes.{Goes}
use Rattle.lethe_state.specs.Clock.{clock_of}
use Rattle.lethe_core.specs.View.{View, face_of}
use Rattle.lethe_row.specs.Along.{IsRow, row_behind}
pub use Rattle.lethe_row.specs.Deletes.{IsDeleteOver}
use Rattle.lethe_row.specs.declared.asking.Asked.{Asked}
use Rattle.lethe_engine.specs.Answers.{IsStill}
use Rattle.lethe_engine.specs.StandsFor.{IsKeptFor, Opened, StandsSince}

pub record AnswersRow (Tells : Type 0) (asked left : List Asked) (done : ℕ) (refused : Option Refused) (old new : View) : Type 0 where
  pub row : IsRow Tells asked left done refused old new
  -- over a store that stands for a history it stands for that with the changes that were made, and with that in which the disk failed
  pub stands : Tells → (config : Fields) (opened : Opened) (h : History) → StandsSince config opened h old → (caller : ℕ) → StandsSince config opened (row_behind h caller row.made row.failed) new
  -- A crash at any moment of the row leaves what is kept for a prefix of what a crash may make of that history, which is not shorter than the opened one; what a crash
  -- at an earlier moment may leave is as it was.
  pub goes : Tells → (config : Fields) (opened : Opened) (h : History) → StandsSince config opened h old → (caller : ℕ) → Goes (IsKeptFor config opened.history (row_behind h caller row.made row.failed)) old.disk new.disk
  -- of a store that was stopped before no change is made, and nothing is done
  pub idle : IsSome old.state.stopped → (done ≡ 0) × (refused ≡ None) × (left ≡ asked) × IsStill Tells old new
  -- the clock stands
  pub clock : clock_of new.state.manifest ≡ clock_of old.state.manifest
  -- jobs and pins stay as they are, and the pages that are retired
  pub face_is : face_of new ≡ face_of old
  pub retired : new.retired ≡ old.retired
  -- the next number doesn't fall, and on a disk that tells what it holds nor does the moment
  pub drawn : old.state.next ≤ new.state.next
  pub later : Tells → old.disk.moment ≤ new.disk.moment
