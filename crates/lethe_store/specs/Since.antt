-- What became of an opened store by the changes since.
use Rattle.std.specs.Prelude.{◌≡◌, ◌≤◌, ℕ, ◌+◌, List, ◌++◌, length}
use Rattle.lethe_base.specs.History.{History}
use Rattle.lethe_base.specs.declared.config.Fields.{Fields}
use Rattle.lethe_cert.specs.declared.certificate.Certificate.{Certificate}
use Rattle.lethe_core.specs.Running.{IsSound}
use Rattle.lethe_disk.specs.Runs.{Continues}
use Rattle.lethe_engine.specs.StandsFor.{Opened, StandsFor, StandsSince}
use Rattle.lethe_state.specs.Clock.{clock_of}
use Rattle.lethe_store.specs.declared.entry.Entry.{Entry}
use Rattle.lethe_store.specs.declared.entry.Mark.{Mark}
use Rattle.lethe_store.specs.StoreViews.{StoreView}
use Rattle.lethe_store.specs.Diary.{Diary, answered_in}
use Rattle.lethe_store.specs.Entries.{changes_of, clock_along, stopped_behind}

-- all changes that the opened store counts lie before the first entry
abbrev pub all_counted : ℕ → ℕ
all_counted count = count

-- nothing is asked of marks
abbrev pub AnyMarks : List Mark → Type 0
AnyMarks marks = Unit {0}

-- The store is sound. It counts these entries, the first of them that failed stopped it, if none had before, and its ticks moved its clock. Its disk's count of faults didn't fall, and its
-- rounds, jobs, pins and certificates are those of the diary. Whatever history and certificates the opened one stood for, on a disk that tells what it holds it stands for that history with the
-- entries and for those certificates followed by those that were noted, and what a crash before may leave is as it was.
pub record Since (Tells PortsFail : Type 0) (o : StoreView) (entries : List Entry) (marks : List Mark) (x : StoreView) : Type 0 where
  pub sound : IsSound Tells x.view
  pub count : x.view.state.count ≡ o.view.state.count + length entries
  pub stopped : x.view.state.stopped ≡ stopped_behind o.view.state.stopped o.view.state.count entries
  pub clock : clock_of x.view.state.manifest ≡ clock_along (clock_of o.view.state.manifest) entries
  pub faults : o.view.faults ≤ x.view.faults
  pub diary : Diary Tells o entries marks x
  pub stands : Tells → (config : Fields) (opened : Opened) (h : History) (answered : List Certificate) → StandsFor config opened h o.view answered
      → StandsFor config opened (h ++ changes_of entries) x.view (answered ++ answered_in marks)
  pub calls : Tells → (config : Fields) (opened : Opened) (h : History) → StandsSince config opened h o.view → Continues o.view.disk x.view.disk
