-- Which history a store stands for now.
use Rattle.std.specs.Prelude.{◌≡◌, ◌≤◌, ℕ, ◌∷◌, [], ◌++◌, length, All, Option, Some, None, if◌then◌else◌}
use Rattle.lethe_base.specs.History.{History, Change, IsLegal, AreDone}
use Rattle.lethe_base.specs.declared.call.Did.TheVariants.{Failed}
use Rattle.lethe_base.specs.declared.config.Fields.{Fields}
use Rattle.lethe_disk.specs.Disk.{Seen}
use Rattle.lethe_follows.specs.Merged.{entries_in}
use Rattle.lethe_follows.specs.Young.{AreLaterRecorded}
use Rattle.lethe_stored.specs.Stored.{Stored}
use Rattle.lethe_stored.specs.Kept.{IsFor}
use Rattle.lethe_stored.specs.Left.{IsLeft, is_work, without_failed}
use Rattle.lethe_state.specs.Remembered.{Remembers}
use Rattle.lethe_job.specs.Tasks.{merge_inputs}
pub use Rattle.lethe_job.specs.Works.{Merges, PlainTask, Sweeps}
use Rattle.lethe_core.specs.Pinned.{AreTimely}
use Rattle.lethe_core.specs.Running.{IsRunning}
use Rattle.lethe_core.specs.View.{View}

-- what may have been carried out of a change that failed; work changes nothing
abbrev pub retried : Change → Option Change
retried change = if is_work change.call then None else Some change

-- A store that was stopped by the last change of its history: the disk is left for the history before it, and for the change unless that is
-- work.
pub record IsStopped (config : Fields) (h : History) (disk : Seen) (at : ℕ) : Type 0 where
  pub before : History
  pub change : Change
  pub history : h ≡ before ++ change ∷ []
  pub place : at ≡ length h
  pub legal : IsLegal before
  pub done : AreDone before
  pub faults_before : ℕ
  pub faults : ℕ
  pub failed : change.did ≡ Failed faults_before faults
  pub left : IsLeft config disk before (retried change)

abbrev pub IsOpenOrStopped : Fields → View → History → Stored → Option ℕ → Type 0
IsOpenOrStopped config view h s None = AreDone h × IsRunning view s
IsOpenOrStopped config view h s (Some at) = IsStopped config h view.disk at

-- the places of all entries that a merge reads were counted when it was begun
abbrev pub IsCounted : PlainTask → Type 0
IsCounted (Merges task) = All (λ entry. entry.seq ≤ task.upto) (entries_in (merge_inputs task))
IsCounted (Sweeps task) = Unit {0}

-- Now the buffers and the files stand for the history without what failed, and the disk is in the store's hands, or left as a failed change left
-- it. A segment records each erase of the manifest that stands behind a record of one. Unless something has failed, what pins keep was erased a threshold ago at no time before
-- their limits.
pub record StandsNow (config : Fields) (h : History) (view : View) : Type 0 where
  pub legal : IsLegal h
  pub count : view.state.count ≡ length h
  pub stored : Stored
  pub remembers : Remembers stored view.state view.levels
  pub config_is : stored.manifest.config ≡ config
  pub stands : IsFor (without_failed h) stored
  pub held : IsOpenOrStopped config view h stored view.state.stopped
  pub counted : All (λ flying. IsCounted flying.task) view.flights
  pub recorded : AreLaterRecorded stored
  pub timely : view.state.stopped ≡ None → AreTimely config.threshold h view.pins.pins view.retired view.disk.directory
