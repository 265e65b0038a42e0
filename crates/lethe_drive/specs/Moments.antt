-- What is told of a store between two calls of a run, as plain data.
use Rattle.std.specs.Prelude.{◌≡◌, ◌⊎◌, ◌≤◌, ℕ, Bool, false, List, [], ◌∷◌, ◌++◌, length, map, All, Contains, Option, Some, None, option_map, IfSome, IsTrue}
use Rattle.lethe_base.specs.History.{AreDone, Change, History, IsLegal}
use Rattle.lethe_base.specs.declared.call.Did.TheVariants.{Failed}
use Rattle.lethe_base.specs.declared.config.Fields.{Fields}
use Rattle.lethe_base.specs.declared.name.Name.{Name}
use Rattle.lethe_disk.specs.Directory.{Directory}
use Rattle.lethe_disk.specs.declared.disk.Disk.{Ghosts}
use Rattle.lethe_stored.specs.Encodes.{Encodes}
use Rattle.lethe_stored.specs.Files.{Parts}
use Rattle.lethe_stored.specs.Kept.{IsFor}
use Rattle.lethe_stored.specs.Left.{without_failed}
use Rattle.lethe_stored.specs.Stored.{Stored}
use Rattle.lethe_advance.specs.Settled.{HasOnly}
use Rattle.lethe_pins.specs.Held.{Held, is_named}
use Rattle.lethe_snapshot.specs.declared.snapshot.Snapshot.{Snapshot}
use Rattle.lethe_state.specs.Records.{IsLike}
use Rattle.lethe_state.specs.Remembered.{Remembers, IsCurrent}
use Rattle.lethe_state.specs.declared.state.State.{State}
use Rattle.lethe_job.specs.Works.{PlainTask, plain_task}
use Rattle.lethe_job.specs.declared.job.Job.{Job}
use Rattle.lethe_core.specs.Pinned.{AreKeptBy, AreRetiredFrom, pages_in}
use Rattle.lethe_core.specs.Running.{Holds, IsTasked}
use Rattle.lethe_core.specs.Flights.{Flying, flying_by}
use Rattle.lethe_core.specs.View.{View, beside_at}
use Rattle.lethe_drive.specs.declared.jobs.Jobs.{Jobs}

-- a job that was begun and hasn't ended: its number in the run, the store's own number of it, which counts from its opening on, the round in which it was begun, whether one of its calls was refused, its task, how many of its pages are written, and
-- its port's count of faults
pub record Going : Type 0 where
  pub number : ℕ
  pub own : ℕ
  pub round : ℕ
  pub refused : Bool
  pub task : PlainTask
  pub written : ℕ
  pub port_faults : ℕ

-- The store with what is stored, the pages that are retired and the pins that are held, its disk's directory, the device calls that the disk has taken and its count of faults; the
-- port's counts; how many rounds have ended; the jobs of the run that were begun in the present one; and the numbers of the pins that the run made and holds, in the order in
-- which they were made.
pub record Moment : Type 0 where
  pub stored : Stored
  pub state : State
  pub levels : List (List Parts)
  pub retired : List Name
  pub pins : Held
  pub flights : List Flying
  pub directory : Directory
  pub calls : ℕ
  pub faults : ℕ
  pub fetches : ℕ
  pub port_faults : ℕ
  pub rounds : ℕ
  pub begun : ℕ
  pub there : Option Going
  pub snapshots : List ℕ

-- What is stored stands for the history without what failed, and the store remembers it. Unless something has failed the disk is in its hands.
pub record IsKnown (config : Fields) (h : History) (view : View) (s : Stored) : Type 0 where
  pub config_is : s.manifest.config ≡ config
  pub stands : IsFor (without_failed h) s
  pub remembers : Remembers s view.state view.levels
  pub held : view.state.stopped ≡ None → Holds view s

-- a store is stopped by the last change of its history, where that failed, and by none else
abbrev pub IsStoppedBy : History → Option ℕ → Type 0
IsStoppedBy h None = AreDone h
IsStoppedBy h (Some at) =
    (before : History) × (change : Change) × (h ≡ before ++ change ∷ []) × AreDone before × ((told_before : ℕ) × (told_now : ℕ) × (change.did ≡ Failed told_before told_now)) × (at ≡ length h)

-- A job that hasn't ended is in flight, with its task. Unless one of its calls was refused its pages are those that it has written.
pub record IsGoing (flights : List Flying) (going : Going) : Type 0 where
  pub flying : Flying
  pub flies : flying_by going.own flights ≡ Some flying
  pub task : flying.task ≡ going.task
  pub pages : going.refused ≡ false → length flying.written ≡ going.written

-- A store of the configuration whose calls make the history. What is stored stands for that without what failed, and the store remembers it. Unless something has failed the
-- directory has what is stored, the retired pages and those of the jobs in flight, and nothing else, each page that a held pin names is one of a stored file or retired, and each
-- job merges or sweeps files that are stored.
pub record IsMomentOf (config : Fields) (h : History) (m : Moment) : Type 0 where
  pub legal : IsLegal h
  pub count : m.state.count ≡ length h
  pub stopped : IsStoppedBy h m.state.stopped
  pub config_is : m.stored.manifest.config ≡ config
  pub stands : IsFor (without_failed h) m.stored
  pub remembers : Remembers m.stored m.state m.levels
  pub current : m.state.stopped ≡ None → IsCurrent m.stored m.state
  pub encodes : m.state.stopped ≡ None → Encodes m.directory m.stored
  pub only : m.state.stopped ≡ None → HasOnly m.stored (beside_at m.directory m.retired m.flights) m.directory
  pub kept : m.state.stopped ≡ None → (name : Name) → IsTrue (is_named m.pins.pins name) → Contains (pages_in m.stored.files) name ⊎ Contains m.retired name
  pub tasked : m.state.stopped ≡ None → All (IsTasked m.stored) m.flights
  pub going : IfSome m.there (IsGoing m.flights)

abbrev pub going_of : {D Page Port : Type 0} {kind : Ghosts D Page Port} → ℕ → Job D Page Port kind → Going
going_of {kind = kind} number job = record {
  number = number;
  own = job.number;
  round = job.round;
  refused = job.refused;
  task = plain_task job.task.value;
  written = job.written;
  port_faults = kind.port_faults job.port;
}

abbrev pub there_of : {D Page Port : Type 0} {kind : Ghosts D Page Port} → Jobs D Page Port kind → Option Going
there_of jobs = option_map (λ numbered. going_of numbered.number numbered.job) jobs.there

-- the numbers of a run's pins
abbrev pub numbers_of : {D Page Port : Type 0} {kind : Ghosts D Page Port} → List (Snapshot D Page Port kind) → List ℕ
numbers_of snapshots = map (λ snapshot. snapshot.pin.number) snapshots

-- read off a store, a port with these counts, how many jobs were begun, the one that hasn't ended, and the run's pins
abbrev pub moment_of : View → Stored → ℕ → ℕ → ℕ → Option Going → List ℕ → Moment
moment_of view stored fetches port_faults begun there snapshots = record {
  stored = stored;
  state = view.state;
  levels = view.levels;
  retired = view.retired;
  pins = view.pins;
  flights = view.flights;
  directory = view.disk.directory;
  calls = view.disk.moment;
  faults = view.faults;
  fetches = fetches;
  port_faults = port_faults;
  rounds = view.rounds;
  begun = begun;
  there = there;
  snapshots = snapshots;
}

-- the same store, jobs and pins, whatever the port's counts
pub record IsAllButPort (old new : Moment) : Type 0 where
  pub stored : new.stored ≡ old.stored
  pub state : new.state ≡ old.state
  pub levels : new.levels ≡ old.levels
  pub retired : new.retired ≡ old.retired
  pub pins : new.pins ≡ old.pins
  pub flights : new.flights ≡ old.flights
  pub directory : new.directory ≡ old.directory
  pub calls : new.calls ≡ old.calls
  pub faults : new.faults ≡ old.faults
  pub begun : new.begun ≡ old.begun
  pub there : new.there ≡ old.there
  pub snapshots : new.snapshots ≡ old.snapshots

-- all is as it was, but for memory that was reserved, device calls that were taken back, the jobs and the run's own pins
pub record IsUntouched (old new : Moment) : Type 0 where
  pub stored : new.stored ≡ old.stored
  pub state : IsLike old.state new.state
  pub levels : new.levels ≡ old.levels
  pub retired : new.retired ≡ old.retired
  pub pins : new.pins ≡ old.pins
  pub directory : new.directory ≡ old.directory

-- Counts of faults never fall. Each object that is named by a pin that is held before and by one behind is as it was, byte for byte; and each page that is retired behind was so before, or is
-- named by a held pin.
pub record IsLater (old new : Moment) : Type 0 where
  pub faults : old.faults ≤ new.faults
  pub port_faults : old.port_faults ≤ new.port_faults
  pub pinned : AreKeptBy old.pins.pins new.pins.pins old.directory new.directory
  pub retired : AreRetiredFrom old.pins.pins old.retired new.retired

-- the jobs are as they were
pub record AreJobsSame (old new : Moment) : Type 0 where
  pub flights : new.flights ≡ old.flights
  pub begun : new.begun ≡ old.begun
  pub there : new.there ≡ old.there

-- the same pins are held, and the same of them by the run
pub record ArePinsSame (old new : Moment) : Type 0 where
  pub held : new.pins ≡ old.pins
  pub snapshots : new.snapshots ≡ old.snapshots

-- the port's counts are as they were
pub record IsPortSame (old new : Moment) : Type 0 where
  pub fetches : new.fetches ≡ old.fetches
  pub port_faults : new.port_faults ≡ old.port_faults
