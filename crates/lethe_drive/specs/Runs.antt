-- A run, as its parts are.
use Rattle.std.specs.Prelude.{ℕ, List}
use Rattle.lethe_disk.specs.declared.disk.Disk.{Ghosts}
use Rattle.lethe_stored.specs.Stored.{Stored}
use Rattle.lethe_core.specs.View.{View}
use Rattle.lethe_snapshot.specs.declared.snapshot.Snapshot.{Snapshot}
use Rattle.lethe_drive.specs.Moments.{moment_of, numbers_of, there_of}
use Rattle.lethe_drive.specs.Past.{Run}
use Rattle.lethe_drive.specs.declared.jobs.Jobs.{Jobs}
use Rattle.lethe_drive.specs.declared.past.Past.{Past}

-- read off a store, a port with these counts, the jobs of the present round, the run's pins, and the jobs of earlier rounds
abbrev pub run_of : {D Page Port : Type 0} {kind : Ghosts D Page Port} → View → Stored → ℕ → ℕ → Jobs D Page Port kind → List (Snapshot D Page Port kind) → List Past → Run
run_of view stored fetches port_faults jobs snapshots past = record { now = moment_of view stored fetches port_faults jobs.begun (there_of jobs) (numbers_of snapshots); past = past }
