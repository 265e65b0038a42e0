use Rattle.std.proofs.Common.{◌≡◌, ◌++◌, ℕ, List, length}
use Rattle.lethe_base.specs.History.{History}
use Rattle.lethe_base.specs.declared.config.Fields.{Fields}
use Rattle.lethe_cert.specs.declared.certificate.Certificate.{Certificate}
use Rattle.lethe_stored.specs.Stored.{Stored}
use Rattle.lethe_core.specs.Running.{Holds, IsSound}
use Rattle.lethe_core.specs.View.{view_of}
use Rattle.lethe_engine.specs.StandsFor.{Opened, StandsFor}
use Rattle.lethe_drive.specs.Moments.{numbers_of}
use Rattle.lethe_drive.specs.Pins.{released}
use Rattle.lethe_drive.proofs.pinning.release_all.Given as goal

-- the last ones were let go
abbrev pub invariant-loop-snapshot : goal.invariant-loop-snapshot
invariant-loop-snapshot g l =
    let old = l.fn.engine in
    let new = l.engine in
    record {
      sound : IsSound g.D.Disk.tells (view_of new.core);
      stands : g.D.Disk.tells → (config : Fields) (opened : Opened) (h : History) (answered : List Certificate) → StandsFor config opened h (view_of old.core) answered → StandsFor config opened h (view_of new.core) answered;
      held : g.D.Disk.tells → (s : Stored) → Holds (view_of old.core) s → Holds (view_of new.core) s;
      gone : (taken : List ℕ) × (numbers_of l.fn.snapshots.items ≡ numbers_of l.snapshots.items ++ taken)
          × (new ≡ record old { core = record old.core { pins = record old.core.pins { pins = released taken old.core.pins.pins } } });
    }

abbrev pub decreases-loop-snapshot : goal.decreases-loop-snapshot
decreases-loop-snapshot g l = length l.snapshots.items
