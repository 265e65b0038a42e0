-- The last step of a tick, which moves the clock.
use Rattle.std.specs.Prelude.{◌≤◌, ℕ}
use Rattle.lethe_base.specs.History.{History}
use Rattle.lethe_base.specs.declared.config.Fields.{Fields}
use Rattle.lethe_disk.specs.Directory.{Directory}
use Rattle.lethe_disk.specs.Disk.{Seen}
use Rattle.lethe_stored.specs.Encodes.{Encodes}
use Rattle.lethe_stored.specs.Kept.{IsKept}
use Rattle.lethe_stored.specs.Stored.{Stored}

-- At a moment of the run a crash leaves what is stored, and up to there it leaves what is kept for the history.
pub record HasLastStep (config : Fields) (h : History) (stored : Stored) (old new : Seen) : Type 0 where
  pub begins : ℕ
  pub since : old.moment ≤ begins
  pub upto : begins ≤ new.moment
  pub there : (c : Directory) → new.left begins c → Encodes c stored
  pub without : (moment : ℕ) (c : Directory) → old.moment ≤ moment → moment ≤ begins → new.left moment c → IsKept config c h
