-- Calls that change nothing on a disk.
use Rattle.std.specs.Prelude.{◌≡◌}
use Rattle.lethe_disk.specs.Directory.{IsSame}
use Rattle.lethe_disk.specs.Disk.{Seen}
use Rattle.lethe_disk.specs.Runs.{Leads}

-- a read gives what it gave, and at each moment a crash leaves what it could leave before
pub record IsQuiet (old new : Seen) : Type 0 where
  pub directory : new.directory ≡ old.directory
  pub any_moment : Leads IsSame old new
