-- A new store, for the tests.
use Rattle.std.specs.Prelude.{[], ◌∷◌, None}
use Rattle.lethe_disk.specs.Disk.{Seen}
use Rattle.lethe_stored.specs.Examples.{small}
use Rattle.lethe_stored.specs.Stored.{Stored}
use Rattle.lethe_advance.specs.Settled.{IsSettled, HasOnly}

-- manifest 2, which cites segment 1, with 3 as the next number
abbrev pub new_stored : Stored
new_stored = record {
  manifest = record { no = 2; config = small; clock = 0; count = 0; next = 3; certificate = None; erases = []; segments = 1 ∷ []; files = [] };
  frozen = None;
  active = record { no = 1; records = [] };
  files = [];
}

-- the disk has it and nothing else
abbrev pub IsNew : Seen → Type 0
IsNew disk = IsSettled disk new_stored × HasOnly new_stored [] disk.directory
