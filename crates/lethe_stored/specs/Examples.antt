-- The two smallest stores, byte by byte.
use Rattle.std.specs.Prelude.{◌≡◌, ℕ, List, [], ◌∷◌, Some}
use Rattle.lethe_base.specs.History.{History}
use Rattle.lethe_base.specs.Examples.{put_alone}
use Rattle.lethe_base.specs.declared.config.Fields.{Fields}
use Rattle.lethe_base.specs.declared.config.Pick.TheVariants.{So}
use Rattle.lethe_disk.specs.Directory.{Directory, object}
use Rattle.lethe_commit.specs.Switch.{manifest_name, HasGreatest}
use Rattle.lethe_stored.specs.Stored.{segment_name}

-- a small configuration: threshold 100, ratio 2, levels 2, page 2, tile 2, file 2, buffer 4, pick so
abbrev pub small : Fields
small = record { threshold = 100; ratio = 2; levels = 2; page = 2; tile = 2; file = 2; buffer = 4; pick = So }

-- manifest 2, which cites segment 1, with 3 as the next number: 71 bytes
abbrev pub new_manifest : List ℕ
new_manifest = 76 ∷ 77 ∷ 1 ∷ 0 ∷ 0 ∷ 0 ∷ 0 ∷ 0 ∷ 0 ∷ 0 ∷ 2 ∷ 0 ∷ 0 ∷ 0 ∷ 0 ∷ 0 ∷ 0 ∷ 0 ∷ 100 ∷ 2 ∷ 2 ∷ 0 ∷ 2 ∷ 2 ∷ 0 ∷ 2 ∷ 0 ∷ 4 ∷ 0 ∷ 0 ∷ 0 ∷ 0 ∷ 0 ∷ 0 ∷ 0 ∷ 0 ∷ 0 ∷ 0 ∷ 0 ∷ 0 ∷ 0 ∷ 0 ∷ 0 ∷ 0 ∷ 0 ∷ 0 ∷ 0 ∷ 0 ∷ 0 ∷ 0 ∷ 0 ∷ 0 ∷ 3 ∷ 0 ∷ 0 ∷ 0 ∷ 0 ∷ 0 ∷ 1 ∷ 0 ∷ 0 ∷ 0 ∷ 0 ∷ 0 ∷ 0 ∷ 0 ∷ 1 ∷ 0 ∷ 0 ∷ 0 ∷ 0 ∷ []

-- segment 1 without a record
abbrev pub new_segment : List ℕ
new_segment = 76 ∷ 83 ∷ 1 ∷ 0 ∷ 0 ∷ 0 ∷ 0 ∷ 0 ∷ 0 ∷ 0 ∷ 1 ∷ 0 ∷ []

-- manifest 4, which cites segment 3, with 5 as the next number
abbrev pub put_manifest : List ℕ
put_manifest = 76 ∷ 77 ∷ 1 ∷ 0 ∷ 0 ∷ 0 ∷ 0 ∷ 0 ∷ 0 ∷ 0 ∷ 4 ∷ 0 ∷ 0 ∷ 0 ∷ 0 ∷ 0 ∷ 0 ∷ 0 ∷ 100 ∷ 2 ∷ 2 ∷ 0 ∷ 2 ∷ 2 ∷ 0 ∷ 2 ∷ 0 ∷ 4 ∷ 0 ∷ 0 ∷ 0 ∷ 0 ∷ 0 ∷ 0 ∷ 0 ∷ 0 ∷ 0 ∷ 0 ∷ 0 ∷ 0 ∷ 0 ∷ 0 ∷ 0 ∷ 0 ∷ 0 ∷ 0 ∷ 0 ∷ 0 ∷ 0 ∷ 0 ∷ 0 ∷ 0 ∷ 5 ∷ 0 ∷ 0 ∷ 0 ∷ 0 ∷ 0 ∷ 1 ∷ 0 ∷ 0 ∷ 0 ∷ 0 ∷ 0 ∷ 0 ∷ 0 ∷ 3 ∷ 0 ∷ 0 ∷ 0 ∷ 0 ∷ []

-- segment 3 with the put of the key `a`, the delete key 5 and the value `x` at place 1: 36 bytes
abbrev pub put_segment : List ℕ
put_segment = 76 ∷ 83 ∷ 1 ∷ 0 ∷ 0 ∷ 0 ∷ 0 ∷ 0 ∷ 0 ∷ 0 ∷ 3 ∷ 1 ∷ 1 ∷ 0 ∷ 0 ∷ 0 ∷ 0 ∷ 0 ∷ 0 ∷ 0 ∷ 1 ∷ 0 ∷ 1 ∷ 97 ∷ 0 ∷ 0 ∷ 0 ∷ 0 ∷ 0 ∷ 0 ∷ 0 ∷ 5 ∷ 0 ∷ 1 ∷ 120 ∷ 0 ∷ []

pub record IsNewStore (d : Directory) : Type 0 where
  pub gate : HasGreatest (Some 2) d
  pub manifest : object d (manifest_name 2) ≡ Some new_manifest
  pub segment : object d (segment_name 1) ≡ Some new_segment

pub record IsOnePut (d : Directory) : Type 0 where
  pub gate : HasGreatest (Some 4) d
  pub manifest : object d (manifest_name 4) ≡ Some put_manifest
  pub segment : object d (segment_name 3) ≡ Some put_segment

-- that put, and nothing else
abbrev pub the_put : ℕ → History
the_put caller = put_alone caller (97 ∷ []) 5 (120 ∷ [])
