-- Objects are created one after the other.
use Rattle.std.specs.Prelude.{◌≡◌, ◌≢◌, List, [], ◌∷◌, All, AllPairs, None}
use Rattle.std.specs.FinMap.{insert}
use Rattle.lethe_base.specs.declared.name.Name.{Name}
use Rattle.lethe_disk.specs.Directory.{Directory, object}
use Rattle.lethe_commit.specs.declared.objects.Object.{Object}

abbrev pub name_of : Object → Name
name_of made = made.name

-- none of them is there, and their names differ
pub record AreAbsent (objects : List Object) (directory : Directory) : Type 0 where
  pub each : All (λ made. object directory made.name ≡ None) objects
  pub apart : AllPairs (λ made other. made.name ≢ other.name) objects

-- the directory with these objects
abbrev pub insert_all : List Object → Directory → Directory
insert_all [] directory = directory
insert_all (made ∷ objects) directory = insert_all objects (insert directory made.name made.bytes)
