-- Objects are removed one after the other.
use Rattle.std.specs.Prelude.{◌≡◌, ◌⊎◌, List, [], ◌∷◌, IsSome, None}
use Rattle.std.specs.FinMap.{remove}
use Rattle.lethe_base.specs.declared.name.Name.{Name}
use Rattle.lethe_disk.specs.Directory.{Directory, object, SameBeside}

-- they are there, and each name stands once
abbrev pub ArePresent : List Name → Directory → Type 0
ArePresent [] directory = Unit {0}
ArePresent (name ∷ names) directory = IsSome (object directory name) × ArePresent names (remove directory name)

-- the directory without these objects
abbrev pub remove_all : List Name → Directory → Directory
remove_all [] directory = directory
remove_all (name ∷ names) directory = remove_all names (remove directory name)

-- every object but these is as it was, and each of these is so too or absent
pub record IsCleared (names : List Name) (old left : Directory) : Type 0 where
  pub others : SameBeside names old left
  pub either : (name : Name) → (object left name ≡ None) ⊎ (object left name ≡ object old name)
