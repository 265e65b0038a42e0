-- A disk's directory, which objects there are and the bytes of each, and what a crash may make of it.
use Rattle.std.specs.Prelude.{◌≡◌, ◌≢◌, ◌⊎◌, ℕ, ◌+◌, ◌≤◌, max, List, length, take, drop, [], ◌∷◌, ◌++◌, Option, Some, None, unwrap_or}
use Rattle.std.specs.FinMap.{FinMap, get, insert}
use Rattle.lethe_base.specs.declared.name.Name.{Name}
use Rattle.lethe_base.specs.Names.{name_cmp}

-- the bytes of each object, in the order of the names
abbrev pub Directory : Type 0
Directory = FinMap name_cmp (List ℕ)

-- what the object of that name holds, if there is one
abbrev pub object : Directory → Name → Option (List ℕ)
object directory name = get directory name

-- what it holds, and nothing where there is none
abbrev pub content : Directory → Name → List ℕ
content directory name = unwrap_or (object directory name) []

-- old with these bytes at this place, and longer by what goes past its end
abbrev pub written : List ℕ → ℕ → List ℕ → List ℕ
written old at bytes = take at old ++ bytes ++ drop (at + length bytes) old

-- the directory with these bytes at this place of an object
abbrev pub write_in : Directory → Name → ℕ → List ℕ → Directory
write_in directory name at bytes = insert directory name (written (content directory name) at bytes)

-- every other object is as it was
abbrev pub SameBut : Name → Directory → Directory → Type 0
SameBut name old new = (other : Name) → other ≢ name → object new other ≡ object old other

-- none of these names
abbrev pub IsNoneOf : List Name → Name → Type 0
IsNoneOf [] other = Unit {0}
IsNoneOf (name ∷ names) other = (other ≢ name) × IsNoneOf names other

-- every object but these is as it was
abbrev pub SameBeside : List Name → Directory → Directory → Type 0
SameBeside names old new = (other : Name) → IsNoneOf names other → object new other ≡ object old other

-- What a crash may make of a directory in one call, as long as no sync follows.

-- an object that was created may be absent or hold any bytes
pub record IsCreated (name : Name) (old new : Directory) : Type 0 where
  pub others : SameBut name old new

-- after a write of n bytes that a crash cuts short: any bytes in the range and past the old end, the same elsewhere
pub record Torn (at n : ℕ) (old new : List ℕ) : Type 0 where
  pub before : take at new ≡ take at old
  pub after : drop (at + n) new ≡ drop (at + n) old
  pub no_shorter : length old ≤ length new
  pub no_longer : length new ≤ max (length old) (at + n)

-- of an object that was written, the range may hold any bytes
pub record IsWritten (name : Name) (at n : ℕ) (old new : Directory) : Type 0 where
  pub others : SameBut name old new
  pub absent : object old name ≡ None → object new name ≡ None
  pub torn : (bytes : List ℕ) → object old name ≡ Some bytes → (left : List ℕ) × (object new name ≡ Some left) × Torn at n bytes left

-- an object that was removed may be there or not
pub record IsRemoved (name : Name) (old new : Directory) : Type 0 where
  pub others : SameBut name old new
  pub either : (object new name ≡ None) ⊎ (object new name ≡ object old name)

-- nothing was changed
abbrev pub IsSame : Directory → Directory → Type 0
IsSame old new = new ≡ old
