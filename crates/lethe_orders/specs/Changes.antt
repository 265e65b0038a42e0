-- What linking and unlinking change, and how a shape changes with them.
use Rattle.std.specs.Prelude.{◌≡◌, ◌≢◌, ℕ, ◌+◌, ◌≤◌, ◌==◌, Bool, not, List, [], ◌∷◌, ◌++◌, length, filter, if◌then◌else◌, Option, Some, None, slice_get, unwrap_or}
use Rattle.lethe_base.specs.declared.shape.FileFacts.{FileFacts}
use Rattle.lethe_due.specs.Due.{Due, AreInOrder, IsWith, is_linked, without}

-- only the item at that place changes, and in that way
pub record ChangesAt {X : Type 0} (place : ℕ) (Changes : X → X → Type 0) (old new : List X) : Type 0 where
  pub count : length new ≡ length old
  pub others : (other : ℕ) → other ≢ place → slice_get new other ≡ slice_get old other
  pub there : (before after : X) → slice_get old place ≡ Some before → slice_get new place ≡ Some after → Changes before after

-- a due list with one file more, at its place
pub record IsLinked (number time : ℕ) (old new : Due) : Type 0 where
  pub with : IsWith (record { no = number; oldest = time }) old.files new.files
  pub order : AreInOrder new.files
  pub spare : new.spare + 1 ≡ old.spare

-- a file without an oldest time isn't linked
abbrev pub IsTimeLinked : ℕ → Option ℕ → Due → Due → Type 0
IsTimeLinked number None old new = new ≡ old
IsTimeLinked number (Some time) old new = IsLinked number time old new

abbrev pub IsFileLinked : FileFacts → Due → Due → Type 0
IsFileLinked file old new = IsTimeLinked file.no file.oldest old new

-- a due list without the file of that number, whose node it can link again
abbrev pub unlinked : ℕ → Due → Due
unlinked number due = record { files = without number due.files; spare = if is_linked number due.files then due.spare + 1 else due.spare }

abbrev pub IsUnlinked : ℕ → Due → Due → Type 0
IsUnlinked number old new = new ≡ unlinked number old

-- a level with one file more, wherever it stands
pub record IsWithFile (file : FileFacts) (old new : List FileFacts) : Type 0 where
  pub front : List FileFacts
  pub back : List FileFacts
  pub was : old ≡ front ++ back
  pub is : new ≡ front ++ file ∷ back

-- a level without the files of that number
abbrev pub IsWithoutFile : ℕ → List FileFacts → List FileFacts → Type 0
IsWithoutFile number old new = new ≡ filter (λ file. not (file.no == number)) old

-- each due list can link so many more files
abbrev pub HaveRoom : ℕ → List Due → Type 0
HaveRoom more orders = (level : ℕ) (due : Due) → slice_get orders level ≡ Some due → more ≤ due.spare

-- each due list has the files that it had, and no less room
pub record KeepFiles (old new : List Due) : Type 0 where
  pub count : length new ≡ length old
  pub files : (level : ℕ) (before after : Due) → slice_get old level ≡ Some before → slice_get new level ≡ Some after → after.files ≡ before.files
  pub spare : (level : ℕ) (before after : Due) → slice_get old level ≡ Some before → slice_get new level ≡ Some after → before.spare ≤ after.spare

-- the due list of a level; an empty one where it has none
abbrev pub due_at : ℕ → List Due → Due
due_at level orders = unwrap_or (slice_get orders level) (record { files = []; spare = 0 })

-- a file of that number is linked in the level's list
abbrev pub are_linked_at : ℕ → ℕ → List Due → Bool
are_linked_at level number orders = is_linked number (due_at level orders).files

-- how many files the level's list has
abbrev pub count_at : ℕ → List Due → ℕ
count_at level orders = length (due_at level orders).files
