-- The files of a list in the order of their oldest times.
use Rattle.std.specs.Prelude.{◌≡◌, ◌≢◌, ℕ, ◌<◌, ◌≤◌, ◌==◌, Bool, not, List, [], ◌∷◌, ◌++◌, filter, AllPairs, Option, None, Some}
use Rattle.std.specs.List.{list_any}
use Rattle.lethe_due.specs.declared.due_file.DueFile.{DueFile}

pub record Due : Type 0 where
  -- by time, then by number
  pub files : List DueFile
  -- how many links can't fail
  pub spare : ℕ

-- the one of this number and this time is the file, or comes before it
pub record IsFirst (no oldest : ℕ) (file : DueFile) : Type 0 where
  pub time : oldest ≤ file.oldest
  pub number : oldest ≡ file.oldest → no ≤ file.no

-- it has a lesser time, or the same one and a lesser number
pub record ComesBefore (file other : DueFile) : Type 0 where
  pub time : file.oldest ≤ other.oldest
  pub number : file.oldest ≡ other.oldest → file.no < other.no

-- each comes before all behind it, and no number stands twice
pub record AreInOrder (files : List DueFile) : Type 0 where
  pub once : AllPairs (λ file other. file.no ≢ other.no) files
  pub ordered : AllPairs ComesBefore files

-- the new list is the old one with one file more
pub record IsWith (file : DueFile) (old new : List DueFile) : Type 0 where
  pub front : List DueFile
  pub back : List DueFile
  pub was : old ≡ front ++ back
  pub is : new ≡ front ++ file ∷ back

-- whether one of them has that number
abbrev pub is_linked : ℕ → List DueFile → Bool
is_linked number files = list_any (λ file. file.no == number) files

-- those of another number
abbrev pub without : ℕ → List DueFile → List DueFile
without number files = filter (λ file. not (file.no == number)) files

-- the number and the time of the first one
abbrev pub first_of : List DueFile → Option (ℕ × ℕ)
first_of [] = None
first_of (file ∷ files) = Some (file.no, file.oldest)
