-- The shapes that orders stand for.
use Rattle.std.specs.Prelude.{◌≡◌, ℕ, ◌+◌, ◌↔◌, List, length, AllPairs, Contains, Option, Some, slice_get, option_map}
use Rattle.std.specs.List.{filter_map}
use Rattle.lethe_base.specs.Shapes.{HasOtherNumber}
use Rattle.lethe_base.specs.declared.shape.FileFacts.{FileFacts}
use Rattle.lethe_base.specs.declared.shape.Shape.{Shape}
use Rattle.lethe_due.specs.Due.{Due, AreInOrder}
use Rattle.lethe_due.specs.declared.due_file.DueFile.{DueFile}

-- a file as a due list has it, where it has an oldest time
abbrev pub timed_file : FileFacts → Option DueFile
timed_file file = option_map (λ time. record { no = file.no; oldest = time }) file.oldest

-- those of some files that have an oldest time
abbrev pub timed : List FileFacts → List DueFile
timed files = filter_map timed_file files

-- The due list has exactly those of a level's files that have an oldest time, in the order in which they expire.
pub record IsOrderOf (files : List FileFacts) (due : Due) : Type 0 where
  pub same : (file : DueFile) → Contains due.files file ↔ Contains (timed files) file
  pub order : AreInOrder due.files

-- each due list is of the files of its level
abbrev pub AreOrdersOf : List (List FileFacts) → List Due → Type 0
AreOrdersOf levels orders = (level : ℕ) (files : List FileFacts) (due : Due) → slice_get levels level ≡ Some files → slice_get orders level ≡ Some due → IsOrderOf files due

-- a due list for each level above the last, of its files
pub record StandFor (shape : Shape) (orders : List Due) : Type 0 where
  pub count : length shape.levels ≡ length orders + 1
  pub lists : AreOrdersOf shape.levels orders

-- no two files have one number
abbrev pub HaveOtherNumbers : List FileFacts → Type 0
HaveOtherNumbers files = AllPairs HasOtherNumber files
