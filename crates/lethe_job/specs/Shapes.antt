-- The shape of stored files, by their headers; the choice of a job looks at that of a layout with the erases that are still to be done.
use Rattle.std.specs.Prelude.{ℕ, ◌+◌, ◌==◌, List, map, filter}
use Rattle.std.specs.List.{range_with_len}
use Rattle.lethe_base.specs.declared.pending.Pending.{Pending}
use Rattle.lethe_base.specs.declared.shape.FileFacts.{FileFacts}
use Rattle.lethe_base.specs.declared.shape.Shape.{Shape}
pub use Rattle.lethe_follows.specs.Young.{due_shape}
use Rattle.lethe_header.specs.Facts.{facts_of}
use Rattle.lethe_stored.specs.Files.{StoredFile}

-- the facts of the files of a level, in their order
abbrev pub facts_at : List StoredFile → ℕ → List FileFacts
facts_at files level = map (λ file. facts_of level file.swept file.header) (filter (λ file. file.level == level) files)

-- of the levels from 0 to the deepest
abbrev pub shape_of : ℕ → List StoredFile → List Pending → Shape
shape_of deepest files erases = record { levels = map (facts_at files) (range_with_len 0 (deepest + 1)); erases = erases }
