-- The shape of the stored files is that of the layout.
use Rattle.std.proofs.Common.{◌≡◌, ℕ, zero, suc, ◌+◌, List, [], ◌∷◌, map, refl, sym, ap, ◌∙◌, arith}
use Rattle.std.specs.Prelude.{Contains}
use Rattle.std.specs.List.{range_with_len}
use Rattle.lethe_base.specs.Shapes as shapes
use Rattle.lethe_base.specs.Spent.{left_erases}
use Rattle.lethe_base.specs.declared.shape.Shape.{Shape}
use Rattle.lethe_cover.proofs.Lists.{in_rest}
use Rattle.lethe_cover.proofs.Common.{first_is}
use Rattle.lethe_header.specs.Facts.{facts_of}
use Rattle.lethe_stored.specs.Files.{StoredFile, IsFile, at_level, file_of}
use Rattle.lethe_stored.specs.Stored.{Stored, IsCoherent, layout_of, pending_of}
use Rattle.lethe_stored.proofs.FileFacts.{facts_are}
use Rattle.lethe_stored.proofs.Leveled.{from_level, of_level}
use Rattle.std.proofs.lemmas.List.Elements.{All-contains}
use Rattle.lethe_job.specs.Shapes.{due_shape, facts_at, shape_of}

facts_same : (next level : ℕ) (files : List StoredFile) → ((file : StoredFile) → Contains files file → IsFile next file)
    → map (λ file. facts_of level file.swept file.header) files ≡ map (shapes.facts_of level) (map file_of files)
facts_same next level [] each = refl
facts_same next level (file ∷ files) each = λ i. facts_are next level file (each file (first_is file files file refl)) i ∷ facts_same next level files (λ other there. each other (in_rest file files other there)) i

module _ (next : ℕ) (files : List StoredFile) (each : (file : StoredFile) → Contains files file → IsFile next file) where
  pub level_same : (level : ℕ) → facts_at files level ≡ map (shapes.facts_of level) (at_level files level)
  level_same level = facts_same next level (of_level files level) (λ file there. each file (from_level files level file there).0)

  levels_same : (first count : ℕ) → map (facts_at files) (range_with_len first count) ≡ shapes.facts_from first (map (at_level files) (range_with_len first count))
  levels_same first zero = refl
  levels_same first (suc count) = λ i. level_same first i ∷ levels_same (first + 1) count i

pub shape_same : (s : Stored) → IsCoherent s → shape_of s.manifest.config.levels s.files (pending_of s) ≡ shapes.shape_of (layout_of s)
shape_same s coherent =
    let each = λ (file : StoredFile) (there : Contains s.files file). All-contains (IsFile s.manifest.next) s.files file coherent.each there in
    let same = levels_same s.manifest.next s.files each 0 (suc s.manifest.config.levels) in
    let count : s.manifest.config.levels + 1 ≡ suc s.manifest.config.levels = omega arith in
    (λ i. record { levels = map (facts_at s.files) (range_with_len 0 (count i)); erases = pending_of s }) ∙ (λ i. record { levels = same i; erases = pending_of s })

-- with the erases that are still to be done
pub due_shape_same : (s : Stored) → IsCoherent s → due_shape (layout_of s) ≡ shape_of s.manifest.config.levels s.files (left_erases (layout_of s))
due_shape_same s coherent = ap (λ (shape : Shape). record shape { erases = left_erases (layout_of s) }) (sym (shape_same s coherent))
