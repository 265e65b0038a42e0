-- The files of each level: their order behind level 0, and what readers have of them.
use Rattle.std.specs.Prelude.{◌≡◌, ℕ, ◌+◌, ◌<◌, ◌==◌, List, [], length, map, filter, slice_index_or, AllPairs, IsPermutation}
use Rattle.std.specs.declared.cmp.Ordering.TheVariants.{Less}
use Rattle.lethe_base.specs.Keys.{key_cmp}
use Rattle.lethe_header.specs.Facts.{least_key, greatest_key}
use Rattle.lethe_stored.specs.Files.{StoredFile, Parts, parts_of}
use Rattle.lethe_stored.specs.Stored.{Stored}

-- behind level 0 the files of a level ascend by key and are disjoint, as they stand
abbrev pub AreRising : List StoredFile → Type 0
AreRising files = (level : ℕ) → 0 < level → AllPairs (λ a b. key_cmp (greatest_key a.header.tiles) (least_key b.header.tiles) ≡ Less) (filter (λ file. file.level == level) files)

-- the files by level, as their readers have them, in whatever order within a level
pub record HasFiles (s : Stored) (levels : List (List Parts)) : Type 0 where
  pub count : length levels ≡ s.manifest.config.levels + 1
  pub each : (level : ℕ) → level < length levels → IsPermutation (map parts_of (filter (λ file. file.level == level) s.files)) (slice_index_or levels level [])
