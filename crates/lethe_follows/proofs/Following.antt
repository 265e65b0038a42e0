-- What is stored follows its history, as a layout.
use Rattle.std.proofs.Common.{◌≡◌, ℕ, zero, suc, ◌+◌, ◌<◌, ◌≤◌, List, map, length, Contains, refl, sym, ◌∙◌, subst, arith}
use Rattle.std.specs.List.{range_with_len}
use Rattle.std.proofs.lemmas.List.Elements.{All-contains}
use Rattle.std.proofs.lemmas.List.FromFn.{get_or-map-range_with_len, length-map-range_with_len}
use Rattle.lethe_base.specs.History.{History}
use Rattle.lethe_base.specs.Layout.{File, files_of}
use Rattle.lethe_cover.proofs.Common.{⊎_elim, files_in, first_is, first_or_rest}
use Rattle.lethe_cover.proofs.Lists.{all_from, flat_from, flat_in, in_map, in_rest, map_from}
use Rattle.lethe_moves.specs.Files.{IsTiled}
use Rattle.lethe_moves.specs.Reaches.{Follows}
use Rattle.lethe_stored.specs.Files.{StoredFile, IsFile, file_of, at_level, levels_of}
use Rattle.lethe_stored.specs.Kept.{IsFor}
use Rattle.lethe_stored.specs.Stored.{Stored, IsCoherent, layout_of}
use Rattle.lethe_stored.proofs.Changes.{counted}
use Rattle.lethe_stored.proofs.Leveled.{of_level, from_level, in_level}
use Rattle.lethe_follows.proofs.Tiled.{file_tiled}

-- Levels

-- a level of the layout is that of a number
level_from : (deepest : ℕ) (files : List StoredFile) (level : List File) → Contains (levels_of deepest files) level → (number : ℕ) × (number ≤ deepest) × (at_level files number ≡ level)
level_from deepest files level there = ⊎_elim (λ same. (0, omega arith, same)) behind (first_or_rest (at_level files 0) (map (at_level files) (range_with_len 1 deepest)) level there)
  where
    behind : Contains (map (at_level files) (range_with_len 1 deepest)) level → (number : ℕ) × (number ≤ deepest) × (at_level files number ≡ level)
    behind rest =
        let within : rest.0 < deepest = omega (arith, rest.1, length-map-range_with_len (at_level files) 1 deepest) in
        (1 + rest.0, omega arith, sym (get_or-map-range_with_len (at_level files) 1 deepest rest.0 (1 + rest.0) level within refl) ∙ rest.2)

level_in : (deepest : ℕ) (files : List StoredFile) (number : ℕ) → number ≤ deepest → Contains (levels_of deepest files) (at_level files number)
level_in deepest files zero le = first_is (at_level files 0) (map (at_level files) (range_with_len 1 deepest)) (at_level files 0) refl
level_in deepest files (suc place) le = in_rest (at_level files 0) (map (at_level files) (range_with_len 1 deepest)) (at_level files (suc place)) (
  place,
  omega (arith, length-map-range_with_len (at_level files) 1 deepest),
  get_or-map-range_with_len (at_level files) 1 deepest place (suc place) (at_level files (suc place)) (omega arith) (omega arith),
)

pub length-levels : (deepest : ℕ) (files : List StoredFile) → length (levels_of deepest files) ≡ deepest + 1
length-levels deepest files = omega (arith, length-map-range_with_len (at_level files) 1 deepest)

-- each file of the layout is a stored file of one of the levels
pub file_from : (deepest : ℕ) (files : List StoredFile) (file : File) → Contains (files_in (levels_of deepest files)) file → (stored : StoredFile) × Contains files stored × (stored.level ≤ deepest) × (file_of stored ≡ file)
file_from deepest files file there =
    let found = flat_from (λ files. files) (levels_of deepest files) file there in
    let level = level_from deepest files found.0 found.1 in
    let mapped = map_from file_of (of_level files level.0) file (subst (λ (level : List File). Contains level file) (sym level.2) found.2) in
    let stored = from_level files level.0 mapped.0 mapped.1 in
    let low = level.1 in
    let same = stored.1 in
    (mapped.0, stored.0, omega (arith, low, same), mapped.2)

pub file_in : (deepest : ℕ) (files : List StoredFile) (stored : StoredFile) → Contains files stored → stored.level ≤ deepest → Contains (files_in (levels_of deepest files)) (file_of stored)
file_in deepest files stored there low = flat_in (λ files. files) (levels_of deepest files) (at_level files stored.level) (file_of stored)
    (level_in deepest files stored.level low) (in_map file_of (of_level files stored.level) stored (in_level files stored.level stored there refl))

-- The order

pub follows : (h : History) (s : Stored) → IsCoherent s → IsFor h s → Follows s.manifest.config.threshold h (layout_of s)
follows h s coherent stands = record {
  covers = stands.covers;
  counted = counted h s coherent stands;
  clock = stands.clock;
  ordered = record {
    tiled = all_from IsTiled (files_of (layout_of s)) (λ file there.
        let found = file_from s.manifest.config.levels s.files file there in
        subst IsTiled found.3 (file_tiled s.manifest.next found.0 (All-contains (IsFile s.manifest.next) s.files found.0 coherent.each found.1)));
    shape = stands.shape;
    deep = omega (arith, length-levels s.manifest.config.levels s.files, coherent.spelled.config.levels);
  };
}
