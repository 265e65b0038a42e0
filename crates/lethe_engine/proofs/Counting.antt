-- How many files and tombstones there are.
use Rattle.std.proofs.Common.{◌≡◌, ◌<◌, ◌≤◌, ℕ, zero, suc, ◌+◌, ◌-◌, ◌^◌, min, List, [], ◌∷◌, ◌++◌, map, length, Contains, get_or, take, refl, sym, ap, ◌∙◌, append-nil, length-append, arith}
use Rattle.std.specs.Prelude.{flat_map, sum_by}
use Rattle.std.proofs.lemmas.Grind.{flat_map-append}
use Rattle.std.proofs.lemmas.List.{length-map, take_more}
use Rattle.std.proofs.lemmas.List.Elements.{All-contains}
use Rattle.std.proofs.lemmas.List.FromFn.{get_or-map-range_with_len, length-map-range_with_len}
use Rattle.std.proofs.lemmas.List.Sorted.{sum_by-IsPermutation}
use Rattle.std.proofs.lemmas.List.Sums.{sum_by-append, sum_by-cons}
use Rattle.lethe_base.specs.Layout.{File}
use Rattle.lethe_base.specs.Shapes.{all_files, facts_from, shape_of}
use Rattle.lethe_base.specs.Shapes as shapes
use Rattle.lethe_base.specs.declared.shape.FileFacts.{FileFacts}
use Rattle.lethe_base.proofs.Newest.{first_is}
use Rattle.lethe_disk.specs.declared.disk.Disk.{Ghosts}
use Rattle.lethe_header.specs.Facts.{lines_of, tombs_in}
use Rattle.lethe_stored.specs.Files.{StoredFile, IsFile, Parts, parts_of, file_of, at_level, levels_of}
use Rattle.lethe_stored.specs.Levels.{HasFiles}
use Rattle.lethe_stored.specs.Stored.{Stored, IsCoherent, layout_of}
use Rattle.lethe_stored.proofs.FileFacts.{facts_are}
use Rattle.lethe_stored.proofs.Lists.{later_in}
use Rattle.lethe_stored.proofs.Leveled.{of_level, from_level}
use Rattle.lethe_version.specs.Versions.{files_of}
use Rattle.lethe_version.specs.Versions as versions
use Rattle.lethe_version.specs.declared.version.Version.{Version}
use Rattle.lethe_advance.specs.Shown.{parts_by_level, parts_in}
use Rattle.lethe_engine.specs.Capped.{capped}

-- Counts that have a last value

pub capped_more : (a b : ℕ) → min (capped a + b) (2 ^ 64 - 1) ≡ capped (a + b)
capped_more a b = omega arith

pub capped_sum : (a b : ℕ) → min (capped a + capped b) (2 ^ 64 - 1) ≡ capped (a + b)
capped_sum a b = omega arith

-- Sums over lists of lists

pub sum_by-map : {X Y : Type 0} (f : Y → ℕ) (g : X → Y) (xs : List X) → sum_by f (map g xs) ≡ sum_by (λ x. f (g x)) xs
sum_by-map f g [] = refl
sum_by-map f g (x ∷ xs) = sum_by-cons f (g x) (map g xs) ∙ ap (λ n. f (g x) + n) (sum_by-map f g xs) ∙ sym (sum_by-cons (λ x. f (g x)) x xs)

sum_same : {X : Type 0} (f g : X → ℕ) (xs : List X) → ((x : X) → Contains xs x → f x ≡ g x) → sum_by f xs ≡ sum_by g xs
sum_same f g [] same = refl
sum_same f g (x ∷ xs) same = sum_by-cons f x xs ∙ (λ i. same x (first_is x xs x refl) i + sum_same f g xs (λ y there. same y (later_in x xs y there)) i) ∙ sym (sum_by-cons g x xs)

length_sum : {X : Type 0} (xs : List X) → length xs ≡ sum_by (λ x. 1) xs
length_sum [] = refl
length_sum {X} (x ∷ xs) = let rest = length_sum xs in let more = sum_by-cons (λ (x : X). 1) x xs in omega (arith, rest, more)

module _ {X : Type 0} (levels : List (List X)) (i : ℕ) (within : i < length levels) where
  flat_more : flat_map (λ files. files) (take (i + 1) levels) ≡ flat_map (λ files. files) (take i levels) ++ get_or levels i []
  flat_more = ap (flat_map (λ files. files)) (take_more levels i [] within)
      ∙ flat_map-append (λ (files : List X). files) (take i levels) (get_or levels i [] ∷ [])
      ∙ ap (λ l. flat_map (λ files. files) (take i levels) ++ l) (append-nil (get_or levels i []))

  pub length_more : length (flat_map (λ files. files) (take (i + 1) levels)) ≡ length (flat_map (λ files. files) (take i levels)) + length (get_or levels i [])
  length_more = ap length flat_more ∙ length-append (flat_map (λ files. files) (take i levels)) (get_or levels i [])

  pub sum_more : (f : X → ℕ) → sum_by f (flat_map (λ files. files) (take (i + 1) levels)) ≡ sum_by f (flat_map (λ files. files) (take i levels)) + sum_by f (get_or levels i [])
  sum_more f = ap (sum_by f) flat_more ∙ sum_by-append f (flat_map (λ files. files) (take i levels)) (get_or levels i [])

by_levels : {X Y : Type 0} (f : X → ℕ) (g : Y → ℕ) (xs : List (List X)) (ys : List (List Y)) → length xs ≡ length ys → ((i : ℕ) → i < length xs → sum_by f (get_or xs i []) ≡ sum_by g (get_or ys i []))
    → sum_by f (flat_map (λ files. files) xs) ≡ sum_by g (flat_map (λ files. files) ys)
by_levels f g [] [] same each = refl
by_levels f g [] (y ∷ ys) same each = absurd (omega arith)
by_levels f g (x ∷ xs) [] same each = absurd (omega arith)
by_levels f g (x ∷ xs) (y ∷ ys) same each =
    sum_by-append f x (flat_map (λ files. files) xs)
    ∙ (λ i. each 0 (omega arith) i + by_levels f g xs ys (omega arith) (λ k lt. each (suc k) (omega arith)) i)
    ∙ sym (sum_by-append g y (flat_map (λ files. files) ys))

-- The levels of a layout

get_or-facts : (level : ℕ) (levels : List (List File)) (i : ℕ) → get_or (facts_from level levels) i [] ≡ map (shapes.facts_of (level + i)) (get_or levels i [])
get_or-facts level [] i = refl
get_or-facts level (files ∷ levels) zero = ap (λ n. map (shapes.facts_of n) files) (let same : level ≡ level + 0 = omega arith in same)
get_or-facts level (files ∷ levels) (suc i) = get_or-facts (level + 1) levels i ∙ ap (λ n. map (shapes.facts_of n) (get_or levels i [])) (let same : level + 1 + i ≡ level + suc i = omega arith in same)

length-facts : (level : ℕ) (levels : List (List File)) → length (facts_from level levels) ≡ length levels
length-facts level [] = refl
length-facts level (files ∷ levels) = ap suc (length-facts (level + 1) levels)

get_or-levels : (deepest : ℕ) (files : List StoredFile) (i : ℕ) → i ≤ deepest → get_or (levels_of deepest files) i [] ≡ at_level files i
get_or-levels deepest files zero le = refl
get_or-levels deepest files (suc place) le = get_or-map-range_with_len (at_level files) 1 deepest place (suc place) [] (omega arith) (omega arith)

get_or-mapped : {X Y : Type 0} (f : X → Y) (levels : List (List X)) (i : ℕ) → get_or (map (map f) levels) i [] ≡ map f (get_or levels i [])
get_or-mapped f [] i = refl
get_or-mapped f (files ∷ levels) zero = refl
get_or-mapped f (files ∷ levels) (suc i) = get_or-mapped f levels i

-- The files of a version and those of the shape

module _ {D Page Port : Type 0} {kind : Ghosts D Page Port} (version : Version D Page Port kind) (s : Stored) (coherent : IsCoherent s) (has : HasFiles s (parts_by_level version)) where
  abbrev facts : List (List FileFacts)
  facts = facts_from 0 (levels_of s.manifest.config.levels s.files)

  length_levels : length (versions.levels_of version) ≡ length facts
  length_levels =
      let mapped = length-map (versions.levels_of version) (map parts_in) in
      let count = has.count in
      let known = length-facts 0 (levels_of s.manifest.config.levels s.files) in
      let range = length-map-range_with_len (at_level s.files) 1 s.manifest.config.levels in
      omega (arith, mapped, count, known, range)

  module _ (f : Parts → ℕ) (g : FileFacts → ℕ) (same : (level : ℕ) (file : StoredFile) → IsFile s.manifest.next file → f (parts_of file) ≡ g (shapes.facts_of level (file_of file))) where
    at_one : (i : ℕ) → i < length (versions.levels_of version) → sum_by (λ file. f (parts_in file)) (get_or (versions.levels_of version) i []) ≡ sum_by g (get_or facts i [])
    at_one i within =
        let mapped = length-map (versions.levels_of version) (map parts_in) in
        let count = has.count in
        let below : i < length (parts_by_level version) = omega (arith, mapped, within) in
        let low : i ≤ s.manifest.config.levels = omega (arith, mapped, count, within) in
        let its = of_level s.files i in
        sym (sum_by-map f parts_in (get_or (versions.levels_of version) i []))
        ∙ ap (sum_by f) (sym (get_or-mapped parts_in (versions.levels_of version) i))
        ∙ sum_by-IsPermutation f (map parts_of its) (get_or (parts_by_level version) i []) (has.each i below)
        ∙ sum_by-map f parts_of its
        ∙ sum_same (λ file. f (parts_of file)) (λ file. g (shapes.facts_of i (file_of file))) its (λ file there. same i file (All-contains (IsFile s.manifest.next) s.files file coherent.each (from_level s.files i file there).0))
        ∙ sym (sum_by-map (λ (file : File). g (shapes.facts_of i file)) file_of its)
        ∙ sym (sum_by-map g (shapes.facts_of i) (at_level s.files i))
        ∙ ap (λ l. sum_by g (map (shapes.facts_of i) l)) (sym (get_or-levels s.manifest.config.levels s.files i low))
        ∙ ap (λ n. sum_by g (map (shapes.facts_of n) (get_or (levels_of s.manifest.config.levels s.files) i []))) (let zero_more : i ≡ 0 + i = omega arith in zero_more)
        ∙ ap (sum_by g) (sym (get_or-facts 0 (levels_of s.manifest.config.levels s.files) i))

    all_sums : sum_by (λ file. f (parts_in file)) (files_of version) ≡ sum_by g (all_files (shape_of (layout_of s)))
    all_sums = by_levels (λ file. f (parts_in file)) g (versions.levels_of version) facts length_levels at_one

  pub count_files : length (files_of version) ≡ length (all_files (shape_of (layout_of s)))
  count_files = length_sum (files_of version) ∙ all_sums (λ parts. 1) (λ file. 1) (λ level file is. refl) ∙ sym (length_sum (all_files (shape_of (layout_of s))))

  pub count_tombs : sum_by (λ file. tombs_in (lines_of file.header.tiles)) (files_of version) ≡ sum_by (λ (file : FileFacts). file.tombs) (all_files (shape_of (layout_of s)))
  count_tombs = all_sums (λ (parts : Parts). tombs_in (lines_of parts.header.tiles)) (λ (file : FileFacts). file.tombs) (λ level file is. ap (λ (facts : FileFacts). facts.tombs) (facts_are s.manifest.next level file is))
