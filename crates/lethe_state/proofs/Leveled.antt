-- The files by level, as the readers have them, and those that are stored.
use Rattle.std.proofs.Common.{◌≡◌, ◌<◌, Bool, true, false, List, [], ◌∷◌, ◌++◌, length, map, All, Any, Contains, refl, sym, ap, ◌∙◌, subst, arith}
use Rattle.std.specs.Prelude.{flat_map, slice_index_or}
use Rattle.std.proofs.lemmas.List.{get_or_default, map-append}
use Rattle.std.proofs.lemmas.List.Elements.{All-contains, Contains-get_or}
use Rattle.std.proofs.lemmas.List.Sorted.{Contains-permutation, IsPermutation-sym}
use Rattle.lethe_base.specs.Keys.{Bytes}
use Rattle.lethe_base.specs.declared.entry.Entry.{Entry}
use Rattle.lethe_cover.proofs.Lists.{all_from, flat_from, flat_in, in_map, map_from}
use Rattle.lethe_file.specs.Agreement.{FileAgrees, entries_in}
use Rattle.lethe_follows.specs.Holders.{IsPaged, pages_in, pages_of}
use Rattle.lethe_stored.specs.Files.{StoredFile, IsFile, Parts, parts_of}
use Rattle.lethe_stored.specs.Levels.{HasFiles}
use Rattle.lethe_stored.specs.Stored.{Stored, IsCoherent}
use Rattle.lethe_stored.proofs.Leveled.{of_level, from_level, in_level, low_level}
use Rattle.lethe_version.specs.Probing.{bound}
use Rattle.lethe_version.proofs.Whole.{key_may}
use Rattle.lethe_state.specs.Records.{headers_in}

abbrev pub all_parts : List (List Parts) → List Parts
all_parts levels = flat_map (λ files. files) levels

-- Some element of a list

any_at : {X : Type 0} (P : X → Type 0) (xs : List X) (x : X) → Contains xs x → P x → Any P xs
any_at P xs x there holds = (there.0, x, there.1, there.2, holds)

some_at : {X : Type 0} (P : X → Type 0) (xs : List X) → Any P xs → (x : X) × Contains xs x × P x
some_at P xs any = (any.1, (any.0, any.2, any.3), any.4)

pub any_mapped : {X Y : Type 0} (P : Y → Type 0) (f : X → Y) (xs : List X) → Any (λ x. P (f x)) xs → Any P (map f xs)
any_mapped P f xs any = let found = some_at (λ x. P (f x)) xs any in any_at P (map f xs) (f found.0) (in_map f xs found.0 found.1) found.2

pub any_unmapped : {X Y : Type 0} (P : Y → Type 0) (f : X → Y) (xs : List X) → Any P (map f xs) → Any (λ x. P (f x)) xs
any_unmapped P f xs any =
    let found = some_at P (map f xs) any in
    let from = map_from f xs found.0 found.1 in
    any_at (λ x. P (f x)) xs from.0 from.1 (subst P (sym from.2) found.2)

-- The headers of a version's files

pub headers_same : {F : Type 0} (parts : F → Parts) (levels : List (List F)) → headers_in (map (map parts) levels) ≡ map (λ file. (parts file).header) (flat_map (λ files. files) levels)
headers_same parts [] = refl
headers_same parts (files ∷ levels) =
    map-append (λ (p : Parts). p.header) (map parts files) (all_parts (map (map parts) levels))
    ∙ (λ i. twice files i ++ headers_same parts levels i)
    ∙ sym (map-append (λ file. (parts file).header) files (flat_map (λ files. files) levels))
  where
    twice : (files : List _) → map (λ (p : Parts). p.header) (map parts files) ≡ map (λ file. (parts file).header) files
    twice [] = refl
    twice (file ∷ files) = ap (λ l. (parts file).header ∷ l) (twice files)

-- The stored files

module _ (s : Stored) (coherent : IsCoherent s) (levels : List (List Parts)) (has : HasFiles s levels) where
  pub parts_to : (file : StoredFile) → Contains s.files file → Contains (all_parts levels) (parts_of file)
  parts_to file there =
      let count = has.count in
      let low = low_level s coherent file there in
      let within : file.level < length levels = omega (arith, count, low) in
      let level = slice_index_or levels file.level [] in
      flat_in (λ files. files) levels level (parts_of file) (Contains-get_or levels file.level [] within)
      (Contains-permutation (map parts_of (of_level s.files file.level)) level (parts_of file) (has.each file.level within) (in_map parts_of (of_level s.files file.level) file (in_level s.files file.level file there refl)))

  pub parts_from : (parts : Parts) → Contains (all_parts levels) parts → (file : StoredFile) × Contains s.files file × (parts_of file ≡ parts)
  parts_from parts there =
      let found = flat_from (λ files. files) levels parts there in
      let number = (found.1).0 in
      let within : number < length levels = (found.1).1 in
      let level = slice_index_or levels number [] in
      let same : level ≡ found.0 = get_or_default levels number [] found.0 within ∙ (found.1).2 in
      let mapped = map_from parts_of (of_level s.files number) parts (Contains-permutation level (map parts_of (of_level s.files number)) parts
      (IsPermutation-sym (map parts_of (of_level s.files number)) level (has.each number within)) (subst (λ files. Contains files parts) (sym same) found.2)) in
      (mapped.0, (from_level s.files number mapped.0 mapped.1).0, mapped.2)

  parts_agree : All (λ (parts : Parts). FileAgrees parts.header.tiles parts.pages) (all_parts levels)
  parts_agree = all_from (λ (parts : Parts). FileAgrees parts.header.tiles parts.pages) (all_parts levels) (λ parts there.
      let from = parts_from parts there in
      subst (λ (parts : Parts). FileAgrees parts.header.tiles parts.pages) from.2 (All-contains (IsFile s.manifest.next) s.files from.0 coherent.each from.1).agrees)

  -- where a page has an entry of a key, a page may have one
  pub paged_may : (key : Bytes) (entry : Entry) → IsPaged levels entry → entry.key ≡ key → Any (λ header. 0 < bound key header) (headers_in levels)
  paged_may key entry paged same =
      let pages = some_at (λ file. Any (λ page. Contains page entry) file) (pages_in levels) paged in
      let parts = map_from pages_of (all_parts levels) pages.0 pages.1 in
      let any : Any (λ page. Contains page entry) (map entries_in (parts.0).pages) = subst (λ pages. Any (λ page. Contains page entry) pages) (sym parts.2) pages.2 in
      any_mapped (λ header. 0 < bound key header) (λ (p : Parts). p.header) (all_parts levels)
      (key_may (λ (p : Parts). p.header) (λ (p : Parts). p.pages) key (all_parts levels) parts_agree (((parts.1).0, parts.0, (parts.1).1, (parts.1).2, (entry, (any, same)))))

-- a test has one answer
pub clash : (b : Bool) → b ≡ true → b ≡ false → ⊥
clash b is not = cc
