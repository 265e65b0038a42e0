-- The files of a version that are cited, which are those that are stored.
use Rattle.std.proofs.Common.{◌≡◌, ◌≢◌, ℕ, ◌+◌, ◌<◌, List, [], ◌∷◌, ◌++◌, get_or, length, take, map, sym, ap, ◌∙◌, subst, arith}
use Rattle.std.specs.Prelude.{Contains, slice_index_or}
use Rattle.std.proofs.lemmas.List.{get_or-map, length-map, map-append, take_more}
use Rattle.std.proofs.lemmas.List.Elements.{Contains-get_or}
use Rattle.std.proofs.lemmas.List.Sorted.{Contains-permutation, IsPermutation-sym}
use Rattle.lethe_cover.proofs.Lists.{in_map, map_from, pairs_from}
use Rattle.lethe_manifest.specs.declared.manifest.Cited.{Cited}
use Rattle.lethe_stored.specs.Files.{StoredFile, Parts, cited_of, parts_of}
use Rattle.lethe_stored.specs.Levels.{HasFiles}
use Rattle.lethe_stored.specs.Stored.{Stored, IsCoherent}
use Rattle.lethe_stored.proofs.Leveled.{from_level, of_level}
use Rattle.lethe_job.specs.Tasks.{IsCitedAs}
use Rattle.lethe_job.proofs.Listed.{one_numbered}

abbrev number_in : StoredFile → ℕ
number_in file = file.header.no

-- a file of a level is there as readers have it
parts_there : {V : Type 0} (view : V → Parts) (levels : List (List V)) (level : ℕ) (v : V) (parts : Parts) → view v ≡ parts → level < length levels → Contains (slice_index_or levels level []) v
    → Contains (slice_index_or (map (map view) levels) level []) parts
parts_there view levels level v parts seen low there =
    let here : slice_index_or (map (map view) levels) level [] ≡ map view (slice_index_or levels level []) = get_or-map (map view) levels level [] [] low in
    subst (λ l. Contains l parts) (sym here) (subst (Contains (map view (slice_index_or levels level []))) seen (in_map view (slice_index_or levels level []) v there))

pub cited_as : {V : Type 0} (view : V → Parts) (levels : List (List V)) (cited : Cited) (file : StoredFile) (v : V) → file.level ≡ cited.level → file.swept ≡ cited.swept → file.header.no ≡ cited.no → view v ≡ parts_of file
    → cited.level < length levels → Contains (slice_index_or levels cited.level []) v → IsCitedAs (map (map view) levels) cited file
cited_as view levels cited file v level swept number seen low there =
    record { level = level; swept = swept; number = number; there = parts_there view levels cited.level v (parts_of file) seen low there }

module _ (s : Stored) (coherent : IsCoherent s) where
  -- a file of a level, as readers have it, which has a stored file's number, level and place is that file
  same_file : (levels : List (List Parts)) → HasFiles s levels → (stored file : StoredFile) → Contains s.files stored → file.level ≡ stored.level → file.swept ≡ stored.swept → file.header.no ≡ stored.header.no
      → stored.level < length levels → Contains (slice_index_or levels stored.level []) (parts_of file) → file ≡ stored
  same_file levels held stored file cited level swept number within there =
      let here = slice_index_or levels stored.level [] in
      let among = map parts_of (of_level s.files stored.level) in
      let from = map_from parts_of (of_level s.files stored.level) (parts_of file) (Contains-permutation here among (parts_of file) (IsPermutation-sym among here (held.each stored.level within)) there) in
      let other = from.0 in
      let numbered : other.header.no ≡ stored.header.no = ap (λ (parts : Parts). parts.header.no) from.2 ∙ number in
      let one : other ≡ stored = one_numbered number_in s.files (pairs_from (λ a b. number_in a ≢ number_in b) s.files coherent.files_once) other stored (from_level s.files stored.level other from.1).0 cited numbered in
      let parts : parts_of file ≡ parts_of stored = sym from.2 ∙ ap parts_of one in
      λ i. record { level = level i; swept = swept i; header = (parts i).header; pages = (parts i).pages }

  pub cited_more : {A V : Type 0} (plain : A → StoredFile) (view : V → Parts) (cited : List Cited) → s.manifest.files ≡ cited → (levels : List (List V)) → HasFiles s (map (map view) levels)
      → (k : ℕ) (e : Cited) → k < length cited → (files : List A) → map plain files ≡ take k s.files
      → (file : A) (v : V) → (plain file).level ≡ (get_or cited k e).level → (plain file).swept ≡ (get_or cited k e).swept → (plain file).header.no ≡ (get_or cited k e).no → view v ≡ parts_of (plain file)
      → (get_or cited k e).level < length levels → Contains (slice_index_or levels (get_or cited k e).level []) v → map plain (files ++ file ∷ []) ≡ take (k + 1) s.files
  cited_more plain view cited are levels held k e inside files before file v level swept number seen low there =
      let one = get_or cited k e in
      let d = plain file in
      let stored = get_or s.files k d in
      let all : cited ≡ map cited_of s.files = sym are ∙ coherent.files in
      let len : length cited ≡ length s.files = ap length all ∙ length-map s.files cited_of in
      let within : k < length s.files = omega (arith, inside, len) in
      let cites : one ≡ cited_of stored = ap (λ l. get_or l k e) all ∙ get_or-map cited_of s.files k d e within in
      let same_level : one.level ≡ stored.level = ap (λ (c : Cited). c.level) cites in
      let as_many : length (map (map view) levels) ≡ length levels = length-map levels (map view) in
      let own : d ≡ stored = same_file (map (map view) levels) held stored d (Contains-get_or s.files k d within) (level ∙ same_level) (swept ∙ ap (λ (c : Cited). c.swept) cites) (number ∙ ap (λ (c : Cited). c.no) cites)
      (omega (arith, low, same_level, as_many)) (subst (λ n. Contains (slice_index_or (map (map view) levels) n []) (parts_of d)) same_level (parts_there view levels one.level v (parts_of d) seen low there)) in
      map-append plain files (file ∷ []) ∙ (λ i. before i ++ own i ∷ []) ∙ sym (take_more s.files k d within)
