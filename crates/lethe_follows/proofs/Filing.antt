-- What is stored with files that came in front of the others has a spelling, and a layout with these in level 0.
use Rattle.std.proofs.Common.{◌≡◌, ◌≢◌, ℕ, zero, suc, ◌+◌, ◌<◌, ◌≤◌, cond, eqb, List, [], ◌∷◌, ◌++◌, append_assoc, map, filter, All, AllPairs, Contains, refl, sym, ap, ◌∙◌, subst, arith}
use Rattle.std.specs.Prelude.{flat_map}
use Rattle.std.specs.List.{range_with_len}
use Rattle.std.proofs.lemmas.Bool.{eq-eqb, ne_eqb}
use Rattle.std.proofs.lemmas.List.{map-append}
use Rattle.std.proofs.lemmas.List.Concat.{flat_map-append}
use Rattle.std.proofs.lemmas.List.Elements.{All-append, All-contains, All-head, All-tail, All-weaker}
use Rattle.lethe_cover.specs.Flushes.{with_newest}
use Rattle.lethe_cover.proofs.Lists.{flat_from, in_map, pairs_append, pairs_from, pairs_to}
use Rattle.lethe_header.specs.declared.header.PageLine.{PageLine}
use Rattle.lethe_manifest.specs.Manifests as manifests
use Rattle.lethe_manifest.specs.declared.manifest.Cited.{Cited}
use Rattle.lethe_stored.specs.Files.{StoredFile, IsFile, lines_in, cited_of, file_of, at_level, levels_of}
use Rattle.lethe_stored.specs.Stored.{Stored, IsCoherent}
use Rattle.lethe_stored.proofs.Freezing.{file_later}
use Rattle.lethe_follows.specs.Filed.{AreNewFiles}

abbrev pub AreNewest : List StoredFile → Type 0
AreNewest made = All (λ file. file.level ≡ 0) made

-- Levels

newest_filed : (made files : List StoredFile) → AreNewest made → filter (λ (file : StoredFile). eqb file.level 0) (made ++ files) ≡ made ++ filter (λ (file : StoredFile). eqb file.level 0) files
newest_filed [] files newest = refl
newest_filed (file ∷ made) files newest =
    let rest = filter (λ (file : StoredFile). eqb file.level 0) (made ++ files) in
    ap (λ b. cond b (file ∷ rest) rest) (eq-eqb file.level 0 (All-head (λ (file : StoredFile). file.level ≡ 0) file made newest))
    ∙ ap (λ l. file ∷ l) (newest_filed made files (All-tail (λ (file : StoredFile). file.level ≡ 0) file made newest))

pub deeper_filed : (made files : List StoredFile) (level : ℕ) → 0 < level → AreNewest made → filter (λ (file : StoredFile). eqb file.level level) (made ++ files) ≡ filter (λ (file : StoredFile). eqb file.level level) files
deeper_filed [] files level deep newest = refl
deeper_filed (file ∷ made) files level deep newest =
    let rest = filter (λ (file : StoredFile). eqb file.level level) (made ++ files) in
    let zeroth : file.level ≡ 0 = All-head (λ (file : StoredFile). file.level ≡ 0) file made newest in
    ap (λ b. cond b (file ∷ rest) rest) (ne_eqb file.level level (λ same. omega arith))
    ∙ deeper_filed made files level deep (All-tail (λ (file : StoredFile). file.level ≡ 0) file made newest)

levels_behind : (made files : List StoredFile) (first count : ℕ) → 0 < first → AreNewest made → map (at_level (made ++ files)) (range_with_len first count) ≡ map (at_level files) (range_with_len first count)
levels_behind made files first zero deep newest = refl
levels_behind made files first (suc count) deep newest = λ i. map file_of (deeper_filed made files first deep newest i) ∷ levels_behind made files (first + 1) count (omega arith) newest i

pub levels_filed : (deepest : ℕ) (made files : List StoredFile) → AreNewest made → levels_of deepest (made ++ files) ≡ with_newest (map file_of made) (levels_of deepest files)
levels_filed deepest made files newest =
    let first : at_level (made ++ files) 0 ≡ map file_of made ++ at_level files 0 = ap (map file_of) (newest_filed made files newest) ∙ map-append file_of made (filter (λ (file : StoredFile). eqb file.level 0) files) in
    λ i. first i ∷ levels_behind made files 1 deepest (omega arith) newest i

-- first these, then newer ones
pub levels_twice : (deepest : ℕ) (newer older files : List StoredFile) → AreNewest newer → AreNewest older
    → levels_of deepest ((newer ++ older) ++ files) ≡ with_newest (map file_of newer) (with_newest (map file_of older) (levels_of deepest files))
levels_twice deepest newer older files are_newer are_older =
    ap (levels_of deepest) (append_assoc newer older files) ∙ levels_filed deepest newer (older ++ files) are_newer
    ∙ ap (with_newest (map file_of newer)) (levels_filed deepest older files are_older)

-- The spelling of the files

-- a number that is cited was drawn
pub old_number : (s : Stored) → IsCoherent s → (file : StoredFile) → Contains s.files file → file.header.no < s.manifest.next
old_number s coherent file there =
    let cited : Contains s.manifest.files (cited_of file) = subst (λ (files : List Cited). Contains files (cited_of file)) (sym coherent.files) (in_map cited_of s.files file there) in
    (All-contains (manifests.IsFile s.manifest.next s.manifest.config.levels) s.manifest.files (cited_of file) coherent.spelled.files.each cited).no

module _ (s : Stored) (coherent : IsCoherent s) (made : List StoredFile) (last next : ℕ) (new : AreNewFiles s.manifest.next last made) (upto : last ≤ next) (risen : s.manifest.next ≤ next) where
  pub filed_cited : map cited_of made ++ s.manifest.files ≡ map cited_of (made ++ s.files)
  filed_cited = ap (λ l. map cited_of made ++ l) coherent.files ∙ sym (map-append cited_of made s.files)

  pub filed_each : All (IsFile next) (made ++ s.files)
  filed_each = All-append (IsFile next) made s.files
      (All-weaker (IsFile last) (IsFile next) (λ file is. file_later last next file upto is) made new.each)
      (All-weaker (IsFile s.manifest.next) (IsFile next) (λ file is. file_later s.manifest.next next file risen is) s.files coherent.each)

  pub filed_once : AllPairs (λ a b. a.header.no ≢ b.header.no) (made ++ s.files)
  filed_once =
      let Apart : StoredFile → StoredFile → Type 0 = λ a b. a.header.no ≢ b.header.no in
      pairs_to Apart (made ++ s.files) (pairs_append Apart made s.files (pairs_from Apart made new.files_once) (pairs_from Apart s.files coherent.files_once) (λ a b left right same.
      let high = (All-contains (λ (file : StoredFile). (s.manifest.next ≤ file.header.no) × (file.header.no < last)) made a new.headers left).0 in
      let low = old_number s coherent b right in
      omega (arith, high, low, same)))

  pub filed_pages : AllPairs (λ a b. a.no ≢ b.no) (flat_map lines_in (made ++ s.files))
  filed_pages =
      let Apart : PageLine → PageLine → Type 0 = λ a b. a.no ≢ b.no in
      let news = flat_map lines_in made in
      let olds = flat_map lines_in s.files in
      subst (AllPairs Apart) (sym (flat_map-append lines_in made s.files)) (pairs_to Apart (news ++ olds) (pairs_append Apart news olds (pairs_from Apart news new.pages_once) (pairs_from Apart olds coherent.pages_once) (λ a b left right same.
      let high = All-contains (λ (line : PageLine). s.manifest.next ≤ line.no) news a new.lines left in
      let found = flat_from lines_in s.files b right in
      let low = All-contains (λ (line : PageLine). line.no < s.manifest.next) (lines_in found.0) b (All-contains (IsFile s.manifest.next) s.files found.0 coherent.each found.1).below found.2 in
      omega (arith, high, low, same))))
