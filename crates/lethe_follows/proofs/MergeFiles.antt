-- What is stored after a merge has a spelling.
use Rattle.std.proofs.Common.{◌≡◌, ◌≢◌, ℕ, ◌+◌, ◌<◌, ◌≤◌, Bool, List, [], ◌∷◌, ◌++◌, map, length, All, Contains, refl, sym, subst, arith}
use Rattle.std.specs.Prelude.{flat_map, zip}
use Rattle.std.proofs.lemmas.List.Concat.{flat_map-append}
use Rattle.std.proofs.lemmas.List.Elements.{All-append, All-contains, All-filter, All-weaker}
use Rattle.std.proofs.lemmas.List.Kept.{AllPairs-filter}
use Rattle.std.proofs.lemmas.List.Sorted.{All-permutation}
use Rattle.lethe_base.specs.declared.name.Name.{Name}
use Rattle.lethe_base.specs.declared.pending.Pending.{Pending}
use Rattle.lethe_cover.proofs.Common.{⊎_elim, none_in, first_is, first_or_rest}
use Rattle.lethe_cover.proofs.Lists.{Pairs, in_rest, in_map, flat_from, flat_in, pairs_append, pairs_from, pairs_to}
use Rattle.lethe_version.specs.Agreement.{page_name}
use Rattle.lethe_header.specs.declared.header.PageLine.{PageLine}
use Rattle.lethe_manifest.specs.Manifests.{HasSpelling}
use Rattle.lethe_stored.specs.Files.{StoredFile, IsFile, lines_in, objects_in}
use Rattle.lethe_stored.specs.Stored.{Stored, IsCoherent, part_names}
use Rattle.lethe_stored.proofs.FileFacts.{as_many}
use Rattle.lethe_stored.proofs.Freezing.{file_later}
use Rattle.lethe_stored.proofs.Leveled.{from_filter}
use Rattle.lethe_stored.proofs.Parts.{object_part}
use Rattle.lethe_version.specs.Order.{is_kept}
use Rattle.lethe_follows.specs.Merged.{Company, IsMergedWith, StoredMerge, inputs_of, others_of}
use Rattle.lethe_follows.proofs.Filing.{old_number}
use Rattle.lethe_follows.proofs.Permuted.{flat_permuted, once_permuted, pairs_kept}
use Rattle.lethe_follows.proofs.Renewed.{is_renewed}

-- The names of pages

zip_has : {X Y : Type 0} (xs : List X) (ys : List Y) → length ys ≡ length xs → (x : X) → Contains xs x → (y : Y) × Contains (zip xs ys) (x, y)
zip_has [] ys same x there = absurd (none_in x there)
zip_has (first ∷ xs) [] same x there = absurd (omega (arith, same))
zip_has (first ∷ xs) (y ∷ ys) same x there = ⊎_elim
    (λ here. (y, first_is (first, y) (zip xs ys) (x, y) (λ i. (here i, y))))
    (λ rest. let found = zip_has xs ys (omega (arith, same)) x rest in (found.0, in_rest (first, y) (zip xs ys) (x, found.0) found.1))
    (first_or_rest first xs x there)

-- the page of each line is cited
line_part : (s : Stored) → IsCoherent s → (file : StoredFile) → Contains s.files file → (line : PageLine) → Contains (lines_in file) line → Contains (part_names s) (page_name line.no)
line_part s coherent file there line inside =
    let is = All-contains (IsFile s.manifest.next) s.files file coherent.each there in
    let zipped = zip_has (lines_in file) file.pages (as_many (lines_in file) file.pages is.agrees.pages) line inside in
    let named : Name × List ℕ = (page_name line.no, zipped.0) in
    let name : PageLine × List ℕ → Name × List ℕ = λ page. (page_name page.0.no, page.1) in
    object_part s named (flat_in objects_in s.files file named there
    (in_rest _ (map name (zip (lines_in file) file.pages)) named (in_map name (zip (lines_in file) file.pages) (line, zipped.0) zipped.1)))

module _ {company : Company} (s : Stored) (coherent : IsCoherent s) (m : StoredMerge) (applied : List Pending) (alone : Bool) (upto : ℕ) (t : Stored)
    (is : IsMergedWith company s m applied alone upto t)
  where
    abbrev stays : StoredFile → Bool
    stays file = is_kept (map (λ (input : StoredFile). input.header.no) (inputs_of m)) file.header

    abbrev others : List StoredFile
    others = others_of s m

    was : (file : StoredFile) → Contains others file → Contains s.files file
    was file there = (from_filter stays s.files file there).0

    merged_each : All (IsFile (is.number + 1)) t.files
    merged_each =
        let later = is.later in
        All-permutation (IsFile (is.number + 1)) (is.made ++ others) t.files is.files (All-append (IsFile (is.number + 1)) is.made others
        (All-weaker (IsFile is.number) (IsFile (is.number + 1)) (λ file own. file_later is.number (is.number + 1) file (omega arith) own) is.made is.new.each)
        (All-filter stays (IsFile (is.number + 1)) s.files
        (All-weaker (IsFile s.manifest.next) (IsFile (is.number + 1)) (λ file own. file_later s.manifest.next (is.number + 1) file (omega (arith, later)) own) s.files coherent.each)))

    abbrev Apart : StoredFile → StoredFile → Type 0
    Apart a b = a.header.no ≢ b.header.no

    pub headers_apart : Pairs Apart t.files
    headers_apart = once_permuted (λ (file : StoredFile). file.header.no) (is.made ++ others) t.files is.files
        (pairs_append Apart is.made others (pairs_from Apart is.made is.new.files_once)
        (pairs_from Apart others (AllPairs-filter Apart stays s.files coherent.files_once)) (λ a b left right same.
        let high = (All-contains (λ (file : StoredFile). (s.manifest.next ≤ file.header.no) × (file.header.no < is.number)) is.made a is.new.headers left).0 in
        let low = old_number s coherent b (was b right) in
        omega (arith, high, low, same)))

    abbrev AreApart : PageLine → PageLine → Type 0
    AreApart a b = a.no ≢ b.no

    pages_apart : Pairs AreApart (flat_map lines_in t.files)
    pages_apart = flat_permuted (λ (line : PageLine). line.no) lines_in (is.made ++ others) t.files is.files
        (subst (Pairs AreApart) (sym (flat_map-append lines_in is.made others))
        (pairs_append AreApart (flat_map lines_in is.made) (flat_map lines_in others) (pairs_from AreApart (flat_map lines_in is.made) is.new.pages_once)
        (pairs_kept AreApart lines_in stays s.files (pairs_from AreApart (flat_map lines_in s.files) coherent.pages_once)) (λ a b left right same.
        let found = flat_from lines_in others b right in
        let cited = line_part s coherent found.0 (was found.0 found.1) b found.2 in
        All-contains (λ (line : PageLine). Contains (part_names s) (page_name line.no) → ⊥) (flat_map lines_in is.made) a is.new.lines left
        (subst (λ n. Contains (part_names s) (page_name n)) (sym same) cited))))

    pub merged_coherent : HasSpelling t.manifest → IsCoherent t
    merged_coherent spelled = subst IsCoherent (is_renewed company s t is.number is.manifest is.frozen is.active) (record {
      spelled = subst HasSpelling is.manifest spelled;
      cites = coherent.cites;
      once = coherent.once;
      active = coherent.active;
      frozen = coherent.frozen;
      files = refl;
      each = merged_each;
      files_once = pairs_to Apart t.files headers_apart;
      pages_once = pairs_to AreApart (flat_map lines_in t.files) pages_apart;
    })
