-- What is stored after a sweep has a spelling, though pages change their owner.
use Rattle.std.proofs.Common.{◌≡◌, ◌≢◌, ℕ, ◌+◌, ◌<◌, ◌≤◌, Bool, List, [], ◌∷◌, ◌++◌, map, length, All, Contains, Option, Some, None, refl, sym, subst, ◌∙◌, ap, arith}
use Rattle.std.specs.Prelude.{flat_map, zip}
use Rattle.std.specs.List.{cons_option}
use Rattle.std.proofs.lemmas.List.Concat.{flat_map-append}
use Rattle.std.proofs.lemmas.List.Elements.{All-contains, Contains-append_cases, Contains-append_left, Contains-append_right}
use Rattle.lethe_base.specs.declared.name.Name.{Name}
use Rattle.lethe_base.specs.declared.pending.Pending.{Pending}
use Rattle.lethe_cover.proofs.Common.{⊎_elim, none_in, first_is, first_or_rest}
use Rattle.lethe_cover.proofs.Lists.{Pairs, all_from, in_middle, in_rest, in_map, flat_from, flat_in, pairs_from, pairs_parts, pairs_to, spliced}
use Rattle.lethe_file.specs.Agreement.{page_name}
use Rattle.lethe_header.specs.declared.header.PageLine.{PageLine}
use Rattle.lethe_manifest.specs.Manifests.{HasSpelling}
use Rattle.lethe_stored.specs.Files.{StoredFile, IsFile, lines_in, objects_in}
use Rattle.lethe_stored.specs.Stored.{Stored, IsCoherent, part_names}
use Rattle.lethe_stored.proofs.FileFacts.{as_many}
use Rattle.lethe_stored.proofs.Freezing.{file_later}
use Rattle.lethe_stored.proofs.Parts.{object_part}
use Rattle.lethe_follows.specs.Merged.{Company}
use Rattle.lethe_follows.proofs.Filing.{old_number}
use Rattle.lethe_follows.proofs.Renewed.{is_renewed}
use Rattle.lethe_sweeps.specs.Swept.{IsOwnOrNew, IsSweepIn, IsSweptWith, StoredSweep, files_then}

-- The names of pages

zip_has : {X Y : Type 0} (xs : List X) (ys : List Y) → length ys ≡ length xs → (x : X) → Contains xs x → (y : Y) × Contains (zip xs ys) (x, y)
zip_has [] ys same x there = absurd (none_in x there)
zip_has (first ∷ xs) [] same x there = absurd (omega (arith, same))
zip_has (first ∷ xs) (y ∷ ys) same x there = ⊎_elim
    (λ here. (y, first_is (first, y) (zip xs ys) (x, y) (λ i. (here i, y))))
    (λ rest. let found = zip_has xs ys (omega (arith, same)) x rest in (found.0, in_rest (first, y) (zip xs ys) (x, found.0) found.1))
    (first_or_rest first xs x there)

-- the page of each line is cited
line_part : (s : Stored) → IsCoherent s → (file : StoredFile) → Contains s.files file → (line : PageLine) → Contains (lines_in file) line
    → Contains (part_names s) (page_name line.no)
line_part s coherent file there line inside =
    let is = All-contains (IsFile s.manifest.next) s.files file coherent.each there in
    let zipped = zip_has (lines_in file) file.pages (as_many (lines_in file) file.pages is.agrees.pages) line inside in
    let named : Name × List ℕ = (page_name line.no, zipped.0) in
    let name : PageLine × List ℕ → Name × List ℕ = λ page. (page_name page.0.no, page.1) in
    object_part s named (flat_in objects_in s.files file named there
    (in_rest _ (map name (zip (lines_in file) file.pages)) named (in_map name (zip (lines_in file) file.pages) (line, zipped.0) zipped.1)))

-- what is made is at most one file
pub few : (R : StoredFile → StoredFile → Type 0) (made : Option StoredFile) → Pairs R (cons_option made [])
few R None = tt
few R (Some file) = ((λ other none. absurd (none_in other none)), tt)

module _ {company : Company} (s : Stored) (coherent : IsCoherent s) (w : StoredSweep) (erase : Pending) (alone : Bool) (begun : IsSweepIn s w erase alone) (t : Stored)
    (is : IsSweptWith company s w erase alone t)
  where
    abbrev made : List StoredFile
    made = cons_option is.made []

    pub front_in : (file : StoredFile) → Contains w.front file → Contains s.files file
    front_in file there = subst (λ files. Contains files file) (sym begun.files) (Contains-append_left w.front (w.file ∷ w.back) file there)

    pub back_in : (file : StoredFile) → Contains w.back file → Contains s.files file
    back_in file there = subst (λ files. Contains files file) (sym begun.files) (Contains-append_right w.front (w.file ∷ w.back) file (in_rest w.file w.back file there))

    pub own_in : Contains s.files w.file
    own_in = subst (λ files. Contains files w.file) (sym begun.files) (in_middle w.front (w.file ∷ []) w.back w.file (first_is w.file [] w.file refl))

    old_file : (file : StoredFile) → Contains s.files file → IsFile (is.number + 1) file
    old_file file there = let later = is.later in
        file_later s.manifest.next (is.number + 1) file (omega (arith, later)) (All-contains (IsFile s.manifest.next) s.files file coherent.each there)

    swept_each : All (IsFile (is.number + 1)) t.files
    swept_each = subst (All (IsFile (is.number + 1))) (sym is.files) (all_from (IsFile (is.number + 1)) (files_then w is.made) (λ file there. ⊎_elim
        (λ front. old_file file (front_in file front))
        (λ behind. ⊎_elim
        (λ new. file_later is.number (is.number + 1) file (omega arith) (All-contains (IsFile is.number) made file is.left.each new))
        (λ back. old_file file (back_in file back))
        (Contains-append_cases made w.back file behind))
        (Contains-append_cases w.front (made ++ w.back) file there)))

    abbrev Apart : StoredFile → StoredFile → Type 0
    Apart a b = a.header.no ≢ b.header.no

    new_number : (file : StoredFile) → Contains made file → s.manifest.next ≤ file.header.no
    new_number file there = (All-contains (λ (left : StoredFile). (s.manifest.next ≤ left.header.no) × (left.header.no < is.number)) made file is.left.headers there).0

    headers_apart : Pairs Apart t.files
    headers_apart = subst (Pairs Apart) (sym is.files) (spliced Apart w.front (w.file ∷ []) made w.back
        (subst (Pairs Apart) begun.files (pairs_from Apart s.files coherent.files_once)) (few Apart is.made)
        (λ a b left there same. let low = old_number s coherent a (front_in a left) in let high = new_number b there in omega (arith, low, high, same))
        (λ a b there right same. let low = old_number s coherent b (back_in b right) in let high = new_number a there in omega (arith, low, high, same)))

    abbrev AreApart : PageLine → PageLine → Type 0
    AreApart a b = a.no ≢ b.no

    abbrev lines : List StoredFile → List PageLine
    lines files = flat_map lines_in files

    lines_before : Pairs AreApart (lines w.front ++ (lines_in w.file ++ lines w.back))
    lines_before = subst (Pairs AreApart) (ap lines begun.files ∙ flat_map-append lines_in w.front (w.file ∷ w.back)) (pairs_from AreApart (lines s.files) coherent.pages_once)

    parts : Pairs AreApart (lines w.front) × Pairs AreApart (lines_in w.file ++ lines w.back)
        × ((a b : PageLine) → Contains (lines w.front) a → Contains (lines_in w.file ++ lines w.back) b → AreApart a b)
    parts = pairs_parts AreApart (lines w.front) (lines_in w.file ++ lines w.back) lines_before

    rest : Pairs AreApart (lines_in w.file) × Pairs AreApart (lines w.back) × ((a b : PageLine) → Contains (lines_in w.file) a → Contains (lines w.back) b → AreApart a b)
    rest = pairs_parts AreApart (lines_in w.file) (lines w.back) parts.1

    own_or_new : (line : PageLine) → Contains (lines made) line → IsOwnOrNew s w.file line
    own_or_new line there = All-contains (IsOwnOrNew s w.file) (lines made) line is.left.lines there

    -- a line of another file is none of what is made
    left_apart : (a b : PageLine) → Contains (lines w.front) a → Contains (lines made) b → AreApart a b
    left_apart a b left there = ⊎_elim
        (λ own same. parts.2 a own.0 left (Contains-append_left (lines_in w.file) (lines w.back) own.0 own.1) (same ∙ sym own.2))
        (λ new same.
        let found = flat_from lines_in w.front a left in
        new (subst (λ n. Contains (part_names s) (page_name n)) same (line_part s coherent found.0 (front_in found.0 found.1) a found.2)))
        (own_or_new b there)

    right_apart : (a b : PageLine) → Contains (lines made) a → Contains (lines w.back) b → AreApart a b
    right_apart a b there right = ⊎_elim
        (λ own same. rest.2 own.0 b own.1 right (own.2 ∙ same))
        (λ new same.
        let found = flat_from lines_in w.back b right in
        new (subst (λ n. Contains (part_names s) (page_name n)) (sym same) (line_part s coherent found.0 (back_in found.0 found.1) b found.2)))
        (own_or_new a there)

    lines_then : lines t.files ≡ lines w.front ++ (lines made ++ lines w.back)
    lines_then = ap lines is.files ∙ flat_map-append lines_in w.front (made ++ w.back) ∙ ap (λ l. lines w.front ++ l) (flat_map-append lines_in made w.back)

    pages_apart : Pairs AreApart (lines t.files)
    pages_apart = subst (Pairs AreApart) (sym lines_then) (spliced AreApart (lines w.front) (lines_in w.file) (lines made) (lines w.back) lines_before
        (pairs_from AreApart (lines made) is.left.lines_once) left_apart right_apart)

    pub swept_coherent : HasSpelling t.manifest → IsCoherent t
    swept_coherent spelled = subst IsCoherent (is_renewed company s t is.number is.manifest is.frozen is.active) (record {
      spelled = subst HasSpelling is.manifest spelled;
      cites = coherent.cites;
      once = coherent.once;
      active = coherent.active;
      frozen = coherent.frozen;
      files = refl;
      each = swept_each;
      files_once = pairs_to Apart t.files headers_apart;
      pages_once = pairs_to AreApart (lines t.files) pages_apart;
    })
