-- The step of a sweep: what is stored next is stored already or is written, and nothing else of the file goes.
use Rattle.std.proofs.Common.{◌≡◌, ◌≢◌, ◌⊎◌, inl, inr, ℕ, ◌≤◌, Bool, true, false, eqb, List, [], ◌∷◌, ◌++◌, append_assoc, length, map, All, Contains, IsPermutation, refl, sym, ap, ◌∙◌, subst, arith}
use Rattle.std.specs.Prelude.{filter, flat_map, not, zip}
use Rattle.std.specs.List.{cons_option, list_any}
use Rattle.std.proofs.lemmas.Bool.{eq-eqb, ne_eqb}
use Rattle.std.proofs.lemmas.List.Concat.{flat_map-append}
use Rattle.std.proofs.lemmas.List.Elements.{All-contains, All-weaker, Contains-append_cases, Contains-append_left, Contains-append_right, filter-append}
use Rattle.std.proofs.lemmas.List.Sorted.{IsPermutation-append_comm, IsPermutation-append_left}
use Rattle.lethe_base.specs.declared.name.Kind.TheVariants as kinds
use Rattle.lethe_base.specs.declared.name.Kind.TheVariants.{Page}
use Rattle.lethe_base.specs.declared.name.Name.{Name}
use Rattle.lethe_base.specs.declared.pending.Pending.{Pending}
use Rattle.lethe_advance.specs.Object.{Object}
use Rattle.lethe_cover.proofs.Common.{⊎_elim, none_in, first_is, first_or_rest}
use Rattle.lethe_cover.proofs.Lists.{Pairs, all_from, flat_from, flat_in, in_map, map_from, pairs_from, pairs_parts}
use Rattle.lethe_file.specs.Agreement.{page_name}
use Rattle.lethe_file.proofs.Joined.{filter_none}
use Rattle.lethe_header.specs.declared.header.PageLine.{PageLine}
use Rattle.lethe_manifest.specs.declared.manifest.Manifest.{Manifest}
use Rattle.lethe_stored.specs.Files.{StoredFile, IsFile, file_name, lines_in, objects_in, objects_of}
use Rattle.lethe_stored.specs.Stored.{Stored, IsCited, IsCoherent, part_names, segment_name, segment_numbers, segments_of}
use Rattle.lethe_stored.proofs.FileFacts.{as_many}
use Rattle.lethe_stored.proofs.Parts.{object_apart, object_part}
use Rattle.lethe_advance.specs.Order.{is_kept}
use Rattle.lethe_advance.specs.Settled.{AreUncited, names_in}
use Rattle.lethe_advance.specs.Steps.{IsObjectFrom, IsSegmentFrom, IsSettledBy, IsStep, IsUncited, WasThere, kept_files, written_in}
use Rattle.lethe_advance.specs.declared.new_header.NewHeader.{NewHeader}
use Rattle.lethe_advance.specs.declared.step.Step.{Step}
use Rattle.lethe_advance.proofs.Lists.{filter_all}
use Rattle.lethe_follows.specs.Merged.{Company}
use Rattle.lethe_sweeps.specs.Swept.{IsSweepIn, IsSweptWith, StoredSweep}
use Rattle.lethe_sweeps.specs.SweptSteps.{IsSweepStep}
use Rattle.lethe_sweeps.proofs.SweptFiles.{back_in, front_in, own_in}

-- Names of files' objects, of which no two are the same

abbrev name_of : Name × List ℕ → Name
name_of named = named.0

abbrev line_name : PageLine → Name
line_name line = page_name line.no

abbrev names_of : StoredFile → List Name
names_of file = file_name file.header.no ∷ map line_name (lines_in file)

zip_names : (lines : List PageLine) (pages : List (List ℕ)) → length pages ≡ length lines
    → map line_name lines ≡ map name_of (map (λ (page : PageLine × List ℕ). (page_name page.0.no, page.1)) (zip lines pages))
zip_names [] pages same = refl
zip_names (line ∷ lines) [] same = absurd (omega (arith, same))
zip_names (line ∷ lines) (page ∷ pages) same = ap (λ l. line_name line ∷ l) (zip_names lines pages (omega (arith, same)))

names_are : (next : ℕ) (file : StoredFile) → IsFile next file → names_of file ≡ map name_of (objects_in file)
names_are next file is = ap (λ l. file_name file.header.no ∷ l) (zip_names (lines_in file) file.pages (as_many (lines_in file) file.pages is.agrees.pages))

name_kinds : (file : StoredFile) (name : Name) → Contains (names_of file) name
    → (file_name file.header.no ≡ name) ⊎ ((line : PageLine) × Contains (lines_in file) line × (line_name line ≡ name))
name_kinds file name there = ⊎_elim (λ header. inl header) (λ page. inr (map_from line_name (lines_in file) name page))
    (first_or_rest (file_name file.header.no) (map line_name (lines_in file)) name there)

file_no_page : (a b : ℕ) → file_name a ≡ page_name b → ⊥
file_no_page a b same = let clash : kinds.File ≡ kinds.Page = ap (λ (n : Name). n.kind) same in cc

number_in : (a b : Name) → a ≡ b → a.no ≡ b.no
number_in a b same = ap (λ (n : Name). n.no) same

abbrev Apart : StoredFile → StoredFile → Type 0
Apart a b = a.header.no ≢ b.header.no

abbrev AreApart : PageLine → PageLine → Type 0
AreApart a b = a.no ≢ b.no

-- two files with other numbers and other pages have no name in common
names_apart : (a b : StoredFile) → Apart a b → ((x y : PageLine) → Contains (lines_in a) x → Contains (lines_in b) y → AreApart x y)
    → (name : Name) → Contains (names_of a) name → Contains (names_of b) name → ⊥
names_apart a b other lines name left right = ⊎_elim
    (λ header. ⊎_elim
    (λ also. other (number_in (file_name a.header.no) (file_name b.header.no) (header ∙ sym also)))
    (λ page. file_no_page a.header.no page.0.no (header ∙ sym page.2))
    (name_kinds b name right))
    (λ page. ⊎_elim
    (λ also. file_no_page b.header.no page.0.no (also ∙ sym page.2))
    (λ also. lines page.0 also.0 page.1 also.1 (number_in (line_name page.0) (line_name also.0) (page.2 ∙ sym also.2)))
    (name_kinds b name right))
    (name_kinds a name left)

module _ {company : Company} (s t : Stored) (coherent : IsCoherent s) (next : IsCoherent t) (w : StoredSweep) (erase : Pending) (alone : Bool) (begun : IsSweepIn s w erase alone)
    (is : IsSweptWith company s w erase alone t) (loose left : List (Name × List ℕ)) (pages : All (λ (named : Name × List ℕ). named.0.kind ≡ Page) loose) (uncited : AreUncited s loose)
    (headers : List NewHeader) (step : Step) (stepped : IsSweepStep s t w.file (cons_option is.made []) loose left headers step)
    (taken : All (λ (named : Name × List ℕ). IsSettledBy step t left named.0) loose) (among : All (WasThere s loose) left)
    (remains : All (λ (named : Name × List ℕ). Contains step.gone.items named.0 → ⊥) left) (spare : AreUncited t left)
  where
    abbrev made : List StoredFile
    made = cons_option is.made []

    abbrev IsFound : Name × List ℕ → Type 0
    IsFound named = Contains (objects_in w.file) named ⊎ (Contains loose named ⊎ Contains (written_in step) named)

    abbrev IsWritten : Object → Type 0
    IsWritten object = Contains (names_in (objects_of made)) object.name × (s.manifest.next ≤ object.name.no)

    abbrev IsParted : Name → Type 0
    IsParted name = Contains (names_in (objects_of made)) name ⊎ (Contains step.gone.items name ⊎ Contains (names_in left) name)

    abbrev IsLost : Name → Type 0
    IsLost name = (Contains (names_in (objects_in w.file)) name ⊎ Contains (names_in loose) name) × (Contains (names_in (objects_of made)) name → ⊥)

    abbrev IsFree : Name × List ℕ → Type 0
    IsFree named = IsCited s named.0 → ⊥

    front : (file : StoredFile) → Contains w.front file → Contains s.files file
    front = front_in s coherent w erase alone begun t is

    back : (file : StoredFile) → Contains w.back file → Contains s.files file
    back = back_in s coherent w erase alone begun t is

    own : Contains s.files w.file
    own = own_in s coherent w erase alone begun t is

    old_cases : (file : StoredFile) → Contains s.files file → (Contains w.front file ⊎ Contains w.back file) ⊎ (w.file ≡ file)
    old_cases file there = ⊎_elim (λ one. inl (inl one)) (λ rest. ⊎_elim (λ same. inr same) (λ two. inl (inr two)) (first_or_rest w.file w.back file rest))
        (Contains-append_cases w.front (w.file ∷ w.back) file (subst (λ files. Contains files file) begun.files there))

    then_cases : (file : StoredFile) → Contains t.files file → (Contains w.front file ⊎ Contains w.back file) ⊎ Contains made file
    then_cases file there = ⊎_elim (λ one. inl (inl one)) (λ rest. ⊎_elim (λ new. inr new) (λ two. inl (inr two)) (Contains-append_cases made w.back file rest))
        (Contains-append_cases w.front (made ++ w.back) file (subst (λ files. Contains files file) is.files there))

    other_old : (file : StoredFile) → Contains w.front file ⊎ Contains w.back file → Contains s.files file
    other_old file there = ⊎_elim (front file) (back file) there

    other_then : (file : StoredFile) → Contains w.front file ⊎ Contains w.back file → Contains t.files file
    other_then file there = subst (λ files. Contains files file) (sym is.files) (⊎_elim
        (λ one. Contains-append_left w.front (made ++ w.back) file one)
        (λ two. Contains-append_right w.front (made ++ w.back) file (Contains-append_right made w.back file two)) there)

    made_then : (file : StoredFile) → Contains made file → Contains t.files file
    made_then file new = subst (λ files. Contains files file) (sym is.files) (Contains-append_right w.front (made ++ w.back) file (Contains-append_left made w.back file new))

    segments_same : segments_of t ≡ segments_of s
    segments_same = λ i. segments_of (record s { frozen = is.frozen i; active = is.active i })

    numbers_same : segment_numbers t ≡ segment_numbers s
    numbers_same = λ i. segment_numbers (record s { frozen = is.frozen i; active = is.active i })

    -- names
    made_part : (name : Name) → Contains (names_in (objects_of made)) name → Contains (part_names t) name
    made_part name there =
        let named = map_from name_of (objects_of made) name there in
        let file = flat_from objects_in made named.0 named.1 in
        subst (Contains (part_names t)) named.2 (object_part t named.0 (flat_in objects_in t.files file.0 named.0 (made_then file.0 file.1) file.2))

    own_part : (name : Name) → Contains (names_in (objects_in w.file)) name → Contains (part_names s) name
    own_part name there =
        let named = map_from name_of (objects_in w.file) name there in
        subst (Contains (part_names s)) named.2 (object_part s named.0 (flat_in objects_in s.files w.file named.0 own named.1))

    -- a name of the file is of no other file
    file_pairs : Pairs Apart (w.front ++ (w.file ∷ w.back))
    file_pairs = subst (Pairs Apart) begun.files (pairs_from Apart s.files coherent.files_once)

    line_pairs : Pairs AreApart (flat_map lines_in w.front ++ (lines_in w.file ++ flat_map lines_in w.back))
    line_pairs = subst (Pairs AreApart) (ap (flat_map lines_in) begun.files ∙ flat_map-append lines_in w.front (w.file ∷ w.back))
        (pairs_from AreApart (flat_map lines_in s.files) coherent.pages_once)

    not_other : (file : StoredFile) → Contains w.front file ⊎ Contains w.back file → (name : Name) → Contains (names_of w.file) name → Contains (names_of file) name → ⊥
    not_other file there name mine its =
        let files = pairs_parts Apart w.front (w.file ∷ w.back) file_pairs in
        let lines = pairs_parts AreApart (flat_map lines_in w.front) (lines_in w.file ++ flat_map lines_in w.back) line_pairs in
        let behind = pairs_parts AreApart (lines_in w.file) (flat_map lines_in w.back) lines.1 in
        ⊎_elim
        (λ one. names_apart file w.file (files.2 file w.file one (first_is w.file w.back w.file refl))
        (λ x y of_x of_y. lines.2 x y (flat_in lines_in w.front file x one of_x) (Contains-append_left (lines_in w.file) (flat_map lines_in w.back) y of_y)) name its mine)
        (λ two. names_apart w.file file (files.1.0 file two)
        (λ x y of_x of_y. behind.2 x y of_x (flat_in lines_in w.back file y two of_y)) name mine its)
        there

    is_file : (file : StoredFile) → Contains s.files file → IsFile s.manifest.next file
    is_file file there = All-contains (IsFile s.manifest.next) s.files file coherent.each there

    named_by : (file : StoredFile) → Contains s.files file → (name : Name) → Contains (names_in (objects_in file)) name → Contains (names_of file) name
    named_by file there name inside = subst (λ names. Contains names name) (sym (names_are s.manifest.next file (is_file file there))) inside

    -- what goes isn't cited next
    not_cited : (name : Name) → Contains (names_in (objects_in w.file)) name → (Contains (names_in (objects_of made)) name → ⊥) → Contains (part_names t) name → ⊥
    not_cited name mine lost cited = ⊎_elim
        (λ segment.
        let number = map_from segment_name (segment_numbers t) name segment in
        let named = map_from name_of (objects_in w.file) name mine in
        object_apart s number.0 named.0 (flat_in objects_in s.files w.file named.0 own named.1) (named.2 ∙ sym number.2))
        (λ object.
        let named = map_from name_of (objects_of t.files) name object in
        let file = flat_from objects_in t.files named.0 named.1 in
        ⊎_elim
        (λ other. not_other file.0 other name (named_by w.file own name mine)
        (named_by file.0 (other_old file.0 other) name (subst (Contains (names_in (objects_in file.0))) named.2 (in_map name_of (objects_in file.0) named.0 file.2))))
        (λ new. lost (subst (Contains (names_in (objects_of made))) named.2 (in_map name_of (objects_of made) named.0 (flat_in objects_in made file.0 named.0 new file.2))))
        (then_cases file.0 file.1))
        (Contains-append_cases (map segment_name (segment_numbers t)) (map name_of (objects_of t.files)) name cited)

    -- what lies beside what is stored is a name of no file that stays
    not_cited_beside : (name : Name) → Contains (names_in loose) name → (Contains (names_in (objects_of made)) name → ⊥) → Contains (part_names t) name → ⊥
    not_cited_beside name there lost cited = ⊎_elim
        (λ segment. free (Contains-append_left (map segment_name (segment_numbers s)) (map name_of (objects_of s.files)) name
        (subst (λ numbers. Contains (map segment_name numbers) name) numbers_same segment)))
        (λ object.
        let named = map_from name_of (objects_of t.files) name object in
        let file = flat_from objects_in t.files named.0 named.1 in
        ⊎_elim
        (λ other. free (subst (Contains (part_names s)) named.2 (object_part s named.0 (flat_in objects_in s.files file.0 named.0 (other_old file.0 other) file.2))))
        (λ new. lost (subst (Contains (names_in (objects_of made))) named.2 (in_map name_of (objects_of made) named.0 (flat_in objects_in made file.0 named.0 new file.2))))
        (then_cases file.0 file.1))
        (Contains-append_cases (map segment_name (segment_numbers t)) (map name_of (objects_of t.files)) name cited)
      where
        free : Contains (part_names s) name → ⊥
        free part =
            let spare = map_from name_of loose name there in
            All-contains IsFree loose spare.0 uncited spare.1 (inr (inr (subst (Contains (part_names s)) (sym spare.2) part)))

    -- the files that don't go
    kept_if : (file : StoredFile) → file.header.no ≢ w.file.header.no → is_kept step.merged.items file.header ≡ true
    kept_if file other = ap (λ numbers. is_kept numbers file.header) stepped.merged ∙ lost_in w.file.header.no file.header.no (λ same. other (sym same))
      where
        lost_in : (a b : ℕ) → (a ≡ b → ⊥) → not (list_any (λ no. eqb no b) (a ∷ [])) ≡ true
        lost_in a b differ = grind (arith, ne_eqb a b differ)

    kept_files_are : kept_files s step ≡ w.front ++ w.back
    kept_files_are =
        let keep = λ (file : StoredFile). is_kept step.merged.items file.header in
        let files = pairs_parts Apart w.front (w.file ∷ w.back) file_pairs in
        let first : filter keep w.front ≡ w.front =
        filter_all keep w.front (all_from (λ file. keep file ≡ true) w.front (λ file there. kept_if file (files.2 file w.file there (first_is w.file w.back w.file refl)))) in
        let second : filter keep w.back ≡ w.back =
        filter_all keep w.back (all_from (λ file. keep file ≡ true) w.back (λ file there. kept_if file (λ same. files.1.0 file there (sym same)))) in
        let lost : filter keep (w.file ∷ []) ≡ [] =
        filter_none keep (w.file ∷ []) (all_from (λ file. keep file ≡ false) (w.file ∷ []) (λ file there. own_lost file (only file there))) in
        ap (filter keep) begun.files ∙ filter-append keep w.front ((w.file ∷ []) ++ w.back)
        ∙ (λ i. first i ++ filter-append keep (w.file ∷ []) w.back i) ∙ (λ i. w.front ++ (lost i ++ second i))
      where
        only : (file : StoredFile) → Contains (w.file ∷ []) file → w.file ≡ file
        only file there = ⊎_elim (λ same. same) (λ none. absurd (none_in file none)) (first_or_rest w.file [] file there)

        own_is : (a : ℕ) → not (list_any (λ no. eqb no a) (a ∷ [])) ≡ false
        own_is a = grind (arith, eq-eqb a a refl)

        own_lost : (file : StoredFile) → w.file ≡ file → is_kept step.merged.items file.header ≡ false
        own_lost file same = ap (λ numbers. is_kept numbers file.header) stepped.merged
            ∙ ap (λ (f : StoredFile). not (list_any (λ no. eqb no f.header.no) (w.file.header.no ∷ []))) (sym same) ∙ own_is w.file.header.no

    permuted : IsPermutation (made ++ kept_files s step) t.files
    permuted = subst (λ kept. IsPermutation (made ++ kept) t.files) (sym kept_files_are)
        (subst (IsPermutation (made ++ (w.front ++ w.back))) (append_assoc w.front made w.back ∙ sym is.files)
        (subst (λ files. IsPermutation files ((w.front ++ made) ++ w.back)) (append_assoc made w.front w.back)
        (IsPermutation-append_left w.back (made ++ w.front) (w.front ++ made) (IsPermutation-append_comm made w.front))))

    pub sweep_steps : IsStep s loose t left headers step
    sweep_steps = record {
      coherent = next;
      config = ap (λ (m : Manifest). m.config) is.manifest;
      older = stepped.older;
      manifest = stepped.manifest;
      later = subst (λ (m : Manifest). s.manifest.next ≤ m.no) (sym is.manifest) is.later;
      fresh = All-weaker IsWritten (λ (object : Object). s.manifest.next ≤ object.name.no) (λ object there. there.1) step.objects.items stepped.written;
      once = stepped.once;
      loose_pages = pages;
      loose_uncited = uncited;
      beside = stepped.beside;
      segments = all_from (IsSegmentFrom s step) (segments_of t) (λ segment there. inl (subst (λ segments. Contains segments segment) segments_same there));
      objects = all_from (IsObjectFrom s loose step) (objects_of t.files) (λ named there.
          let file = flat_from objects_in t.files named there in
          ⊎_elim
          (λ other. inl (flat_in objects_in s.files file.0 named (other_old file.0 other) file.2))
          (λ new. ⊎_elim
          (λ mine. inl (flat_in objects_in s.files w.file named own mine))
          (λ rest. inr rest)
          (All-contains IsFound (objects_of made) named stepped.objects (flat_in objects_in made file.0 named new file.2)))
          (then_cases file.0 file.1));
      cited = all_from (λ (object : Object). Contains (part_names t) object.name) step.objects.items (λ object there.
          made_part object.name (All-contains IsWritten step.objects.items object stepped.written there).0);
      stays = all_from (IsSettledBy step t left) (part_names s) (λ name there. ⊎_elim
          (λ segment. inl (Contains-append_left (map segment_name (segment_numbers t)) (map name_of (objects_of t.files)) name
          (subst (λ numbers. Contains (map segment_name numbers) name) (sym numbers_same) segment)))
          (λ object.
          let named = map_from name_of (objects_of s.files) name object in
          let file = flat_from objects_in s.files named.0 named.1 in
          ⊎_elim
          (λ other. inl (subst (Contains (part_names t)) named.2 (object_part t named.0 (flat_in objects_in t.files file.0 named.0 (other_then file.0 other) file.2))))
          (λ same. ⊎_elim (λ kept. inl (made_part name kept)) (λ rest. inr rest)
          (All-contains IsParted (names_in (objects_in w.file)) name stepped.parted
          (subst (Contains (names_in (objects_in w.file))) named.2 (in_map name_of (objects_in w.file) named.0
          (subst (λ (f : StoredFile). Contains (objects_in f) named.0) (sym same) file.2)))))
          (old_cases file.0 file.1))
          (Contains-append_cases (map segment_name (segment_numbers s)) (map name_of (objects_of s.files)) name there));
      gone = all_from (IsUncited s loose t) step.gone.items (λ name there.
          let went = All-contains IsLost step.gone.items name stepped.gone there in
          ⊎_elim (λ mine. (inl (own_part name mine), not_cited name mine went.1)) (λ beside. (inr beside, not_cited_beside name beside went.1)) went.0);
      gone_once = stepped.gone_once;
      taken = taken;
      left_there = among;
      left_stays = remains;
      left_uncited = spare;
      added = made;
      headers_are = stepped.headers_are;
      files = permuted;
    }
