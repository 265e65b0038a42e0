-- The step that installs what a sweep left of a stored file.
use Rattle.std.proofs.Common.{◌≡◌, ◌≢◌, ◌⊎◌, ◌≤◌, ◌<◌, ◌+◌, inl, inr, ℕ, Bool, true, false, List, [], ◌∷◌, ◌++◌, length, map, take, All, AllPairs, Contains, refl, sym, ap, ◌∙◌, subst, arith}
use Rattle.std.specs.Prelude.{filter, flat_map, not}
use Rattle.std.specs.List.{cons_option}
use Rattle.std.proofs.lemmas.List.{map-append}
use Rattle.std.proofs.lemmas.List.Concat.{flat_map-append}
use Rattle.std.proofs.lemmas.List.Elements.{All-contains, All-weaker, Contains-append_cases, Contains-append_left, Contains-append_right}
use Rattle.std.proofs.lemmas.List.Folds.{Any-from_list_any, list_any-from_Any}
use Rattle.std.proofs.lemmas.List.Kept.{AllPairs-filter}
use Rattle.lethe_advance.specs.Settled.{AreDrawn, AreUncited, names_in}
use Rattle.lethe_advance.specs.Steps.{IsSettledBy, IsStep, WasThere, new_header, written_in}
use Rattle.lethe_advance.specs.declared.new_header.NewHeader.{NewHeader}
use Rattle.lethe_advance.specs.declared.step.Step.{Step}
use Rattle.lethe_advance.proofs.Lists.{map-filter}
use Rattle.lethe_base.specs.Names.{name_eq}
use Rattle.lethe_base.specs.declared.name.Kind.TheVariants as kinds
use Rattle.lethe_base.specs.declared.name.Name.{Name}
use Rattle.lethe_base.specs.declared.pending.Pending.{Pending}
use Rattle.lethe_commit.specs.declared.objects.Object.{Object}
use Rattle.lethe_cover.proofs.Common.{⊎_elim, first_is}
use Rattle.lethe_cover.proofs.Lists.{Pairs, all_from, flat_from, flat_in, in_map, in_middle, in_rest, map_from, pairs_append, pairs_from, pairs_parts, pairs_to}
use Rattle.lethe_flush.specs.Made.{named_of}
use Rattle.lethe_flush.specs.declared.made.MadeFiles.{MadeFiles}
use Rattle.lethe_follows.specs.Merged.{Company}
use Rattle.lethe_follows.proofs.Renewed.{renewed}
use Rattle.lethe_header.specs.declared.header.PageLine.{PageLine}
use Rattle.lethe_manifest.specs.Manifests.{AreErases, HasSpelling}
use Rattle.lethe_manifest.specs.declared.manifest.Cited.{Cited}
use Rattle.lethe_manifest.specs.declared.manifest.Manifest.{Manifest}
use Rattle.lethe_state.specs.Left.{staying_with}
use Rattle.lethe_state.specs.Remembered.{IsCurrent, Remembers}
use Rattle.lethe_state.specs.Writable.{IsWritable}
use Rattle.lethe_state.specs.declared.state.State.{State}
use Rattle.lethe_state.proofs.Shared.{loose_apart, loose_pages}
use Rattle.lethe_stored.specs.Files.{Parts, StoredFile, IsFile, cited_of, file_name, lines_in, objects_in, objects_of}
use Rattle.lethe_stored.specs.Stored.{Stored, IsCited, IsCoherent, part_names, segment_name, segment_numbers}
use Rattle.lethe_stored.proofs.Leveled.{from_filter, in_filter}
use Rattle.lethe_stored.proofs.Parts.{object_part, part_below, part_kind}
use Rattle.lethe_sweeps.specs.Swept.{IsSweepIn, IsSweptWith, StoredSweep, files_then}
use Rattle.lethe_sweeps.specs.SweptSteps.{IsSweepStep}
use Rattle.lethe_sweeps.proofs.SweptFiles.{swept_coherent}
use Rattle.lethe_sweeps.proofs.SweptStepping.{sweep_steps}
use Rattle.lethe_install.specs.Inputs.{names_of}
use Rattle.lethe_install.specs.Installed.{IsInstallStep}
use Rattle.lethe_install.specs.Left.{is_among, needed_of, unneeded_of}
use Rattle.lethe_install.specs.Outcomes.{AreFirst, IsFileLeft, new_names}
use Rattle.lethe_install.specs.Placed.{with_made}
use Rattle.lethe_install.specs.Replaced.{IsReplaced, behind, names_gone, pages_in}
use Rattle.lethe_install.specs.declared.inputs.Inputs.{Inputs}
use Rattle.lethe_install.specs.declared.steps.Installation.{Installation}
use Rattle.lethe_install.proofs.InPlace.{in_place}
use Rattle.lethe_install.proofs.InstallStep.{goes_not, page_kind, page_no_segment, segment_no_file, segment_no_page}
use Rattle.lethe_install.proofs.Keeping.{staying_beside, staying_spelled}
use Rattle.lethe_install.proofs.Named.{Differ, file_no_page, line_name, name_in, name_kinds, name_self, names_are, number_in, own_names}
use Rattle.lethe_install.proofs.NewPages.{new_between}
use Rattle.lethe_install.proofs.Parted.{same_name}
use Rattle.lethe_install.proofs.SweepMade.{IsMadeFor}

abbrev Apart : StoredFile → StoredFile → Type 0
Apart a b = a.header.no ≢ b.header.no

abbrev AreApart : PageLine → PageLine → Type 0
AreApart a b = a.no ≢ b.no

-- two files with other numbers and other pages have no name in common
names_apart : (a b : StoredFile) → Apart a b → ((x y : PageLine) → Contains (lines_in a) x → Contains (lines_in b) y → AreApart x y)
    → (name : Name) → Contains (names_of a) name → Contains (names_of b) name → ⊥
names_apart a b other lines name left right = ⊎_elim
    (λ header. ⊎_elim
    (λ also. other (number_in (file_name a.header.no) (file_name b.header.no) (header ∙ sym also)))
    (λ page. file_no_page a.header.no page.0.no (header ∙ sym page.2))
    (name_kinds b name right))
    (λ page. ⊎_elim
    (λ also. file_no_page b.header.no page.0.no (also ∙ sym page.2))
    (λ also. lines page.0 also.0 page.1 also.1 (number_in (line_name page.0) (line_name also.0) (page.2 ∙ sym also.2)))
    (name_kinds b name right))
    (name_kinds a name left)

module _ (company : Company) (s : Stored) (state : State) (levels : List (List Parts)) (is : Remembers s state levels) (current : IsCurrent s state) (writable : IsWritable state)
    (w : StoredSweep) (erase : Pending) (alone : Bool) (begun : IsSweepIn s w erase alone) (retired written : List Name) (drawn : AreDrawn state.next (retired ++ written))
    (beside pages : List (Name × List ℕ)) (named : names_in beside ≡ retired) (pages_named : names_in pages ≡ written) (uncited : AreUncited s (beside ++ pages))
    (parts : MadeFiles) (have : IsMadeFor s w erase alone state.next pages parts)
    (inputs : Inputs) (replaced : IsReplaced w.file parts.headers.items state.manifest.files inputs) where
  abbrev number : ℕ
  number = parts.next

  abbrev made : List StoredFile
  made = cons_option have.made []

  abbrev files : List StoredFile
  files = files_then w have.made

  abbrev t : Stored
  t = renewed company s files number

  abbrev loose : List (Name × List ℕ)
  loose = beside ++ pages

  drawn_before : s.manifest.next ≤ state.next
  drawn_before = let fits = writable.drawn in let same = ap (λ (m : Manifest). m.next) is.manifest in omega (arith, fits, same)

  is_swept : IsSweptWith company s w erase alone t
  is_swept = record {
    made = have.made;
    number = number;
    later = let risen = have.risen in omega (arith, risen, drawn_before);
    files = refl;
    manifest = refl;
    frozen = refl;
    active = refl;
    left = have.left;
  }

  loose_names : names_in loose ≡ retired ++ written
  loose_names = map-append name_in beside pages ∙ (λ i. named i ++ pages_named i)

  loose_drawn : AreDrawn state.next (names_in loose)
  loose_drawn = subst (AreDrawn state.next) (sym loose_names) drawn

  abbrev IsDrawn : Name → Type 0
  IsDrawn name = (name.kind ≡ kinds.Page) × (name.no < state.next)

  retired_page : (name : Name) → Contains retired name → IsDrawn name
  retired_page name there = All-contains IsDrawn (retired ++ written) name drawn.each (Contains-append_left retired written name there)

  drawn_parts : Pairs Differ retired × Pairs Differ written × ((a b : Name) → Contains retired a → Contains written b → a ≢ b)
  drawn_parts = pairs_parts Differ retired written (pairs_from Differ (retired ++ written) drawn.once)

  name_uncited : (name : Name) → Contains (retired ++ written) name → Contains (part_names s) name → ⊥
  name_uncited name there cited =
      let found = map_from name_in loose name (subst (λ l. Contains l name) (sym loose_names) there) in
      All-contains (λ (named : Name × List ℕ). IsCited s named.0 → ⊥) loose found.0 uncited found.1 (inr (inr (subst (Contains (part_names s)) (sym found.2) cited)))

  -- Files

  own : Contains s.files w.file
  own = subst (λ files. Contains files w.file) (sym begun.files) (in_middle w.front (w.file ∷ []) w.back w.file (first_is w.file [] w.file refl))

  abbrev IsOther : StoredFile → Type 0
  IsOther file = Contains w.front file ⊎ Contains w.back file

  other_old : (file : StoredFile) → IsOther file → Contains s.files file
  other_old file there = subst (λ files. Contains files file) (sym begun.files) (⊎_elim
      (λ front. Contains-append_left w.front (w.file ∷ w.back) file front)
      (λ back. Contains-append_right w.front (w.file ∷ w.back) file (in_rest w.file w.back file back))
      there)

  then_cases : (file : StoredFile) → Contains files file → IsOther file ⊎ Contains made file
  then_cases file there = ⊎_elim (λ front. inl (inl front)) (λ rest. ⊎_elim (λ new. inr new) (λ back. inl (inr back)) (Contains-append_cases made w.back file rest))
      (Contains-append_cases w.front (made ++ w.back) file there)

  made_then : (file : StoredFile) → Contains made file → Contains files file
  made_then file new = Contains-append_right w.front (made ++ w.back) file (Contains-append_left made w.back file new)

  old_file : (file : StoredFile) → Contains s.files file → IsFile s.manifest.next file
  old_file file there = All-contains (IsFile s.manifest.next) s.files file (is.coherent).each there

  made_file : (file : StoredFile) → Contains made file → IsFile number file
  made_file file new = All-contains (IsFile number) made file have.left.each new

  made_number : (file : StoredFile) → Contains made file → s.manifest.next ≤ file.header.no
  made_number file new = (All-contains (λ (left : StoredFile). (s.manifest.next ≤ left.header.no) × (left.header.no < number)) made file have.left.headers new).0

  -- Names

  abbrev own_objects : List (Name × List ℕ)
  own_objects = objects_in w.file

  abbrev made_names : List Name
  made_names = names_in (objects_of made)

  name_part : (name : Name) → Contains (names_of w.file) name → Contains (part_names s) name
  name_part name there =
      let object = map_from name_in own_objects name (subst (λ l. Contains l name) (names_are s.manifest.next w.file (old_file w.file own)) there) in
      subst (Contains (part_names s)) object.2 (object_part s object.0 (flat_in objects_in s.files w.file object.0 own object.1))

  made_part : (name : Name) → Contains made_names name → Contains (part_names t) name
  made_part name there =
      let object = map_from name_in (objects_of made) name there in
      let file = flat_from objects_in made object.0 object.1 in
      subst (Contains (part_names t)) object.2 (object_part t object.0 (flat_in objects_in files file.0 object.0 (made_then file.0 file.1) file.2))

  -- a name of a file that is made
  named_made : (file : StoredFile) → Contains made file → (name : Name) → Contains (names_of file) name → Contains made_names name
  named_made file new name there =
      let object = map_from name_in (objects_in file) name (subst (λ l. Contains l name) (names_are number file (made_file file new)) there) in
      subst (Contains made_names) object.2 (in_map name_in (objects_of made) object.0 (flat_in objects_in made file object.0 new object.1))

  -- a file's name that stands in an object
  named_by : (next : ℕ) (file : StoredFile) → IsFile next file → (object : Name × List ℕ) → Contains (objects_in file) object → Contains (names_of file) object.0
  named_by next file file_is object there = subst (λ l. Contains l object.0) (sym (names_are next file file_is)) (in_map name_in (objects_in file) object there)

  abbrev lines : List StoredFile → List PageLine
  lines files = flat_map lines_in files

  line_pairs : Pairs AreApart (lines w.front ++ (lines_in w.file ++ lines w.back))
  line_pairs = subst (Pairs AreApart) (ap lines begun.files ∙ flat_map-append lines_in w.front (w.file ∷ w.back)) (pairs_from AreApart (lines s.files) (is.coherent).pages_once)

  line_parts : Pairs AreApart (lines w.front) × Pairs AreApart (lines_in w.file ++ lines w.back)
      × ((a b : PageLine) → Contains (lines w.front) a → Contains (lines_in w.file ++ lines w.back) b → AreApart a b)
  line_parts = pairs_parts AreApart (lines w.front) (lines_in w.file ++ lines w.back) line_pairs

  rest_parts : Pairs AreApart (lines_in w.file) × Pairs AreApart (lines w.back) × ((a b : PageLine) → Contains (lines_in w.file) a → Contains (lines w.back) b → AreApart a b)
  rest_parts = pairs_parts AreApart (lines_in w.file) (lines w.back) line_parts.1

  other_name : (file : StoredFile) → IsOther file → (name : Name) → Contains (names_of w.file) name → Contains (names_of file) name → ⊥
  other_name file there name mine its =
      let split = pairs_parts Apart w.front (w.file ∷ w.back) (subst (Pairs Apart) begun.files (pairs_from Apart s.files (is.coherent).files_once)) in
      ⊎_elim
      (λ front. names_apart file w.file (split.2 file w.file front (first_is w.file w.back w.file refl))
      (λ x y of_x of_y. line_parts.2 x y (flat_in lines_in w.front file x front of_x) (Contains-append_left (lines_in w.file) (flat_map lines_in w.back) y of_y)) name its mine)
      (λ back. names_apart w.file file (split.1.0 file back)
      (λ x y of_x of_y. rest_parts.2 x y of_x (flat_in lines_in w.back file y back of_y)) name mine its)
      there

  -- What is cited next: a segment's name, one of another file's, or one of what is made
  cited_then : (name : Name) → ((k : ℕ) → segment_name k ≡ name → ⊥) → ((file : StoredFile) → IsOther file → Contains (names_of file) name → ⊥)
      → (Contains made_names name → ⊥) → Contains (part_names t) name → ⊥
  cited_then name no_segment no_other not_made cited = ⊎_elim
      (λ segment. let found = map_from segment_name (segment_numbers t) name segment in no_segment found.0 found.2)
      (λ object.
      let found = map_from name_in (objects_of files) name object in
      let file = flat_from objects_in files found.0 found.1 in
      ⊎_elim
      (λ other. no_other file.0 other (subst (Contains (names_of file.0)) found.2 (named_by s.manifest.next file.0 (old_file file.0 (other_old file.0 other)) found.0 file.2)))
      (λ new. not_made (subst (Contains made_names) found.2 (in_map name_in (objects_of made) found.0 (flat_in objects_in made file.0 found.0 new file.2))))
      (then_cases file.0 file.1))
      (Contains-append_cases (map segment_name (segment_numbers t)) (map name_in (objects_of files)) name cited)

  own_out : (name : Name) → Contains (names_of w.file) name → (Contains made_names name → ⊥) → Contains (part_names t) name → ⊥
  own_out name mine not_made = cited_then name
      (λ k same. ⊎_elim (λ header. segment_no_file k w.file.header.no (same ∙ sym header)) (λ page. segment_no_page k page.0.no (same ∙ sym page.2))
      (name_kinds w.file name mine))
      (λ file other its. other_name file other name mine its)
      not_made

  other_part : (file : StoredFile) → Contains s.files file → (name : Name) → Contains (names_of file) name → Contains (part_names s) name
  other_part file there name its =
      let object = map_from name_in (objects_in file) name (subst (λ l. Contains l name) (names_are s.manifest.next file (old_file file there)) its) in
      subst (Contains (part_names s)) object.2 (object_part s object.0 (flat_in objects_in s.files file object.0 there object.1))

  abbrev IsMade : Name × List ℕ → Type 0
  IsMade named = Contains own_objects named ⊎ (Contains pages named ⊎ Contains (map named_of parts.objects.items) named)

  retired_uncited : (name : Name) → Contains retired name → Contains (part_names s) name → ⊥
  retired_uncited name there = name_uncited name (Contains-append_left retired written name there)

  retired_not_made : (name : Name) → Contains retired name → Contains made_names name → ⊥
  retired_not_made name there new =
      let object = map_from name_in (objects_of made) name new in
      ⊎_elim
      (λ mine. retired_uncited name there (subst (Contains (part_names s)) object.2 (object_part s object.0 (flat_in objects_in s.files w.file object.0 own mine))))
      (λ rest. ⊎_elim
      (λ page. drawn_parts.2 name object.0.0 there (subst (λ l. Contains l object.0.0) pages_named (in_map name_in pages object.0 page)) (sym object.2))
      (λ fresh.
      let found = map_from named_of parts.objects.items object.0 fresh in
      let high = (All-contains (λ (o : Object). Contains made_names o.name × (state.next ≤ o.name.no)) parts.objects.items found.0 have.drawn found.1).1 in
      let low = (retired_page name there).1 in
      let same = number_in (found.0).name name (ap name_in found.2 ∙ object.2) in
      omega (arith, high, low, same))
      rest)
      (All-contains IsMade (objects_of made) object.0 have.objects object.1)

  retired_out : (name : Name) → Contains retired name → Contains (part_names t) name → ⊥
  retired_out name there = cited_then name
      (λ k same. page_no_segment (ap (λ (n : Name). n.kind) same ∙ (retired_page name there).0))
      (λ file other its. retired_uncited name there (other_part file (other_old file other) name its))
      (retired_not_made name there)

  -- Whether a page stays

  abbrev heads : List NewHeader
  heads = parts.headers.items

  abbrev kept_pages : List Name
  kept_pages = flat_map pages_in heads

  abbrev stays : Name → Bool
  stays name = is_among kept_pages name

  stays_made : (name : Name) → stays name ≡ true → Contains made_names name
  stays_made name test =
      let any = Any-from_list_any (λ (other : Name). name_eq other name) kept_pages test in
      let new = flat_from pages_in heads name (subst (Contains kept_pages) (same_name any.1 name any.4) (any.0, any.2, any.3)) in
      let file = map_from new_header made new.0 (subst (λ l. Contains l new.0) have.headers_are new.1) in
      let page = subst (λ (new : NewHeader). Contains (pages_in new) name) (sym file.2) new.2 in
      named_made file.0 file.1 name (in_rest (file_name file.0.header.no) (map line_name (lines_in file.0)) name page)

  line_stays : (file : StoredFile) → Contains made file → (line : PageLine) → Contains (lines_in file) line → stays (line_name line) ≡ true
  line_stays file new line there =
      let head = subst (λ l. Contains l (new_header file)) (sym have.headers_are) (in_map new_header made file new) in
      let page = flat_in pages_in heads (new_header file) (line_name line) head (in_map line_name (lines_in file) line there) in
      list_any-from_Any (λ (other : Name). name_eq other (line_name line)) kept_pages (page.0, line_name line, page.1, page.2, name_self (line_name line))

  made_stays : (name : Name) → Contains (names_of w.file) name → Contains made_names name → stays name ≡ true
  made_stays name mine new =
      let object = map_from name_in (objects_of made) name new in
      let file = flat_from objects_in made object.0 object.1 in
      let its = subst (Contains (names_of file.0)) object.2 (named_by number file.0 (made_file file.0 file.1) object.0 file.2) in
      ⊎_elim
      (λ header. absurd (⊎_elim
      (λ also.
      let low = part_below s (file_name w.file.header.no) is.coherent (name_part (file_name w.file.header.no) (subst (Contains (names_of w.file)) (sym also) mine)) in
      let high = made_number file.0 file.1 in
      let same = number_in (file_name file.0.header.no) (file_name w.file.header.no) (header ∙ sym also) in
      omega (arith, low, high, same))
      (λ page. file_no_page file.0.header.no page.0.no (header ∙ sym page.2))
      (name_kinds w.file name mine)))
      (λ page. subst (λ n. stays n ≡ true) page.2 (line_stays file.0 file.1 page.0 page.1))
      (name_kinds file.0 name its)

  -- The step

  module _ (needs : Name → Bool) (installing : Installation) (stepped : IsInstallStep company state w.file.level inputs parts retired needs installing)
      (spelled : HasSpelling installing.step.manifest) (paged : All (λ (name : Name). name.kind ≡ kinds.Page) installing.left.items) where
    abbrev headers : List NewHeader
    headers = installing.headers.items

    abbrev step : Step
    step = installing.step

    above_is : inputs.above.items ≡ map (λ (file : Cited). file.no) (behind w.file.header.no s.manifest.files)
    above_is = replaced.above ∙ ap (λ (m : Manifest). map (λ (file : Cited). file.no) (behind w.file.header.no m.files)) is.manifest

    cited_same : with_made w.file.level inputs.numbers.items inputs.above.items parts.cited.items state.manifest.files ≡ map cited_of files
    cited_same =
        (λ i. with_made w.file.level (replaced.numbers i) (above_is i) (have.cited i) (is.manifest i).files)
        ∙ in_place s is.coherent w begun.files made

    abbrev staying : List Pending
    staying = staying_with company state (map cited_of files)

    manifest_as_stays : step.manifest ≡ record t.manifest { erases = staying }
    manifest_as_stays = stepped.manifest
        ∙ (λ i. record (is.manifest i) { no = number; count = current.count i; next = number + 1; erases = staying_with company state (cited_same i); files = cited_same i })

    coherent_then : IsCoherent t
    coherent_then = swept_coherent s is.coherent w erase alone begun t is_swept
        (staying_spelled company s files number (subst AreErases is.pending writable.pending) staying (subst HasSpelling manifest_as_stays spelled))

    manifest_is : step.manifest ≡ t.manifest
    manifest_is = manifest_as_stays ∙ (λ i. record t.manifest { erases = staying_beside company s files number state levels is coherent_then i })

    -- what goes, and what is left

    abbrev names : List Name
    names = names_gone w.file heads ++ retired

    abbrev leaves : Name → Bool
    leaves name = not (stays name)

    abbrev lost : List (Name × List ℕ)
    lost = filter (λ (object : Name × List ℕ). leaves object.0) own_objects

    abbrev gone_objects : List (Name × List ℕ)
    gone_objects = lost ++ beside

    abbrev needed_object : Name × List ℕ → Bool
    needed_object object = needs object.0

    abbrev unneeded : Name → Bool
    unneeded name = not (needs name)

    abbrev remaining : List (Name × List ℕ)
    remaining = filter needed_object gone_objects

    gone_names : map name_in gone_objects ≡ names
    gone_names = map-append name_in lost beside
        ∙ (λ i. (map-filter name_in leaves own_objects ∙ ap (filter leaves) (sym (names_are s.manifest.next w.file (old_file w.file own)))) i ++ named i)

    gone_is : step.gone.items ≡ unneeded_of needs names
    gone_is = stepped.gone ∙ ap (λ l. unneeded_of needs (l ++ retired)) replaced.names

    left_is : installing.left.items ≡ names_in remaining
    left_is = stepped.left ∙ ap (λ l. needed_of needs (l ++ retired)) replaced.names ∙ ap (needed_of needs) (sym gone_names)
        ∙ sym (map-filter name_in needs gone_objects)

    named_in : (object : Name × List ℕ) → Contains gone_objects object → Contains names object.0
    named_in object there = subst (λ l. Contains l object.0) gone_names (in_map name_in gone_objects object there)

    -- it is left where it is needed, and goes otherwise
    settled : (object : Name × List ℕ) → Contains gone_objects object → Contains step.gone.items object.0 ⊎ Contains (names_in remaining) object.0
    settled object there = by (needs object.0) refl
      where
        by : (b : Bool) → needs object.0 ≡ b → Contains step.gone.items object.0 ⊎ Contains (names_in remaining) object.0
        by true at = inr (in_map name_in remaining object (in_filter needed_object gone_objects object there at))
        by false at = inl (subst (λ l. Contains l object.0) (sym gone_is) (in_filter unneeded names object.0 (named_in object there) (ap not at)))

    -- a name that goes or is left is none of what is made
    own_gone : (name : Name) → Contains (names_gone w.file heads) name → Contains (names_of w.file) name × (Contains made_names name → ⊥)
    own_gone name there =
        let passes = from_filter leaves (names_of w.file) name there in
        (passes.0, λ new. goes_not (stays name) passes.1 (made_stays name passes.0 new))

    abbrev IsGone : Name → Type 0
    IsGone name = (Contains (names_in own_objects) name ⊎ Contains (names_in loose) name) × (Contains made_names name → ⊥)

    is_gone : (name : Name) → Contains names name → IsGone name
    is_gone name there = ⊎_elim
        (λ mine. let of_file = own_gone name mine in
        (inl (subst (λ l. Contains l name) (names_are s.manifest.next w.file (old_file w.file own)) of_file.0), of_file.1))
        (λ page. (inr (subst (λ l. Contains l name) (sym loose_names) (Contains-append_left retired written name page)), retired_not_made name page))
        (Contains-append_cases (names_gone w.file heads) retired name there)

    out : (name : Name) → Contains names name → Contains (part_names t) name → ⊥
    out name there = ⊎_elim
        (λ mine. let of_file = own_gone name mine in own_out name of_file.0 of_file.1)
        (λ page. retired_out name page)
        (Contains-append_cases (names_gone w.file heads) retired name there)

    kind_then : (name : Name) → Contains names name → (name.kind ≢ kinds.Gate) × (name.kind ≢ kinds.Manifest)
    kind_then name there = ⊎_elim
        (λ mine. part_kind s name (name_part name (own_gone name mine).0))
        (λ page. page_kind name (retired_page name page).0)
        (Contains-append_cases (names_gone w.file heads) retired name there)

    names_differ : AllPairs Differ names
    names_differ = pairs_to Differ names (pairs_append Differ (names_gone w.file heads) retired
        (pairs_from Differ (names_gone w.file heads) (AllPairs-filter Differ leaves (names_of w.file) (pairs_to Differ (names_of w.file) (own_names w.file rest_parts.0))))
        drawn_parts.0
        (λ a b mine page same. retired_uncited b page (subst (Contains (part_names s)) same (name_part a (own_gone a mine).0))))

    -- what is left are pages with numbers that were drawn, each once

    left_names : installing.left.items ≡ needed_of needs names
    left_names = stepped.left ∙ ap (λ l. needed_of needs (l ++ retired)) replaced.names

    name_below : (name : Name) → Contains names name → name.no < number
    name_below name there = let risen = have.risen in ⊎_elim
        (λ mine. let low = part_below s name is.coherent (name_part name (own_gone name mine).0) in omega (arith, low, drawn_before, risen))
        (λ page. let low = (retired_page name page).1 in omega (arith, low, risen))
        (Contains-append_cases (names_gone w.file heads) retired name there)

    left_drawn : AreDrawn step.manifest.next installing.left.items
    left_drawn = record {
      each = all_from (λ (name : Name). (name.kind ≡ kinds.Page) × (name.no < step.manifest.next)) installing.left.items (λ name there.
          let next : step.manifest.next ≡ number + 1 = ap (λ (m : Manifest). m.next) stepped.manifest in
          let low = name_below name (from_filter needs names name (subst (λ l. Contains l name) left_names there)).0 in
          (All-contains (λ (name : Name). name.kind ≡ kinds.Page) installing.left.items name paged there, omega (arith, low, next)));
      once = subst (AllPairs Differ) (sym left_names) (AllPairs-filter Differ needs names names_differ);
    }

    left_in : (object : Name × List ℕ) → Contains remaining object → Contains gone_objects object × (needs object.0 ≡ true)
    left_in object there = from_filter needed_object gone_objects object there

    left_there : (object : Name × List ℕ) → Contains remaining object → WasThere s loose object
    left_there object there = ⊎_elim
        (λ mine. inr (flat_in objects_in s.files w.file object own (from_filter (λ (object : Name × List ℕ). leaves object.0) own_objects object mine).0))
        (λ page. inl (Contains-append_left beside pages object page))
        (Contains-append_cases lost beside object (left_in object there).0)

    left_stays : (object : Name × List ℕ) → Contains remaining object → Contains step.gone.items object.0 → ⊥
    left_stays object there lose = goes_not (needs object.0)
        (from_filter unneeded names object.0 (subst (λ l. Contains l object.0) gone_is lose)).1 (left_in object there).1

    left_uncited : (object : Name × List ℕ) → Contains remaining object → IsCited t object.0 → ⊥
    left_uncited object there (inl gate) = (kind_then object.0 (named_in object (left_in object there).0)).0 (ap (λ (n : Name). n.kind) gate)
    left_uncited object there (inr (inl manifest)) = (kind_then object.0 (named_in object (left_in object there).0)).1 (ap (λ (n : Name). n.kind) manifest)
    left_uncited object there (inr (inr part)) = out object.0 (named_in object (left_in object there).0) part

    taken : (object : Name × List ℕ) → Contains loose object → IsSettledBy step t remaining object.0
    taken object there = ⊎_elim
        (λ page. inr (settled object (Contains-append_right lost beside object page)))
        (λ new. inl (made_part object.0 (All-contains (λ (named : Name × List ℕ). Contains made_names named.0) pages object have.written new)))
        (Contains-append_cases beside pages object there)

    abbrev IsFound : Name × List ℕ → Type 0
    IsFound object = Contains own_objects object ⊎ (Contains loose object ⊎ Contains (written_in step) object)

    is_found : (object : Name × List ℕ) → IsMade object → IsFound object
    is_found object (inl mine) = inl mine
    is_found object (inr (inl page)) = inr (inl (Contains-append_right beside pages object page))
    is_found object (inr (inr new)) = inr (inr (subst (λ (objects : List Object). Contains (map named_of objects) object) (sym stepped.objects) new))

    abbrev IsParted : Name → Type 0
    IsParted name = Contains made_names name ⊎ (Contains step.gone.items name ⊎ Contains (names_in remaining) name)

    parted : (object : Name × List ℕ) → Contains own_objects object → IsParted object.0
    parted object mine = by (stays object.0) refl
      where
        by : (b : Bool) → stays object.0 ≡ b → IsParted object.0
        by true at = inl (stays_made object.0 at)
        by false at = inr (settled object (Contains-append_left lost beside object
            (in_filter (λ (object : Name × List ℕ). leaves object.0) own_objects object mine (ap not at))))

    part_name : (name : Name) → Contains (names_in own_objects) name → IsParted name
    part_name name there = let object = map_from name_in own_objects name there in subst IsParted object.2 (parted object.0 object.1)

    abbrev IsWritten : Object → Type 0
    IsWritten object = Contains made_names object.name × (state.next ≤ object.name.no)

    written_by : All IsWritten step.objects.items
    written_by = subst (All IsWritten) (sym stepped.objects) have.drawn

    sweep_step : IsSweepStep s t w.file made loose remaining headers step
    sweep_step = record {
      headers_are = stepped.headers_are ∙ have.headers_are;
      older = stepped.older ∙ ap (λ (m : Manifest). m.no) is.manifest;
      manifest = manifest_is;
      merged = stepped.merged ∙ replaced.numbers;
      objects = All-weaker IsMade IsFound is_found (objects_of made) have.objects;
      written = All-weaker IsWritten (λ (object : Object). Contains made_names object.name × (s.manifest.next ≤ object.name.no))
          (λ object own. (own.0, let high = own.1 in omega (arith, high, drawn_before))) step.objects.items written_by;
      once = subst (AllPairs (λ (a b : Object). a.name ≢ b.name)) (sym stepped.objects) have.once;
      beside = All-weaker IsWritten (λ (object : Object). Contains (names_in loose) object.name → ⊥)
          (λ object own. loose_apart state.next loose loose_drawn object.name own.1) step.objects.items written_by;
      parted = all_from IsParted (names_in own_objects) part_name;
      gone = subst (All IsGone) (sym gone_is) (all_from IsGone (unneeded_of needs names) (λ name there. is_gone name (from_filter unneeded names name there).0));
      gone_once = subst (AllPairs Differ) (sym gone_is) (AllPairs-filter Differ unneeded names names_differ);
    }

    firsts : AreFirst written s t
    firsts = record {
      first = subst (λ (names : List Name). take (length names) (new_names s files) ≡ names) pages_named (
          ap (take (length (names_in pages))) (new_between s w.front made w.back (λ file front. other_old file (inl front)) (λ file back. other_old file (inr back)))
          ∙ have.firsts);
    }

    pub sweep_installed : (t : Stored) × ((is : IsSweptWith company s w erase alone t) × IsFileLeft s w.file erase alone is.number is.made)
        × ((left : List (Name × List ℕ)) × IsStep s loose t left headers step × (installing.left.items ≡ names_in left) × AreDrawn step.manifest.next installing.left.items)
        × AreFirst written s t
    unfolding is_swept
    sweep_installed = (
      t,
      (is_swept, have.file_left),
      (
        remaining,
        sweep_steps s t is.coherent coherent_then w erase alone begun is_swept loose remaining (loose_pages state.next loose loose_drawn) uncited headers step sweep_step
            (all_from (λ (object : Name × List ℕ). IsSettledBy step t remaining object.0) loose taken)
            (all_from (WasThere s loose) remaining left_there)
            (all_from (λ (object : Name × List ℕ). Contains step.gone.items object.0 → ⊥) remaining left_stays)
            (all_from (λ (object : Name × List ℕ). IsCited t object.0 → ⊥) remaining left_uncited),
        left_is,
        left_drawn,
      ),
      firsts,
    )
