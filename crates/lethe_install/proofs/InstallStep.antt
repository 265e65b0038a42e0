-- The step that installs what a job made of stored files.
use Rattle.std.proofs.Common.{◌≡◌, ◌≢◌, ◌⊎◌, ◌≤◌, ◌<◌, ◌+◌, inl, inr, ℕ, Bool, true, false, List, [], ◌∷◌, ◌++◌, append_assoc, length, map, get_or, take, All, AllPairs, Contains, IsPermutation, refl, sym, ap, ◌∙◌, subst, arith}
use Rattle.std.specs.Prelude.{filter, flat_map, not, zip}
use Rattle.std.proofs.lemmas.List.{map-append}
use Rattle.std.proofs.lemmas.List.Elements.{All-contains, All-filter, Contains-append_cases, Contains-append_left, Contains-append_right, Contains-get_or}
use Rattle.std.proofs.lemmas.List.Kept.{AllPairs-filter}
use Rattle.std.proofs.lemmas.List.Sorted.{Contains-permutation, IsPermutation-append_comm, IsPermutation-append_right, IsPermutation-filter_both, IsPermutation-sym, IsPermutation-trans}
use Rattle.lethe_advance.specs.Settled.{AreDrawn, AreUncited, names_in}
use Rattle.lethe_advance.specs.Steps.{IsObjectFrom, IsSegmentFrom, IsSettledBy, IsStep, IsUncited, WasThere, written_in}
use Rattle.lethe_advance.specs.declared.new_header.NewHeader.{NewHeader}
use Rattle.lethe_advance.specs.declared.step.Step.{Step}
use Rattle.lethe_advance.proofs.Lists.{map-filter}
use Rattle.lethe_base.specs.declared.entry.Entry.{Entry}
use Rattle.lethe_base.specs.declared.name.Kind.TheVariants as kinds
use Rattle.lethe_base.specs.declared.name.Name.{Name}
use Rattle.lethe_base.specs.declared.pending.Pending.{Pending}
use Rattle.lethe_build.specs.Drafts.{AreDraftsOf}
use Rattle.lethe_build.specs.declared.draft.Draft.{Draft}
use Rattle.lethe_commit.specs.declared.objects.Object.{Object}
use Rattle.lethe_cover.proofs.Common.{⊎_elim}
use Rattle.lethe_cover.proofs.Lists.{Pairs, all_from, flat_from, flat_in, in_map, in_rest, map_from, pairs_append, pairs_from, pairs_parts, pairs_to}
use Rattle.lethe_file.specs.Agreement.{page_name}
use Rattle.lethe_build.specs.Drafts.{pages_in}
use Rattle.lethe_flush.specs.Made.{AreFilesOf, named_of, written_pages}
use Rattle.lethe_flush.specs.declared.made.MadeFiles.{MadeFiles}
use Rattle.lethe_flush.proofs.Weaving.{are_woven, files_agree}
use Rattle.lethe_follows.specs.Merged.{AreNewIn, Company, IsMergeIn, IsMergedWith, StoredMerge, entries_in, erases_upto, inputs_of, others_of}
use Rattle.lethe_follows.proofs.MergeFiles.{merged_coherent}
use Rattle.lethe_follows.proofs.Permuted.{pairs_kept}
use Rattle.lethe_follows.proofs.Renewed.{renewed}
use Rattle.lethe_header.specs.declared.header.PageLine.{PageLine}
use Rattle.lethe_job.specs.Tasks.{IsMergeTask, PlainMerge, merge_inputs}
use Rattle.lethe_manifest.specs.Manifests.{AreErases, HasSpelling}
use Rattle.lethe_manifest.specs.declared.manifest.Manifest.{Manifest}
use Rattle.lethe_merge.specs.Merge.{merged}
use Rattle.lethe_merge.proofs.Merges.{merged_ascends}
use Rattle.lethe_state.specs.Left.{staying_with}
use Rattle.lethe_state.specs.Remembered.{IsCurrent, Remembers}
use Rattle.lethe_state.specs.Writable.{IsWritable}
use Rattle.lethe_state.specs.declared.state.State.{State}
use Rattle.lethe_state.proofs.Shared.{loose_apart, loose_pages}
use Rattle.lethe_stored.specs.Files.{Parts, StoredFile, IsFile, cited_of, file_name, lines_in, objects_in, objects_of}
use Rattle.lethe_stored.specs.Stored.{Stored, IsCited, IsCoherent, pending_of, part_names, segment_name, segment_numbers, segments_of}
use Rattle.lethe_stored.proofs.Leveled.{from_filter, in_filter}
use Rattle.lethe_stored.proofs.Parts.{IsNameOf, OfHeader, OfPage, OfSegment, name_cases, object_part, part_below, part_kind}
use Rattle.lethe_version.specs.Order.{is_kept}
use Rattle.lethe_install.specs.Inputs.{AreInputs, names_of, number_of, numbered}
use Rattle.lethe_install.specs.Installed.{IsInstallStep}
use Rattle.lethe_install.specs.Left.{left_of, needed_of, unneeded_of}
use Rattle.lethe_install.specs.Outcomes.{AreFirst}
use Rattle.lethe_install.specs.Placed.{is_among, is_before, is_behind, with_made}
use Rattle.lethe_install.specs.declared.inputs.Inputs.{Inputs}
use Rattle.lethe_install.specs.declared.steps.Installation.{Installation}
use Rattle.lethe_install.proofs.Beside.{placed, placed_from, placed_into, placed_rest}
use Rattle.lethe_install.proofs.Named.{Differ, all_names_are, file_no_page, line_name, name_in, name_kinds, names_are, names_once, number_in, pages_differ}
use Rattle.lethe_install.proofs.Between.{with_made_laid}
use Rattle.lethe_install.proofs.NewPages.{all_new, new_between}
use Rattle.lethe_install.proofs.Keeping.{staying_beside, staying_spelled}

-- the names of what was written before
pub zip_firsts : (names : List Name) (pages : List (List ℕ)) → length names ≤ length pages → map name_in (zip names (take (length names) pages)) ≡ names
zip_firsts [] pages few = refl
zip_firsts (name ∷ names) [] few = absurd (omega (arith, few))
zip_firsts (name ∷ names) (page ∷ pages) few = ap (λ l. name ∷ l) (zip_firsts names pages (omega (arith, few)))

pub segment_no_file : (a b : ℕ) → segment_name a ≡ file_name b → ⊥
segment_no_file a b same = let clash : kinds.Segment ≡ kinds.File = ap (λ (n : Name). n.kind) same in cc

pub segment_no_page : (a b : ℕ) → segment_name a ≡ page_name b → ⊥
segment_no_page a b same = let clash : kinds.Segment ≡ kinds.Page = ap (λ (n : Name). n.kind) same in cc

pub page_no_segment : kinds.Segment ≡ kinds.Page → ⊥
page_no_segment same = cc

page_no_header : kinds.File ≡ kinds.Page → ⊥
page_no_header same = cc

pub page_kind : (name : Name) → name.kind ≡ kinds.Page → (name.kind ≢ kinds.Gate) × (name.kind ≢ kinds.Manifest)
page_kind name page = subst (λ kind. (kind ≢ kinds.Gate) × (kind ≢ kinds.Manifest)) (sym page) (λ e. cc, λ e. cc)

pub goes_not : (b : Bool) → not b ≡ true → b ≡ true → ⊥
goes_not b stays goes = let clash : false ≡ true = ap not (sym goes) ∙ stays in cc

module _ (company : Company) (s : Stored) (state : State) (levels : List (List Parts)) (is : Remembers s state levels) (current : IsCurrent s state) (writable : IsWritable state)
    (m : StoredMerge) (begun : IsMergeIn s m) (applied : List Pending) (alone : Bool) (upto : ℕ) (retired written : List Name) (drafts : List Draft)
    (drawn : AreDrawn state.next (retired ++ written)) (few : length written ≤ length (pages_in drafts))
    (beside : List (Name × List ℕ)) (named : names_in beside ≡ retired) (uncited : AreUncited s (beside ++ written_pages written drafts))
    (of : AreDraftsOf s.manifest.config (merged (entries_in (inputs_of m)) applied alone) drafts)
    (parts : MadeFiles) (risen : state.next ≤ parts.next) (made : List StoredFile) (are : AreFilesOf drafts (m.level + 1) upto written state.next parts made)
    (inputs : Inputs) (numbers : inputs.numbers.items ≡ map number_of (inputs_of m)) (found : AreInputs (m.level + 1) m.sources s.files inputs) where
  abbrev number : ℕ
  number = parts.next

  abbrev above : List ℕ
  above = inputs.above.items

  abbrev others : List StoredFile
  others = others_of s m

  abbrev files : List StoredFile
  files = placed s is.coherent m begun above found.above made are.level_is

  abbrev t : Stored
  t = renewed company s files number

  abbrev pages : List (Name × List ℕ)
  pages = written_pages written drafts

  abbrev loose : List (Name × List ℕ)
  loose = beside ++ pages

  next_is : state.manifest.next ≡ s.manifest.next
  next_is = ap (λ (m : Manifest). m.next) is.manifest

  drawn_before : s.manifest.next ≤ state.next
  drawn_before = let fits = writable.drawn in omega (arith, fits, next_is)

  later : s.manifest.next ≤ number
  later = omega (arith, risen, drawn_before)

  loose_names : names_in loose ≡ retired ++ written
  loose_names = map-append name_in beside pages ∙ (λ i. named i ++ zip_firsts written (pages_in drafts) few i)

  loose_drawn : AreDrawn state.next (names_in loose)
  loose_drawn = subst (AreDrawn state.next) (sym loose_names) drawn

  abbrev IsDrawn : Name → Type 0
  IsDrawn name = (name.kind ≡ kinds.Page) × (name.no < state.next)

  retired_page : (name : Name) → Contains retired name → IsDrawn name
  retired_page name there = All-contains IsDrawn (retired ++ written) name drawn.each (Contains-append_left retired written name there)

  drawn_parts : Pairs Differ retired × Pairs Differ written × ((a b : Name) → Contains retired a → Contains written b → a ≢ b)
  drawn_parts = pairs_parts Differ retired written (pairs_from Differ (retired ++ written) drawn.once)

  name_uncited : (name : Name) → Contains (retired ++ written) name → Contains (part_names s) name → ⊥
  name_uncited name there cited =
      let found = map_from name_in loose name (subst (λ l. Contains l name) (sym loose_names) there) in
      All-contains (λ (named : Name × List ℕ). IsCited s named.0 → ⊥) loose found.0 uncited found.1 (inr (inr (subst (Contains (part_names s)) (sym found.2) cited)))

  -- What is stored next

  abbrev behind : StoredFile → Bool
  behind file = is_behind (m.level + 1) above (cited_of file)

  abbrev before : StoredFile → Bool
  before file = is_before (m.level + 1) above (cited_of file)

  permuted : IsPermutation (made ++ others) files
  permuted =
      let low = filter before others in
      let high = filter behind others in
      IsPermutation-trans (made ++ others) ((made ++ high) ++ low) (low ++ (made ++ high))
      (subst (IsPermutation (made ++ others)) (sym (append_assoc made high low)) (IsPermutation-append_right made others (high ++ low) (IsPermutation-filter_both behind before (λ file. refl) others)))
      (IsPermutation-append_comm (made ++ high) low)

  written_line : (line : PageLine) → Contains written (page_name line.no) → line.no < state.next
  written_line line there = (All-contains IsDrawn (retired ++ written) (page_name line.no) drawn.each (Contains-append_right retired written (page_name line.no) there)).1

  abbrev IsLine : PageLine → Type 0
  IsLine line = Contains written (page_name line.no) ⊎ ((state.next ≤ line.no) × (line.no < number))

  made_line : (line : PageLine) → Contains (flat_map lines_in made) line → IsLine line
  made_line line there = All-contains IsLine (flat_map lines_in made) line are.lines there

  line_below : (line : PageLine) → IsLine line → line.no < number
  line_below line (inl before) = let low = written_line line before in omega (arith, low, risen)
  line_below line (inr fresh) = fresh.1

  -- a page of a new file isn't cited
  line_uncited : (line : PageLine) → IsLine line → Contains (part_names s) (page_name line.no) → ⊥
  line_uncited line (inl before) cited = name_uncited (page_name line.no) (Contains-append_right retired written (page_name line.no) before) cited
  line_uncited line (inr fresh) cited = let low = part_below s (page_name line.no) is.coherent cited in let high = fresh.0 in omega (arith, low, high, drawn_before)

  -- nor is it a retired one
  line_unretired : (line : PageLine) → IsLine line → (name : Name) → Contains retired name → page_name line.no ≢ name
  line_unretired line (inl before) name there same = drawn_parts.2 name (page_name line.no) there before (sym same)
  line_unretired line (inr fresh) name there same = let low = (retired_page name there).1 in let high = fresh.0 in let number = number_in (page_name line.no) name same in omega (arith, low, high, number)

  abbrev left : List Entry
  left = merged (entries_in (inputs_of m)) applied alone

  new : AreNewIn s number made
  new = record {
    each = λ k d lt. record {
      spelled = are.spelled k d lt;
      agrees = files_agree s.manifest.config left (merged_ascends (entries_in (inputs_of m)) applied alone) drafts of made are.each k d lt;
      below = all_from (λ (line : PageLine). line.no < number) (lines_in (get_or made k d)) (λ line there. line_below line (made_line line (flat_in lines_in made (get_or made k d) line (Contains-get_or made k d lt) there)));
    };
    headers = λ k d lt. let own = are.headers_drawn k d lt in let low = own.0 in (omega (arith, low, drawn_before), own.1);
    lines = all_from (λ (line : PageLine). Contains (part_names s) (page_name line.no) → ⊥) (flat_map lines_in made) (λ line there. line_uncited line (made_line line there));
    files_once = λ i j d before within same. let up = are.headers_ascend i j d before within in omega (arith, up, same);
    pages_once = are.lines_once;
  }

  is_merged : IsMergedWith company s m applied alone upto t
  is_merged = record {
    made = made;
    number = number;
    later = later;
    manifest = refl;
    frozen = refl;
    active = refl;
    files = permuted;
    from = placed_from s is.coherent m begun above found.above made are.level_is;
    into = placed_into s is.coherent m begun above found.above made are.level_is;
    rest = placed_rest s is.coherent m begun above found.above made are.level_is;
    level = are.level_is;
    new = new;
    order = are.headers_ascend;
    woven = are_woven s.manifest.config left (merged_ascends (entries_in (inputs_of m)) applied alone) drafts of made are.each upto are.spelled are.swept;
  }

  firsts : AreFirst written s t
  firsts =
      let old : (file : StoredFile) → Contains others file → Contains s.files file =
      λ file there. (from_filter (λ (file : StoredFile). is_kept (map (λ (input : StoredFile). input.header.no) (inputs_of m)) file.header) s.files file there).0 in
      record {
        first = ap (take (length written)) (
            new_between s (filter before others) made (filter behind others) (λ file there. old file (from_filter before others file there).0) (λ file there. old file (from_filter behind others file there).0)
            ∙ all_new s is.coherent made (λ line there. line_uncited line (made_line line there)))
            ∙ are.firsts;
      }

  -- The step

  module _ (needs : Name → Bool) (installing : Installation) (stepped : IsInstallStep company state (m.level + 1) inputs parts retired needs installing) (spelled : HasSpelling installing.step.manifest)
      (paged : All (λ (name : Name). name.kind ≡ kinds.Page) installing.left.items) where
    abbrev headers : List NewHeader
    headers = installing.headers.items

    abbrev step : Step
    step = installing.step

    cited_same : with_made (m.level + 1) inputs.numbers.items above parts.cited.items state.manifest.files ≡ map cited_of files
    cited_same =
        (λ i. with_made (m.level + 1) (numbers i) above (are.cited i) ((ap (λ (m : Manifest). m.files) is.manifest ∙ (is.coherent).files) i))
        ∙ with_made_laid (m.level + 1) (map number_of (inputs_of m)) above made s.files

    abbrev staying : List Pending
    staying = staying_with company state (map cited_of files)

    manifest_as_stays : step.manifest ≡ record t.manifest { erases = staying }
    manifest_as_stays = stepped.manifest ∙ (λ i. record (is.manifest i) { no = number; count = current.count i; next = number + 1; erases = staying_with company state (cited_same i); files = cited_same i })

    coherent_then : IsCoherent t
    coherent_then = merged_coherent s is.coherent m applied alone upto t is_merged (staying_spelled company s files number (subst AreErases is.pending writable.pending) staying (subst HasSpelling manifest_as_stays spelled))

    manifest_is : step.manifest ≡ t.manifest
    manifest_is = manifest_as_stays ∙ (λ i. record t.manifest { erases = staying_beside company s files number state levels is coherent_then i })

    abbrev goes : StoredFile → Bool
    goes file = is_among (map number_of (inputs_of m)) file.header.no

    -- files of the next state

    to_files : (file : StoredFile) → Contains (made ++ others) file → Contains files file
    to_files file there = Contains-permutation (made ++ others) files file permuted there

    from_files : (file : StoredFile) → Contains files file → Contains made file ⊎ (Contains s.files file × (not (goes file) ≡ true))
    from_files file there = ⊎_elim (λ new. inl new) (λ old. inr (from_filter (λ (file : StoredFile). not (goes file)) s.files file old))
        (Contains-append_cases made others file (Contains-permutation files (made ++ others) file (IsPermutation-sym (made ++ others) files permuted) there))

    new_object : (object : Name × List ℕ) → Contains (objects_of made) object → Contains (objects_of files) object
    new_object object there = let from = flat_from objects_in made object there in flat_in objects_in files from.0 object (to_files from.0 (Contains-append_left made others from.0 from.1)) from.2

    -- what is written before or by the step is an object of a new file, and the other way round

    made_objects : (object : Name × List ℕ) → Contains (objects_of made) object → Contains pages object ⊎ Contains (written_in step) object
    made_objects object there = ⊎_elim (λ before. inl before) (λ more. inr (subst (λ (objects : List Object). Contains (map named_of objects) object) (sym stepped.objects) more))
        (Contains-append_cases pages (map named_of parts.objects.items) object (Contains-permutation (objects_of made) (pages ++ map named_of parts.objects.items) object are.objects there))

    back : (object : Name × List ℕ) → Contains (pages ++ map named_of parts.objects.items) object → Contains (objects_of made) object
    back object there = Contains-permutation (pages ++ map named_of parts.objects.items) (objects_of made) object (IsPermutation-sym (objects_of made) (pages ++ map named_of parts.objects.items) are.objects) there

    of_page : (object : Name × List ℕ) → Contains pages object → Contains (objects_of made) object
    of_page object there = back object (Contains-append_left pages (map named_of parts.objects.items) object there)

    of_step : (object : Object) → Contains step.objects.items object → Contains parts.objects.items object
    of_step object there = subst (λ (objects : List Object). Contains objects object) stepped.objects there

    of_written : (object : Object) → Contains step.objects.items object → Contains (objects_of made) (named_of object)
    of_written object there = back (named_of object) (Contains-append_right pages (map named_of parts.objects.items) (named_of object) (in_map named_of parts.objects.items object (of_step object there)))

    fresh_no : (object : Object) → Contains step.objects.items object → state.next ≤ object.name.no
    fresh_no object there = (All-contains (λ (object : Object). (state.next ≤ object.name.no) × (object.name.no < number)) parts.objects.items object are.drawn (of_step object there)).0

    object_from : (object : Name × List ℕ) → Contains (objects_of files) object → IsObjectFrom s loose step object
    object_from object there =
        let from = flat_from objects_in files object there in
        ⊎_elim
        (λ new. ⊎_elim (λ before. inr (inl (Contains-append_right beside pages object before))) (λ more. inr (inr more)) (made_objects object (flat_in objects_in made from.0 object new from.2)))
        (λ old. inl (flat_in objects_in s.files from.0 object old.0 from.2))
        (from_files from.0 from.1)

    -- what goes, and what is left

    abbrev lost : List StoredFile
    lost = numbered (map number_of (inputs_of m)) s.files

    abbrev names : List Name
    names = flat_map names_of lost ++ retired

    abbrev replaced : List (Name × List ℕ)
    replaced = objects_of lost ++ beside

    abbrev needed_object : Name × List ℕ → Bool
    needed_object object = needs object.0

    abbrev unneeded : Name → Bool
    unneeded name = not (needs name)

    abbrev remaining : List (Name × List ℕ)
    remaining = left_of needs lost beside

    names_of_all : inputs.names.items ++ retired ≡ names
    names_of_all = ap (λ l. l ++ retired) (found.names ∙ ap (λ gone. flat_map names_of (numbered gone s.files)) numbers)

    gone_is : step.gone.items ≡ unneeded_of needs names
    gone_is = stepped.gone ∙ ap (unneeded_of needs) names_of_all

    replaced_names : map name_in replaced ≡ names
    replaced_names = map-append name_in (objects_of lost) beside ∙ (λ i. sym (all_names_are s.manifest.next lost (All-filter goes (IsFile s.manifest.next) s.files (is.coherent).each)) i ++ named i)

    left_is : installing.left.items ≡ names_in remaining
    left_is = stepped.left ∙ ap (needed_of needs) (names_of_all ∙ sym replaced_names) ∙ sym (map-filter name_in needs replaced)

    named_in : (object : Name × List ℕ) → Contains replaced object → Contains names object.0
    named_in object there = subst (λ l. Contains l object.0) replaced_names (in_map name_in replaced object there)

    -- it is left where it is needed, and goes otherwise
    settled : (object : Name × List ℕ) → Contains replaced object → IsSettledBy step t remaining object.0
    settled object there = by (needs object.0) refl
      where
        by : (b : Bool) → needs object.0 ≡ b → IsSettledBy step t remaining object.0
        by true at = inr (inr (in_map name_in remaining object (in_filter needed_object replaced object there at)))
        by false at = inr (inl (subst (λ l. Contains l object.0) (sym gone_is) (in_filter unneeded names object.0 (named_in object there) (ap not at))))

    file_is : (file : StoredFile) → Contains s.files file → IsFile s.manifest.next file
    file_is file there = All-contains (IsFile s.manifest.next) s.files file (is.coherent).each there

    stays : (name : Name) → Contains (part_names s) name → IsSettledBy step t remaining name
    stays name there = elim (Contains-append_cases (map segment_name (segment_numbers s)) (map name_in (objects_of s.files)) name there) [
      | inl segment ↦ inl (Contains-append_left (map segment_name (segment_numbers s)) (map name_in (objects_of files)) name segment)
      | inr object ↦
          let named = map_from name_in (objects_of s.files) name object in
          let file = flat_from objects_in s.files named.0 named.1 in
          by name named.0 file.0 file.1 file.2 named.2 (goes file.0) refl
    ]
      where
        by : (name : Name) (named : Name × List ℕ) (file : StoredFile) → Contains s.files file → Contains (objects_in file) named → named.0 ≡ name → (b : Bool) → goes file ≡ b
            → IsSettledBy step t remaining name
        by name named file there own same true at = subst (IsSettledBy step t remaining) same
            (settled named (Contains-append_left (objects_of lost) beside named (flat_in objects_in lost file named (in_filter goes s.files file there at) own)))
        by name named file there own same false at = inl (subst (Contains (part_names t)) same (object_part t named (flat_in objects_in files file named
            (to_files file (Contains-append_right made others file (in_filter (λ (file : StoredFile). not (goes file)) s.files file there (ap not at)))) own)))

    -- a name of a file that goes isn't one of those that stay or come
    header_out : (file : StoredFile) → Contains s.files file → goes file ≡ true → (g : StoredFile) → Contains files g → g.header.no ≢ file.header.no
    header_out file there gone g cited same = ⊎_elim
        (λ new.
        let high = (All-contains (λ (file : StoredFile). (state.next ≤ file.header.no) × (file.header.no < number)) made g are.headers_drawn new).0 in
        let low = part_below s (file_name file.header.no) is.coherent (object_part s _ (flat_in objects_in s.files file _ there (0, omega arith, refl))) in
        omega (arith, high, low, same, drawn_before))
        (λ old. goes_not (goes g) old.1 (ap (is_among (map number_of (inputs_of m))) same ∙ gone))
        (from_files g cited)

    page_part : (file : StoredFile) → Contains s.files file → (name : Name) → Contains (names_of file) name → Contains (part_names s) name
    page_part file there name own =
        let named = map_from name_in (objects_in file) name (subst (λ l. Contains l name) (names_are s.manifest.next file (file_is file there)) own) in
        subst (Contains (part_names s)) named.2 (object_part s named.0 (flat_in objects_in s.files file named.0 there named.1))

    page_out : (file : StoredFile) → Contains s.files file → goes file ≡ true → (line : PageLine) → Contains (lines_in file) line → Contains (part_names s) (line_name line)
        → (g : StoredFile) → Contains files g → (other : PageLine) → Contains (lines_in g) other → other.no ≢ line.no
    page_out file there gone line own cited g among other of_g same = ⊎_elim
        (λ new. line_uncited other (made_line other (flat_in lines_in made g other new of_g)) (subst (λ n. Contains (part_names s) (page_name n)) (sym same) cited))
        (λ old. pages_differ goes s.files (pairs_from (λ (a b : PageLine). a.no ≢ b.no) (flat_map lines_in s.files) (is.coherent).pages_once) g file old.0 there
        (λ told. goes_not (goes g) old.1 (told ∙ gone)) other line of_g own same)
        (from_files g among)

    out : (file : StoredFile) → Contains s.files file → goes file ≡ true → (name : Name) → Contains (names_of file) name → Contains (part_names s) name → IsNameOf t name → ⊥
    out file there gone name own cited (OfSegment k among same) = ⊎_elim
        (λ header. segment_no_file k file.header.no (same ∙ sym header))
        (λ page. segment_no_page k page.0.no (same ∙ sym page.2))
        (name_kinds file name own)
    out file there gone name own cited (OfHeader g among same) = ⊎_elim
        (λ header. header_out file there gone g among (number_in (file_name g.header.no) (file_name file.header.no) (same ∙ sym header)))
        (λ page. file_no_page g.header.no page.0.no (same ∙ sym page.2))
        (name_kinds file name own)
    out file there gone name own cited (OfPage g other among inside same) = ⊎_elim
        (λ header. file_no_page file.header.no other.no (header ∙ sym same))
        (λ page. page_out file there gone page.0 page.1 (subst (Contains (part_names s)) (sym page.2) cited) g among other inside (number_in (page_name other.no) (line_name page.0) (same ∙ sym page.2)))
        (name_kinds file name own)

    -- nor is a retired page
    retired_out : (name : Name) → Contains retired name → IsNameOf t name → ⊥
    retired_out name there (OfSegment k among same) = page_no_segment (ap (λ (n : Name). n.kind) same ∙ (retired_page name there).0)
    retired_out name there (OfHeader g among same) = page_no_header (ap (λ (n : Name). n.kind) same ∙ (retired_page name there).0)
    retired_out name there (OfPage g line among inside same) = ⊎_elim
        (λ new. line_unretired line (made_line line (flat_in lines_in made g line new inside)) name there same)
        (λ old. name_uncited name (Contains-append_left retired written name there)
        (page_part g old.0 name (in_rest (file_name g.header.no) (map line_name (lines_in g)) name (subst (Contains (map line_name (lines_in g))) same (in_map line_name (lines_in g) line inside)))))
        (from_files g among)

    lost_part : (name : Name) → Contains (flat_map names_of lost) name → Contains (part_names s) name
    lost_part name there = let file = flat_from names_of lost name there in page_part file.0 (from_filter goes s.files file.0 file.1).0 name file.2

    lost_uncited : (name : Name) → Contains (flat_map names_of lost) name → IsUncited s loose t name
    lost_uncited name there =
        let file = flat_from names_of lost name there in
        let was = from_filter goes s.files file.0 file.1 in
        let cited = page_part file.0 was.0 name file.2 in
        (inl cited, λ still. out file.0 was.0 was.1 name file.2 cited (name_cases t name still))

    retired_uncited : (name : Name) → Contains retired name → IsUncited s loose t name
    retired_uncited name there = (inr (subst (λ l. Contains l name) (sym loose_names) (Contains-append_left retired written name there)), λ still. retired_out name there (name_cases t name still))

    uncited_then : (name : Name) → Contains names name → IsUncited s loose t name
    uncited_then name there = ⊎_elim (lost_uncited name) (retired_uncited name) (Contains-append_cases (flat_map names_of lost) retired name there)

    -- and it is no gate or manifest
    kind_then : (name : Name) → Contains names name → (name.kind ≢ kinds.Gate) × (name.kind ≢ kinds.Manifest)
    kind_then name there = ⊎_elim (λ object. part_kind s name (lost_part name object)) (λ page. page_kind name (retired_page name page).0) (Contains-append_cases (flat_map names_of lost) retired name there)

    names_apart : AllPairs Differ names
    names_apart = pairs_to Differ names (pairs_append Differ (flat_map names_of lost) retired
        (names_once lost
        (pairs_from (λ (a b : StoredFile). a.header.no ≢ b.header.no) lost (AllPairs-filter (λ (a b : StoredFile). a.header.no ≢ b.header.no) goes s.files (is.coherent).files_once))
        (pairs_kept (λ (a b : PageLine). a.no ≢ b.no) lines_in goes s.files (pairs_from (λ (a b : PageLine). a.no ≢ b.no) (flat_map lines_in s.files) (is.coherent).pages_once)))
        drawn_parts.0
        (λ a b object page same. name_uncited b (Contains-append_left retired written b page) (subst (Contains (part_names s)) same (lost_part a object))))

    -- what is left are pages with numbers that were drawn, each once

    left_names : installing.left.items ≡ needed_of needs names
    left_names = stepped.left ∙ ap (needed_of needs) names_of_all

    name_below : (name : Name) → Contains names name → name.no < number
    name_below name there = ⊎_elim
        (λ object. let low = part_below s name is.coherent (lost_part name object) in omega (arith, low, later))
        (λ page. let low = (retired_page name page).1 in omega (arith, low, risen))
        (Contains-append_cases (flat_map names_of lost) retired name there)

    left_drawn : AreDrawn step.manifest.next installing.left.items
    left_drawn = record {
      each = all_from (λ (name : Name). (name.kind ≡ kinds.Page) × (name.no < step.manifest.next)) installing.left.items (λ name there.
          let next : step.manifest.next ≡ number + 1 = ap (λ (m : Manifest). m.next) stepped.manifest in
          let low = name_below name (from_filter needs names name (subst (λ l. Contains l name) left_names there)).0 in
          (All-contains (λ (name : Name). name.kind ≡ kinds.Page) installing.left.items name paged there, omega (arith, low, next)));
      once = subst (AllPairs Differ) (sym left_names) (AllPairs-filter Differ needs names names_apart);
    }

    gone_uncited : (name : Name) → Contains (unneeded_of needs names) name → IsUncited s loose t name
    gone_uncited name there = uncited_then name (from_filter unneeded names name there).0

    left_in : (object : Name × List ℕ) → Contains remaining object → Contains replaced object × (needs object.0 ≡ true)
    left_in object there = from_filter needed_object replaced object there

    left_there : (object : Name × List ℕ) → Contains remaining object → WasThere s loose object
    left_there object there = ⊎_elim
        (λ own. let file = flat_from objects_in lost object own in inr (flat_in objects_in s.files file.0 object (from_filter goes s.files file.0 file.1).0 file.2))
        (λ page. inl (Contains-append_left beside pages object page))
        (Contains-append_cases (objects_of lost) beside object (left_in object there).0)

    left_stays : (object : Name × List ℕ) → Contains remaining object → Contains step.gone.items object.0 → ⊥
    left_stays object there lose = goes_not (needs object.0) (from_filter unneeded names object.0 (subst (λ l. Contains l object.0) gone_is lose)).1 (left_in object there).1

    left_uncited : (object : Name × List ℕ) → Contains remaining object → IsCited t object.0 → ⊥
    left_uncited object there (inl gate) = (kind_then object.0 (named_in object (left_in object there).0)).0 (ap (λ (n : Name). n.kind) gate)
    left_uncited object there (inr (inl manifest)) = (kind_then object.0 (named_in object (left_in object there).0)).1 (ap (λ (n : Name). n.kind) manifest)
    left_uncited object there (inr (inr part)) = (uncited_then object.0 (named_in object (left_in object there).0)).1 part

    taken : (object : Name × List ℕ) → Contains loose object → IsSettledBy step t remaining object.0
    taken object there = ⊎_elim
        (λ page. settled object (Contains-append_right (objects_of lost) beside object page))
        (λ own. inl (object_part t object (new_object object (of_page object own))))
        (Contains-append_cases beside pages object there)

    is_step : IsStep s loose t remaining headers step
    is_step = record {
      coherent = coherent_then;
      config = refl;
      older = stepped.older ∙ ap (λ (m : Manifest). m.no) is.manifest;
      manifest = manifest_is;
      later = later;
      fresh = all_from (λ (object : Object). s.manifest.next ≤ object.name.no) step.objects.items (λ object there. let high = fresh_no object there in omega (arith, high, drawn_before));
      once = subst (AllPairs (λ (a b : Object). a.name ≢ b.name)) (sym stepped.objects) are.once;
      loose_pages = loose_pages state.next loose loose_drawn;
      loose_uncited = uncited;
      beside = all_from (λ (object : Object). Contains (names_in loose) object.name → ⊥) step.objects.items (λ object there. loose_apart state.next loose loose_drawn object.name (fresh_no object there));
      segments = all_from (IsSegmentFrom s step) (segments_of s) (λ segment there. inl there);
      objects = all_from (IsObjectFrom s loose step) (objects_of files) object_from;
      cited = all_from (λ (object : Object). Contains (part_names t) object.name) step.objects.items (λ object there. object_part t (named_of object) (new_object (named_of object) (of_written object there)));
      stays = all_from (IsSettledBy step t remaining) (part_names s) stays;
      taken = all_from (λ (object : Name × List ℕ). IsSettledBy step t remaining object.0) loose taken;
      gone = subst (All (IsUncited s loose t)) (sym gone_is) (all_from (IsUncited s loose t) (unneeded_of needs names) gone_uncited);
      gone_once = subst (AllPairs Differ) (sym gone_is) (AllPairs-filter Differ unneeded names names_apart);
      left_there = all_from (WasThere s loose) remaining left_there;
      left_stays = all_from (λ (object : Name × List ℕ). Contains step.gone.items object.0 → ⊥) remaining left_stays;
      left_uncited = all_from (λ (object : Name × List ℕ). IsCited t object.0 → ⊥) remaining left_uncited;
      added = made;
      headers_are = stepped.headers_are ∙ are.headers_are;
      files = subst (λ gone. IsPermutation (made ++ filter (λ (file : StoredFile). not (is_among gone file.header.no)) s.files) files) (sym (stepped.merged ∙ numbers)) permuted;
    }

    step_and_left : IsStep s loose t (left_of needs (numbered step.merged.items s.files) beside) headers step × (installing.left.items ≡ names_in (left_of needs (numbered step.merged.items s.files) beside))
        × AreDrawn step.manifest.next installing.left.items
    step_and_left = subst (λ gone. IsStep s loose t (left_of needs (numbered gone s.files) beside) headers step × (installing.left.items ≡ names_in (left_of needs (numbered gone s.files) beside))
        × AreDrawn step.manifest.next installing.left.items)
        (sym (stepped.merged ∙ numbers)) (is_step, left_is, left_drawn)

-- as a task has it
pub install_steps : (company : Company) (s : Stored) (m : StoredMerge) (state : State) (levels : List (List Parts)) (task : PlainMerge) → Remembers s state levels → IsCurrent s state → IsWritable state
    → IsMergeTask s m task → (retired written : List Name) (drafts : List Draft) → AreDrawn state.next (retired ++ written) → length written ≤ length (pages_in drafts)
    → (beside : List (Name × List ℕ)) → names_in beside ≡ retired → AreUncited s (beside ++ written_pages written drafts)
    → AreDraftsOf s.manifest.config (merged (entries_in (inputs_of m)) (erases_upto task.upto (pending_of s)) task.alone) drafts
    → (parts : MadeFiles) → state.next ≤ parts.next → (made : List StoredFile) → AreFilesOf drafts (task.level + 1) task.upto written state.next parts made
    → (inputs : Inputs) → inputs.numbers.items ≡ map number_of (merge_inputs task) → AreInputs (task.level + 1) task.sources s.files inputs
    → (needs : Name → Bool) (installing : Installation) → IsInstallStep company state (task.level + 1) inputs parts retired needs installing → HasSpelling installing.step.manifest
    → All (λ (name : Name). name.kind ≡ kinds.Page) installing.left.items
    → (t : Stored) × IsMergedWith company s m (erases_upto task.upto (pending_of s)) task.alone task.upto t
    × IsStep s (beside ++ written_pages written drafts) t (left_of needs (numbered installing.step.merged.items s.files) beside) installing.headers.items installing.step
    × (installing.left.items ≡ names_in (left_of needs (numbered installing.step.merged.items s.files) beside)) × AreDrawn installing.step.manifest.next installing.left.items
    × AreFirst written s t
install_steps company s m state levels task is current writable begun retired written drafts drawn few beside named uncited of parts risen made are inputs numbers found needs installing stepped spelled paged =
    let numbers_are = numbers ∙ (λ i. map number_of (begun.sources i ++ begun.met i)) in
    let of_level = subst (λ l. AreFilesOf drafts (l + 1) task.upto written state.next parts made) begun.level are in
    let inputs_are = subst (λ l. AreInputs (l + 1) m.sources s.files inputs) begun.level (subst (λ sources. AreInputs (task.level + 1) sources s.files inputs) begun.sources found) in
    let made_step = subst (λ l. IsInstallStep company state (l + 1) inputs parts retired needs installing) begun.level stepped in
    let applied = erases_upto task.upto (pending_of s) in
    let settled = step_and_left company s state levels is current writable m begun.merge applied task.alone task.upto retired written drafts drawn few beside named uncited of parts risen made of_level inputs numbers_are inputs_are
    needs installing made_step spelled paged in (
      t company s state levels is current writable m begun.merge applied task.alone task.upto retired written drafts drawn few beside named uncited of parts risen made of_level inputs numbers_are inputs_are,
      is_merged company s state levels is current writable m begun.merge applied task.alone task.upto retired written drafts drawn few beside named uncited of parts risen made of_level inputs numbers_are inputs_are,
      settled.0,
      settled.1,
      settled.2,
      firsts company s state levels is current writable m begun.merge applied task.alone task.upto retired written drafts drawn few beside named uncited of parts risen made of_level inputs numbers_are inputs_are,
    )
