-- What is made of a sweep's draft, as stored files: one, or none.
use Rattle.std.proofs.Common.{◌≡◌, ◌≢◌, ◌⊎◌, ◌≤◌, ◌<◌, ◌+◌, ◌-◌, inl, inr, ℕ, Bool, List, [], ◌∷◌, ◌++◌, append-nil, length, length-drop, map, drop, take, All, AllPairs, Contains, Option, Some, None, refl, sym, ap, ◌∙◌, subst, arith}
use Rattle.std.specs.Prelude.{filter_map, zip}
use Rattle.std.specs.List.{cons_option, range_with_len}
use Rattle.std.proofs.Math.Seq.{take-append_seam}
use Rattle.std.proofs.lemmas.List.{map-append, nil_from_length}
use Rattle.std.proofs.lemmas.List.Elements.{All-contains, All-head, All-nil, All-weaker, Contains-append_cases, Contains-append_left, Contains-append_right}
use Rattle.std.proofs.lemmas.List.FromFn.{length-range_with_len}
use Rattle.lethe_advance.specs.Settled.{AreDrawn, names_in}
use Rattle.lethe_advance.specs.Steps.{new_header}
use Rattle.lethe_base.specs.declared.name.Kind.TheVariants.{Page}
use Rattle.lethe_base.specs.declared.name.Name.{Name}
use Rattle.lethe_base.specs.declared.pending.Pending.{Pending}
use Rattle.lethe_build.specs.Drafts.{header_of, with_number}
use Rattle.lethe_commit.specs.declared.objects.Object.{Object}
use Rattle.lethe_cover.proofs.Common.{⊎_elim, first_is, first_or_rest, none_in}
use Rattle.lethe_cover.proofs.Lists.{Pairs, all_from, in_map, in_rest, map_from, pairs_append, pairs_to, pairs_unmap}
use Rattle.lethe_file.specs.Agreement.{entries_in, page_name}
use Rattle.lethe_flush.specs.Made.{named_of}
use Rattle.lethe_flush.specs.declared.made.MadeFiles.{MadeFiles}
use Rattle.lethe_flush.proofs.Numbers.{Differ, IsOther, name_there, no_of, number_in, numbers_below, numbers_once, numbers_zip, others, pages_again, range_differs, range_from}
use Rattle.lethe_build.proofs.Zips.{zip_cut, zip_joined}
use Rattle.lethe_header.specs.Headers.{HasSpelling, header_bytes}
use Rattle.lethe_header.specs.declared.header.PageLine.{PageLine}
use Rattle.lethe_remade.specs.Making.{AreMadeOf, IsMadeOf, IsNoFile, header_by, numbers_by}
use Rattle.lethe_remade.specs.Remade.{new_objects, remade}
use Rattle.lethe_remade.proofs.Lines.{drafted, lines_flat, new_flat, parts_flat}
use Rattle.lethe_remade.proofs.Made.{paged}
use Rattle.lethe_remade.proofs.Taken.{numbers_count}
use Rattle.lethe_remade.proofs.Objects.{objects_from}
use Rattle.lethe_state.proofs.Shared.{none_all, none_once}
use Rattle.lethe_stored.specs.Files.{StoredFile, IsFile, cited_of, file_name, lines_in, objects_in, objects_of}
use Rattle.lethe_stored.specs.Stored.{IsCoherent, Stored, part_names}
use Rattle.lethe_stored.proofs.Lists.{zip_left}
use Rattle.lethe_stored.proofs.Parts.{part_below}
use Rattle.lethe_sweep_task.specs.Sweeping.{IsBehind, IsSweptBy}
use Rattle.lethe_sweep_task.specs.Drafted.{new_pages, written_pages}
use Rattle.lethe_sweep_task.specs.Outcome.{IsDraftLeft}
use Rattle.lethe_swept.specs.Drafts.{IsDraftOf, new_line, numbered, tiles_with}
use Rattle.lethe_swept.specs.Left.{parts_in}
use Rattle.lethe_swept.specs.declared.draft.DraftLine.{DraftLine}
use Rattle.lethe_swept.specs.declared.draft.DraftLine.TheVariants.{Own, New}
use Rattle.lethe_swept.specs.declared.draft.SweptDraft.{SweptDraft}
use Rattle.lethe_swept.specs.declared.part.SweptFile.{SweptFile}
use Rattle.lethe_sweeps.specs.Swept.{AreLeft, StoredSweep}
use Rattle.lethe_install.proofs.InstallStep.{zip_firsts}
use Rattle.lethe_install.proofs.Named.{line_name, name_in, names_are}
use Rattle.lethe_install.proofs.NewPages.{numbered_new, page_new, page_old}
use Rattle.lethe_install.specs.Inputs.{names_of}
use Rattle.lethe_install.specs.Left.{is_among, unneeded_of}
use Rattle.lethe_install.specs.Outcomes.{IsFileLeft, IsFreeBelow, new_names, page_names}

-- What is left of the file is made, and how it is written and cited: each of its objects is the file's own, was written before, or is written; and all that was or is written is of it.
pub record IsMadeFor (s : Stored) (w : StoredSweep) (erase : Pending) (alone : Bool) (first : ℕ) (pages : List (Name × List ℕ)) (parts : MadeFiles) : Type 0 where
  pub made : Option StoredFile
  pub risen : first ≤ parts.next
  pub left : AreLeft s w.file erase alone parts.next (cons_option made [])
  pub file_left : IsFileLeft s w.file erase alone parts.next made
  pub headers_are : parts.headers.items ≡ map new_header (cons_option made [])
  pub cited : parts.cited.items ≡ map cited_of (cons_option made [])
  pub objects : All (λ named. Contains (objects_in w.file) named ⊎ (Contains pages named ⊎ Contains (map named_of parts.objects.items) named))
      (objects_of (cons_option made []))
  pub drawn : All (λ (object : Object). Contains (names_in (objects_of (cons_option made []))) object.name × (first ≤ object.name.no)) parts.objects.items
  pub written : All (λ (named : Name × List ℕ). Contains (names_in (objects_of (cons_option made []))) named.0) pages
  pub once : AllPairs (λ (a b : Object). a.name ≢ b.name) parts.objects.items
  pub firsts : take (length (names_in pages)) (new_names s (cons_option made [])) ≡ names_in pages

-- what laws say of what is left
abbrev pub DraftIsLeft : Type 0
DraftIsLeft = (s : Stored) → IsCoherent s → (file : StoredFile) → Contains s.files file → (erase : Pending) (alone : Bool) → IsBehind erase file.header.tiles
    → (swept : SweptFile) → IsSweptBy alone erase file.header.tiles (map entries_in file.pages) swept → (draft : SweptDraft) → IsDraftOf file.header.tiles swept draft
    → (numbers : List ℕ) (no number : ℕ) → length numbers ≡ length draft.pages → AllPairs (λ a b. a ≢ b) numbers
    → All (λ page. (page < number) × (Contains (part_names s) (page_name page) → ⊥)) numbers → s.manifest.next ≤ no → no < number
    → HasSpelling (header_of no (tiles_with numbers draft.tiles)) → AreLeft s file erase alone number (remade file erase swept draft numbers no ∷ [])

abbrev pub NothingIsLeft : Type 0
NothingIsLeft = (s : Stored) → IsCoherent s → (file : StoredFile) → Contains s.files file → (erase : Pending) (alone : Bool) → IsBehind erase file.header.tiles
    → (swept : SweptFile) → IsSweptBy alone erase file.header.tiles (map entries_in file.pages) swept → swept.tiles ≡ [] → (number : ℕ)
    → AreLeft s file erase alone number []

-- each number is that of a line
placed : (numbers : List ℕ) (lines : List DraftLine) → length numbers ≤ length (filter_map new_line lines) → (n : ℕ) → Contains numbers n
    → (line : PageLine) × Contains (numbered numbers lines) line × (line.no ≡ n)
placed [] lines few n there = absurd (none_in n there)
placed (number ∷ numbers) [] few n there = absurd (omega (arith, few))
placed (number ∷ numbers) (Own line ∷ lines) few n there =
    let found = placed (number ∷ numbers) lines few n there in (found.0, in_rest line (numbered (number ∷ numbers) lines) found.0 found.1, found.2)
placed (number ∷ numbers) (New line ∷ lines) few n there =
    let here : PageLine = with_number (number, line) in
    let rest = numbered numbers lines in
    ⊎_elim (λ same. (here, first_is here rest here refl, same))
    (λ more. let found = placed numbers lines (omega (arith, few)) n more in (found.0, in_rest here rest found.0 found.1, found.2))
    (first_or_rest number numbers n there)

zip_nothing : (names : List Name) (pages : List (List ℕ)) → names ≡ [] → zip names pages ≡ []
zip_nothing names pages none = ap (λ (names : List Name). zip names pages) none

page_again : (name : Name) → name.kind ≡ Page → page_name name.no ≡ name
page_again name is = λ i. record { kind = sym is i; no = name.no }

module _ (draft_is_left : DraftIsLeft) (nothing_is_left : NothingIsLeft) (s : Stored) (coherent : IsCoherent s) (w : StoredSweep)
    (there : Contains s.files w.file) (erase : Pending) (alone : Bool) (behind : IsBehind erase w.file.header.tiles) (first : ℕ) (later : s.manifest.next ≤ first)
    (written : List Name) (drawn : AreDrawn first written) (uncited : (name : Name) → Contains written name → Contains (part_names s) name → ⊥)
    (swept : SweptFile) (is : IsSweptBy alone erase w.file.header.tiles (map entries_in w.file.pages) swept)
  where
    -- Where nothing is left

    none_made : swept.tiles ≡ [] → (parts : MadeFiles) → IsNoFile first parts → length written ≤ 0
        → IsMadeFor s w erase alone first (zip written (take (length written) [])) parts
    none_made none parts empty few = record {
      made = None;
      risen = let next = empty.next in omega (arith, next);
      left = nothing_is_left s coherent w.file there erase alone behind swept is none parts.next;
      file_left = record { swept = swept; is = is; made_of = none };
      headers_are = empty.headers;
      cited = empty.cited;
      objects = All-nil (λ (named : Name × List ℕ). Contains (objects_in w.file) named
          ⊎ (Contains (zip written (take (length written) [])) named ⊎ Contains (map named_of parts.objects.items) named));
      drawn = none_all (λ (object : Object). Contains [] object.name × (first ≤ object.name.no)) parts.objects.items empty.objects;
      written = none_all (λ (named : Name × List ℕ). Contains [] named.0) (zip written (take (length written) []))
          (zip_nothing written (take (length written) []) (nil_from_length written (omega (arith, few))));
      once = none_once (λ (a b : Object). a.name ≢ b.name) parts.objects.items empty.objects;
      firsts = subst (λ (pages : List (Name × List ℕ)). take (length (names_in pages)) [] ≡ names_in pages)
          (sym (zip_nothing written (take (length written) []) (nil_from_length written (omega (arith, few))))) refl;
    }

    -- Where something is left

    module _ (draft : SweptDraft) (of : IsDraftOf w.file.header.tiles swept draft) (parts : MadeFiles) (are : IsMadeOf w.file.level erase.seq written first draft parts)
        (few : length written ≤ length draft.pages)
      where
        abbrev count : ℕ
        count = length draft.pages - length written

        abbrev fresh : List ℕ
        fresh = range_with_len first count

        abbrev numbers : List ℕ
        numbers = numbers_by written first draft

        abbrev no : ℕ
        no = first + count

        abbrev file : StoredFile
        file = remade w.file erase swept draft numbers no

        abbrev header : Name × List ℕ
        header = (file_name no, header_bytes (header_by written first draft))

        abbrev pages : List (Name × List ℕ)
        pages = zip written (take (length written) draft.pages)

        abbrev more : List (Name × List ℕ)
        more = zip (map page_name fresh) (drop (length written) draft.pages)

        count_is : length numbers ≡ length draft.pages
        count_is = numbers_count draft first written few

        below : (n : ℕ) → Contains (map number_in written) n → n < first
        below n left = All-contains (λ n. n < first) (map number_in written) n (numbers_below first written drawn.each) left

        differ : AllPairs Differ numbers
        differ = pairs_to Differ numbers (pairs_append Differ (map number_in written) fresh (numbers_once first written drawn) (range_differs first count)
            (λ a b left right same. let low = below a left in let high = (range_from first count b right).0 in omega (arith, low, high, same)))

        is_new : (n : ℕ) → Contains numbers n → (n < parts.next) × (Contains (part_names s) (page_name n) → ⊥)
        is_new n inside =
            let next = are.next in
            ⊎_elim
            (λ left. let low = below n left in (omega (arith, low, next), uncited (page_name n) (name_there first written drawn.each n left)))
            (λ right. let found = range_from first count n right in
            (omega (arith, found.1, next), λ cited. let low = part_below s (page_name n) coherent cited in omega (arith, low, found.0, later)))
            (Contains-append_cases (map number_in written) fresh n inside)

        all_new : All (IsFreeBelow s parts.next) numbers
        all_new = all_from (IsFreeBelow s parts.next) numbers is_new

        left : AreLeft s w.file erase alone parts.next (file ∷ [])
        left = let next = are.next in
            draft_is_left s coherent w.file there erase alone behind swept is draft of numbers no parts.next count_is differ all_new
            (omega (arith, later)) (omega (arith, next)) are.spelled

        file_left : IsFileLeft s w.file erase alone parts.next (Some file)
        file_left = record {
          swept = swept;
          is = is;
          made_of = record {
            draft = draft;
            of = of;
            numbers = numbers;
            count = count_is;
            once = differ;
            new = all_new;
            no = no;
            later = omega (arith, later);
            below = let next = are.next in omega (arith, next);
            made_is = refl;
          };
        }

        one_file : objects_of (file ∷ []) ≡ objects_in file
        one_file = append-nil (objects_in file)

        -- its objects

        split : zip (map page_name numbers) draft.pages ≡ pages ++ more
        split =
            ap (λ (names : List Name). zip names draft.pages) (map-append page_name (map number_in written) fresh)
            ∙ ap (λ (names : List Name). zip (names ++ map page_name fresh) draft.pages) (pages_again first written drawn.each)
            ∙ zip_joined written (map page_name fresh) draft.pages
            ∙ ap (λ (before : List (Name × List ℕ)). before ++ more) (sym (zip_cut written draft.pages))

        abbrev IsFound : Name × List ℕ → Type 0
        IsFound named = Contains (objects_in w.file) named ⊎ (Contains pages named ⊎ Contains (map named_of parts.objects.items) named)

        here : (named : Name × List ℕ) → Contains (header ∷ more) named → Contains (map named_of parts.objects.items) named
        here named inside = subst (λ l. Contains l named) (sym are.objects) inside

        is_found : (named : Name × List ℕ) → Contains (objects_in w.file) named ⊎ Contains (new_objects draft numbers no) named → IsFound named
        is_found named (inl own) = inl own
        is_found named (inr new) = inr (⊎_elim
            (λ head. inr (here named (first_is header more named head)))
            (λ page. ⊎_elim (λ before. inl before) (λ behind. inr (here named (in_rest header more named behind)))
            (Contains-append_cases pages more named (subst (λ l. Contains l named) split page)))
            (first_or_rest header (zip (map page_name numbers) draft.pages) named new))

        objects : All IsFound (objects_of (file ∷ []))
        objects = subst (All IsFound) (sym one_file)
            (All-weaker (λ (named : Name × List ℕ). Contains (objects_in w.file) named ⊎ Contains (new_objects draft numbers no) named) IsFound is_found (objects_in file)
            (objects_from w.file (paged s coherent w.file there) erase swept draft of numbers no count_is))

        -- their names

        abbrev names : List Name
        names = names_in (objects_of (file ∷ []))

        own_name : (name : Name) → Contains (names_of file) name → Contains names name
        own_name name inside = subst (λ (objects : List (Name × List ℕ)). Contains (map name_in objects) name) (sym one_file)
            (subst (λ l. Contains l name) (names_are parts.next file (All-head (IsFile parts.next) file [] left.each)) inside)

        page_in : (n : ℕ) → Contains numbers n → Contains names (page_name n)
        page_in n inside =
            let fits = of.is.paged in
            let found = placed numbers (drafted draft.tiles) (omega (arith, count_is, fits, ap length (new_flat draft.tiles))) n inside in
            let line : Contains (lines_in file) found.0 = subst (λ (lines : List PageLine). Contains lines found.0) (sym (lines_flat numbers draft.tiles)) found.1 in
            own_name (page_name n) (in_rest (file_name no) (map line_name (lines_in file)) (page_name n)
            (subst (λ (n : ℕ). Contains (map line_name (lines_in file)) (page_name n)) found.2 (in_map line_name (lines_in file) found.0 line)))

        abbrev IsDrawn : Name → Type 0
        IsDrawn name = Contains names name × (first ≤ name.no)

        named_drawn : (named : Name × List ℕ) → Contains (header ∷ more) named → IsDrawn named.0
        named_drawn named inside = ⊎_elim
            (λ head. subst IsDrawn (ap name_in head) (own_name (file_name no) (first_is (file_name no) (map line_name (lines_in file)) (file_name no) refl), omega arith))
            (λ page.
            let found = map_from page_name fresh named.0 (zip_left (map page_name fresh) (drop (length written) draft.pages) named page) in
            subst IsDrawn found.2 (page_in found.0 (Contains-append_right (map number_in written) fresh found.0 found.1), (range_from first count found.0 found.1).0))
            (first_or_rest header more named inside)

        written_in : (named : Name × List ℕ) → Contains pages named → Contains names named.0
        written_in named inside =
            let among = zip_left written (take (length written) draft.pages) named inside in
            let page = (All-contains (λ (name : Name). (name.kind ≡ Page) × (name.no < first)) written named.0 drawn.each among).0 in
            subst (Contains names) (page_again named.0 page)
            (page_in (named.0).no (Contains-append_left (map number_in written) fresh (named.0).no (in_map number_in written named.0 among)))

        fits_fresh : length (drop (length written) draft.pages) ≡ length fresh
        fits_fresh = omega (arith, length-drop (length written) draft.pages, length-range_with_len first count)

        numbers_are : map no_of (header ∷ more) ≡ no ∷ fresh
        numbers_are = ap (λ (rest : List ℕ). no ∷ rest) (numbers_zip fresh (drop (length written) draft.pages) fits_fresh)

        apart : Pairs IsOther (header ∷ more)
        apart = others (header ∷ more) (subst (Pairs Differ) (sym numbers_are)
            ((λ n inside same. let low = (range_from first count n inside).1 in omega (arith, low, same)), range_differs first count))

        -- those that aren't stored are the new ones, in order
        new_are : new_names s (file ∷ []) ≡ written ++ map page_name fresh
        new_are =
            let fits = of.is.paged in
            ap (λ (lines : List PageLine). unneeded_of (is_among (page_names s.files)) (map line_name lines)) (append-nil (lines_in file) ∙ lines_flat numbers draft.tiles)
            ∙ numbered_new s (lines_in w.file) (page_old s w.file there) numbers (parts_in swept) (drafted draft.tiles) (parts_flat (lines_in w.file) swept.tiles draft.tiles of.each)
            (omega (arith, count_is, fits, ap length (new_flat draft.tiles))) (λ n inside. page_new s coherent n (is_new n inside).1)
            ∙ map-append page_name (map number_in written) fresh
            ∙ ap (λ (names : List Name). names ++ map page_name fresh) (pages_again first written drawn.each)

        some_made : IsMadeFor s w erase alone first pages parts
        some_made = record {
          made = Some file;
          risen = let next = are.next in omega (arith, next);
          left = left;
          file_left = file_left;
          headers_are = are.headers;
          cited = are.cited;
          objects = objects;
          drawn = all_from (λ (object : Object). IsDrawn object.name) parts.objects.items (λ object inside.
              named_drawn (named_of object) (subst (λ l. Contains l (named_of object)) are.objects (in_map named_of parts.objects.items object inside)));
          written = all_from (λ (named : Name × List ℕ). Contains names named.0) pages written_in;
          once = pairs_to (λ (a b : Object). a.name ≢ b.name) parts.objects.items
              (pairs_unmap IsOther named_of parts.objects.items (subst (Pairs IsOther) (sym are.objects) apart));
          firsts = subst (λ (names : List Name). take (length names) (new_names s (file ∷ [])) ≡ names) (sym (zip_firsts written draft.pages few))
              (ap (take (length written)) new_are ∙ take-append_seam written (map page_name fresh));
        }

pub made_for : DraftIsLeft → NothingIsLeft → (s : Stored) → IsCoherent s → (w : StoredSweep) → Contains s.files w.file → (erase : Pending) (alone : Bool)
    → IsBehind erase w.file.header.tiles → (first : ℕ) → s.manifest.next ≤ first
    → (written : List Name) → AreDrawn first written → ((name : Name) → Contains written name → Contains (part_names s) name → ⊥)
    → (draft : Option SweptDraft) → IsDraftLeft alone erase w.file.header.tiles (map entries_in w.file.pages) draft → length written ≤ length (new_pages draft)
    → (parts : MadeFiles) → AreMadeOf w.file.level erase.seq written first draft parts → IsMadeFor s w erase alone first (written_pages written draft) parts
made_for draft_is_left nothing_is_left s coherent w there erase alone behind first later written drawn uncited None of few parts are =
    none_made draft_is_left nothing_is_left s coherent w there erase alone behind first later written drawn uncited of.swept of.is of.made_of parts are few
made_for draft_is_left nothing_is_left s coherent w there erase alone behind first later written drawn uncited (Some draft) of few parts are =
    some_made draft_is_left nothing_is_left s coherent w there erase alone behind first later written drawn uncited of.swept of.is draft of.made_of parts are few
