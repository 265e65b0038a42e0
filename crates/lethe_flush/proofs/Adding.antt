-- A draft after another is added to the files, and what they are together.
use Rattle.std.proofs.Common.{◌≡◌, ◌≢◌, ◌⊎◌, inl, inr, ℕ, ◌+◌, ◌-◌, ◌<◌, ◌≤◌, List, [], ◌∷◌, ◌++◌, length, map, take, drop, All, Contains, IsPermutation, refl, sym, ap, ◌∙◌, subst, append_assoc, append-nil, length-append, length-drop, arith}
use Rattle.std.specs.Prelude.{flat_map, sum_by}
use Rattle.std.specs.List.{AllZip, range_with_len, zip}
use Rattle.std.proofs.Math.Seq.{drop-nil, take-append_seam, take-nil}
use Rattle.std.proofs.lemmas.List.{length-map, map-append, nil_from_length, take-append-drop, take_all}
use Rattle.std.proofs.lemmas.List.Concat.{flat_map-append}
use Rattle.std.proofs.lemmas.List.Elements.{All-append, All-cons, All-contains, All-drop, All-head, All-nil, All-push, All-tail, All-take, All-weaker, Contains-append_cases}
use Rattle.std.proofs.lemmas.List.FromFn.{length-range_with_len}
use Rattle.std.proofs.lemmas.List.Sorted.{IsPermutation-append_comm, IsPermutation-append_left, IsPermutation-append_right, IsPermutation-refl, IsPermutation-trans, IsPermutation-middle, IsPermutation-sym}
use Rattle.std.proofs.lemmas.List.Sums.{sum_by-cons}
use Rattle.std.proofs.lemmas.Simd.{map-map}
use Rattle.std.proofs.lemmas.Slice.Zip.{all_zipped_more, length-zip}
use Rattle.lethe_advance.specs.Settled.{AreDrawn}
use Rattle.lethe_advance.specs.Steps.{new_header}
use Rattle.lethe_base.specs.Limits.{max_place}
use Rattle.lethe_base.specs.declared.name.Kind.TheVariants.{Page}
use Rattle.lethe_base.specs.declared.name.Name.{Name}
use Rattle.lethe_build.specs.Drafts.{IsDraft, numbers_for}
use Rattle.lethe_build.specs.declared.draft.Draft.{Draft}
use Rattle.lethe_build.proofs.Numbering.{draft_numbers}
use Rattle.lethe_advance.specs.Object.{Object}
use Rattle.lethe_cover.proofs.Common.{⊎_elim, cases_lt, Contains-append_left, Contains-append_right, none_in}
use Rattle.lethe_cover.proofs.Lists.{Pairs, all_from, in_map, map_from, only_in, pairs_append, pairs_parts, pairs_to, pairs_unmap}
use Rattle.lethe_file.specs.Agreement.{page_name}
use Rattle.lethe_header.specs.Headers as headers
use Rattle.lethe_header.specs.Headers.{header_bytes}
use Rattle.lethe_header.specs.declared.header.PageLine.{PageLine}
use Rattle.lethe_stored.specs.Files.{StoredFile, cited_of, file_name, lines_in, objects_in, objects_of}
use Rattle.lethe_flush.specs.Added.{IsAdded, file_by, header_by, numbers_by, pages_by}
use Rattle.lethe_build.specs.Drafts.{pages_in}
use Rattle.lethe_flush.specs.Made.{AreFilesOf, IsOfDraft, named_of}
use Rattle.lethe_flush.specs.declared.made.MadeFiles.{MadeFiles}
use Rattle.lethe_flush.proofs.Clearness.{unmapped}
use Rattle.lethe_flush.proofs.Numbers.{Differ, IsOther, Named, in_first, name_there, no_of, number_in, numbers_below, numbers_once, numbers_zip, others, pages_again, range_differs, range_from}
use Rattle.lethe_flush.proofs.Pushed.{numbers_count}
use Rattle.lethe_build.proofs.Zips.{cut_zip, drop_as, drop_parts, lines_zip, take_parts, zip_cut, zip_joined, zip_more}

abbrev line_number : PageLine → ℕ
line_number line = line.no

abbrev pub numbers_in : List StoredFile → List ℕ
numbers_in files = map line_number (flat_map lines_in files)

-- the numbers under which pages of the drafts were written before
abbrev pub taken : List Draft → List Name → List ℕ
taken drafts written = map number_in (take (length (pages_in drafts)) written)

abbrev IsDrawn : ℕ → ℕ → ℕ → Type 0
IsDrawn first next number = (first ≤ number) × (number < next)

-- the numbers begin with those that were taken, and are these alone as long as names are left
pub record Begins (numbers taken : List ℕ) (left : List Name) : Type 0 where
  pub more : List ℕ
  pub are : numbers ≡ taken ++ more
  pub alone : (more ≡ []) ⊎ (left ≡ [])

module _ (numbers taken : List ℕ) (left : List Name) (pages : List (List ℕ)) (next : ℕ) (is : Begins numbers taken left) where
  abbrev own : List ℕ
  own = map number_in (take (length pages) left)

  abbrev new : List ℕ
  new = range_with_len next (length pages - length left)

  spent : (new ≡ []) ⊎ (drop (length pages) left ≡ [])
  spent = elim (cases_lt (length left) (length pages)) [
    | inl few ↦ inr (nil_from_length (drop (length pages) left) (omega (arith, few, length-drop (length pages) left)))
    | inr all ↦ inl (let none : length pages - length left ≡ 0 = omega (arith, all) in ap (range_with_len next) none)
  ]

  begins_by : (is.more ≡ []) ⊎ (left ≡ []) → Begins (numbers ++ (own ++ new)) (taken ++ own) (drop (length pages) left)
  begins_by (inl none) = record {
    more = new;
    are = ap (λ (l : List ℕ). l ++ (own ++ new)) (is.are ∙ ap (λ (l : List ℕ). taken ++ l) none ∙ append-nil taken) ∙ sym (append_assoc taken own new);
    alone = spent;
  }
  begins_by (inr none) =
      let empty : own ≡ [] = ap (λ (l : List Name). map number_in (take (length pages) l)) none ∙ ap (map number_in) (take-nil {A = Name} (length pages)) in
      record {
        more = is.more ++ new;
        are = (λ i. is.are i ++ (empty i ++ new)) ∙ append_assoc taken is.more new
            ∙ ap (λ (l : List ℕ). l ++ (is.more ++ new)) (sym (ap (λ (l : List ℕ). taken ++ l) empty ∙ append-nil taken));
        alone = inr (ap (drop (length pages)) none ∙ drop-nil {A = Name} (length pages));
      }

  begins_more : Begins (numbers ++ (own ++ new)) (taken ++ own) (drop (length pages) left)
  begins_more = begins_by is.alone

pub record AreAdded (drafts : List Draft) (level upto : ℕ) (written : List Name) (first : ℕ) (made : MadeFiles) (files : List StoredFile) : Type 0 where
  pub each : AllZip IsOfDraft drafts files
  pub level_is : All (λ file. file.level ≡ level) files
  pub swept : All (λ file. file.swept ≡ upto) files
  pub spelled : All (λ file. headers.HasSpelling file.header) files
  pub headers_are : made.headers.items ≡ map new_header files
  pub cited : made.cited.items ≡ map cited_of files
  pub objects : IsPermutation (objects_of files) (zip written (pages_in drafts) ++ map named_of made.objects.items)
  pub from : first ≤ made.next
  pub once : Pairs IsOther (map named_of made.objects.items)
  pub drawn : All (λ named. IsDrawn first made.next (no_of named)) (map named_of made.objects.items)
  pub headers_drawn : All (λ file. IsDrawn first made.next file.header.no) files
  pub headers_ascend : Pairs (λ a b. a.header.no < b.header.no) files
  pub lines : All (λ number. Contains (taken drafts written) number ⊎ IsDrawn first made.next number) (numbers_in files)
  pub lines_once : Pairs Differ (numbers_in files)
  pub firsts : Begins (numbers_in files) (taken drafts written) (drop (length (pages_in drafts)) written)

pub flat-push : {X A : Type 0} (f : X → List A) (xs : List X) (x : X) → flat_map f (xs ++ x ∷ []) ≡ flat_map f xs ++ f x
flat-push f xs x = flat_map-append f xs (x ∷ []) ∙ ap (λ l. flat_map f xs ++ l) (append-nil (f x))

pub none_added : (level upto : ℕ) (written : List Name) (first : ℕ) (made : MadeFiles) → made.headers.items ≡ [] → made.objects.items ≡ [] → made.cited.items ≡ [] → made.next ≡ first → AreAdded [] level upto written first made []
none_added level upto written first made heads objects cites next = record {
  each = tt;
  level_is = All-nil (λ (file : StoredFile). file.level ≡ level);
  swept = All-nil (λ (file : StoredFile). file.swept ≡ upto);
  spelled = All-nil (λ (file : StoredFile). headers.HasSpelling file.header);
  headers_are = heads;
  cited = cites;
  objects = subst (λ (os : List Object). IsPermutation [] (zip written [] ++ map named_of os)) (sym objects) (subst (λ (zs : List Named). IsPermutation [] (zs ++ [])) (sym (none written)) (IsPermutation-refl []));
  from = omega (arith, next);
  once = subst (λ (os : List Object). Pairs IsOther (map named_of os)) (sym objects) tt;
  drawn = subst (λ (os : List Object). All (λ (named : Named). IsDrawn first made.next (no_of named)) (map named_of os)) (sym objects) (All-nil (λ (named : Named). IsDrawn first made.next (no_of named)));
  headers_drawn = All-nil (λ (file : StoredFile). IsDrawn first made.next file.header.no);
  headers_ascend = tt;
  lines = All-nil (λ (number : ℕ). Contains (taken [] written) number ⊎ IsDrawn first made.next number);
  lines_once = tt;
  firsts = record { more = []; are = refl; alone = inl refl };
}
  where
    none : (written : List Name) → zip {X = List ℕ} written [] ≡ []
    none [] = refl
    none (name ∷ written) = refl

-- Z stands in front of O, and N behind it
placed : {X : Type 0} (files before objects zipped news : List X) (head : X) → IsPermutation files (before ++ objects) → IsPermutation (files ++ head ∷ (zipped ++ news)) ((before ++ zipped) ++ (objects ++ head ∷ news))
placed files before objects zipped news head same =
    let one : IsPermutation (files ++ head ∷ (zipped ++ news)) ((before ++ objects) ++ head ∷ (zipped ++ news)) = IsPermutation-append_left (head ∷ (zipped ++ news)) files (before ++ objects) same in
    let inner : IsPermutation (head ∷ (zipped ++ news)) (zipped ++ head ∷ news) = IsPermutation-sym (zipped ++ head ∷ news) (head ∷ (zipped ++ news)) (IsPermutation-middle zipped head news) in
    let two : IsPermutation ((before ++ objects) ++ head ∷ (zipped ++ news)) ((before ++ objects) ++ (zipped ++ head ∷ news)) = IsPermutation-append_right (before ++ objects) (head ∷ (zipped ++ news)) (zipped ++ head ∷ news) inner in
    let swap : IsPermutation (objects ++ zipped) (zipped ++ objects) = IsPermutation-append_comm objects zipped in
    let regroup : (before ++ objects) ++ (zipped ++ head ∷ news) ≡ before ++ ((objects ++ zipped) ++ head ∷ news) = append_assoc before objects (zipped ++ head ∷ news) ∙ ap (λ l. before ++ l) (sym (append_assoc objects zipped (head ∷ news))) in
    let three : IsPermutation (before ++ ((objects ++ zipped) ++ head ∷ news)) (before ++ ((zipped ++ objects) ++ head ∷ news)) =
    IsPermutation-append_right before ((objects ++ zipped) ++ head ∷ news) ((zipped ++ objects) ++ head ∷ news) (IsPermutation-append_left (head ∷ news) (objects ++ zipped) (zipped ++ objects) swap) in
    let back : before ++ ((zipped ++ objects) ++ head ∷ news) ≡ (before ++ zipped) ++ (objects ++ head ∷ news) = ap (λ l. before ++ l) (append_assoc zipped objects (head ∷ news)) ∙ sym (append_assoc before zipped (objects ++ head ∷ news)) in
    IsPermutation-trans (files ++ head ∷ (zipped ++ news)) ((before ++ objects) ++ (zipped ++ head ∷ news)) ((before ++ zipped) ++ (objects ++ head ∷ news))
    (IsPermutation-trans (files ++ head ∷ (zipped ++ news)) ((before ++ objects) ++ head ∷ (zipped ++ news)) ((before ++ objects) ++ (zipped ++ head ∷ news)) one two)
    (subst (λ l. IsPermutation l ((before ++ zipped) ++ (objects ++ head ∷ news))) (sym regroup) (subst (IsPermutation (before ++ ((objects ++ zipped) ++ head ∷ news))) back three))

-- one draft and the file that it becomes
module _ (draft : Draft) (is : IsDraft draft) (level upto first next : ℕ) (written : List Name) (each : All (λ name. (name.kind ≡ Page) × (name.no < first)) written) where
  abbrev file : StoredFile
  file = file_by level upto next draft written

  abbrev there : List Name
  there = take (length draft.pages) written

  abbrev more : ℕ
  more = length draft.pages - length written

  count : length (numbers_by next draft written) ≡ length draft.pages
  count = numbers_count draft next written

  pub file_is : IsOfDraft draft file
  file_is = record { numbers = numbers_by next draft written; count = count; tiles = refl; pages = refl }

  pub lines_are : map line_number (lines_in file) ≡ numbers_by next draft written
  lines_are = draft_numbers (numbers_by next draft written) draft is count

  abbrev head : Named
  head = (file_name file.header.no, header_bytes file.header)

  left : length (drop (length written) draft.pages) ≡ more
  left = length-drop (length written) draft.pages

  -- its objects: the header, the pages that were written before, and the others
  pub objects_are : objects_in file ≡ head ∷ (zip written draft.pages ++ pages_by next draft written)
  objects_are =
      let drawn : List Name = map page_name (range_with_len next more) in
      let names : map page_name (numbers_by next draft written) ≡ there ++ drawn =
      map-append page_name (map number_in there) (range_with_len next more)
      ∙ ap (λ names. names ++ drawn) (pages_again first there (All-take (λ (name : Name). (name.kind ≡ Page) × (name.no < first)) (length draft.pages) written each)) in
      let behind : zip drawn (drop (length there) draft.pages) ≡ pages_by next draft written =
      ap (zip drawn) (drop_as written draft.pages) ∙ ap (λ (n : ℕ). zip (map page_name (range_with_len next n)) (drop (length written) draft.pages)) (sym left) in
      ap (λ rest. head ∷ rest)
      (lines_zip (lines_in file) draft.pages (numbers_by next draft written) lines_are
      ∙ ap (λ names. zip names draft.pages) names
      ∙ zip_joined there drawn draft.pages
      ∙ (λ i. cut_zip written draft.pages i ++ behind i))

  -- the numbers of what is written: that of the header and those that the pages draw
  news_numbers : map no_of (head ∷ pages_by next draft written) ≡ file.header.no ∷ range_with_len next more
  news_numbers = ap (λ rest. file.header.no ∷ rest) (
      numbers_zip (range_with_len next (length (drop (length written) draft.pages))) (drop (length written) draft.pages) (sym (length-range_with_len next (length (drop (length written) draft.pages))))
      ∙ ap (range_with_len next) left)

  pub news_drawn : All (λ named. (next ≤ no_of named) × (no_of named < file.header.no + 1)) (head ∷ pages_by next draft written)
  news_drawn = unmapped (λ (number : ℕ). (next ≤ number) × (number < file.header.no + 1)) no_of (head ∷ pages_by next draft written)
      (subst (All (λ (number : ℕ). (next ≤ number) × (number < file.header.no + 1))) (sym news_numbers)
      (All-cons (λ (number : ℕ). (next ≤ number) × (number < file.header.no + 1)) file.header.no (range_with_len next more) (omega arith, omega arith)
      (all_from (λ (number : ℕ). (next ≤ number) × (number < file.header.no + 1)) (range_with_len next more) (λ number there. let found = range_from next more number there in (found.0, omega (arith, found.1))))))

  pub news_once : Pairs IsOther (head ∷ pages_by next draft written)
  news_once = others (head ∷ pages_by next draft written)
      (subst (Pairs Differ) (sym news_numbers) ((λ number there same. let found = range_from next more number there in omega (arith, found.1, same)), range_differs next more))

-- the files with one more
module _ (drafts : List Draft) (draft : Draft) (is : IsDraft draft) (level upto first : ℕ) (written : List Name) (drawn : AreDrawn first written) (old : MadeFiles) (files : List StoredFile)
    (are : AreAdded drafts level upto written first old files)
  where
    abbrev rest : List Name
    rest = drop (length (pages_in drafts)) written

    abbrev before : List Name
    before = take (length (pages_in drafts)) written

    abbrev mine : List Name
    mine = take (length draft.pages) rest

    abbrev IsMine : Name → Type 0
    IsMine name = (name.kind ≡ Page) × (name.no < first)

    rest_each : All IsMine rest
    rest_each = All-drop IsMine (length (pages_in drafts)) written drawn.each

    mine_each : All IsMine mine
    mine_each = All-take IsMine (length draft.pages) rest rest_each

    abbrev next : StoredFile
    next = file_by level upto old.next draft rest

    abbrev news : List Named
    news = (file_name next.header.no, header_bytes next.header) ∷ pages_by old.next draft rest

    abbrev range : List ℕ
    range = range_with_len old.next (length draft.pages - length rest)

    pages_are : pages_in (drafts ++ draft ∷ []) ≡ pages_in drafts ++ draft.pages
    pages_are = flat-push (λ (d : Draft). d.pages) drafts draft

    taken_are : taken (drafts ++ draft ∷ []) written ≡ map number_in before ++ map number_in mine
    taken_are =
        ap (λ (pages : List (List ℕ)). map number_in (take (length pages) written)) pages_are
        ∙ ap (map number_in) (take_parts written (pages_in drafts) draft.pages)
        ∙ map-append number_in before mine

    numbers_are : numbers_in (files ++ next ∷ []) ≡ numbers_in files ++ (map number_in mine ++ range)
    numbers_are =
        ap (map line_number) (flat-push lines_in files next)
        ∙ map-append line_number (flat_map lines_in files) (lines_in next)
        ∙ ap (λ numbers. numbers_in files ++ numbers) (lines_are draft is level upto first old.next rest rest_each)

    zipped : zip written (pages_in (drafts ++ draft ∷ [])) ≡ zip written (pages_in drafts) ++ zip rest draft.pages
    zipped = ap (zip written) pages_are ∙ zip_more written (pages_in drafts) draft.pages

    objects_then : objects_of (files ++ next ∷ []) ≡ objects_of files ++ (file_name next.header.no, header_bytes next.header) ∷ (zip rest draft.pages ++ pages_by old.next draft rest)
    objects_then = flat-push objects_in files next ∙ ap (λ objects. objects_of files ++ objects) (objects_are draft is level upto first old.next rest rest_each)

    -- Numbers that were drawn before are below those that are drawn now, and those of pages that were written before are below both.

    mine_below : (number : ℕ) → Contains (map number_in mine) number → number < first
    mine_below number there = All-contains (λ number. number < first) (map number_in mine) number (numbers_below first mine mine_each) there

    mine_behind : (one other : ℕ) → Contains (map number_in before) one → Contains (map number_in mine) other → one ≢ other
    mine_behind one other left right =
        let all : map number_in written ≡ map number_in before ++ map number_in rest = ap (map number_in) (sym (take-append-drop (length (pages_in drafts)) written)) ∙ map-append number_in before rest in
        let parts = pairs_parts Differ (map number_in before) (map number_in rest) (subst (Pairs Differ) all (numbers_once first written drawn)) in
        let found = map_from number_in mine other right in
        parts.2 one other left (subst (Contains (map number_in rest)) found.2 (in_map number_in rest found.0 (in_first (length draft.pages) rest found.0 found.1)))

    mine_once : Pairs Differ (map number_in mine)
    mine_once =
        let behind : map number_in written ≡ map number_in before ++ map number_in rest = ap (map number_in) (sym (take-append-drop (length (pages_in drafts)) written)) ∙ map-append number_in before rest in
        let own : map number_in rest ≡ map number_in mine ++ map number_in (drop (length draft.pages) rest) = ap (map number_in) (sym (take-append-drop (length draft.pages) rest)) ∙ map-append number_in mine (drop (length draft.pages) rest) in
        let parts = pairs_parts Differ (map number_in before) (map number_in rest) (subst (Pairs Differ) behind (numbers_once first written drawn)) in
        (pairs_parts Differ (map number_in mine) (map number_in (drop (length draft.pages) rest)) (subst (Pairs Differ) own parts.1)).0

    abbrev IsBefore : ℕ → Type 0
    IsBefore number = Contains (taken drafts written) number ⊎ IsDrawn first old.next number

    numbers_apart : (one other : ℕ) → Contains (numbers_in files) one → Contains (map number_in mine ++ range) other → one ≢ other
    numbers_apart one other left right =
        by (All-contains IsBefore (numbers_in files) one are.lines left) (Contains-append_cases (map number_in mine) range other right)
      where
        by : IsBefore one → Contains (map number_in mine) other ⊎ Contains range other → one ≢ other
        by (inl taken) (inl mine) = mine_behind one other taken mine
        by (inl taken) (inr drawn') =
            let low : one < first = All-contains (λ number. number < first) (map number_in before) one (numbers_below first before (All-take IsMine (length (pages_in drafts)) written drawn.each)) taken in
            let high = (range_from old.next (length draft.pages - length rest) other drawn').0 in
            λ same. omega (arith, low, high, same, are.from)
        by (inr old') (inl mine) = let low = mine_below other mine in λ same. omega (arith, old'.0, low, same)
        by (inr old') (inr drawn') = let high = (range_from old.next (length draft.pages - length rest) other drawn').0 in λ same. omega (arith, old'.1, high, same)

    lines_once_then : Pairs Differ (numbers_in (files ++ next ∷ []))
    lines_once_then = subst (Pairs Differ) (sym numbers_are)
        (pairs_append Differ (numbers_in files) (map number_in mine ++ range) are.lines_once
        (pairs_append Differ (map number_in mine) range mine_once (range_differs old.next (length draft.pages - length rest))
        (λ one other left right. let low = mine_below one left in let high = (range_from old.next (length draft.pages - length rest) other right).0 in λ same. omega (arith, low, high, same, are.from)))
        numbers_apart)

    abbrev IsThen : ℕ → ℕ → Type 0
    IsThen last number = Contains (taken (drafts ++ draft ∷ []) written) number ⊎ IsDrawn first last number

    lines_then : (last : ℕ) → last ≡ next.header.no + 1 → All (IsThen last) (numbers_in (files ++ next ∷ []))
    lines_then last is =
        subst (All (IsThen last)) (sym numbers_are)
        (All-append (IsThen last) (numbers_in files) (map number_in mine ++ range)
        (All-weaker IsBefore (IsThen last) (λ number. ⊎_elim (λ there. inl (subst (λ all. Contains all number) (sym taken_are) (Contains-append_left (map number_in before) (map number_in mine) number there))) (λ drawn'. inr (drawn'.0, omega (arith, drawn'.1, is)))) (numbers_in files) are.lines)
        (All-append (IsThen last) (map number_in mine) range
        (all_from (IsThen last) (map number_in mine) (λ number there. inl (subst (λ all. Contains all number) (sym taken_are) (Contains-append_right (map number_in before) (map number_in mine) number there))))
        (all_from (IsThen last) range (λ number there. let found = range_from old.next (length draft.pages - length rest) number there in inr (omega (arith, found.0, are.from), omega (arith, found.1, is))))))

    firsts_then : Begins (numbers_in (files ++ next ∷ [])) (taken (drafts ++ draft ∷ []) written) (drop (length (pages_in (drafts ++ draft ∷ []))) written)
    firsts_then =
        let left : drop (length (pages_in (drafts ++ draft ∷ []))) written ≡ drop (length draft.pages) rest =
        ap (λ (pages : List (List ℕ)). drop (length pages) written) pages_are ∙ drop_parts written (pages_in drafts) draft.pages in
        subst (λ (numbers : List ℕ). Begins numbers (taken (drafts ++ draft ∷ []) written) (drop (length (pages_in (drafts ++ draft ∷ []))) written)) (sym numbers_are)
        (subst (λ (before : List ℕ). Begins (numbers_in files ++ (map number_in mine ++ range)) before (drop (length (pages_in (drafts ++ draft ∷ []))) written)) (sym taken_are)
        (subst (Begins (numbers_in files ++ (map number_in mine ++ range)) (map number_in before ++ map number_in mine)) (sym left)
        (begins_more (numbers_in files) (taken drafts written) rest draft.pages old.next are.firsts)))

    pub one_added : (new : MadeFiles) → IsAdded next (pages_by old.next draft rest) old new → AreAdded (drafts ++ draft ∷ []) level upto written first new (files ++ next ∷ [])
    one_added new added = record {
      each = all_zipped_more IsOfDraft drafts files draft next are.each (file_is draft is level upto first old.next rest rest_each);
      level_is = All-push (λ (file : StoredFile). file.level ≡ level) files next are.level_is refl;
      swept = All-push (λ (file : StoredFile). file.swept ≡ upto) files next are.swept refl;
      spelled = All-push (λ (file : StoredFile). headers.HasSpelling file.header) files next are.spelled added.spelled;
      headers_are = added.headers_are ∙ ap (λ hs. hs ++ new_header next ∷ []) are.headers_are ∙ sym (map-append new_header files (next ∷ []));
      cited = added.cited ∙ ap (λ cs. cs ++ cited_of next ∷ []) are.cited ∙ sym (map-append cited_of files (next ∷ []));
      objects = subst (λ objects. IsPermutation objects (zip written (pages_in (drafts ++ draft ∷ [])) ++ map named_of new.objects.items)) (sym objects_then)
          (subst (λ both. IsPermutation (objects_of files ++ (file_name next.header.no, header_bytes next.header) ∷ (zip rest draft.pages ++ pages_by old.next draft rest)) both) (sym (λ i. zipped i ++ added.objects i))
          (placed (objects_of files) (zip written (pages_in drafts)) (map named_of old.objects.items) (zip rest draft.pages) (pages_by old.next draft rest) (file_name next.header.no, header_bytes next.header) are.objects));
      from = omega (arith, are.from, added.next);
      once = subst (Pairs IsOther) (sym added.objects) (pairs_append IsOther (map named_of old.objects.items) news are.once (news_once draft is level upto first old.next rest rest_each)
          (λ one other left right same.
          let low = (All-contains (λ (named : Named). IsDrawn first old.next (no_of named)) (map named_of old.objects.items) one are.drawn left).1 in
          let high = (All-contains (λ (named : Named). (old.next ≤ no_of named) × (no_of named < next.header.no + 1)) news other (news_drawn draft is level upto first old.next rest rest_each) right).0 in
          omega (arith, low, high, ap (λ (name : Name). name.no) same)));
      drawn = subst (All (λ (named : Named). IsDrawn first new.next (no_of named))) (sym added.objects) (All-append (λ (named : Named). IsDrawn first new.next (no_of named)) (map named_of old.objects.items) news
          (All-weaker (λ (named : Named). IsDrawn first old.next (no_of named)) (λ (named : Named). IsDrawn first new.next (no_of named)) (λ named drawn'. (drawn'.0, omega (arith, drawn'.1, added.next))) (map named_of old.objects.items) are.drawn)
          (All-weaker (λ (named : Named). (old.next ≤ no_of named) × (no_of named < next.header.no + 1)) (λ (named : Named). IsDrawn first new.next (no_of named)) (λ named drawn'. (omega (arith, drawn'.0, are.from), omega (arith, drawn'.1, added.next))) news (news_drawn draft is level upto first old.next rest rest_each)));
      headers_drawn = All-push (λ (file : StoredFile). IsDrawn first new.next file.header.no) files next
          (All-weaker (λ (file : StoredFile). IsDrawn first old.next file.header.no) (λ (file : StoredFile). IsDrawn first new.next file.header.no) (λ file drawn'. (drawn'.0, omega (arith, drawn'.1, added.next))) files are.headers_drawn)
          (omega (arith, are.from), omega (arith, added.next));
      headers_ascend = pairs_append (λ (a b : StoredFile). a.header.no < b.header.no) files (next ∷ []) are.headers_ascend ((λ other there. absurd (none_in other there)), tt)
          (λ one other left right.
          let low = (All-contains (λ (file : StoredFile). IsDrawn first old.next file.header.no) files one are.headers_drawn left).1 in
          let same = only_in next other right in
          omega (arith, low, ap (λ (file : StoredFile). file.header.no) same));
      lines = lines_then new.next added.next;
      lines_once = lines_once_then;
      firsts = firsts_then;
    }

-- where no name is left the pages' names begin with all of them
written_first : (first : ℕ) (written : List Name) → AreDrawn first written → (pages : List (List ℕ)) → length written ≤ length pages → (lines : List PageLine)
    → Begins (map line_number lines) (map number_in (take (length pages) written)) (drop (length pages) written) → take (length written) (map (λ (line : PageLine). page_name line.no) lines) ≡ written
written_first first written drawn pages few lines is =
    let names : map (λ (line : PageLine). page_name line.no) lines ≡ written ++ map page_name is.more =
    sym (map-map page_name line_number lines) ∙ ap (map page_name) is.are ∙ map-append page_name (map number_in (take (length pages) written)) is.more
    ∙ ap (λ (l : List Name). map page_name (map number_in l) ++ map page_name is.more) (take_all (length pages) written few)
    ∙ ap (λ (l : List Name). l ++ map page_name is.more) (pages_again first written drawn.each) in
    ap (take (length written)) names ∙ take-append_seam written (map page_name is.more)

-- all of them
pub all_added : (drafts : List Draft) (level upto : ℕ) (written : List Name) (first : ℕ) (made : MadeFiles) (files : List StoredFile) → AreDrawn first written
    → length written ≤ length (pages_in drafts) → AreAdded drafts level upto written first made files → AreFilesOf drafts level upto written first made files
all_added drafts level upto written first made files drawn few are = record {
  each = are.each;
  level_is = are.level_is;
  swept = are.swept;
  spelled = are.spelled;
  headers_are = are.headers_are;
  cited = are.cited;
  objects = subst (λ zipped. IsPermutation (objects_of files) (zipped ++ map named_of made.objects.items)) (sym (zip_cut written (pages_in drafts))) are.objects;
  once = pairs_to (λ (a b : Object). a.name ≢ b.name) made.objects.items (pairs_unmap IsOther named_of made.objects.items are.once);
  drawn = unmapped (λ (named : Named). IsDrawn first made.next (no_of named)) named_of made.objects.items are.drawn;
  headers_drawn = are.headers_drawn;
  headers_ascend = pairs_to (λ (a b : StoredFile). a.header.no < b.header.no) files are.headers_ascend;
  lines = unmapped (λ (number : ℕ). Contains written (page_name number) ⊎ IsDrawn first made.next number) line_number (flat_map lines_in files)
      (All-weaker (λ (number : ℕ). Contains (taken drafts written) number ⊎ IsDrawn first made.next number) (λ (number : ℕ). Contains written (page_name number) ⊎ IsDrawn first made.next number)
      (λ number. ⊎_elim (λ there. inl (in_first (length (pages_in drafts)) written (page_name number) (name_there first (take (length (pages_in drafts)) written) (All-take (λ (name : Name). (name.kind ≡ Page) × (name.no < first)) (length (pages_in drafts)) written drawn.each) number there))) (λ fresh. inr fresh))
      (numbers_in files) are.lines);
  lines_once = pairs_to (λ (a b : PageLine). a.no ≢ b.no) (flat_map lines_in files) (pairs_unmap Differ line_number (flat_map lines_in files) are.lines_once);
  firsts = written_first first written drawn (pages_in drafts) few (flat_map lines_in files) are.firsts;
}

-- so far: files of the first of all drafts, where these are left
pub record IsSoFar (all drafts rest : List Draft) (level upto : ℕ) (written left : List Name) (first : ℕ) (made : MadeFiles) : Type 0 where
  pub whole : drafts ++ rest ≡ all
  pub files : List StoredFile
  pub are : AreAdded drafts level upto written first made files
  pub left_is : left ≡ drop (length (pages_in drafts)) written
  pub each : All IsDraft rest
  pub few : length left ≤ length (pages_in rest)
  pub next : made.next + (sum_by numbers_for rest + length written) ≡ first + (sum_by numbers_for all + length left)
  pub count : made.next ≡ first + length made.objects.items

pub pages_few : (drafts : List Draft) → length (pages_in drafts) ≤ sum_by numbers_for drafts
pages_few [] = omega arith
pages_few (draft ∷ drafts) = omega (arith, pages_few drafts, length-append draft.pages (pages_in drafts), sum_by-cons numbers_for draft drafts)

module _ (all drafts rest : List Draft) (draft : Draft) (level upto : ℕ) (written left : List Name) (first : ℕ) (drawn : AreDrawn first written) (old : MadeFiles)
    (so_far : IsSoFar all drafts (draft ∷ rest) level upto written left first old)
  where
    pub left_low : first ≤ max_place + 1 → All (λ name. name.no ≤ max_place) left
    left_low fits = subst (All (λ (name : Name). name.no ≤ max_place)) (sym so_far.left_is) (All-drop (λ (name : Name). name.no ≤ max_place) (length (pages_in drafts)) written
        (All-weaker (λ (name : Name). (name.kind ≡ Page) × (name.no < first)) (λ (name : Name). name.no ≤ max_place) (λ name is. omega (arith, is.1, fits)) written drawn.each))

    pub has_room : first + (sum_by numbers_for all - length written) ≤ max_place + 1 → length written ≤ sum_by numbers_for all → old.next + (length draft.pages - length left) ≤ max_place
    has_room fits few = omega (arith, fits, few, so_far.next, so_far.few, pages_few rest, length-append draft.pages (pages_in rest), sum_by-cons numbers_for draft rest)

    pub one_more : (new : MadeFiles) (then : List Name) → IsAdded (file_by level upto old.next draft left) (pages_by old.next draft left) old new → then ≡ drop (length draft.pages) left
        → IsSoFar all (drafts ++ draft ∷ []) rest level upto written then first new
    one_more new then added is = record {
      whole = append_assoc drafts (draft ∷ []) rest ∙ so_far.whole;
      files = so_far.files ++ file_by level upto old.next draft (drop (length (pages_in drafts)) written) ∷ [];
      are = one_added drafts draft (All-head IsDraft draft rest so_far.each) level upto first written drawn old so_far.files so_far.are new
          (subst (λ (left : List Name). IsAdded (file_by level upto old.next draft left) (pages_by old.next draft left) old new) so_far.left_is added);
      left_is = is ∙ ap (drop (length draft.pages)) so_far.left_is ∙ sym (drop_parts written (pages_in drafts) draft.pages)
          ∙ ap (λ (pages : List (List ℕ)). drop (length pages) written) (sym (flat-push (λ (d : Draft). d.pages) drafts draft));
      each = All-tail IsDraft draft rest so_far.each;
      few = omega (arith, so_far.few, ap length is, length-drop (length draft.pages) left, length-append draft.pages (pages_in rest));
      next = omega (arith, so_far.next, so_far.few, added.next, ap length is, length-drop (length draft.pages) left, sum_by-cons numbers_for draft rest);
      count = omega (
        arith,
        so_far.count,
        added.next,
        ap length added.objects,
        length-map new.objects.items named_of,
        length-map old.objects.items named_of,
        length-append (map named_of old.objects.items) (objects ∷ pages_by old.next draft left),
        length-zip (map page_name (range_with_len old.next (length (drop (length left) draft.pages)))) (drop (length left) draft.pages),
        length-map (range_with_len old.next (length (drop (length left) draft.pages))) page_name,
        length-range_with_len old.next (length (drop (length left) draft.pages)),
        length-drop (length left) draft.pages,
      );
    }
      where
        objects : Named
        objects = (file_name (header_by old.next draft left), header_bytes (file_by level upto old.next draft left).header)

pub begun : (all : List Draft) (level upto : ℕ) (written : List Name) (first : ℕ) (made : MadeFiles) → All IsDraft all → length written ≤ length (pages_in all)
    → made.headers.items ≡ [] → made.objects.items ≡ [] → made.cited.items ≡ [] → made.next ≡ first → IsSoFar all [] all level upto written written first made
begun all level upto written first made each few heads objects cites next = record {
  whole = refl;
  files = [];
  are = none_added level upto written first made heads objects cites next;
  left_is = refl;
  each = each;
  few = few;
  next = omega (arith, next);
  count = omega (arith, next, ap length objects);
}

pub ended : (all drafts rest : List Draft) (level upto : ℕ) (written left : List Name) (first : ℕ) (made : MadeFiles) → AreDrawn first written → IsSoFar all drafts rest level upto written left first made → rest ≡ []
    → (files : List StoredFile) × AreFilesOf all level upto written first made files
ended all drafts behind level upto written names first made drawn so_far none =
    let whole : drafts ≡ all = sym (append-nil drafts) ∙ ap (λ (behind : List Draft). drafts ++ behind) (sym none) ∙ so_far.whole in
    let few : length written ≤ length (pages_in drafts) =
    omega (arith, so_far.few, ap (λ (rest : List Draft). length (pages_in rest)) none, ap length so_far.left_is, length-drop (length (pages_in drafts)) written) in
    (so_far.files, subst (λ (drafts : List Draft). AreFilesOf drafts level upto written first made so_far.files) whole (all_added drafts level upto written first made so_far.files drawn few so_far.are))
