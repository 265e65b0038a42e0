-- Files that are opened, and what a directory has of them.
use Rattle.std.proofs.Common.{◌≡◌, ◌≢◌, ◌<◌, ℕ, List, [], ◌∷◌, ◌++◌, map, length, get_or, Option, Some, refl, sym, ◌∙◌, ap, subst, arith}
use Rattle.std.specs.Prelude.{◌==◌, All, Contains, IsSome, is_some, unwrap_or, filter, zip}
use Rattle.std.specs.List.{AllZip}
use Rattle.std.specs.List.Sorted.{IsPermutation}
use Rattle.std.proofs.lemmas.List.{append-nil, get_or-map, length-map, map-append}
use Rattle.std.proofs.lemmas.List.Elements.{All-nil, All-cons, All-map, All-head, All-tail, All-contains, Contains-append_left}
use Rattle.std.proofs.lemmas.List.Sorted.{IsPermutation-refl, IsPermutation-map, Contains-permutation}
use Rattle.std.proofs.lemmas.Simd.{map-map}
use Rattle.lethe_base.proofs.Newest.{first_is}
use Rattle.lethe_disk.specs.Directory.{Directory, object, content}
use Rattle.lethe_version.specs.Agreement.{Agrees, page_name}
use Rattle.lethe_base.specs.declared.name.Name.{Name}
use Rattle.lethe_header.specs.declared.header.PageLine.{PageLine}
use Rattle.lethe_stored.specs.Encodes.{HasParts, HasObject}
use Rattle.lethe_stored.specs.Files.{StoredFile, Parts, IsFile, lines_in, objects_in, objects_of, parts_of}
use Rattle.lethe_stored.specs.Stored.{Stored}
use Rattle.lethe_stored.proofs.Lists.{all_from, in_flat, later_in}
use Rattle.lethe_version.specs.Order.{is_kept}
use Rattle.lethe_advance.specs.declared.new_header.NewHeader.{NewHeader}
use Rattle.lethe_advance.specs.declared.step.Step.{Step}
use Rattle.lethe_advance.specs.Shown.{AreLevelsWith, HasPages, NewParts, in_level, new_parts_at, parts_without}
use Rattle.lethe_advance.specs.Steps.{IsStep, kept_files, new_header}
use Rattle.lethe_advance.proofs.Lists.{map-filter}

-- Pages

abbrev there : Directory → List PageLine → List (Option (List ℕ))
there d lines = map (λ line. object d (page_name line.no)) lines

unwrapped : (pages : List (List ℕ)) → map (λ o. unwrap_or o []) (map Some pages) ≡ pages
unwrapped [] = refl
unwrapped (page ∷ pages) = ap (λ l. page ∷ l) (unwrapped pages)

-- what is there is what a directory has
pub pages_are : (d : Directory) (lines : List PageLine) (pages : List (List ℕ)) → map Some pages ≡ there d lines → pages ≡ map (λ line. content d (page_name line.no)) lines
pages_are d lines pages same = sym (unwrapped pages) ∙ ap (map (λ o. unwrap_or o [])) same ∙ map-map (λ (o : Option (List ℕ)). unwrap_or o []) (λ (line : PageLine). object d (page_name line.no)) lines

some_each : (d : Directory) (lines : List PageLine) (pages : List (List ℕ)) → map Some pages ≡ there d lines → All (λ line. IsSome (object d (page_name line.no))) lines
some_each d [] pages same = All-nil (λ (line : PageLine). IsSome (object d (page_name line.no)))
some_each d (line ∷ lines) [] same = absurd cc
some_each d (line ∷ lines) (page ∷ pages) same =
    let first : Some page ≡ object d (page_name line.no) = cc in
    let rest : map Some pages ≡ there d lines = cc in
    All-cons (λ (line : PageLine). IsSome (object d (page_name line.no))) line lines (ap is_some (sym first)) (some_each d lines pages rest)

zipped_there : (d : Directory) (lines : List PageLine) (pages : List (List ℕ)) → AllZip Agrees lines pages → All (HasObject d) (map (λ page. (page_name page.0.no, page.1)) (zip lines pages)) → map Some pages ≡ there d lines
zipped_there d [] [] agree has = refl
zipped_there d [] (page ∷ pages) agree has = absurd agree
zipped_there d (line ∷ lines) [] agree has = absurd agree
zipped_there d (line ∷ lines) (page ∷ pages) agree has =
    let first : object d (page_name line.no) ≡ Some page = All-head (HasObject d) (page_name line.no, page) (map (λ p. (page_name p.0.no, p.1)) (zip lines pages)) has in
    let rest : map Some pages ≡ there d lines = zipped_there d lines pages agree.1 (All-tail (HasObject d) (page_name line.no, page) (map (λ p. (page_name p.0.no, p.1)) (zip lines pages)) has) in
    (λ i. sym first i ∷ rest i)

-- The files of a step

file_pages : (d : Directory) (t : Stored) (file : StoredFile) → HasParts d t → Contains t.files file → IsFile t.manifest.next file → map Some file.pages ≡ there d (lines_in file)
file_pages d t file parts among is = zipped_there d (lines_in file) file.pages is.agrees.pages
    (all_from (HasObject d) (map (λ page. (page_name page.0.no, page.1)) (zip (lines_in file) file.pages))
    (λ named inside. All-contains (HasObject d) (objects_of t.files) named parts.files (in_flat objects_in t.files file named among (later_in _ _ named inside))))

same_each : {X Y : Type 0} (f g : X → Y) (xs : List X) → ((x : X) → Contains xs x → f x ≡ g x) → map f xs ≡ map g xs
same_each f g [] each = refl
same_each f g (x ∷ xs) each = (λ i. each x (first_is x xs x refl) i ∷ same_each f g xs (λ y inside. each y (later_in x xs y inside)) i)

-- its parts and its level
abbrev pub new_stored : StoredFile → NewParts
new_stored file = record { level = file.level; parts = parts_of file }

module _ (s t : Stored) (loose left : List (Name × List ℕ)) (headers : List NewHeader) (step : Step) (is : IsStep s loose t left headers step) (d : Directory) (parts : HasParts d t) where
  added_pages : (file : StoredFile) → Contains is.added file → map Some file.pages ≡ there d (lines_in file)
  added_pages file inside =
      let among = Contains-permutation (is.added ++ kept_files s step) t.files file is.files (Contains-append_left is.added (kept_files s step) file inside) in
      file_pages d t file parts among (All-contains (IsFile t.manifest.next) t.files file is.coherent.each among)

  pub headers_present : All (λ new. HasPages d new.header) headers
  headers_present = subst (All (λ (new : NewHeader). HasPages d new.header)) (sym is.headers_are) (All-map (λ (new : NewHeader). HasPages d new.header) new_header is.added
      (all_from (λ (file : StoredFile). HasPages d file.header) is.added (λ file inside. some_each d (lines_in file) file.pages (added_pages file inside))))

  pub headers_opened : map (new_parts_at d) headers ≡ map new_stored is.added
  headers_opened = ap (map (new_parts_at d)) is.headers_are ∙ map-map (new_parts_at d) new_header is.added
      ∙ same_each (λ (file : StoredFile). new_parts_at d (new_header file)) new_stored is.added
      (λ file inside. let pages = pages_are d (lines_in file) file.pages (added_pages file inside) in (λ i. record { level = file.level; parts = record { header = file.header; pages = sym pages i } }))

-- The levels of the next version

-- where the levels of some are below a bound, so are those of others of the same levels
pub levels_below : {M N : Type 0} (level_of : M → ℕ) (at : N → ℕ) (xs : List M) (ys : List N) → map at ys ≡ map level_of xs → (bound : ℕ) → All (λ x. level_of x < bound) xs → All (λ y. at y < bound) ys
levels_below level_of at [] [] same bound all = All-nil (λ y. at y < bound)
levels_below level_of at [] (y ∷ ys) same bound all = absurd cc
levels_below level_of at (x ∷ xs) [] same bound all = absurd cc
levels_below level_of at (x ∷ xs) (y ∷ ys) same bound all =
    let first : at y ≡ level_of x = cc in
    let rest : map at ys ≡ map level_of xs = cc in
    All-cons (λ y. at y < bound) y ys (subst (λ n. n < bound) (sym first) (All-head (λ x. level_of x < bound) x xs all))
    (levels_below level_of at xs ys rest bound (All-tail (λ x. level_of x < bound) x xs all))

-- of a list that is empty or not
empty_or : {X : Type 0} {P : Type 0} (xs : List X) → (xs ≡ [] → P) → (xs ≢ [] → P) → P
empty_or [] none some = none refl
empty_or (x ∷ xs) none some = some (λ same. cc)

module _ {N F : Type 0} (level_of : N → ℕ) (file_of : N → F) (view : F → Parts) (merged : List ℕ) (added : List N) (old new : List (List F)) where
  abbrev stays : List F → List F
  stays files = filter (λ file. is_kept merged (view file).header) files

  abbrev by_level : List (List F) → List (List Parts)
  by_level levels = map (map view) levels

  -- of those that are added, those that come into the level
  abbrev come : ℕ → List F
  come level = map file_of (filter (λ one. level_of one == level) added)

  abbrev parts_new : N → NewParts
  parts_new one = record { level = level_of one; parts = view (file_of one) }

  stays_are : (k : ℕ) → k < length old → map view (stays (get_or old k [])) ≡ parts_without merged (get_or (by_level old) k [])
  stays_are k lt = map-filter view (λ (file : Parts). is_kept merged file.header) (get_or old k []) ∙ ap (parts_without merged) (sym (get_or-map (map view) old k [] [] lt))

  come_are : (level : ℕ) → map view (come level) ≡ in_level level (map parts_new added)
  come_are level =
      let here : List N = filter (λ one. level_of one == level) added in
      map-map view file_of here ∙ sym (map-map (λ (one : NewParts). one.parts) parts_new here) ∙ ap (map (λ (one : NewParts). one.parts)) (map-filter parts_new (λ (one : NewParts). one.level == level) added)

  pub levels_with : length new ≡ length old
      → ((level : ℕ) (files : List F) → level < length old → come level ≡ [] → get_or new level files ≡ stays (get_or old level files))
      → ((level : ℕ) (files : List F) → level < length old → come level ≢ [] → IsPermutation (stays (get_or old level files) ++ come level) (get_or new level files))
      → AreLevelsWith merged (map parts_new added) (by_level old) (by_level new)
  levels_with count others here = record {
    count = length-map new (map view) ∙ count ∙ sym (length-map old (map view));
    each = λ level lt.
        let inside : level < length old = let long = length-map old (map view) in omega (arith, long, lt) in
        let all : IsPermutation (stays (get_or old level []) ++ come level) (get_or new level []) = empty_or (come level)
        (λ none. let same = ap (λ l. stays (get_or old level []) ++ l) none ∙ append-nil (stays (get_or old level [])) ∙ sym (others level [] inside none) in
        subst (IsPermutation (stays (get_or old level []) ++ come level)) same (IsPermutation-refl (stays (get_or old level []) ++ come level)))
        (here level [] inside) in
        let first : map view (stays (get_or old level []) ++ come level) ≡ parts_without merged (get_or (by_level old) level []) ++ in_level level (map parts_new added) =
        map-append view (stays (get_or old level [])) (come level) ∙ (λ i. stays_are level inside i ++ come_are level i) in
        let second : get_or (by_level new) level [] ≡ map view (get_or new level []) = get_or-map (map view) new level [] [] (omega (arith, inside, count)) in
        subst (λ l. IsPermutation l (get_or (by_level new) level [])) first (subst (IsPermutation (map view (stays (get_or old level []) ++ come level))) (sym second)
        (IsPermutation-map view (stays (get_or old level []) ++ come level) (get_or new level []) all));
  }
