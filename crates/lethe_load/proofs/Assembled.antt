-- What was read, put together as what is stored.
use Rattle.std.proofs.Common.{◌≡◌, ◌≢◌, ◌<◌, inl, inr, ℕ, List, [], ◌∷◌, ◌++◌, map, get_or, All, AllPairs, Some, refl, sym, ap, subst, ◌∙◌, arith}
use Rattle.std.specs.Prelude.{Contains, zip, flat_map}
use Rattle.std.specs.List.{AllZip}
use Rattle.std.proofs.lemmas.List.{map-append, get_or-map, length-map}
use Rattle.std.proofs.lemmas.List.Elements.{All-nil, All-cons, All-head, All-tail, All-append, All-contains, All-map}
use Rattle.std.proofs.lemmas.List.Kept.{AllPairs-cons}
use Rattle.std.proofs.lemmas.Simd.{map-map}
use Rattle.lethe_base.proofs.Newest.{first_or_rest}
use Rattle.lethe_disk.specs.Directory.{Directory, object}
use Rattle.lethe_header.specs.Facts.{lines_of}
use Rattle.lethe_header.specs.Headers.{EachFollows, header_bytes}
use Rattle.lethe_header.specs.declared.header.Header.{Header}
use Rattle.lethe_header.specs.declared.header.PageLine.{PageLine}
use Rattle.lethe_header.specs.declared.header.TileLine.{TileLine}
use Rattle.lethe_file.specs.Agreement.{page_name}
use Rattle.lethe_file.proofs.Unique.{pairs_join}
use Rattle.lethe_tile.proofs.Orders.{pairs_nil, pairs_head, pairs_tail}
use Rattle.lethe_manifest.specs.declared.manifest.Cited.{Cited}
use Rattle.lethe_stored.specs.Files.{StoredFile, Parts, IsFile, cited_of, parts_of, lines_in, file_name, objects_in, objects_of}
use Rattle.lethe_stored.specs.Encodes.{HasObject}
use Rattle.lethe_stored.proofs.Lists.{in_map, from_flat, later_in, all_from}
use Rattle.lethe_load.specs.Damaged.{IsHeaderOf, IsSoundPage, IsSoundFile, IsTakenBy, placed_in, placed_lines}
use Rattle.lethe_load.proofs.PagesInOrder.{Item, any_of, follows_of}
use Rattle.lethe_load.proofs.FilesInOrder.{one_header, item_of}
use Rattle.lethe_load.proofs.Agreeing.{pairs_of, file_agrees}

-- Pairs

pub pairs_map : {X Y : Type 0} (R : Y → Y → Type 0) (f : X → Y) (xs : List X) → AllPairs (λ a b. R (f a) (f b)) xs → AllPairs R (map f xs)
pairs_map R f [] all = pairs_nil R
pairs_map R f (x ∷ xs) all = AllPairs-cons R (f x) (map f xs) (All-map (R (f x)) f xs (pairs_head (λ a b. R (f a) (f b)) x xs all)) (pairs_map R f xs (pairs_tail (λ a b. R (f a) (f b)) x xs all))

pub pairs_unmap : {X Y : Type 0} (R : Y → Y → Type 0) (f : X → Y) (xs : List X) → AllPairs R (map f xs) → AllPairs (λ a b. R (f a) (f b)) xs
pairs_unmap R f xs all i j d lt inside =
    subst (λ y. R y (f (get_or xs j d))) (get_or-map f xs i d (f d) (omega (arith, lt, inside)))
    (subst (R (get_or (map f xs) i (f d))) (get_or-map f xs j d (f d) inside) (all i j (f d) lt (omega (arith, inside, length-map xs f))))

-- Lines

pub lines_placed : (tiles : List TileLine) → map (λ item. item.1) (placed_in tiles) ≡ lines_of tiles
lines_placed [] = refl
lines_placed (tile ∷ tiles) =
    map-append (λ (item : Item). item.1) (map (λ l. (tile, l)) tile.pages) (placed_in tiles)
    ∙ (λ i. (map-map (λ (item : Item). item.1) (λ (l : PageLine). (tile, l)) tile.pages ∙ same tile.pages) i ++ lines_placed tiles i)
  where
    same : (ls : List PageLine) → map (λ l. l) ls ≡ ls
    same [] = refl
    same (l ∷ ls) = ap (λ x. l ∷ x) (same ls)

abbrev pub numbers : Header → List ℕ
numbers header = map (λ line. line.no) (lines_of header.tiles)

module _ (d : Directory) (next : ℕ) where
  -- of two files that are cited one behind the other
  abbrev pub Disjoint : Cited → Cited → Type 0
  Disjoint a b = (x y : Header) → IsHeaderOf d a x → IsHeaderOf d b y → (n : ℕ) → Contains (numbers x) n → Contains (numbers y) n → ⊥

  pub disjoint : (cited : List Cited) → EachFollows (IsSoundFile d next) cited → AllPairs Disjoint cited
  disjoint = pairs_of (IsSoundFile d next) Disjoint (λ before c sound. all_from (λ other. Disjoint other c) before (λ other here x y is_x is_y n in_x in_y.
      let one : y ≡ sound.header = one_header d c y sound.header is_y sound.is in
      let any = item_of sound.header n (subst (λ h. Contains (numbers h) n) one in_y) in
      let page = (follows_of (IsSoundPage d next (IsTakenBy d before)) (placed_lines sound.header) any.1 sound.pages (any.0, any.2, any.3)).1 in
      page.once (any_of (λ (o : Cited). (h : Header) × IsHeaderOf d o h × Contains (numbers h) any.1.1.no) before other here (x, is_x, subst (Contains (numbers x)) (sym any.4) in_x))))

  pub once_cited : (cited : List Cited) → EachFollows (IsSoundFile d next) cited → AllPairs (λ a b. a.no ≢ b.no) cited
  once_cited = pairs_of (IsSoundFile d next) (λ a b. a.no ≢ b.no) (λ before c sound. sound.once)

  -- the lines of a sound file
  once_lines : (taken : ℕ → Type 0) (tiles : List TileLine) → EachFollows (IsSoundPage d next taken) (placed_in tiles) → AllPairs (λ a b. a.no ≢ b.no) (lines_of tiles)
  once_lines taken tiles each =
      subst (AllPairs (λ (a : PageLine) (b : PageLine). a.no ≢ b.no)) (lines_placed tiles)
      (pairs_map (λ (a : PageLine) (b : PageLine). a.no ≢ b.no) (λ (item : Item). item.1) (placed_in tiles)
      (pairs_of (IsSoundPage d next taken) (λ (a : Item) (b : Item). a.1.no ≢ b.1.no) (λ before item good. good.new) (placed_in tiles) each))

  below_lines : (taken : ℕ → Type 0) (tiles : List TileLine) → EachFollows (IsSoundPage d next taken) (placed_in tiles) → All (λ line. line.no < next) (lines_of tiles)
  below_lines taken tiles each =
      subst (All (λ (line : PageLine). line.no < next)) (lines_placed tiles)
      (All-map (λ (line : PageLine). line.no < next) (λ (item : Item). item.1) (placed_in tiles)
      (all_from (λ (item : Item). item.1.no < next) (placed_in tiles) (λ item here. (follows_of (IsSoundPage d next taken) (placed_in tiles) item each here).1.below)))

  -- Files

  module _ {F : Type 0} (header : F → Header) (bytes : F → List (List ℕ)) where
    pub built : List Cited → List F → List StoredFile
    built [] files = []
    built (c ∷ cited) [] = []
    built (c ∷ cited) (f ∷ files) = record { level = c.level; swept = c.swept; header = header f; pages = bytes f } ∷ built cited files

    abbrev pub Heads : List Cited → List F → Type 0
    Heads cited files = AllZip (λ c f. IsHeaderOf d c (header f)) cited files

    abbrev pub Reads : List Cited → List F → Type 0
    Reads cited files = AllZip (λ c f. map Some (bytes f) ≡ map (λ line. object d (page_name line.no)) (lines_of (header f).tiles)) cited files

    pub cited_again : (cited : List Cited) (files : List F) → Heads cited files → map cited_of (built cited files) ≡ cited
    unfolding built
    cited_again [] files heads = refl
    cited_again (c ∷ cited) [] heads = absurd heads
    cited_again (c ∷ cited) (f ∷ files) heads = λ i. record { level = c.level; no = heads.0.own i; swept = c.swept; digest = heads.0.digest i } ∷ cited_again cited files heads.1 i

    pub parts_again : (cited : List Cited) (files : List F) → Heads cited files → map parts_of (built cited files) ≡ map (λ f. record { header = header f; pages = bytes f }) files
    unfolding built
    parts_again [] [] heads = refl
    parts_again [] (f ∷ files) heads = absurd heads
    parts_again (c ∷ cited) [] heads = absurd heads
    parts_again (c ∷ cited) (f ∷ files) heads = ap (λ (l : List Parts). record { header = header f; pages = bytes f } ∷ l) (parts_again cited files heads.1)

    pub headers_again : (cited : List Cited) (files : List F) → Heads cited files → map (λ file. file.header) (built cited files) ≡ map header files
    unfolding built
    headers_again [] [] heads = refl
    headers_again [] (f ∷ files) heads = absurd heads
    headers_again (c ∷ cited) [] heads = absurd heads
    headers_again (c ∷ cited) (f ∷ files) heads = ap (λ l. header f ∷ l) (headers_again cited files heads.1)

    built_of : (cited : List Cited) (files : List F) (file : StoredFile) → Heads cited files → Contains (built cited files) file → (c : Cited) × Contains cited c × IsHeaderOf d c file.header
    unfolding built
    built_of [] files file heads there = absurd (omega (arith, there.1))
    built_of (c ∷ cited) [] file heads there = absurd heads
    built_of (c ∷ cited) (f ∷ files) file heads there = elim (first_or_rest _ _ file there) [
      | inl first ↦ (c, (0, omega arith, refl), subst (λ (x : StoredFile). IsHeaderOf d c x.header) first heads.0)
      | inr rest ↦ let found = built_of cited files file heads.1 rest in (found.0, later_in c cited found.0 found.1, found.2)
    ]

    abbrev Sound : Cited → Type 0
    Sound c = (before : List Cited) × IsSoundFile d next before c

    pages_there : (lines : List PageLine) (pages : List (List ℕ)) → map Some pages ≡ map (λ line. object d (page_name line.no)) lines → All (HasObject d) (map (λ page. (page_name page.0.no, page.1)) (zip lines pages))
    pages_there [] pages read = All-nil (HasObject d)
    pages_there (line ∷ lines) [] read = All-nil (HasObject d)
    pages_there (line ∷ lines) (page ∷ pages) read =
        let head : Some page ≡ object d (page_name line.no) = cc in
        let tail : map Some pages ≡ map (λ (l : PageLine). object d (page_name l.no)) lines = cc in
        All-cons (HasObject d) (page_name line.no, page) (map (λ page. (page_name page.0.no, page.1)) (zip lines pages)) (sym head) (pages_there lines pages tail)

    pub objects_there : (cited : List Cited) (files : List F) → Heads cited files → Reads cited files → All (HasObject d) (objects_of (built cited files))
    unfolding built
    objects_there [] files heads reads = All-nil (HasObject d)
    objects_there (c ∷ cited) [] heads reads = absurd heads
    objects_there (c ∷ cited) (f ∷ files) heads reads =
        let file : StoredFile = record { level = c.level; swept = c.swept; header = header f; pages = bytes f } in
        let there : object d (file_name (header f).no) ≡ Some (header_bytes (header f)) = subst (λ n. object d (file_name n) ≡ Some (header_bytes (header f))) (sym heads.0.own) heads.0.there in
        All-append (HasObject d) (objects_in file) (objects_of (built cited files))
        (All-cons (HasObject d) (file_name (header f).no, header_bytes (header f)) (map (λ page. (page_name page.0.no, page.1)) (zip (lines_of (header f).tiles) (bytes f))) there (pages_there (lines_of (header f).tiles) (bytes f) reads.0))
        (objects_there cited files heads.1 reads.1)

    pub each_file : (cited : List Cited) (files : List F) → Heads cited files → Reads cited files → All Sound cited → All (IsFile next) (built cited files)
    unfolding built
    each_file [] files heads reads sound = All-nil (IsFile next)
    each_file (c ∷ cited) [] heads reads sound = absurd heads
    each_file (c ∷ cited) (f ∷ files) heads reads sound =
        let first = All-head Sound c cited sound in
        let one : first.1.header ≡ header f = one_header d c first.1.header (header f) first.1.is heads.0 in
        let each = subst (λ (h : Header). EachFollows (IsSoundPage d next (IsTakenBy d first.0)) (placed_in h.tiles)) one first.1.pages in
        All-cons (IsFile next) (record { level = c.level; swept = c.swept; header = header f; pages = bytes f }) (built cited files)
        (record { spelled = heads.0.spelled; agrees = file_agrees d next (IsTakenBy d first.0) (header f).tiles each (bytes f) reads.0; below = below_lines (IsTakenBy d first.0) (header f).tiles each })
        (each_file cited files heads.1 reads.1 (All-tail Sound c cited sound))

    pub pages_once : (cited : List Cited) (files : List F) → Heads cited files → All Sound cited → AllPairs Disjoint cited → AllPairs (λ a b. a.no ≢ b.no) (flat_map lines_in (built cited files))
    unfolding built
    pages_once [] files heads sound apart = pairs_nil (λ (a : PageLine) (b : PageLine). a.no ≢ b.no)
    pages_once (c ∷ cited) [] heads sound apart = absurd heads
    pages_once (c ∷ cited) (f ∷ files) heads sound apart =
        let first = All-head Sound c cited sound in
        let one : first.1.header ≡ header f = one_header d c first.1.header (header f) first.1.is heads.0 in
        let each = subst (λ (h : Header). EachFollows (IsSoundPage d next (IsTakenBy d first.0)) (placed_in h.tiles)) one first.1.pages in
        pairs_join (λ (a : PageLine) (b : PageLine). a.no ≢ b.no) (lines_of (header f).tiles) (flat_map lines_in (built cited files)) (once_lines (IsTakenBy d first.0) (header f).tiles each)
        (pages_once cited files heads.1 (All-tail Sound c cited sound) (pairs_tail Disjoint c cited apart))
        (all_from (λ (a : PageLine). All (λ (b : PageLine). a.no ≢ b.no) (flat_map lines_in (built cited files))) (lines_of (header f).tiles) (λ a in_a.
        all_from (λ (b : PageLine). a.no ≢ b.no) (flat_map lines_in (built cited files)) (λ b in_b same.
        let file = from_flat lines_in (built cited files) b in_b in
        let found = built_of cited files file.0 heads.1 file.1 in
        let clash = All-contains (Disjoint c) cited found.0 (pairs_head Disjoint c cited apart) found.1 in
        clash (header f) file.0.header heads.0 found.2 a.no (in_map (λ (l : PageLine). l.no) (lines_of (header f).tiles) a in_a)
        (subst (Contains (numbers file.0.header)) (sym same) (in_map (λ (l : PageLine). l.no) (lines_of file.0.header.tiles) b file.2)))))
