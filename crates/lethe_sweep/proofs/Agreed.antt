-- A file that agrees with its header: what is known of its pages, and what a sweep leaves of it.
use Rattle.std.proofs.Common.{◌≡◌, ◌≢◌, ℕ, zero, suc, ◌+◌, ◌≤◌, ◌<◌, min, max, Bool, true, false, List, [], ◌∷◌, ◌++◌, All, drop, fold, get_or, length, map, take, Option, Some, None, refl, sym, ap, subst, ◌∙◌, arith, append_assoc, length-append}
use Rattle.std.specs.Prelude.{AllPairs, nat_le}
use Rattle.std.specs.List.{AllZip}
use Rattle.std.specs.Ordering.{is_eq}
use Rattle.std.specs.declared.cmp.Ordering.TheVariants.{Less}
use Rattle.std.proofs.lemmas.Bool.{and_from, and_parts, le-leb, leb-true}
use Rattle.std.proofs.lemmas.Grind.{flat_map-append}
use Rattle.std.proofs.lemmas.List.{append-nil, drop-drop, drop_more, get_or-append-add, get_or-map, get_or_append_left, length-map}
use Rattle.std.proofs.lemmas.List.Elements.{All-append, All-cons, All-drop, All-head, All-nil, All-tail, All-take}
use Rattle.lethe_base.specs.Entries.{IsAscending}
use Rattle.lethe_base.specs.Keys.{Bytes, key_cmp, same_key}
use Rattle.lethe_base.specs.declared.entry.Body.{Body}
use Rattle.lethe_base.specs.declared.entry.Body.TheVariants.{Put, Tomb}
use Rattle.lethe_base.specs.declared.entry.Entry.{Entry}
use Rattle.lethe_base.specs.declared.pending.Pending.{Pending}
use Rattle.lethe_base.proofs.Newest.{same_key-self}
use Rattle.lethe_build.proofs.Fences.{page_fence}
use Rattle.lethe_file.specs.Agreement.{Agrees, FileAgrees, HaveNoCommonKey, IsWithin, TileHolds, TilesHold, entries_in, fence_of, fence_with}
use Rattle.lethe_header.specs.Facts.{lines_of}
use Rattle.lethe_header.specs.Headers.{IsFence}
use Rattle.lethe_header.specs.declared.header.PageLine.{PageLine}
use Rattle.lethe_header.specs.declared.header.TileLine.{TileLine}
use Rattle.lethe_page.specs.Pages.{IsIn}
use Rattle.lethe_tile.proofs.Orders.{HasLowerKey, pairs_from_ascending, pairs_head, pairs_tail}
use Rattle.lethe_tile.specs.Woven.{joined}
use Rattle.lethe_sweep.specs.Steps.{AreTilesLeft, IsTileLeft, More, NoTile, tile_left}
use Rattle.lethe_swept.specs.Fits.{is_fenced}
use Rattle.lethe_sweep.specs.Sweeping.{IsBehind, IsSweptBy, IsSweptTile, entries_of}
use Rattle.lethe_swept.specs.Left.{Placed, bounded, by_tile, entries_at, placed, tiles_left}
use Rattle.lethe_swept.specs.declared.part.Part.{Part}
use Rattle.lethe_swept.specs.declared.part.SweptFile.{SweptFile}
use Rattle.lethe_swept.specs.declared.part.SweptTile.{SweptTile}
use Rattle.lethe_sweep.proofs.Sorting.{HaveOwnKeys, own_append}
use Rattle.lethe_sweep.proofs.Stepping.{placed_len}
use Rattle.lethe_sweep.proofs.Tiling.{placed_get}
use Rattle.lethe_sweep.proofs.Told.{IsBefore, IsTold, tile_swept}

-- ---- the delete keys of a page lie in its fence, and its places up to the greatest

tomb_fenced : (fence : Option (ℕ × ℕ)) → is_fenced fence Tomb ≡ true
tomb_fenced None = refl
tomb_fenced (Some fence) = refl

fence_own : (fence : Option (ℕ × ℕ)) (body : Body) → is_fenced (fence_with fence body) body ≡ true
fence_own fence Tomb = tomb_fenced (fence_with fence Tomb)
fence_own None (Put dkey value) = let same : dkey ≤ dkey = omega arith in and_from (nat_le dkey dkey) (nat_le dkey dkey) (le-leb dkey dkey same) (le-leb dkey dkey same)
fence_own (Some f) (Put dkey value) = and_from (nat_le (min f.0 dkey) dkey) (nat_le dkey (max f.1 dkey)) (le-leb (min f.0 dkey) dkey (omega arith)) (le-leb dkey (max f.1 dkey) (omega arith))

fence_grows : (fence : Option (ℕ × ℕ)) (body more : Body) → is_fenced fence body ≡ true → is_fenced (fence_with fence more) body ≡ true
fence_grows fence Tomb more inside = tomb_fenced (fence_with fence more)
fence_grows None (Put dkey value) more inside = absurd cc
fence_grows (Some f) (Put dkey value) Tomb inside = inside
fence_grows (Some f) (Put dkey value) (Put other bytes) inside =
    let ends = and_parts (nat_le f.0 dkey) (nat_le dkey f.1) inside in
    and_from (nat_le (min f.0 other) dkey) (nat_le dkey (max f.1 other)) (le-leb (min f.0 other) dkey (omega (arith, leb-true f.0 dkey ends.0))) (le-leb dkey (max f.1 other) (omega (arith, leb-true dkey f.1 ends.1)))

fence_then : Option (ℕ × ℕ) → List Entry → Option (ℕ × ℕ)
fence_then fence es = fold (λ fence entry. fence_with fence entry.body) fence es

fence_stays : (es : List Entry) (fence : Option (ℕ × ℕ)) (body : Body) → is_fenced fence body ≡ true → is_fenced (fence_then fence es) body ≡ true
unfolding fence_then
fence_stays [] fence body inside = inside
fence_stays (e ∷ es) fence body inside = fence_stays es (fence_with fence e.body) body (fence_grows fence body e.body inside)

fence_holds : (es : List Entry) (fence : Option (ℕ × ℕ)) → All (λ e. is_fenced (fence_then fence es) e.body ≡ true) es
unfolding fence_then
fence_holds [] fence = All-nil (λ e. is_fenced fence e.body ≡ true)
fence_holds (e ∷ es) fence =
    All-cons (λ (x : Entry). is_fenced (fence_then (fence_with fence e.body) es) x.body ≡ true) e es (fence_stays es (fence_with fence e.body) e.body (fence_own fence e.body)) (fence_holds es (fence_with fence e.body))

pub all_fenced : (es : List Entry) → All (λ e. is_fenced (fence_of es) e.body ≡ true) es
unfolding fence_then
all_fenced es = fence_holds es None

most_then : ℕ → List Entry → ℕ
most_then most es = fold (λ most entry. max most entry.seq) most es

most_stays : (es : List Entry) (most : ℕ) → most ≤ most_then most es
unfolding most_then
most_stays [] most = omega arith
most_stays (e ∷ es) most = omega (arith, most_stays es (max most e.seq))

up_to_most : (es : List Entry) (most : ℕ) → All (λ e. e.seq ≤ most_then most es) es
unfolding most_then
up_to_most [] most = All-nil (λ e. e.seq ≤ most)
up_to_most (e ∷ es) most = All-cons (λ (x : Entry). x.seq ≤ most_then (max most e.seq) es) e es (omega (arith, most_stays es (max most e.seq))) (up_to_most es (max most e.seq))

pub all_up_to : (es : List Entry) → All (λ e. e.seq ≤ fold (λ most entry. max most entry.seq) 0 es) es
unfolding most_then
all_up_to es = up_to_most es 0

-- ---- a page by its place

zip_get : {A B : Type 0} (R : A → B → Type 0) (xs : List A) (ys : List B) (k : ℕ) (d : A) (e : B) → AllZip R xs ys → k < length xs → R (get_or xs k d) (get_or ys k e)
zip_get R [] ys k d e each lt = absurd (omega (arith, lt))
zip_get R (x ∷ xs) [] k d e each lt = absurd each
zip_get R (x ∷ xs) (y ∷ ys) zero d e each lt = each.0
zip_get R (x ∷ xs) (y ∷ ys) (suc k) d e each lt = zip_get R xs ys k d e each.1 (omega (arith, lt))

pub zip_len : {A B : Type 0} (R : A → B → Type 0) (xs : List A) (ys : List B) → AllZip R xs ys → length xs ≡ length ys
zip_len R [] [] each = refl
zip_len R [] (y ∷ ys) each = absurd each
zip_len R (x ∷ xs) [] each = absurd each
zip_len R (x ∷ xs) (y ∷ ys) each = ap suc (zip_len R xs ys each.1)

pub all_placed : (P : Placed → Type 0) (first : ℕ) (lines : List PageLine) → ((k : ℕ) (line : PageLine) → k < length lines → line ≡ get_or lines k line → P (record { place = first + k; line = line })) → All P (placed first lines)
all_placed P first lines each k d lt =
    let inside : k < length lines = omega (arith, lt, placed_len first lines) in
    let line = get_or lines k d.line in
    subst P (sym (placed_get first lines k d inside)) (each k line inside (get_or_same lines k d.line inside))
  where
    get_or_same : (lines : List PageLine) (k : ℕ) (d : PageLine) → k < length lines → get_or lines k d ≡ get_or lines k (get_or lines k d)
    get_or_same [] k d lt = absurd (omega (arith, lt))
    get_or_same (line ∷ lines) zero d lt = refl
    get_or_same (line ∷ lines) (suc k) d lt = get_or_same lines k d (omega (arith, lt))

-- a page that agrees with its line
told : (pages : List (List Entry)) (place : ℕ) (line : PageLine) (bytes : List ℕ) → Agrees line bytes → entries_at pages place ≡ entries_in bytes → IsTold pages (record { place = place; line = line })
told pages place line bytes agrees is =
    let es = entries_in bytes in
    record {
      each = subst (λ (l : List Entry). All (IsIn line.class) l) (sym is) agrees.page.spelled.each;
      inside = subst (λ (l : List Entry). All (λ e. is_fenced line.fence e.body ≡ true) l) (sym is) (subst (λ (f : Option (ℕ × ℕ)). All (λ e. is_fenced f e.body ≡ true) es) agrees.fence (all_fenced es));
      fence = subst (IsFence line.class) agrees.fence (page_fence line.class es agrees.page.spelled);
    }

early : (erase : Pending) (pages : List (List Entry)) (place : ℕ) (line : PageLine) (bytes : List ℕ) → Agrees line bytes → line.max_seq < erase.seq → entries_at pages place ≡ entries_in bytes
    → IsBefore erase pages (record { place = place; line = line })
early erase pages place line bytes agrees behind is =
    let low = all_up_to (entries_in bytes) in
    subst (λ (l : List Entry). All (λ e. e.seq < erase.seq) l) (sym is) (λ k d lt. omega (arith, low k d lt, agrees.max_seq, behind))

-- ---- the keys of a tile

lower_other : (e f : Entry) → key_cmp e.key f.key ≡ Less → e.key ≢ f.key
lower_other e f lower same =
    let other : same_key e.key f.key ≡ false = ap is_eq lower in
    let own : same_key e.key f.key ≡ true = subst (λ (key : Bytes). same_key e.key key ≡ true) same (same_key-self e.key) in
    let no : true ≡ false = sym own ∙ other in absurd cc

pub ascending_own : (es : List Entry) → IsAscending es → HaveOwnKeys es
ascending_own es ascending = by es (pairs_from_ascending es ascending)
  where
    by : (es : List Entry) → AllPairs HasLowerKey es → HaveOwnKeys es
    by [] pairs = tt
    by (e ∷ es) pairs = (λ k d lt. lower_other e (get_or es k d) (pairs_head HasLowerKey e es pairs k d lt), by es (pairs_tail HasLowerKey e es pairs))

common_joined : (page : List Entry) (pages : List (List Entry)) → All (HaveNoCommonKey page) pages → HaveNoCommonKey page (joined pages)
common_joined page [] none i d lt = All-nil (λ again. (get_or page i d).key ≢ again.key)
common_joined page (other ∷ pages) none i d lt =
    All-append (λ again. (get_or page i d).key ≢ again.key) other (joined pages) (All-head (HaveNoCommonKey page) other pages none i d lt) (common_joined page pages (All-tail (HaveNoCommonKey page) other pages none) i d lt)

pub joined_own : (pages : List (List Entry)) → All HaveOwnKeys pages → AllPairs HaveNoCommonKey pages → HaveOwnKeys (joined pages)
joined_own [] own apart = tt
joined_own (page ∷ pages) own apart =
    own_append page (joined pages) (All-head HaveOwnKeys page pages own) (joined_own pages (All-tail HaveOwnKeys page pages own) (pairs_tail HaveNoCommonKey page pages apart)) (common_joined page pages (pairs_head HaveNoCommonKey page pages apart))

all_joined : (P : Entry → Type 0) (pages : List (List Entry)) → All (All P) pages → All P (joined pages)
all_joined P [] all = All-nil P
all_joined P (page ∷ pages) all = All-append P page (joined pages) (All-head (All P) page pages all) (all_joined P pages (All-tail (All P) page pages all))

-- the entries of the pages of a tile
pub entries_placed : (pages : List (List Entry)) (first : ℕ) (lines : List PageLine) → first + length lines ≤ length pages → entries_of pages (placed first lines) ≡ joined (take (length lines) (drop first pages))
entries_placed pages first [] within = refl
entries_placed pages first (line ∷ lines) within =
    let inside : first < length pages = omega (arith, within) in
    ap (λ (es : List Entry). get_or pages first [] ++ es) (entries_placed pages (first + 1) lines (omega (arith, within)))
    ∙ ap (λ (ps : List (List Entry)). joined (take (suc (length lines)) ps)) (sym (drop_more pages first [] inside))

pub tile_holds : (before : List TileLine) (tile : TileLine) (rest : List TileLine) (pages : List (List Entry)) → TilesHold (before ++ tile ∷ rest) pages → TileHolds tile (take (length tile.pages) (drop (length (lines_of before)) pages))
tile_holds [] tile rest pages holds = holds.0
tile_holds (t ∷ ts) tile rest pages holds =
    let moved : drop (length (lines_of ts)) (drop (length t.pages) pages) ≡ drop (length (t.pages ++ lines_of ts)) pages = drop-drop (length (lines_of ts)) (length t.pages) pages ∙ ap (λ (n : ℕ). drop n pages) (sym (length-append t.pages (lines_of ts))) in
    subst (λ (ps : List (List Entry)). TileHolds tile (take (length tile.pages) ps)) moved (tile_holds ts tile rest (drop (length t.pages) pages) holds.1)

-- ---- the file

push_tile : (first : ℕ) (tiles : List TileLine) (tile : TileLine) → by_tile first (tiles ++ tile ∷ []) ≡ by_tile first tiles ++ placed (first + length (lines_of tiles)) tile.pages ∷ []
push_tile first [] tile = ap (λ (n : ℕ). placed n tile.pages ∷ []) (omega arith)
push_tile first (t ∷ ts) tile =
    ap (λ (l : List (List Placed)). placed first t.pages ∷ l) (push_tile (first + length t.pages) ts tile)
    ∙ ap (λ (n : ℕ). placed first t.pages ∷ (by_tile (first + length t.pages) ts ++ placed n tile.pages ∷ [])) (omega (arith, length-append t.pages (lines_of ts)))

zip_push : {A B : Type 0} (R : A → B → Type 0) (xs : List A) (ys : List B) (x : A) (y : B) → AllZip R xs ys → R x y → AllZip R (xs ++ x ∷ []) (ys ++ y ∷ [])
zip_push R [] [] x y each one = (one, tt)
zip_push R [] (z ∷ ys) x y each one = absurd each
zip_push R (w ∷ xs) [] x y each one = absurd each
zip_push R (w ∷ xs) (z ∷ ys) x y each one = (each.0, zip_push R xs ys x y each.1 one)

left_push : (tiles : List TileLine) (parts : List (List Part)) (tile : TileLine) (own : List Part) → length tiles ≡ length parts → tiles_left (tiles ++ tile ∷ []) (parts ++ own ∷ []) ≡ tiles_left tiles parts ++ tile_left tile own
left_push [] [] tile [] len = refl
left_push [] [] tile (part ∷ own) len = refl
left_push [] (ps ∷ parts) tile own len = absurd (omega (arith, len))
left_push (t ∷ tiles) [] tile own len = absurd (omega (arith, len))
left_push (t ∷ tiles) ([] ∷ parts) tile own len = left_push tiles parts tile own (omega (arith, len))
left_push (t ∷ tiles) ((part ∷ ps) ∷ parts) tile own len = ap (λ (l : List SweptTile). bounded (t, part ∷ ps) ∷ l) (left_push tiles parts tile own (omega (arith, len)))

pub len_by_tile : (first : ℕ) (tiles : List TileLine) → length (by_tile first tiles) ≡ length tiles
len_by_tile first [] = refl
len_by_tile first (t ∷ ts) = ap suc (len_by_tile (first + length t.pages) ts)

-- what holds of what is left of each tile holds of the parts, tile by tile
module _ (tells : Type 0) (alone : Bool) (erase : Pending) (pages : List (List Entry)) (R : List Placed → List Part → Type 0) (tiles : List TileLine) where
  -- it holds of what is left of each of the tiles
  abbrev pub OfEachTile : Type 0
  OfEachTile =
      (before : List TileLine) (tile : TileLine) (rest : List TileLine) → tiles ≡ before ++ tile ∷ rest → (parts : List Part)
      → IsTileLeft tells alone erase pages (placed (length (lines_of before)) tile.pages) parts → R (placed (length (lines_of before)) tile.pages) parts

  pub parts_by_tile : OfEachTile → (some : List TileLine) (swept : List SweptTile) → AreTilesLeft tells alone erase pages some swept → (rest : List TileLine) → tiles ≡ some ++ rest
      → (parts : List (List Part)) × AllZip R (by_tile 0 some) parts × (swept ≡ tiles_left some parts)
  parts_by_tile each some swept NoTile rest are = ([], tt, refl)
  parts_by_tile each some swept (More before earlier left tile own is_left) rest are =
      let whole : tiles ≡ before ++ tile ∷ rest = are ∙ append_assoc before (tile ∷ []) rest in
      let so_far = parts_by_tile each before earlier left (tile ∷ rest) whole in
      let parts = so_far.0 in
      let len : length before ≡ length parts = sym (len_by_tile 0 before) ∙ zip_len R (by_tile 0 before) parts so_far.1 in
      let first : length (lines_of before) ≡ 0 + length (lines_of before) = omega arith in (
        parts ++ own ∷ [],
        subst (λ (l : List (List Placed)). AllZip R l (parts ++ own ∷ [])) (sym (push_tile 0 before tile))
            (zip_push R (by_tile 0 before) parts (placed (0 + length (lines_of before)) tile.pages) own so_far.1 (subst (λ (n : ℕ). R (placed n tile.pages) own) first (each before tile rest whole own is_left))),
        ap (λ (s : List SweptTile). s ++ tile_left tile own) so_far.2 ∙ sym (left_push before parts tile own len),
      )

each_own : (lines : List PageLine) (bytes : List (List ℕ)) → AllZip Agrees lines bytes → All HaveOwnKeys (map entries_in bytes)
each_own [] [] each = All-nil HaveOwnKeys
each_own [] (own ∷ bytes) each = absurd each
each_own (line ∷ lines) [] each = absurd each
each_own (line ∷ lines) (own ∷ bytes) each = All-cons HaveOwnKeys (entries_in own) (map entries_in bytes) (ascending_own (entries_in own) each.0.page.spelled.ascending) (each_own lines bytes each.1)

module _ (erase : Pending) (tiles : List TileLine) (bytes : List (List ℕ)) (agrees : FileAgrees tiles bytes) where
  abbrev pages : List (List Entry)
  pages = map entries_in bytes

  module _ (before : List TileLine) (tile : TileLine) (rest : List TileLine) (are : tiles ≡ before ++ tile ∷ rest) where
    abbrev first : ℕ
    first = length (lines_of before)

    all_lines : lines_of tiles ≡ lines_of before ++ (tile.pages ++ lines_of rest)
    all_lines = ap lines_of are ∙ flat_map-append (λ (tile : TileLine). tile.pages) before (tile ∷ rest)

    fits : first + length tile.pages ≤ length (lines_of tiles)
    fits = omega (arith, ap length all_lines, length-append (lines_of before) (tile.pages ++ lines_of rest), length-append tile.pages (lines_of rest))

    paged : length (lines_of tiles) ≡ length bytes
    paged = zip_len Agrees (lines_of tiles) bytes agrees.pages

    line_at : (k : ℕ) (line : PageLine) → k < length tile.pages → line ≡ get_or tile.pages k line → get_or (lines_of tiles) (first + k) line ≡ line
    line_at k line lt is =
        ap (λ (ls : List PageLine). get_or ls (first + k) line) all_lines ∙ get_or-append-add (lines_of before) (tile.pages ++ lines_of rest) k line ∙ get_or_append_left tile.pages (lines_of rest) line k lt ∙ sym is

    agree_at : (k : ℕ) (line : PageLine) → k < length tile.pages → line ≡ get_or tile.pages k line → Agrees line (get_or bytes (first + k) [])
    agree_at k line lt is =
        let inside : first + k < length (lines_of tiles) = omega (arith, lt, fits) in
        subst (λ (l : PageLine). Agrees l (get_or bytes (first + k) [])) (line_at k line lt is) (zip_get Agrees (lines_of tiles) bytes (first + k) line [] agrees.pages inside)

    entries_there : (k : ℕ) → k < length tile.pages → entries_at pages (first + k) ≡ entries_in (get_or bytes (first + k) [])
    entries_there k lt = let inside : first + k < length bytes = omega (arith, lt, fits, paged) in get_or-map entries_in bytes (first + k) [] [] inside

    pub pages_told : All (IsTold pages) (placed first tile.pages)
    pages_told = all_placed (IsTold pages) first tile.pages (λ k line lt is. told pages (first + k) line (get_or bytes (first + k) []) (agree_at k line lt is) (entries_there k lt))

    pub pages_before : IsBehind erase tiles → All (IsBefore erase pages) (placed first tile.pages)
    pages_before behind = all_placed (IsBefore erase pages) first tile.pages (λ k line lt is.
        let inside : first + k < length (lines_of tiles) = omega (arith, lt, fits) in
        let low : line.max_seq < erase.seq = subst (λ (l : PageLine). l.max_seq < erase.seq) (line_at k line lt is) (behind (first + k) line inside) in
        early erase pages (first + k) line (get_or bytes (first + k) []) (agree_at k line lt is) low (entries_there k lt))

    pub holds : TileHolds tile (take (length tile.pages) (drop first pages))
    holds = tile_holds before tile rest (map entries_in bytes) (subst (λ (ts : List TileLine). TilesHold ts (map entries_in bytes)) are agrees.tiles)

    pub keys_own : HaveOwnKeys (entries_of pages (placed first tile.pages))
    keys_own =
        let n = length tile.pages in
        let within : first + n ≤ length pages = omega (arith, fits, paged, length-map bytes entries_in) in
        let own = All-take HaveOwnKeys n (drop first pages) (All-drop HaveOwnKeys first pages (each_own (lines_of tiles) bytes agrees.pages)) in
        subst HaveOwnKeys (sym (entries_placed pages first tile.pages within)) (joined_own (take n (drop first pages)) own holds.once)

    pub keys_within : All (λ e. IsWithin tile e.key) (entries_of pages (placed first tile.pages))
    keys_within =
        let n = length tile.pages in
        let within : first + n ≤ length pages = omega (arith, fits, paged, length-map bytes entries_in) in
        subst (λ (es : List Entry). All (λ (e : Entry). IsWithin tile e.key) es) (sym (entries_placed pages first tile.pages within)) (all_joined (λ (e : Entry). IsWithin tile e.key) (take n (drop first pages)) holds.within)

module _ (tells : Type 0) (yes : tells) (alone : Bool) (erase : Pending) (tiles : List TileLine) (bytes : List (List ℕ)) (agrees : FileAgrees tiles bytes) (behind : IsBehind erase tiles) where
  abbrev all_pages : List (List Entry)
  all_pages = map entries_in bytes

  tile_at : (before : List TileLine) (tile : TileLine) (rest : List TileLine) → tiles ≡ before ++ tile ∷ rest → (parts : List Part) → IsTileLeft tells alone erase all_pages (placed (length (lines_of before)) tile.pages) parts
      → IsSweptTile alone erase all_pages (placed (length (lines_of before)) tile.pages) parts
  tile_at before tile rest are parts left =
      tile_swept tells yes erase all_pages alone (placed (length (lines_of before)) tile.pages) parts left (pages_told erase tiles bytes agrees before tile rest are) (pages_before erase tiles bytes agrees before tile rest are behind)
      (keys_own erase tiles bytes agrees before tile rest are)

  pub file_swept : (swept : SweptFile) → AreTilesLeft tells alone erase all_pages tiles swept.tiles → IsSweptBy alone erase tiles all_pages swept
  file_swept swept left = let found = parts_by_tile tells alone erase all_pages (IsSweptTile alone erase all_pages) tiles tile_at tiles swept.tiles left [] (sym (append-nil tiles)) in record { parts = found.0; each = found.1; tiles_are = found.2 }
