-- The laws of a sweep, of a whole file.
use Rattle.std.proofs.Common.{◌≡◌, ◌≢◌, ℕ, zero, suc, ◌+◌, Bool, true, false, List, [], ◌∷◌, ◌++◌, All, Contains, drop, filter_map, flat_map, get_or, length, map, take, Option, Some, None, refl, sym, ap, subst, ◌∙◌, arith, append_assoc, length-append}
use Rattle.std.specs.Prelude.{AllPairs, IsPermutation}
use Rattle.std.specs.List.{AllZip, cons_option}
use Rattle.std.proofs.lemmas.Grind.{flat_map-append}
use Rattle.std.proofs.lemmas.List.{append-nil, drop-drop, length-map, take-append-drop}
use Rattle.std.proofs.lemmas.List.Elements.{All-cons, All-head, All-nil, All-tail, All-weaker, filter_map-append}
use Rattle.std.proofs.lemmas.List.Kept.{AllPairs-cons}
use Rattle.std.proofs.lemmas.List.Sorted.{All-permutation, Contains-permutation, IsPermutation-append_left, IsPermutation-append_right, IsPermutation-refl, IsPermutation-sym, IsPermutation-trans}
use Rattle.std.proofs.lemmas.Map.Keys.{IsDistinct-IsPermutation}
use Rattle.lethe_base.specs.Keys.{Bytes, same_key}
use Rattle.lethe_base.specs.declared.entry.Entry.{Entry}
use Rattle.lethe_base.specs.declared.pending.Pending.{Pending}
use Rattle.lethe_base.proofs.Newest.{same_key-self, same_key-true}
use Rattle.lethe_cover.specs.Sweeps.{swept_of}
use Rattle.lethe_file.specs.Agreement as agreement
use Rattle.lethe_file.specs.Agreement.{Agrees, FileAgrees, HaveNoCommonKey, IsWithin, TileHolds}
use Rattle.lethe_header.specs.Facts.{lines_of}
use Rattle.lethe_header.specs.declared.header.PageLine.{PageLine}
use Rattle.lethe_header.specs.declared.header.TileLine.{TileLine}
use Rattle.lethe_merge.proofs.Merges.{IsOfKey}
use Rattle.lethe_tile.proofs.Orders.{HasOtherKey, key_flips, other_from_pairs, pairs_from_other, pairs_head, pairs_tail}
use Rattle.lethe_tile.specs.Woven.{joined}
use Rattle.lethe_sweep.specs.Sweeping.{IsSweep, IsSweptBy, IsSweptTile, entries_of, left_in}
use Rattle.lethe_swept.specs.Left.{AreHeld, Placed, bounded, bounds_of, by_tile, entries_left, entries_with, pages_left, placed, tiles_left}
use Rattle.lethe_swept.specs.declared.part.Part.{Part}
use Rattle.lethe_swept.specs.declared.part.SweptFile.{SweptFile}
use Rattle.lethe_swept.specs.declared.part.SweptTile.{SweptTile}
use Rattle.lethe_sweep.proofs.Agreed.{entries_placed, keys_own, keys_within, len_by_tile, pages_told, zip_len}
use Rattle.lethe_sweep.proofs.Outcome.{tile_entries}
use Rattle.lethe_sweep.proofs.Paging.{swept_key}
use Rattle.lethe_sweep.proofs.Sorting.{HaveOwnKeys, own_kept}
use Rattle.lethe_sweep.proofs.Told.{IsTold}

-- ---- what a list that some items are left out of has

has_source : {X Y : Type 0} (f : X → Option Y) (xs : List X) (y : Y) → Contains (filter_map f xs) y → (x : X) × Contains xs x × (f x ≡ Some y)
has_source f [] y (k, lt, is) = absurd (omega (arith, lt))
has_source {X} {Y} f (x ∷ xs) y there = by (λ there. has_source f xs y there) (f x) refl there
  where
    later : (z : X) × Contains xs z × (f z ≡ Some y) → (z : X) × Contains (x ∷ xs) z × (f z ≡ Some y)
    later (z, (k, lt, is), at) = (z, (suc k, omega (arith, lt), is), at)

    by : (Contains (filter_map f xs) y → (z : X) × Contains xs z × (f z ≡ Some y)) → (o : Option Y) → f x ≡ o → Contains (cons_option o (filter_map f xs)) y → (z : X) × Contains (x ∷ xs) z × (f z ≡ Some y)
    by behind None at there = later (behind there)
    by behind (Some left) at (zero, lt, is) = (x, (zero, omega arith, refl), at ∙ ap (λ (l : Y). Some l) is)
    by behind (Some left) at (suc k, lt, is) = later (behind (k, omega (arith, lt), is))

has_image : {X Y : Type 0} (f : X → Option Y) (xs : List X) (x : X) (y : Y) → Contains xs x → f x ≡ Some y → Contains (filter_map f xs) y
has_image f [] x y (k, lt, is) at = absurd (omega (arith, lt))
has_image {X} {Y} f (z ∷ xs) x y (zero, lt, is) at =
    let here : f z ≡ Some y = ap f is ∙ at in
    subst (λ (o : Option Y). Contains (cons_option o (filter_map f xs)) y) (sym here) (zero, omega arith, refl)
has_image {X} {Y} f (z ∷ xs) x y (suc k, lt, is) at = by (f z) (has_image f xs x y (k, omega (arith, lt), is) at)
  where
    by : (o : Option Y) → Contains (filter_map f xs) y → Contains (cons_option o (filter_map f xs)) y
    by None there = there
    by (Some left) (j, below, same) = (suc j, omega (arith, below), same)

-- ---- entries whose keys differ, in another order

other_key : (e f : Entry) → e.key ≢ f.key → HasOtherKey e f
other_key e f apart = by (same_key e.key f.key) refl
  where
    by : (t : Bool) → same_key e.key f.key ≡ t → t ≡ false
    by true at = absurd (apart (same_key-true e.key f.key at))
    by false at = refl

key_other : (e f : Entry) → HasOtherKey e f → e.key ≢ f.key
key_other e f other same =
    let own : same_key e.key f.key ≡ true = subst (λ (key : Bytes). same_key e.key key ≡ true) same (same_key-self e.key) in
    let no : true ≡ false = sym own ∙ other in absurd cc

own_pairs : (es : List Entry) → HaveOwnKeys es → AllPairs HasOtherKey es
own_pairs [] own = λ i j d lt below. absurd (omega (arith, below))
own_pairs (e ∷ es) own = AllPairs-cons HasOtherKey e es (All-weaker (λ (f : Entry). e.key ≢ f.key) (HasOtherKey e) (other_key e) es own.0) (own_pairs es own.1)

pairs_own : (es : List Entry) → AllPairs HasOtherKey es → HaveOwnKeys es
pairs_own [] pairs = tt
pairs_own (e ∷ es) pairs = (All-weaker (HasOtherKey e) (λ (f : Entry). e.key ≢ f.key) (key_other e) es (pairs_head HasOtherKey e es pairs), pairs_own es (pairs_tail HasOtherKey e es pairs))

own_permuted : (es fs : List Entry) → IsPermutation es fs → HaveOwnKeys es → HaveOwnKeys fs
own_permuted es fs same own =
    pairs_own fs (pairs_from_other fs (IsDistinct-IsPermutation (λ (e f : Entry). same_key e.key f.key) key_flips es fs same (other_from_pairs es (own_pairs es own))))

-- of two lists end to end no key of the one is in the other
own_apart : (es fs : List Entry) → HaveOwnKeys (es ++ fs) → HaveOwnKeys fs × HaveNoCommonKey es fs
own_apart [] fs own = (own, All-nil (λ (e : Entry). All (λ (f : Entry). e.key ≢ f.key) fs))
own_apart (e ∷ es) fs own =
    let rest = own_apart es fs own.1 in
    (rest.0, All-cons (λ (e : Entry). All (λ (f : Entry). e.key ≢ f.key) fs) e es (all_back (λ (f : Entry). e.key ≢ f.key) es fs own.0) rest.1)
  where
    all_back : (P : Entry → Type 0) (xs ys : List Entry) → All P (xs ++ ys) → All P ys
    all_back P [] ys all = all
    all_back P (x ∷ xs) ys all = all_back P xs ys (All-tail P x (xs ++ ys) all)

pages_apart : (pages : List (List Entry)) → HaveOwnKeys (joined pages) → AllPairs HaveNoCommonKey pages
pages_apart [] own = λ i j d lt below. absurd (omega (arith, below))
pages_apart (page ∷ pages) own =
    let parts = own_apart page (joined pages) own in
    AllPairs-cons HaveNoCommonKey page pages (each pages parts.1) (pages_apart pages parts.0)
  where
    front : (P : Entry → Type 0) (xs ys : List Entry) → All P (xs ++ ys) → All P xs × All P ys
    front P [] ys all = (All-nil P, all)
    front P (x ∷ xs) ys all = let rest = front P xs ys (All-tail P x (xs ++ ys) all) in (All-cons P x xs (All-head P x (xs ++ ys) all) rest.0, rest.1)

    each : (others : List (List Entry)) → HaveNoCommonKey page (joined others) → All (HaveNoCommonKey page) others
    each [] apart = All-nil (HaveNoCommonKey page)
    each (other ∷ others) apart =
        All-cons (HaveNoCommonKey page) other others (λ i d lt. (front (λ (again : Entry). (get_or page i d).key ≢ again.key) other (joined others) (apart i d lt)).0)
        (each others (λ i d lt. (front (λ (again : Entry). (get_or page i d).key ≢ again.key) other (joined others) (apart i d lt)).1))

all_parts : (P : Entry → Type 0) (pages : List (List Entry)) → All P (joined pages) → All (All P) pages
all_parts P [] all = All-nil (All P)
all_parts P (page ∷ pages) all = let parts = front page (joined pages) all in All-cons (All P) page pages parts.0 (all_parts P pages parts.1)
  where
    front : (xs ys : List Entry) → All P (xs ++ ys) → All P xs × All P ys
    front [] ys all = (All-nil P, all)
    front (x ∷ xs) ys all = let rest = front xs ys (All-tail P x (xs ++ ys) all) in (All-cons P x xs (All-head P x (xs ++ ys) all) rest.0, rest.1)

-- what is left of an entry has its key
left_within : (alone : Bool) (erase : Pending) (tile : TileLine) (es : List Entry) → All (λ e. IsWithin tile e.key) es → All (λ e. IsWithin tile e.key) (left_in alone erase es)
left_within alone erase tile [] within = All-nil (λ (e : Entry). IsWithin tile e.key)
left_within alone erase tile (e ∷ es) within =
    by (swept_of alone erase e) (swept_key alone erase e) (left_within alone erase tile es (All-tail (λ (e : Entry). IsWithin tile e.key) e es within))
  where
    by : (o : Option Entry) → IsOfKey e.key o → All (λ (e : Entry). IsWithin tile e.key) (left_in alone erase es) → All (λ (e : Entry). IsWithin tile e.key) (cons_option o (left_in alone erase es))
    by None same more = more
    by (Some left) same more =
        All-cons (λ (e : Entry). IsWithin tile e.key) left (left_in alone erase es) (subst (λ (key : Bytes). IsWithin tile key) (sym same) (All-head (λ (e : Entry). IsWithin tile e.key) e es within)) more

entries_joined : (pages : List (List Entry)) (parts : List Part) → flat_map (entries_with pages) parts ≡ joined (map (entries_with pages) parts)
entries_joined pages [] = refl
entries_joined pages (part ∷ parts) = ap (λ (es : List Entry). entries_with pages part ++ es) (entries_joined pages parts)

-- ---- the file, tile by tile

parts_joined : (tiles : List TileLine) (parts : List (List Part)) → length tiles ≡ length parts → flat_map (λ (tile : SweptTile). tile.parts) (tiles_left tiles parts) ≡ joined parts
parts_joined [] [] len = refl
parts_joined [] (ps ∷ parts) len = absurd (omega (arith, len))
parts_joined (t ∷ tiles) [] len = absurd (omega (arith, len))
parts_joined (t ∷ tiles) ([] ∷ parts) len = parts_joined tiles parts (omega (arith, len))
parts_joined (t ∷ tiles) ((part ∷ ps) ∷ parts) len = ap (λ (l : List Part). (part ∷ ps) ++ l) (parts_joined tiles parts (omega (arith, len)))

none_past : {X : Type 0} (n : ℕ) (xs : List X) → n ≡ length xs → drop n xs ≡ []
none_past zero [] is = refl
none_past zero (x ∷ xs) is = absurd (omega (arith, is))
none_past (suc n) [] is = refl
none_past (suc n) (x ∷ xs) is = none_past n xs (omega (arith, is))

tiles_entries : (pages : List (List Entry)) (first : ℕ) (tiles : List TileLine) → first + length (lines_of tiles) ≡ length pages → flat_map (entries_of pages) (by_tile first tiles) ≡ joined (drop first pages)
tiles_entries pages first [] len = sym (ap joined (none_past first pages (omega (arith, len))))
tiles_entries pages first (t ∷ ts) len =
    let n = length t.pages in
    let whole : first + n + length (lines_of ts) ≡ length pages = omega (arith, len, length-append t.pages (lines_of ts)) in
    ap (λ (es : List Entry). es ++ flat_map (entries_of pages) (by_tile (first + n) ts)) (entries_placed pages first t.pages (omega (arith, whole)))
    ∙ ap (λ (es : List Entry). joined (take n (drop first pages)) ++ es) (tiles_entries pages (first + n) ts whole ∙ ap joined (sym (drop-drop n first pages)))
    ∙ sym (flat_map-append (λ (es : List Entry). es) (take n (drop first pages)) (drop n (drop first pages)))
    ∙ ap joined (take-append-drop n (drop first pages))

abbrev AreTold : List (List Entry) → List Placed → Type 0
AreTold pages tile = All (IsTold pages) tile

all_tiles : (alone : Bool) (erase : Pending) (pages : List (List Entry)) (tiles : List (List Placed)) (parts : List (List Part)) → AllZip (IsSweptTile alone erase pages) tiles parts → All (AreTold pages) tiles
    → IsPermutation (left_in alone erase (flat_map (entries_of pages) tiles)) (flat_map (entries_with pages) (joined parts))
all_tiles alone erase pages [] [] each told = IsPermutation-refl []
all_tiles alone erase pages [] (own ∷ parts) each told = absurd each
all_tiles alone erase pages (tile ∷ tiles) [] each told = absurd each
all_tiles alone erase pages (tile ∷ tiles) (own ∷ parts) each told =
    let here = left_in alone erase (entries_of pages tile) in
    let rest = left_in alone erase (flat_map (entries_of pages) tiles) in
    let made = flat_map (entries_with pages) own in
    let more = flat_map (entries_with pages) (joined parts) in
    let first = tile_entries erase pages alone tile own (All-head (AreTold pages) tile tiles told) each.0 in
    let others = all_tiles alone erase pages tiles parts each.1 (All-tail (AreTold pages) tile tiles told) in
    subst (λ (es : List Entry). IsPermutation es (flat_map (entries_with pages) (own ++ joined parts))) (sym (filter_map-append (swept_of alone erase) (entries_of pages tile) (flat_map (entries_of pages) tiles)))
    (subst (IsPermutation (here ++ rest)) (sym (flat_map-append (entries_with pages) own (joined parts)))
    (IsPermutation-trans (here ++ rest) (made ++ rest) (made ++ more) (IsPermutation-append_left rest here made first) (IsPermutation-append_right made rest more others)))

module _ (alone : Bool) (erase : Pending) (tiles : List TileLine) (bytes : List (List ℕ)) (agrees : FileAgrees tiles bytes) where
  abbrev pages : List (List Entry)
  pages = map agreement.entries_in bytes

  told_tiles : (before rest : List TileLine) → tiles ≡ before ++ rest → All (AreTold pages) (by_tile (length (lines_of before)) rest)
  told_tiles before [] are = All-nil (AreTold pages)
  told_tiles before (t ∷ ts) are =
      let first = length (lines_of before) in
      let next : length (lines_of (before ++ t ∷ [])) ≡ first + length t.pages =
      ap length (flat_map-append (λ (tile : TileLine). tile.pages) before (t ∷ [])) ∙ length-append (lines_of before) (t.pages ++ []) ∙ ap (λ (ls : List PageLine). first + length ls) (append-nil t.pages) in
      let later = told_tiles (before ++ t ∷ []) ts (are ∙ sym (append_assoc before (t ∷ []) ts)) in
      All-cons (AreTold pages) (placed first t.pages) (by_tile (first + length t.pages) ts) (pages_told erase tiles bytes agrees before t ts are)
      (subst (λ (n : ℕ). All (AreTold pages) (by_tile n ts)) next later)

  file_entries : (swept : SweptFile) → IsSweptBy alone erase tiles pages swept → IsPermutation (left_in alone erase (joined pages)) (entries_left pages swept)
  file_entries swept is =
      let len : length tiles ≡ length is.parts = sym (len_by_tile 0 tiles) ∙ zip_len (IsSweptTile alone erase pages) (by_tile 0 tiles) is.parts is.each in
      let paged : 0 + length (lines_of tiles) ≡ length pages = omega (arith, zip_len Agrees (lines_of tiles) bytes agrees.pages, length-map bytes agreement.entries_in) in
      let made : entries_left pages swept ≡ flat_map (entries_with pages) (joined is.parts) =
      ap (λ (ts : List SweptTile). flat_map (entries_with pages) (flat_map (λ (tile : SweptTile). tile.parts) ts)) is.tiles_are ∙ ap (flat_map (entries_with pages)) (parts_joined tiles is.parts len) in
      subst (λ (es : List Entry). IsPermutation (left_in alone erase es) (entries_left pages swept)) (tiles_entries pages 0 tiles paged)
      (subst (IsPermutation (left_in alone erase (flat_map (entries_of pages) (by_tile 0 tiles)))) (sym made) (all_tiles alone erase pages (by_tile 0 tiles) is.parts is.each (told_tiles [] tiles refl)))

  pub is_sweep : (swept : SweptFile) → IsSweptBy alone erase tiles pages swept → IsSweep alone erase (joined pages) (entries_left pages swept)
  is_sweep swept is =
      let all = left_in alone erase (joined pages) in
      let left = entries_left pages swept in
      let same = file_entries swept is in
      record {
        from = λ output there. has_source (swept_of alone erase) (joined pages) output (Contains-permutation left all output (IsPermutation-sym all left same) there);
        kept = λ entry output there at. Contains-permutation all left output same (has_image (swept_of alone erase) (joined pages) entry output there at);
      }

  -- what is left of a tile keeps its bounds
  tile_held : (before : List TileLine) (tile : TileLine) (rest : List TileLine) → tiles ≡ before ++ tile ∷ rest → (parts : List Part) → IsSweptTile alone erase pages (placed (length (lines_of before)) tile.pages) parts
      → TileHolds (bounds_of (bounded (tile, parts))) (map (entries_with pages) parts)
  tile_held before tile rest are parts swept =
      let first = length (lines_of before) in
      let all = entries_of pages (placed first tile.pages) in
      let left = left_in alone erase all in
      let made = flat_map (entries_with pages) parts in
      let same = tile_entries erase pages alone (placed first tile.pages) parts (pages_told erase tiles bytes agrees before tile rest are) swept in
      let own = own_kept (swept_of alone erase) (λ e o at. subst (IsOfKey e.key) at (swept_key alone erase e)) all (keys_own erase tiles bytes agrees before tile rest are) in
      let within = left_within alone erase tile all (keys_within erase tiles bytes agrees before tile rest are) in
      let bounds = bounds_of (bounded (tile, parts)) in
      let each : All (λ (e : Entry). IsWithin bounds e.key) made =
      All-weaker (λ (e : Entry). IsWithin tile e.key) (λ (e : Entry). IsWithin bounds e.key) (λ e h. record { lo = h.lo; hi = h.hi }) made (All-permutation (λ (e : Entry). IsWithin tile e.key) left made same within) in
      record {
        within = all_parts (λ (e : Entry). IsWithin bounds e.key) (map (entries_with pages) parts) (subst (λ (es : List Entry). All (λ (e : Entry). IsWithin bounds e.key) es) (entries_joined pages parts) each);
        once = pages_apart (map (entries_with pages) parts) (subst HaveOwnKeys (entries_joined pages parts) (own_permuted left made same own));
      }

  abbrev IsHeld : SweptTile → Type 0
  IsHeld tile = TileHolds (bounds_of tile) (pages_left pages tile)

  tiles_held : (before rest : List TileLine) → tiles ≡ before ++ rest → (parts : List (List Part)) → AllZip (IsSweptTile alone erase pages) (by_tile (length (lines_of before)) rest) parts → All IsHeld (tiles_left rest parts)
  tiles_held before [] are [] each = All-nil IsHeld
  tiles_held before [] are (own ∷ parts) each = absurd each
  tiles_held before (t ∷ ts) are [] each = absurd each
  tiles_held before (t ∷ ts) are (own ∷ parts) each =
      let first = length (lines_of before) in
      let next : first + length t.pages ≡ length (lines_of (before ++ t ∷ [])) =
      sym (ap length (flat_map-append (λ (tile : TileLine). tile.pages) before (t ∷ [])) ∙ length-append (lines_of before) (t.pages ++ []) ∙ ap (λ (ls : List PageLine). first + length ls) (append-nil t.pages)) in
      by own each.0 (tiles_held (before ++ t ∷ []) ts (are ∙ sym (append_assoc before (t ∷ []) ts)) parts (subst (λ (n : ℕ). AllZip (IsSweptTile alone erase pages) (by_tile n ts) parts) next each.1))
    where
      by : (own : List Part) → IsSweptTile alone erase pages (placed (length (lines_of before)) t.pages) own → All IsHeld (tiles_left ts parts) → All IsHeld (tiles_left (t ∷ ts) (own ∷ parts))
      by [] swept later = later
      by (part ∷ own) swept later = All-cons IsHeld (bounded (t, part ∷ own)) (tiles_left ts parts) (tile_held before t ts are (part ∷ own) swept) later

  pub are_held : (swept : SweptFile) → IsSweptBy alone erase tiles pages swept → AreHeld pages swept
  are_held swept is = subst (λ (ts : List SweptTile). All IsHeld ts) (sym is.tiles_are) (tiles_held [] tiles refl is.parts is.each)
