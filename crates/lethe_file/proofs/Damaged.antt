-- Pages that are told as damaged, and entries that a line vouches for.
use Rattle.std.proofs.Common.{◌≡◌, ℕ, zero, suc, ◌+◌, ◌<◌, ◌⊎◌, Bool, true, false, cond, List, [], ◌∷◌, ◌++◌, length, get_or, take, drop, map, reverse, Result, Ok, Err, Option, Some, None}
use Rattle.std.proofs.Common.{inl, inr, refl, sym, ap, subst, ◌∙◌, arith, length-append}
use Rattle.std.specs.Prelude.{Any, Contains, IfOk, IfSome, IsTrue, zip}
use Rattle.std.proofs.Math.ListN.{get_or-append}
use Rattle.std.proofs.lemmas.List.{get_or-append-add, get_or-map, get_or-take, get_or-drop, get_or_append_left, get_or_default, length-drop, length-map, length-take}
use Rattle.std.proofs.lemmas.List.Elements.{Contains-append_left, Contains-append_right}
use Rattle.std.proofs.lemmas.List.Sorted.{Contains-permutation, IsPermutation-reverse}
use Rattle.std.proofs.lemmas.Slice.Zip.{get_or-zip, length-zip}
use Rattle.lethe_base.specs.Keys.{Bytes}
use Rattle.lethe_base.specs.declared.entry.Entry.{Entry}
use Rattle.lethe_base.specs.declared.name.Name.{Name}
use Rattle.lethe_disk.specs.declared.cursor.ReadRefused.{ReadRefused}
use Rattle.lethe_header.specs.Facts.{lines_of}
use Rattle.lethe_header.specs.declared.header.PageLine.{PageLine}
use Rattle.lethe_header.specs.declared.header.TileLine.{TileLine}
use Rattle.lethe_file.specs.Agreement.{IsPage, check_of, page_name}
use Rattle.lethe_file.specs.Between.{meets}
use Rattle.lethe_file.specs.Damage.{IsDamagedAmong, IsDamagedAs, IsDamagedFor, IsDamagedIn, IsOther, IsVouched}
use Rattle.lethe_file.specs.Finding.{IsEntryOf, IsTileOf, allows, of_tile}
use Rattle.lethe_file.specs.Waiting.{Waiting, tiles_between, waits_for, waits_in}
use Rattle.lethe_file.specs.declared.holding.HeldPage.{HeldPage}
use Rattle.lethe_file.proofs.Pages.{one_has}
use Rattle.lethe_file.proofs.Tiles.{tile_lines}

-- ---- what some item of a list has

pub any_left : {A : Type 0} (P : A → Type 0) (xs ys : List A) → Any P xs → Any P (xs ++ ys)
any_left P xs ys (k, x, lt, at, holds) =
    let inside : k < length (xs ++ ys) = omega (arith, lt, length-append xs ys) in
    (k, x, inside, get_or_append_left xs ys x k lt ∙ at, holds)

pub any_right : {A : Type 0} (P : A → Type 0) (xs ys : List A) → Any P ys → Any P (xs ++ ys)
any_right P xs ys (k, x, lt, at, holds) =
    let inside : length xs + k < length (xs ++ ys) = omega (arith, lt, length-append xs ys) in
    (length xs + k, x, inside, get_or-append-add xs ys k x ∙ at, holds)

pub any_first : {A : Type 0} (P : A → Type 0) (x : A) (xs : List A) → P x → Any P (x ∷ xs)
any_first P x xs holds = (zero, x, omega arith, refl, holds)

pub any_later : {A : Type 0} (P : A → Type 0) (x : A) (xs : List A) → Any P xs → Any P (x ∷ xs)
any_later P x xs (k, y, lt, at, holds) = (suc k, y, omega (arith, lt), at, holds)

pub any_cases : {A : Type 0} (P : A → Type 0) (x : A) (xs : List A) → Any P (x ∷ xs) → P x ⊎ Any P xs
any_cases P x xs (zero, y, lt, at, holds) = inl (subst P (sym at) holds)
any_cases P x xs (suc k, y, lt, at, holds) = inr (k, y, omega (arith, lt), at, holds)

pub any_reverse : {A : Type 0} (P : A → Type 0) (xs : List A) → Any P xs → Any P (reverse xs)
any_reverse P xs (k, x, lt, at, holds) =
    let has = Contains-permutation xs (reverse xs) x (IsPermutation-reverse xs) (k, lt, at) in
    (has.0, x, has.1, has.2, holds)

-- ---- two lists side by side

zip_none : {A B : Type 0} (xs : List A) → zip {K = A} {X = B} xs [] ≡ []
zip_none [] = refl
zip_none (x ∷ xs) = refl

pub zip_append : {A B : Type 0} (xs ys : List A) (zs : List B) → zip (xs ++ ys) zs ≡ zip xs (take (length xs) zs) ++ zip ys (drop (length xs) zs)
zip_append [] ys zs = refl
zip_append (x ∷ xs) ys [] = sym (zip_none ys)
zip_append (x ∷ xs) ys (z ∷ zs) = ap (λ l. (x, z) ∷ l) (zip_append xs ys zs)

zip_apart : {A B : Type 0} (xs : List A) (ys : List B) (k : ℕ) (x : A) (y : B) → k < length (zip xs ys) → get_or (zip xs ys) k (x, y) ≡ (x, y)
    → (k < length xs) × (k < length ys) × (get_or xs k x ≡ x) × (get_or ys k y ≡ y)
zip_apart {A} {B} xs ys k x y lt at =
    let first : k < length xs = omega (arith, lt, length-zip xs ys) in
    let second : k < length ys = omega (arith, lt, length-zip xs ys) in
    let are = sym (get_or-zip xs ys k (x, y) first second) ∙ at in
    (first, second, ap (λ (of : A × B). of.0) are, ap (λ (of : A × B). of.1) are)

zip_has : {A B : Type 0} (xs : List A) (ys : List B) (k : ℕ) (x : A) (y : B) → k < length xs → k < length ys → get_or xs k x ≡ x → get_or ys k y ≡ y → Contains (zip xs ys) (x, y)
zip_has xs ys k x y first second x_is y_is = (k, omega (arith, first, second, length-zip xs ys), get_or-zip xs ys k (x, y) first second ∙ (λ i. (x_is i, y_is i)))

pub zip_here : {P : Type 0} (bytes_of : P → List ℕ) (Q : PageLine → List ℕ → Type 0) (lines : List PageLine) (pages : List P) (place : ℕ) (line : PageLine) (page : P) (bytes : List ℕ)
    → line ≡ get_or lines place line → page ≡ get_or pages place page → bytes ≡ bytes_of page → place < length lines → length pages ≡ length lines → Q line bytes
    → Any (λ of. Q of.0 of.1) (zip lines (map bytes_of pages))
zip_here bytes_of Q lines pages place line page bytes line_is page_is bytes_are inside len holds =
    let of_page : place < length pages = omega (arith, inside, len) in
    let within : place < length (map bytes_of pages) = omega (arith, of_page, length-map pages bytes_of) in
    let same : get_or (map bytes_of pages) place bytes ≡ bytes = get_or-map bytes_of pages place page bytes of_page ∙ ap bytes_of (sym page_is) ∙ sym bytes_are in
    let has = zip_has lines (map bytes_of pages) place line bytes inside within (sym line_is) same in
    (has.0, (line, bytes), has.1, has.2, holds)

-- ---- a page that is held

-- the page at a place is told by the name
pub held_damage : {P : Type 0} (bytes_of : P → List ℕ) (tells : Type 0) (name : Name) (pages : List (HeldPage P)) (place : ℕ) (held : HeldPage P) (bytes : List ℕ)
    → place < length pages → held ≡ get_or pages place held → bytes ≡ bytes_of held.page.value
    → (name ≡ page_name held.check.no) × IsOther tells held.check bytes → Any (IsDamagedIn tells name) (waits_in bytes_of pages)
held_damage {P} bytes_of tells name pages place held bytes inside held_is bytes_are damage =
    let wait : HeldPage P → Waiting = λ h. record { check = h.check; bytes = bytes_of h.page.value } in
    let w : Waiting = record { check = held.check; bytes = bytes } in
    let lt : place < length (waits_in bytes_of pages) = omega (arith, length-map pages wait, inside) in
    let same : wait held ≡ w = λ i. record { check = held.check; bytes = sym bytes_are i } in
    let at : get_or (waits_in bytes_of pages) place w ≡ w = get_or-map wait pages place held w inside ∙ ap wait (sym held_is) ∙ same in
    (place, w, lt, at, damage)

-- ---- the pages of a cursor

waits_damage : (tells : Type 0) (name : Name) (lines : List PageLine) (pages : List (List ℕ)) → Any (IsDamagedIn tells name) (waits_for lines pages) → IsDamagedAmong tells lines pages name
waits_damage tells name [] pages (k, w, lt, at, damage) = absurd (omega (arith, lt))
waits_damage tells name (line ∷ lines) [] (k, w, lt, at, damage) = absurd (omega (arith, lt))
waits_damage tells name (line ∷ lines) (page ∷ pages) some = elim (any_cases (IsDamagedIn tells name) (record { check = check_of line; bytes = page }) (waits_for lines pages) some) [
  | inl here ↦ any_first (λ of. IsDamagedAs tells name of.0 of.1) (line, page) (zip lines pages) here
  | inr later ↦ any_later (λ of. IsDamagedAs tells name of.0 of.1) (line, page) (zip lines pages) (waits_damage tells name lines pages later)
]

-- what a cursor may tell is told of one of the file's pages
pub between_damage : (tells : Type 0) (name : Name) (lo : Bytes) (hi : Option Bytes) (tiles : List TileLine) (pages : List (List ℕ))
    → Any (Any (IsDamagedIn tells name)) (tiles_between lo hi tiles pages) → IsDamagedAmong tells (lines_of tiles) pages name
between_damage tells name lo hi [] pages (k, w, lt, at, damage) = absurd (omega (arith, lt))
between_damage tells name lo hi (tile ∷ tiles) pages some =
    subst (Any (λ of. IsDamagedAs tells name of.0 of.1)) (sym (zip_append tile.pages (lines_of tiles) pages))
    (by (meets lo hi tile) some (λ later. between_damage tells name lo hi tiles (drop (length tile.pages) pages) later))
  where
    first : List (PageLine × List ℕ)
    first = zip tile.pages (take (length tile.pages) pages)

    behind : List (PageLine × List ℕ)
    behind = zip (lines_of tiles) (drop (length tile.pages) pages)

    own : List Waiting
    own = waits_for tile.pages (take (length tile.pages) pages)

    others : List (List Waiting)
    others = tiles_between lo hi tiles (drop (length tile.pages) pages)

    by : (b : Bool) → Any (Any (IsDamagedIn tells name)) (cond b (own ∷ others) others) → (Any (Any (IsDamagedIn tells name)) others → Any (λ of. IsDamagedAs tells name of.0 of.1) behind)
        → Any (λ of. IsDamagedAs tells name of.0 of.1) (first ++ behind)
    by true some rest = elim (any_cases (Any (IsDamagedIn tells name)) own others some) [
      | inl here ↦ any_left (λ of. IsDamagedAs tells name of.0 of.1) first behind (waits_damage tells name tile.pages (take (length tile.pages) pages) here)
      | inr later ↦ any_right (λ of. IsDamagedAs tells name of.0 of.1) first behind (rest later)
    ]
    by false some rest = any_right (λ of. IsDamagedAs tells name of.0 of.1) first behind (rest some)

-- ---- the page of a key

-- a page of the tile that has the key is told by the name
pub found_damage : (tells : Type 0) (name : Name) (key : Bytes) (tiles : List TileLine) (pages : List (List ℕ)) (t : ℕ) (d : TileLine) → IsTileOf key tiles t → t < length tiles
    → Any (λ of. IsDamagedAs tells name of.0 of.1 × IsTrue (allows key of.0.filter)) (zip (get_or tiles t d).pages (of_tile tiles t d pages)) → IsDamagedFor tells key tiles pages name
found_damage tells name key tiles pages t d place inside (k, (line, bytes), lt, at, damage) =
    let tile = get_or tiles t d in
    let before = lines_of (take t tiles) in
    let behind = lines_of (drop (t + 1) tiles) in
    let n = length tile.pages in
    let s = length before in
    let own = zip_apart tile.pages (of_tile tiles t d pages) k line bytes lt at in
    let lines_are = tile_lines tiles t d inside in
    let line_at : get_or (lines_of tiles) (s + k) line ≡ line =
    ap (λ (l : List PageLine). get_or l (s + k) line) lines_are ∙ get_or-append-add before (tile.pages ++ behind) k line ∙ get_or-append tile.pages behind line k own.0 ∙ own.2 in
    let bytes_at : get_or pages (s + k) bytes ≡ bytes = sym (get_or-drop s pages k bytes) ∙ sym (get_or-take n (drop s pages) k bytes own.0) ∙ own.3 in
    let in_lines : s + k < length (lines_of tiles) = omega (arith, ap length lines_are, length-append before (tile.pages ++ behind), length-append tile.pages behind, own.0) in
    let in_pages : s + k < length pages = omega (arith, own.1, length-take n (drop s pages), length-drop s pages) in
    record {
      tile = tile;
      there = (t, inside, get_or_default tiles t tile d inside);
      fence = (place.1 t d inside).1 refl;
      line = line;
      of_tile = (k, own.0, own.2);
      allowed = damage.1;
      bytes = bytes;
      page = zip_has (lines_of tiles) pages (s + k) line bytes in_lines in_pages line_at bytes_at;
      damaged = damage.0;
    }

-- ---- what a line vouches for

pub vouched_in : (key : Bytes) (line : PageLine) (entries : List Entry) (found : Option Entry) → IsPage line entries → IsEntryOf key (entries ∷ []) found → IfSome found (λ entry. (entry.key ≡ key) × IsVouched (line ∷ []) entry)
vouched_in key line entries None page has = tt
vouched_in key line entries (Some entry) page has =
    let both = one_has key entries entry has in
    (both.1, record { line = line; there = (zero, omega arith, refl); entries = entries; page = page; among = both.0 })

pub vouched_here : (lines : List PageLine) (place : ℕ) (line : PageLine) (entry : Entry) → line ≡ get_or lines place line → place < length lines → IsVouched (line ∷ []) entry → IsVouched lines entry
vouched_here lines place line entry line_is inside v = record { line = v.line; there = by v.there; entries = v.entries; page = v.page; among = v.among }
  where
    by : Contains (line ∷ []) v.line → Contains lines v.line
    by (zero, lt, is) = subst (Contains lines) is (place, inside, sym line_is)
    by (suc k, lt, is) = absurd (omega (arith, lt))

pub vouched_there : (tiles : List TileLine) (t : ℕ) (d : TileLine) (entry : Entry) → t < length tiles → IsVouched (get_or tiles t d).pages entry → IsVouched (lines_of tiles) entry
vouched_there tiles t d entry inside v =
    let before = lines_of (take t tiles) in
    let lines = (get_or tiles t d).pages in
    let behind = lines_of (drop (t + 1) tiles) in
    let has = Contains-append_right before (lines ++ behind) v.line (Contains-append_left lines behind v.line v.there) in
    record { line = v.line; there = subst (λ (l : List PageLine). Contains l v.line) (sym (tile_lines tiles t d inside)) has; entries = v.entries; page = v.page; among = v.among }

pub vouched_ok : (key : Bytes) (tiles : List TileLine) (t : ℕ) (d : TileLine) (lines : List PageLine) (result : Result (Option Entry) ReadRefused) → t < length tiles → lines ≡ (get_or tiles t d).pages
    → IfOk result (λ found. IfSome found (λ entry. (entry.key ≡ key) × IsVouched lines entry)) → IfOk result (λ found. IfSome found (λ entry. (entry.key ≡ key) × IsVouched (lines_of tiles) entry))
vouched_ok key tiles t d lines (Ok (Some entry)) inside lines_are has = (has.0, vouched_there tiles t d entry inside (subst (λ (l : List PageLine). IsVouched l entry) lines_are has.1))
vouched_ok key tiles t d lines (Ok None) inside lines_are has = tt
vouched_ok key tiles t d lines (Err why) inside lines_are has = tt
