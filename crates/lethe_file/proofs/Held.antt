-- Pages that are held, and what was collected of them.
use Rattle.std.proofs.Common.{◌≡◌, ℕ, ◌+◌, ◌<◌, ◌≤◌, Bool, true, false, cond, List, [], ◌∷◌, ◌++◌, length, get_or, take, drop, map, All, Option, reverse, inl, inr, refl, sym, ap, subst, ◌∙◌, arith, append_assoc, length-append}
use Rattle.std.specs.Prelude.{Any, Contains, filter, flat_map}
use Rattle.std.proofs.lemmas.List.{append-nil, drop-map, drop_all, drop_more, get_or-map, length-drop, length-map, length-take, map-append, reverse-append, reverse-reverse, take-map, take_more}
use Rattle.std.proofs.lemmas.List.Concat.{flat_map-append}
use Rattle.std.proofs.lemmas.List.Elements.{Contains-append_cases, filter-append}
use Rattle.lethe_base.specs.Keys.{Bytes}
use Rattle.lethe_base.specs.declared.entry.Entry.{Entry}
use Rattle.lethe_header.specs.Facts.{lines_of}
use Rattle.lethe_header.specs.declared.header.PageLine.{PageLine}
use Rattle.lethe_header.specs.declared.header.TileLine.{TileLine}
use Rattle.lethe_page.specs.Pages.{page_bytes}
use Rattle.lethe_file.specs.Agreement.{IsChecked, check_of, entries_in}
use Rattle.lethe_file.specs.Between.{is_in, meets}
use Rattle.lethe_file.specs.Damage.{IsVouchedIn}
use Rattle.lethe_file.specs.Waiting.{IsWritten, Waiting, tiles_between, waiting, waits_for, waits_in}
use Rattle.lethe_file.specs.declared.holding.HeldPage.{HeldPage}
use Rattle.lethe_file.proofs.Joined.{from_filter}
use Rattle.lethe_file.proofs.Pages.{same_entries}
use Rattle.lethe_file.proofs.Vouching.{held_vouches}

-- ---- making a cursor

-- one page more of a tile
pub page_more : (lines : List PageLine) (pages : List (List ℕ)) (place : ℕ) (line : PageLine) (page : List ℕ) (done whole : List Waiting) → place < length lines → length pages ≡ length lines
    → line ≡ get_or lines place line → page ≡ get_or pages place page → done ++ waits_for (drop place lines) (drop place pages) ≡ whole
    → (done ++ record { check = check_of line; bytes = page } ∷ []) ++ waits_for (drop (place + 1) lines) (drop (place + 1) pages) ≡ whole
page_more lines pages place line page done whole lt len line_is page_is before =
    let inside : place < length pages = omega (arith, lt, len) in
    let rest = waits_for (drop (place + 1) lines) (drop (place + 1) pages) in
    let ls : drop place lines ≡ line ∷ drop (place + 1) lines = drop_more lines place line lt ∙ ap (λ (l : PageLine). l ∷ drop (place + 1) lines) (sym line_is) in
    let ps : drop place pages ≡ page ∷ drop (place + 1) pages = drop_more pages place page inside ∙ ap (λ (p : List ℕ). p ∷ drop (place + 1) pages) (sym page_is) in
    append_assoc done (record { check = check_of line; bytes = page } ∷ []) rest
    ∙ ap (λ (ws : List Waiting). done ++ ws) (sym (ap (λ (l : List PageLine). waits_for l (drop place pages)) ls ∙ ap (λ (p : List (List ℕ)). waits_for (line ∷ drop (place + 1) lines) p) ps))
    ∙ before

pub page_pushed : {P : Type 0} (bytes_of : P → List ℕ) (lines : List PageLine) (pages : List (List ℕ)) (place : ℕ) (line : PageLine) (page : List ℕ) (done new : List (HeldPage P)) (held : HeldPage P) (whole : List Waiting)
    → place < length lines → length pages ≡ length lines → line ≡ get_or lines place line → page ≡ get_or pages place page → held.check ≡ check_of line → bytes_of held.page.value ≡ page → new ≡ done ++ held ∷ []
    → waits_in bytes_of done ++ waits_for (drop place lines) (drop place pages) ≡ whole → waits_in bytes_of new ++ waits_for (drop (place + 1) lines) (drop (place + 1) pages) ≡ whole
page_pushed {P} bytes_of lines pages place line page done new held whole lt len line_is page_is checks bytes_are pushed before =
    let wait : HeldPage P → Waiting = λ h. record { check = h.check; bytes = bytes_of h.page.value } in
    let w : Waiting = record { check = check_of line; bytes = page } in
    let same : wait held ≡ w = λ i. record { check = checks i; bytes = bytes_are i } in
    let more : waits_in bytes_of new ≡ waits_in bytes_of done ++ w ∷ [] = ap (waits_in bytes_of) pushed ∙ map-append wait done (held ∷ []) ∙ ap (λ (v : Waiting). waits_in bytes_of done ++ v ∷ []) same in
    ap (λ (ws : List Waiting). ws ++ waits_for (drop (place + 1) lines) (drop (place + 1) pages)) more
    ∙ page_more lines pages place line page (waits_in bytes_of done) whole lt len line_is page_is before

-- one tile more
pub tile_more : (lo : Bytes) (hi : Option Bytes) (tiles : List TileLine) (place : ℕ) (tile : TileLine) (pages : List (List ℕ)) (done whole : List (List Waiting)) → place < length tiles → tile ≡ get_or tiles place tile
    → done ++ tiles_between lo hi (drop place tiles) pages ≡ whole
    → (done ++ cond (meets lo hi tile) (waits_for tile.pages (take (length tile.pages) pages) ∷ []) []) ++ tiles_between lo hi (drop (place + 1) tiles) (drop (length tile.pages) pages) ≡ whole
tile_more lo hi tiles place tile pages done whole lt tile_is before =
    let rest = tiles_between lo hi (drop (place + 1) tiles) (drop (length tile.pages) pages) in
    let ts : drop place tiles ≡ tile ∷ drop (place + 1) tiles = drop_more tiles place tile lt ∙ ap (λ (t : TileLine). t ∷ drop (place + 1) tiles) (sym tile_is) in
    append_assoc done (cond (meets lo hi tile) (waits_for tile.pages (take (length tile.pages) pages) ∷ []) []) rest
    ∙ ap (λ (ws : List (List Waiting)). done ++ ws) (by (meets lo hi tile) ∙ sym (ap (λ (l : List TileLine). tiles_between lo hi l pages) ts))
    ∙ before
  where
    by : (b : Bool) → cond b (waits_for tile.pages (take (length tile.pages) pages) ∷ []) [] ++ tiles_between lo hi (drop (place + 1) tiles) (drop (length tile.pages) pages)
        ≡ cond b (waits_for tile.pages (take (length tile.pages) pages) ∷ tiles_between lo hi (drop (place + 1) tiles) (drop (length tile.pages) pages)) (tiles_between lo hi (drop (place + 1) tiles) (drop (length tile.pages) pages))
    by true = refl
    by false = refl

lines_left : (tiles : List TileLine) (place : ℕ) (tile : TileLine) → place < length tiles → tile ≡ get_or tiles place tile → length (lines_of (drop place tiles)) ≡ length tile.pages + length (lines_of (drop (place + 1) tiles))
lines_left tiles place tile lt tile_is =
    ap (λ (l : List TileLine). length (lines_of l)) (drop_more tiles place tile lt ∙ ap (λ (t : TileLine). t ∷ drop (place + 1) tiles) (sym tile_is)) ∙ length-append tile.pages (lines_of (drop (place + 1) tiles))

-- the tiles up to a place are done, and these pages are left
pub record IsHolding {A : Type 0} (bytes_of : A → List ℕ) (lo : Bytes) (hi : Option Bytes) (tiles : List TileLine) (pages : List A) (place : ℕ) (rest : List A) (held : List (List Waiting)) : Type 0 where
  pub len : length rest ≡ length (lines_of (drop place tiles))
  pub is : held ++ tiles_between lo hi (drop place tiles) (map bytes_of rest) ≡ tiles_between lo hi tiles (map bytes_of pages)

module _ {A : Type 0} (bytes_of : A → List ℕ) (lo : Bytes) (hi : Option Bytes) (tiles : List TileLine) (pages : List A) (place : ℕ) (rest : List A) (held : List (List Waiting)) (tile : TileLine)
    (before : IsHolding bytes_of lo hi tiles pages place rest held) (lt : place < length tiles) (tile_is : tile ≡ get_or tiles place tile) where
  pub enough : length tile.pages ≤ length rest
  enough = omega (arith, before.len, lines_left tiles place tile lt tile_is)

  pub own_are : (own : List A) → own ≡ take (length tile.pages) rest → length own ≡ length tile.pages
  own_are own own_is = omega (arith, ap length own_is, length-take (length tile.pages) rest, enough)

  more : (b : Bool) → meets lo hi tile ≡ b → (behind : List A) → behind ≡ drop (length tile.pages) rest → (held' : List (List Waiting)) → held' ≡ held ++ cond b (waits_for tile.pages (take (length tile.pages) (map bytes_of rest)) ∷ []) []
      → IsHolding bytes_of lo hi tiles pages (place + 1) behind held'
  more b met behind behind_is held' held_is = record {
    len = omega (arith, ap length behind_is, length-drop (length tile.pages) rest, before.len, lines_left tiles place tile lt tile_is);
    is =
        ap (λ (ws : List (List Waiting)). ws ++ tiles_between lo hi (drop (place + 1) tiles) (map bytes_of behind)) (held_is ∙ ap (λ (v : Bool). held ++ cond v (waits_for tile.pages (take (length tile.pages) (map bytes_of rest)) ∷ []) []) (sym met))
        ∙ ap (λ (ps : List (List ℕ)). (held ++ cond (meets lo hi tile) (waits_for tile.pages (take (length tile.pages) (map bytes_of rest)) ∷ []) []) ++ tiles_between lo hi (drop (place + 1) tiles) ps) (ap (map bytes_of) behind_is ∙ sym (drop-map bytes_of (length tile.pages) rest))
        ∙ tile_more lo hi tiles place tile (map bytes_of rest) held (tiles_between lo hi tiles (map bytes_of pages)) lt tile_is before.is;
  }

  pub holding_met : meets lo hi tile ≡ true → (own behind : List A) → own ≡ take (length tile.pages) rest → behind ≡ drop (length tile.pages) rest → (held' : List (List Waiting)) → held' ≡ held ++ waits_for tile.pages (map bytes_of own) ∷ []
      → IsHolding bytes_of lo hi tiles pages (place + 1) behind held'
  holding_met met own behind own_is behind_is held' held_is =
      more true met behind behind_is held' (held_is ∙ ap (λ (ps : List (List ℕ)). held ++ waits_for tile.pages ps ∷ []) (ap (map bytes_of) own_is ∙ sym (take-map bytes_of (length tile.pages) rest)))

  pub holding_missed : meets lo hi tile ≡ false → (behind : List A) → behind ≡ drop (length tile.pages) rest → (held' : List (List Waiting)) → held' ≡ held → IsHolding bytes_of lo hi tiles pages (place + 1) behind held'
  holding_missed met behind behind_is held' held_is = more false met behind behind_is held' (held_is ∙ sym (append-nil held))

pub holding_none : {A : Type 0} (bytes_of : A → List ℕ) (lo : Bytes) (hi : Option Bytes) (tiles : List TileLine) (pages : List A) → length pages ≡ length (lines_of tiles) → IsHolding bytes_of lo hi tiles pages 0 pages []
holding_none bytes_of lo hi tiles pages len = record { len = len; is = refl }

map_reverse : {X Y : Type 0} (f : X → Y) (xs : List X) → map f (reverse xs) ≡ reverse (map f xs)
map_reverse f [] = refl
map_reverse f (x ∷ xs) =
    ap (map f) (reverse-append (x ∷ []) xs) ∙ map-append f (reverse xs) (x ∷ []) ∙ ap (λ ys. ys ++ f x ∷ []) (map_reverse f xs) ∙ sym (reverse-append (f x ∷ []) (map f xs))

pub holding_all : {A P : Type 0} (bytes_of : A → List ℕ) (held_of : P → List ℕ) (lo : Bytes) (hi : Option Bytes) (tiles : List TileLine) (pages : List A) (place : ℕ) (rest : List A) (held new : List (List (HeldPage P)))
    → IsHolding bytes_of lo hi tiles pages place rest (waiting held_of held) → length tiles ≤ place → new ≡ reverse held → reverse (waiting held_of new) ≡ tiles_between lo hi tiles (map bytes_of pages)
holding_all {A} bytes_of held_of lo hi tiles pages place rest held new before past turned =
    ap (λ (ts : List (List (HeldPage _))). reverse (waiting held_of ts)) turned
    ∙ ap reverse (map_reverse (waits_in held_of) held)
    ∙ reverse-reverse (waiting held_of held)
    ∙ sym (append-nil (waiting held_of held))
    ∙ ap (λ (ts : List TileLine). waiting held_of held ++ tiles_between lo hi ts (map bytes_of rest)) (sym (drop_all place tiles past))
    ∙ before.is

-- ---- fetching a tile

-- so many pages are fetched, and what they have in the range is collected
pub record IsCollected {P : Type 0} (bytes_of : P → List ℕ) (tells : Type 0) (lo : Bytes) (hi : Option Bytes) (pages : List (HeldPage P)) (place : ℕ) (all : List Entry) (old_fetches fetches old_faults faults : ℕ) : Type 0 where
  pub risen : old_faults ≤ faults
  pub counted : fetches ≡ old_fetches + place
  pub given : tells → all ≡ filter (λ entry. is_in lo hi entry.key) (flat_map (λ page. entries_in page.bytes) (waits_in bytes_of (take place pages)))
  pub vouched : (entry : Entry) → Contains all entry → Any (IsVouchedIn entry) (waits_in bytes_of pages)

pub collected_more : {P : Type 0} (bytes_of : P → List ℕ) (tells : Type 0) (lo : Bytes) (hi : Option Bytes) (pages : List (HeldPage P)) (place : ℕ) (all kept entries : List Entry) (f0 f1 f2 p0 p1 p2 : ℕ) (held : HeldPage P)
    → IsCollected bytes_of tells lo hi pages place all f0 f1 p0 p1 → place < length pages → held ≡ get_or pages place held → f2 ≡ f1 + 1 → p1 ≤ p2
    → IsChecked held.check entries → (tells → bytes_of held.page.value ≡ page_bytes held.check.class entries) → kept ≡ filter (λ entry. is_in lo hi entry.key) entries
    → IsCollected bytes_of tells lo hi pages (place + 1) (all ++ kept) f0 f2 p0 p2
collected_more {P} bytes_of tells lo hi pages place all kept entries f0 f1 f2 p0 p1 p2 held before inside held_is fetched risen checked spelled kept_is = record {
  risen = omega (arith, before.risen, risen);
  counted = omega (arith, before.counted, fetched);
  given = λ told.
      let in_range : Entry → Bool = λ entry. is_in lo hi entry.key in
      let each : Waiting → List Entry = λ page. entries_in page.bytes in
      let w : Waiting = record { check = held.check; bytes = bytes_of held.page.value } in
      let front = waits_in bytes_of (take place pages) in
      let pages_are : take (place + 1) pages ≡ take place pages ++ held ∷ [] = take_more pages place held inside ∙ ap (λ (h : HeldPage P). take place pages ++ h ∷ []) (sym held_is) in
      let waits : waits_in bytes_of (take (place + 1) pages) ≡ front ++ w ∷ [] =
      ap (waits_in bytes_of) pages_are ∙ map-append (λ (h : HeldPage P). let v : Waiting = record { check = h.check; bytes = bytes_of h.page.value } in v) (take place pages) (held ∷ []) in
      let read : entries_in (bytes_of held.page.value) ≡ entries = ap entries_in (spelled told) ∙ same_entries held.check.class entries checked.spelled in
      let last : flat_map each (w ∷ []) ≡ entries = append-nil (entries_in (bytes_of held.page.value)) ∙ read in
      sym (ap (λ (ws : List Waiting). filter in_range (flat_map each ws)) waits
      ∙ ap (filter in_range) (flat_map-append each front (w ∷ []))
      ∙ filter-append in_range (flat_map each front) (flat_map each (w ∷ []))
      ∙ ap (λ (es : List Entry). filter in_range (flat_map each front) ++ filter in_range es) last
      ∙ ap (λ (es : List Entry). es ++ filter in_range entries) (sym (before.given told))
      ∙ ap (λ (es : List Entry). all ++ es) (sym kept_is));
  vouched = λ entry has. elim (Contains-append_cases all kept entry has) [
    | inl earlier ↦ before.vouched entry earlier
    | inr here ↦
        let among = (from_filter (λ (entry : Entry). is_in lo hi entry.key) entries entry (subst (λ es. Contains es entry) kept_is here)).0 in
        held_vouches bytes_of pages place held entry inside held_is (record { entries = entries; page = checked; among = among })
  ];
}

-- the page at a place is the one that its line tells of
pub written_at : {P : Type 0} (bytes_of : P → List ℕ) (pages : List (HeldPage P)) (place : ℕ) (held : HeldPage P) (bytes : List ℕ) → All IsWritten (waits_in bytes_of pages) → place < length pages → held ≡ get_or pages place held → bytes ≡ bytes_of held.page.value
    → IsWritten (record { check = held.check; bytes = bytes })
written_at {P} bytes_of pages place held bytes each inside held_is bytes_are =
    let wait : HeldPage P → Waiting = λ h. record { check = h.check; bytes = bytes_of h.page.value } in
    let w : Waiting = record { check = held.check; bytes = bytes } in
    let lt : place < length (waits_in bytes_of pages) = omega (arith, length-map pages wait, inside) in
    let same : wait held ≡ w = λ i. record { check = held.check; bytes = sym bytes_are i } in
    let at : get_or (waits_in bytes_of pages) place w ≡ w = get_or-map wait pages place held w inside ∙ ap wait (sym held_is) ∙ same in
    subst IsWritten at (each place w lt)
