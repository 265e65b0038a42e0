-- The pages of a file by its tiles.
use Rattle.std.proofs.Common.{◌≡◌, ℕ, zero, suc, ◌+◌, ◌<◌, ◌≤◌, Bool, true, cond, List, [], ◌∷◌, ◌++◌, length, get_or, take, drop, map, All, Vec, Result, Ok, Err, Option, Some, None, refl, sym, ap, subst, ◌∙◌, arith, length-append}
use Rattle.std.specs.Prelude.{IfOk, slice_get}
use Rattle.std.specs.declared.alloc.Global.{Global}
use Rattle.std.proofs.lemmas.List.Folds.{length-flat_map-take}
use Rattle.std.proofs.lemmas.List.Concat.{get_or-flat_map}
use Rattle.std.proofs.lemmas.Option.{slice_get-get_or}
use Rattle.lethe_disk.specs.declared.cursor.ReadRefused.{ReadRefused}
use Rattle.lethe_page.specs.Pages.{page_bytes}
use Rattle.lethe_file.proofs.Pages.{entries_are}
use Rattle.std.specs.List.{AllZip}
use Rattle.std.proofs.lemmas.Bool.{and_from}
use Rattle.std.proofs.lemmas.Grind.{flat_map-append}
use Rattle.std.proofs.lemmas.List.{take-append-drop, drop_more, drop-drop, take-map, drop-map, get_or-take, get_or-drop, get_or-map, length-map, length-take, length-drop}
use Rattle.std.proofs.lemmas.List.Elements.{All-append}
use Rattle.std.proofs.lemmas.List.Sums.{sum_by-append}
use Rattle.std.proofs.lemmas.Simd.{map-map}
use Rattle.lethe_base.specs.Keys.{Bytes}
use Rattle.lethe_base.specs.declared.entry.Entry.{Entry}
use Rattle.std.specs.Ordering.{is_le}
use Rattle.lethe_base.specs.Keys.{key_cmp}
use Rattle.lethe_header.specs.Facts.{lines_of}
use Rattle.lethe_header.specs.declared.header.PageLine.{PageLine}
use Rattle.lethe_header.specs.declared.header.TileLine.{TileLine}
use Rattle.lethe_file.specs.Agreement.{Agrees, FileAgrees, IsPage, TileHolds, TilesHold, entries_in}
use Rattle.lethe_file.specs.Finding.{Lacks, IsEntryOf, IsTileOf, has_key, allowed_in, allowed_pages, of_tile}

-- ---- where the pages of a tile stand

pub zip_parts : {A B : Type 0} (R : A → B → Type 0) (xs ys : List A) (zs : List B) → AllZip R (xs ++ ys) zs → AllZip R xs (take (length xs) zs) × AllZip R ys (drop (length xs) zs)
zip_parts R [] ys zs h = (tt, h)
zip_parts R (x ∷ xs) ys [] h = absurd h
zip_parts R (x ∷ xs) ys (z ∷ zs) h = let rest = zip_parts R xs ys zs h.1 in ((h.0, rest.0), rest.1)

pub tile_lines : (tiles : List TileLine) (t : ℕ) (d : TileLine) → t < length tiles → lines_of tiles ≡ lines_of (take t tiles) ++ ((get_or tiles t d).pages ++ lines_of (drop (t + 1) tiles))
tile_lines tiles t d lt =
    let parts : tiles ≡ take t tiles ++ (get_or tiles t d ∷ drop (t + 1) tiles) = sym (take-append-drop t tiles) ∙ ap (λ (l : List TileLine). take t tiles ++ l) (drop_more tiles t d lt) in
    ap lines_of parts ∙ flat_map-append (λ (tile : TileLine). tile.pages) (take t tiles) (get_or tiles t d ∷ drop (t + 1) tiles)

pub zip_tile : {B : Type 0} (R : PageLine → B → Type 0) (tiles : List TileLine) (t : ℕ) (d : TileLine) (zs : List B) → t < length tiles → AllZip R (lines_of tiles) zs → AllZip R (get_or tiles t d).pages (of_tile tiles t d zs)
zip_tile R tiles t d zs lt h =
    let before = lines_of (take t tiles) in
    let pages = (get_or tiles t d).pages in
    let behind = lines_of (drop (t + 1) tiles) in
    let whole = subst (λ (l : List PageLine). AllZip R l zs) (tile_lines tiles t d lt) h in
    (zip_parts R pages behind (drop (length before) zs) (zip_parts R before (pages ++ behind) zs whole).1).0

pub of_tile-map : {A B : Type 0} (f : A → B) (tiles : List TileLine) (t : ℕ) (d : TileLine) (items : List A) → of_tile tiles t d (map f items) ≡ map f (of_tile tiles t d items)
of_tile-map f tiles t d items =
    let n = length (get_or tiles t d).pages in
    let s = length (lines_of (take t tiles)) in
    ap (λ l. take n l) (drop-map f s items) ∙ take-map f n (drop s items)

-- ---- pages that lack a key

outside : (key : Bytes) (tile : TileLine) (pages : List (List Entry)) → TileHolds tile pages → (has_key key tile ≡ true → ⊥) → All (Lacks key) pages
outside key tile pages holds not_has k d lt n e inside is =
    let within = holds.within k d lt n e inside in
    let lo : is_le (key_cmp tile.lo key) ≡ true = subst (λ (x : Bytes). is_le (key_cmp tile.lo x) ≡ true) is within.lo in
    let hi : is_le (key_cmp key tile.hi) ≡ true = subst (λ (x : Bytes). is_le (key_cmp x tile.hi) ≡ true) is within.hi in
    not_has (and_from (is_le (key_cmp tile.lo key)) (is_le (key_cmp key tile.hi)) lo hi)

both_lack : (key : Bytes) (n : ℕ) (pages : List (List Entry)) → All (Lacks key) (take n pages) → All (Lacks key) (drop n pages) → All (Lacks key) pages
both_lack key n pages first rest = subst (λ (l : List (List Entry)). All (Lacks key) l) (take-append-drop n pages) (All-append (Lacks key) (take n pages) (drop n pages) first rest)

pub no_tile : (key : Bytes) (tiles : List TileLine) (pages : List (List Entry)) → TilesHold tiles pages → ((k : ℕ) (d : TileLine) → k < length tiles → has_key key (get_or tiles k d) ≡ true → ⊥) → All (Lacks key) pages
no_tile key [] pages holds none = λ k d lt. absurd (omega (arith, ap length holds, lt))
no_tile key (tile ∷ tiles) pages holds none =
    both_lack key (length tile.pages) pages
    (outside key tile (take (length tile.pages) pages) holds.0 (none zero tile (omega arith)))
    (no_tile key tiles (drop (length tile.pages) pages) holds.1 (λ k d lt. none (suc k) d (omega arith)))

pub but_one : (key : Bytes) (tiles : List TileLine) (pages : List (List Entry)) (t : ℕ) (e : TileLine) → TilesHold tiles pages → t < length tiles → ((k : ℕ) (d : TileLine) → k < length tiles → has_key key (get_or tiles k d) ≡ true → k ≡ t) → All (Lacks key) (of_tile tiles t e pages) → All (Lacks key) pages
but_one key [] pages t e holds lt one lacks = absurd (omega arith)
but_one key (tile ∷ tiles) pages zero e holds lt one lacks =
    both_lack key (length tile.pages) pages lacks
    (no_tile key tiles (drop (length tile.pages) pages) holds.1 (λ k d inside has. absurd (omega (arith, one (suc k) d (omega arith) has))))
but_one key (tile ∷ tiles) pages (suc t) e holds lt one lacks =
    let n = length tile.pages in
    let start = length (lines_of (take t tiles)) in
    let moved : drop (length (tile.pages ++ lines_of (take t tiles))) pages ≡ drop start (drop n pages) = ap (λ (k : ℕ). drop k pages) (length-append tile.pages (lines_of (take t tiles))) ∙ sym (drop-drop start n pages) in
    both_lack key n pages
    (outside key tile (take n pages) holds.0 (λ has. absurd (omega (arith, one zero tile (omega arith) has))))
    (but_one key tiles (drop n pages) t e holds.1 (omega arith) (λ k d inside has. omega (arith, one (suc k) d (omega arith) has))
    (subst (λ (l : List (List Entry)). All (Lacks key) (take (length (get_or tiles t e).pages) l)) moved lacks))

-- ---- the entry of a key

widened : (key : Bytes) (n s : ℕ) (pages : List (List Entry)) (entry : Entry) → IsEntryOf key (take n (drop s pages)) (Some entry) → IsEntryOf key pages (Some entry)
widened key n s pages entry ((k, page, lt, is, has), same) =
    let len : length (take n (drop s pages)) ≤ n = omega (arith, length-take n (drop s pages)) in
    let inside : s + k < length pages = omega (arith, lt, length-take n (drop s pages), length-drop s pages) in
    let at : get_or pages (s + k) page ≡ page = sym (get_or-drop s pages k page) ∙ sym (get_or-take n (drop s pages) k page (omega (arith, lt, len))) ∙ is in
    ((s + k, page, inside, at, has), same)

module _ {P : Type 0} (bytes_of : P → List ℕ) (tiles : List TileLine) (pages : List P) (key : Bytes) (agree : FileAgrees tiles (map bytes_of pages)) where
  pub none_found : IsTileOf key tiles (length tiles) → IsEntryOf key (map entries_in (map bytes_of pages)) None
  none_found place = no_tile key tiles (map entries_in (map bytes_of pages)) agree.tiles (λ k d lt has. let is : k ≡ length tiles = (place.1 k d lt).0 has in omega (arith, lt, is))

  module _ (t : ℕ) (d : TileLine) (place : IsTileOf key tiles t) (inside : t < length tiles) where
    pub tile_agrees : AllZip Agrees (get_or tiles t d).pages (map bytes_of (of_tile tiles t d pages))
    tile_agrees = subst (λ (bs : List (List ℕ)). AllZip Agrees (get_or tiles t d).pages bs) (of_tile-map bytes_of tiles t d pages) (zip_tile Agrees tiles t d (map bytes_of pages) inside agree.pages)

    pub found_there : (found : Option Entry) → IsEntryOf key (map (λ p. entries_in (bytes_of p)) (of_tile tiles t d pages)) found → IsEntryOf key (map entries_in (map bytes_of pages)) found
    found_there found h =
        let entries_of : P → List Entry = λ p. entries_in (bytes_of p) in
        let all : map entries_in (map bytes_of pages) ≡ map entries_of pages = map-map entries_in bytes_of pages in
        let slice : map entries_of (of_tile tiles t d pages) ≡ of_tile tiles t d (map entries_in (map bytes_of pages)) = sym (of_tile-map entries_of tiles t d pages) ∙ ap (λ (l : List (List Entry)). of_tile tiles t d l) (sym all) in
        by found (subst (λ (l : List (List Entry)). IsEntryOf key l found) slice h)
      where
        by : (found : Option Entry) → IsEntryOf key (of_tile tiles t d (map entries_in (map bytes_of pages))) found → IsEntryOf key (map entries_in (map bytes_of pages)) found
        by None lacks = but_one key tiles (map entries_in (map bytes_of pages)) t d agree.tiles inside (λ k e lt has. (place.1 k e lt).0 has) lacks
        by (Some entry) has = widened key (length (get_or tiles t d).pages) (length (lines_of (take t tiles))) (map entries_in (map bytes_of pages)) entry has

    module _ (lines : List PageLine) (slice : List P) (lines_are : lines ≡ (get_or tiles t d).pages) (slice_is : slice ≡ of_tile tiles t d pages) where
      pub zip_there : AllZip Agrees lines (map bytes_of slice)
      zip_there = rw (lines_are, slice_is) tile_agrees

      pub found_ok : (result : Result (Option Entry) ReadRefused) → IfOk result (IsEntryOf key (map (λ p. entries_in (bytes_of p)) slice)) → IfOk result (IsEntryOf key (map entries_in (map bytes_of pages)))
      found_ok (Ok found) h = found_there found (subst (λ (l : List P). IsEntryOf key (map (λ p. entries_in (bytes_of p)) l) found) slice_is h)
      found_ok (Err why) h = tt

-- the pages that are allowed in the tile that has the key are among all that are
pub allowed_there : (key : Bytes) (tiles : List TileLine) (t : ℕ) (d : TileLine) → IsTileOf key tiles t → t < length tiles → allowed_in key (get_or tiles t d).pages ≤ allowed_pages key tiles
allowed_there key tiles t d place inside =
    let tile = get_or tiles t d in
    let count = λ (x : TileLine). cond (has_key key x) (allowed_in key x.pages) 0 in
    let has : has_key key tile ≡ true = (place.1 t d inside).1 refl in
    let is : count tile ≡ allowed_in key tile.pages = ap (λ (b : Bool). cond b (allowed_in key tile.pages) 0) has in
    let parts : tiles ≡ take t tiles ++ (tile ∷ drop (t + 1) tiles) = sym (take-append-drop t tiles) ∙ ap (λ (l : List TileLine). take t tiles ++ l) (drop_more tiles t d inside) in
    let all = ap (allowed_pages key) parts ∙ sum_by-append count (take t tiles) (tile ∷ drop (t + 1) tiles) in
    let behind = sum_by-append count (tile ∷ []) (drop (t + 1) tiles) in
    omega (arith, all, behind, is)

-- ---- a line and a page by their place

pub line_there : (tiles : List TileLine) (t : ℕ) (d : TileLine) (at place : ℕ) (line : PageLine) → t < length tiles → at < length (get_or tiles t d).pages → length (lines_of (take t tiles)) + at ≡ place → line ≡ get_or (get_or tiles t d).pages at line → slice_get (lines_of tiles) place ≡ Some line
line_there tiles t d at place line inside lt place_is line_is =
    let fit = length-flat_map-take (λ (tile : TileLine). tile.pages) tiles t d inside in
    let within : place < length (lines_of tiles) = omega (arith, fit, lt, place_is) in
    let there = get_or-flat_map (λ (tile : TileLine). tile.pages) tiles t at d line inside lt in
    slice_get-get_or (lines_of tiles) place line within ∙ ap Some (ap (λ (n : ℕ). get_or (lines_of tiles) n line) (sym place_is) ∙ there ∙ sym line_is)

pub told_at : {P : Type 0} (bytes_of : P → List ℕ) (pages : List P) (place : ℕ) (page : P) (bytes : List ℕ) (line : PageLine) (result : Result (Vec Entry Global) ReadRefused) → page ≡ get_or pages place page → bytes ≡ bytes_of page → place < length pages
    → IfOk result (λ entries. IsPage line entries.items) → IfOk result (λ entries. bytes ≡ page_bytes line.class entries.items) → IfOk result (λ entries. slice_get (map entries_in (map bytes_of pages)) place ≡ Some entries.items)
told_at {P = P} bytes_of pages place page bytes line (Ok entries) page_is bytes_are lt is spelled =
    let all : map entries_in (map bytes_of pages) ≡ map (λ p. entries_in (bytes_of p)) pages = map-map entries_in bytes_of pages in
    let within : place < length (map entries_in (map bytes_of pages)) = omega (arith, ap length all, length-map pages (λ p. entries_in (bytes_of p)), lt) in
    let at : get_or (map (λ p. entries_in (bytes_of p)) pages) place entries.items ≡ entries_in (bytes_of (get_or pages place page)) = get_or-map (λ p. entries_in (bytes_of p)) pages place page entries.items lt in
    slice_get-get_or (map entries_in (map bytes_of pages)) place entries.items within
    ∙ ap Some (ap (λ (l : List (List Entry)). get_or l place entries.items) all ∙ at ∙ ap (λ (p : P). entries_in (bytes_of p)) (sym page_is) ∙ ap entries_in (sym bytes_are) ∙ entries_are line entries.items bytes is spelled)
told_at bytes_of pages place page bytes line (Err why) page_is bytes_are lt is spelled = tt
