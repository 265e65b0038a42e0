-- A sweep's steps over the tiles of a file.
use Rattle.std.proofs.Common.{◌≡◌, ℕ, zero, suc, ◌+◌, ◌≤◌, ◌<◌, Bool, true, false, List, [], ◌∷◌, ◌++◌, get_or, length, take, drop, map, count_by, Any, sym, ap, subst, ◌∙◌, refl, arith, length-append}
use Rattle.std.specs.Prelude.{◌&&◌, ◌||◌, Contains, IsTrue, if◌then◌else◌, not, zip}
use Rattle.std.proofs.lemmas.Grind.{flat_map-append}
use Rattle.std.proofs.lemmas.List.{drop_more, take-append-drop, take_all, take_more}
use Rattle.std.proofs.lemmas.List.Concat.{get_or-flat_map}
use Rattle.std.proofs.lemmas.List.Folds.{length-flat_map-take}
use Rattle.std.proofs.lemmas.List.Sums.{sum_by_more, sum_by_more_le}
use Rattle.std.proofs.lemmas.Option.{get_or_from_slice_get}
use Rattle.std.proofs.lemmas.Slice.Zip.{get_or-zip, length-zip}
use Rattle.lethe_base.specs.Ranges.{Ends}
use Rattle.lethe_base.specs.declared.entry.Entry.{Entry}
use Rattle.lethe_base.specs.declared.name.Name.{Name}
use Rattle.lethe_base.specs.declared.pending.Pending.{Pending}
use Rattle.lethe_header.specs.Facts.{lines_of}
use Rattle.lethe_header.specs.Headers.{is_puts}
use Rattle.lethe_header.specs.declared.header.PageLine.{PageLine}
use Rattle.lethe_header.specs.declared.header.TileLine.{TileLine}
use Rattle.lethe_sweep.specs.Damage.{IsDamagedFor}
use Rattle.lethe_sweep.specs.Fences.{fetches_of, is_fetched, is_met, meets}
use Rattle.lethe_sweep.specs.Modes.{is_fetched_in, mode_of}
use Rattle.lethe_sweep.specs.Steps.{AreTilesLeft, IsDamagedPage, IsLeft, IsTileLeft, More, tile_left}
use Rattle.lethe_swept.specs.Left.{Placed, placed}
use Rattle.lethe_sweep.specs.declared.fence.Mode.{Mode}
use Rattle.lethe_sweep.specs.declared.fence.Mode.TheVariants.{Met, Whole}
use Rattle.lethe_swept.specs.declared.part.Part.{Part}
use Rattle.lethe_swept.specs.declared.part.SweptTile.{SweptTile}
use Rattle.lethe_sweep.proofs.Stepping.{placed_len}

pub lines_placed : (first : ℕ) (lines : List PageLine) → map (λ page. page.line) (placed first lines) ≡ lines
lines_placed first [] = refl
lines_placed first (line ∷ lines) = ap (λ (ls : List PageLine). line ∷ ls) (lines_placed (first + 1) lines)

-- what is left of a tile was found in its own mode
pub left_in_mode : (tells : Type 0) (alone : Bool) (erase : Pending) (pages : List (List Entry)) (first : ℕ) (lines : List PageLine) (mode : Mode) (tombs : List Entry) (parts : List Part) → mode ≡ mode_of alone erase.range lines
    → IsLeft tells mode erase pages (placed first lines) tombs parts → IsLeft tells (mode_of alone erase.range (map (λ page. page.line) (placed first lines))) erase pages (placed first lines) tombs parts
left_in_mode tells alone erase pages first lines mode tombs parts is left =
    subst (λ (m : Mode). IsLeft tells m erase pages (placed first lines) tombs parts) (is ∙ ap (mode_of alone erase.range) (sym (lines_placed first lines))) left

-- ---- the pages that are fetched

-- in its tile's mode a page is fetched as the rule says
pub same_fetched : (alone : Bool) (range : Ends) (lines : List PageLine) (line : PageLine) → is_fetched_in (mode_of alone range lines) range line ≡ is_fetched alone range lines line
same_fetched true range lines line = refl
same_fetched false range lines line = by (is_met range lines)
  where
    by : (met : Bool) → is_fetched_in (if met then Met else Whole) range line ≡ met && (meets range line || not (is_puts line.class))
    by true = refl
    by false = refl

pub same_count : (alone : Bool) (range : Ends) (lines : List PageLine) → count_by (is_fetched_in (mode_of alone range lines) range) lines ≡ count_by (is_fetched alone range lines) lines
same_count alone range lines = ap (λ (f : PageLine → Bool). count_by f lines) (λ i. λ line. same_fetched alone range lines line i)

-- of the tiles up to a place those pages were fetched that are to be, and the count of faults rose or stands
pub record AreFetched (alone : Bool) (range : Ends) (tiles : List TileLine) (place before now faults faults_now : ℕ) : Type 0 where
  pub counted : now ≡ before + fetches_of alone range (take place tiles)
  pub risen : faults ≤ faults_now

own_count : (alone : Bool) (range : Ends) (lines : List PageLine) (tiles : List TileLine) (place : ℕ) (tile : TileLine) → tile ≡ get_or tiles place tile → lines ≡ tile.pages
    → count_by (is_fetched_in (mode_of alone range lines) range) lines ≡ count_by (is_fetched alone range (get_or tiles place tile).pages) (get_or tiles place tile).pages
own_count alone range lines tiles place tile is are = same_count alone range lines ∙ ap (λ (ls : List PageLine). count_by (is_fetched alone range ls) ls) (are ∙ ap (λ (t : TileLine). t.pages) is)

pub tile_more : (alone : Bool) (range : Ends) (tiles : List TileLine) (place before now faults faults_now : ℕ) → AreFetched alone range tiles place before now faults faults_now
    → (tile : TileLine) (lines : List PageLine) (after faults_then : ℕ) → place < length tiles → tile ≡ get_or tiles place tile → lines ≡ tile.pages
    → after ≡ now + count_by (is_fetched_in (mode_of alone range lines) range) lines → faults_now ≤ faults_then → AreFetched alone range tiles (place + 1) before after faults faults_then
tile_more alone range tiles place before now faults faults_now so_far tile lines after faults_then within is are more later =
    let counted = so_far.counted in
    let risen = so_far.risen in
    let own = own_count alone range lines tiles place tile is are in
    record {
      counted = omega (arith, counted, more, own, sum_by_more (λ (tile : TileLine). count_by (is_fetched alone range tile.pages) tile.pages) tiles place tile within);
      risen = omega (arith, risen, later);
    }

pub tile_at_most : (alone : Bool) (range : Ends) (tiles : List TileLine) (place before now faults faults_now : ℕ) → AreFetched alone range tiles place before now faults faults_now
    → (tile : TileLine) (lines : List PageLine) (after : ℕ) → place < length tiles → tile ≡ get_or tiles place tile → lines ≡ tile.pages
    → after ≤ now + count_by (is_fetched_in (mode_of alone range lines) range) lines → after ≤ before + fetches_of alone range tiles
tile_at_most alone range tiles place before now faults faults_now so_far tile lines after within is are more =
    let counted = so_far.counted in
    let own = own_count alone range lines tiles place tile is are in
    omega (arith, counted, more, own, sum_by_more_le (λ (tile : TileLine). count_by (is_fetched alone range tile.pages) tile.pages) tiles place tile within)

-- not more so far than of all tiles
pub so_far_at_most : (alone : Bool) (range : Ends) (tiles : List TileLine) (place before now faults faults_now : ℕ) → AreFetched alone range tiles place before now faults faults_now
    → (tile : TileLine) → place < length tiles → now ≤ before + fetches_of alone range tiles
so_far_at_most alone range tiles place before now faults faults_now so_far tile within =
    let counted = so_far.counted in
    omega (arith, counted, sum_by_more_le (λ (tile : TileLine). count_by (is_fetched alone range tile.pages) tile.pages) tiles place tile within)

-- ---- where the pages of a tile stand

pub lines_more : (tiles : List TileLine) (place : ℕ) (tile : TileLine) (lines : List PageLine) (first : ℕ) → place < length tiles → tile ≡ get_or tiles place tile → lines ≡ tile.pages → first ≡ length (lines_of (take place tiles))
    → first + length lines ≡ length (lines_of (take (place + 1) tiles))
lines_more tiles place tile lines first within is are at =
    let parts : take (place + 1) tiles ≡ take place tiles ++ tile ∷ [] = take_more tiles place tile within ∙ ap (λ (t : TileLine). take place tiles ++ t ∷ []) (sym is) in
    let joined : lines_of (take (place + 1) tiles) ≡ lines_of (take place tiles) ++ (tile.pages ++ []) = ap lines_of parts ∙ flat_map-append (λ (tile : TileLine). tile.pages) (take place tiles) (tile ∷ []) in
    omega (arith, at, ap length joined, length-append (lines_of (take place tiles)) (tile.pages ++ []), length-append {A = PageLine} tile.pages [], ap length are)

pub lines_within : (tiles : List TileLine) (place : ℕ) (tile : TileLine) (lines : List PageLine) (first : ℕ) → place < length tiles → tile ≡ get_or tiles place tile → lines ≡ tile.pages → first ≡ length (lines_of (take place tiles))
    → first + length lines ≤ length (lines_of tiles)
lines_within tiles place tile lines first within is are at =
    omega (arith, at, ap length (are ∙ ap (λ (t : TileLine). t.pages) is), length-flat_map-take (λ (tile : TileLine). tile.pages) tiles place tile within)

drop_front : {X : Type 0} (xs ys : List X) → drop (length xs) (xs ++ ys) ≡ ys
drop_front [] ys = refl
drop_front (x ∷ xs) ys = drop_front xs ys

take_front : {X : Type 0} (xs ys : List X) → take (length xs) (xs ++ ys) ≡ xs
take_front [] ys = refl
take_front (x ∷ xs) ys = ap (λ l. x ∷ l) (take_front xs ys)

pub own_lines : (tiles : List TileLine) (place : ℕ) (tile : TileLine) (lines : List PageLine) (first : ℕ) → place < length tiles → tile ≡ get_or tiles place tile → lines ≡ tile.pages → first ≡ length (lines_of (take place tiles))
    → take (length lines) (drop first (lines_of tiles)) ≡ lines
own_lines tiles place tile lines first within is are at =
    let before = lines_of (take place tiles) in
    let behind = lines_of (drop (place + 1) tiles) in
    let parts : tiles ≡ take place tiles ++ (get_or tiles place tile ∷ drop (place + 1) tiles) = sym (take-append-drop place tiles) ∙ ap (λ (l : List TileLine). take place tiles ++ l) (drop_more tiles place tile within) in
    let whole : lines_of tiles ≡ before ++ (lines ++ behind) =
    ap lines_of parts ∙ flat_map-append (λ (tile : TileLine). tile.pages) (take place tiles) (get_or tiles place tile ∷ drop (place + 1) tiles)
    ∙ ap (λ (t : TileLine). before ++ (t.pages ++ behind)) (sym is) ∙ ap (λ (ls : List PageLine). before ++ (ls ++ behind)) (sym are) in
    ap (λ (n : ℕ). take (length lines) (drop n (lines_of tiles))) at ∙ ap (λ (ls : List PageLine). take (length lines) (drop (length before) ls)) whole
    ∙ ap (take (length lines)) (drop_front before (lines ++ behind)) ∙ take_front lines behind

-- ---- what is left

pub left_more : (tells : Type 0) (alone : Bool) (erase : Pending) (pages : List (List Entry)) (tiles : List TileLine) (place : ℕ) (swept after : List SweptTile) (tile : TileLine) (lines : List PageLine) (first : ℕ) (parts : List Part)
    → place < length tiles → tile ≡ get_or tiles place tile → lines ≡ tile.pages → first ≡ length (lines_of (take place tiles)) → AreTilesLeft tells alone erase pages (take place tiles) swept
    → IsTileLeft tells alone erase pages (placed first lines) parts → after ≡ swept ++ tile_left tile parts → AreTilesLeft tells alone erase pages (take (place + 1) tiles) after
left_more tells alone erase pages tiles place swept after tile lines first parts within is are at so_far left added =
    let up_to : take place tiles ++ tile ∷ [] ≡ take (place + 1) tiles = sym (take_more tiles place tile within ∙ ap (λ (t : TileLine). take place tiles ++ t ∷ []) (sym is)) in
    let own = subst (λ (n : ℕ). IsTileLeft tells alone erase pages (placed n tile.pages) parts) at (subst (λ (ls : List PageLine). IsTileLeft tells alone erase pages (placed first ls) parts) are left) in
    subst (λ (ts : List TileLine). AreTilesLeft tells alone erase pages ts after) up_to
    (subst (λ (s : List SweptTile). AreTilesLeft tells alone erase pages (take place tiles ++ tile ∷ []) s) (sym added) (More (take place tiles) swept so_far tile parts own))

-- past the last tile all are done
pub all_left : (tells : Type 0) (alone : Bool) (erase : Pending) (pages : List (List Entry)) (tiles : List TileLine) (place : ℕ) (swept given : List SweptTile) → length tiles ≤ place → given ≡ swept
    → AreTilesLeft tells alone erase pages (take place tiles) swept → AreTilesLeft tells alone erase pages tiles given
all_left tells alone erase pages tiles place swept given past is left =
    subst (λ (ts : List TileLine). AreTilesLeft tells alone erase pages ts given) (take_all place tiles past) (subst (AreTilesLeft tells alone erase pages (take place tiles)) (sym is) left)

-- ---- a page that is told as damaged

-- the page at a place of a tile
pub placed_get : (first : ℕ) (lines : List PageLine) (k : ℕ) (page : Placed) → k < length lines → get_or (placed first lines) k page ≡ record { place = first + k; line = get_or lines k page.line }
placed_get first [] k page inside = absurd (omega (arith, inside))
placed_get first (line ∷ lines) zero page inside = ap (λ (n : ℕ). let own : Placed = record { place = n; line = line } in own) (omega arith)
placed_get first (line ∷ lines) (suc k) page inside =
    placed_get (first + 1) lines k page (omega (arith, inside)) ∙ ap (λ (n : ℕ). let own : Placed = record { place = n; line = get_or lines k page.line } in own) (omega arith)

zip_has : (xs : List PageLine) (ys : List (List ℕ)) (k : ℕ) (x : PageLine) (y : List ℕ) → k < length xs → k < length ys → get_or xs k x ≡ x → get_or ys k y ≡ y → Contains (zip xs ys) (x, y)
zip_has xs ys k x y first second x_is y_is = (k, omega (arith, first, second, length-zip xs ys), get_or-zip xs ys k (x, y) first second ∙ (λ i. (x_is i, y_is i)))

pub damaged_for : (tells : Type 0) (alone : Bool) (range : Ends) (tiles : List TileLine) (bytes : List (List ℕ)) (name : Name) (place : ℕ) (tile : TileLine) (lines : List PageLine) (first : ℕ)
    → place < length tiles → tile ≡ get_or tiles place tile → lines ≡ tile.pages → first ≡ length (lines_of (take place tiles)) → length bytes ≡ length (lines_of tiles)
    → Any (IsDamagedPage tells (mode_of alone range lines) range bytes name) (placed first lines) → IsDamagedFor tells alone range tiles bytes name
damaged_for tells alone range tiles bytes name place tile lines first within is are at paged (k, page, lt, here, holds) =
    let inside : k < length lines = omega (arith, lt, placed_len first lines) in
    let page_is = sym (placed_get first lines k page inside) ∙ here in
    let line_is : get_or lines k page.line ≡ page.line = ap (λ (p : Placed). p.line) page_is in
    let place_is : first + k ≡ page.place = ap (λ (p : Placed). p.place) page_is in
    let of_tile : k < length tile.pages = omega (arith, inside, ap length are) in
    let own_is : get_or tile.pages k page.line ≡ page.line = ap (λ (ls : List PageLine). get_or ls k page.line) (sym are) ∙ line_is in
    let of_file : k < length (get_or tiles place tile).pages = omega (arith, of_tile, ap (λ (t : TileLine). length t.pages) is) in
    let there = get_or-flat_map (λ (tile : TileLine). tile.pages) tiles place k tile page.line within of_file in
    let stands : page.place ≡ length (lines_of (take place tiles)) + k = omega (arith, place_is, at) in
    let whole : get_or (lines_of tiles) page.place page.line ≡ page.line = ap (λ (n : ℕ). get_or (lines_of tiles) n page.line) stands ∙ there ∙ ap (λ (t : TileLine). get_or t.pages k page.line) (sym is) ∙ own_is in
    let fit : page.place < length (lines_of tiles) = omega (arith, stands, of_file, length-flat_map-take (λ (tile : TileLine). tile.pages) tiles place tile within) in
    record {
      tile = tile;
      there = (place, within, sym is);
      line = page.line;
      of_tile = (k, of_tile, own_is);
      fetched = subst (λ (ls : List PageLine). IsTrue (is_fetched alone range ls page.line)) are (sym (same_fetched alone range lines page.line) ∙ holds.fetched);
      bytes = holds.own;
      page = zip_has (lines_of tiles) bytes page.place page.line holds.own fit (omega (arith, fit, paged)) whole (get_or_from_slice_get bytes page.place holds.own holds.own holds.there);
      damaged = holds.damaged;
    }
