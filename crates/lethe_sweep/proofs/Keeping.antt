-- The pages that stay are those that the header alone tells.
use Rattle.std.proofs.Common.{◌≡◌, ℕ, ◌+◌, Bool, true, false, List, [], ◌∷◌, ◌++◌, filter, filter_map, flat_map, length, map, cond, not, sym, ap, ◌∙◌, refl, arith, append_assoc, length-append}
use Rattle.std.specs.Prelude.{◌&&◌}
use Rattle.std.proofs.lemmas.Grind.{flat_map-append}
use Rattle.std.proofs.lemmas.List.{append-nil, map-append}
use Rattle.std.proofs.lemmas.List.Elements.{filter-append, filter_map-append}
use Rattle.lethe_base.specs.Ranges.{Ends}
use Rattle.lethe_base.specs.declared.entry.Entry.{Entry}
use Rattle.lethe_base.specs.declared.pending.Pending.{Pending}
use Rattle.lethe_header.specs.Facts.{lines_of}
use Rattle.lethe_header.specs.declared.header.PageLine.{PageLine}
use Rattle.lethe_header.specs.declared.header.TileLine.{TileLine}
use Rattle.lethe_merge.specs.Merge.{merged}
use Rattle.lethe_tile.specs.Woven.{puts_of}
use Rattle.lethe_sweep.specs.Fences.{is_kept, meets}
use Rattle.lethe_sweep.specs.Modes.{is_alone, is_fetched_in, mode_of}
use Rattle.lethe_sweep.specs.Steps.{AreTilesLeft, Begun, Fetched, Goes, IsLeft, IsTileLeft, More, NoTile, Stays, fenced, tile_left}
use Rattle.lethe_sweep.specs.Sweeping.{kept_places, left_in}
use Rattle.lethe_swept.specs.Left.{Placed, fresh, place_of, placed}
use Rattle.lethe_sweep.specs.declared.fence.Mode.{Mode}
use Rattle.lethe_swept.specs.declared.part.Part.{Part}
use Rattle.lethe_swept.specs.declared.part.Part.TheVariants.{Kept}
use Rattle.lethe_swept.specs.declared.part.SweptTile.{SweptTile}
use Rattle.lethe_sweep.proofs.Tiling.{lines_placed, same_fetched}

-- no new page is one that stays
fresh_kept : (entries : List Entry) → filter_map place_of (fresh entries) ≡ []
fresh_kept [] = refl
fresh_kept (entry ∷ entries) = refl

and_false : (b : Bool) → b && false ≡ false
and_false true = refl
and_false false = refl

stays_in : Mode → Ends → Placed → Bool
stays_in mode range page = not (meets range page.line) && not (is_fetched_in mode range page.line)

own_places : Mode → Ends → List Placed → List ℕ
own_places mode range tile = map (λ page. page.place) (filter (stays_in mode range) tile)

-- of the pages of a tile those stay that the lines tell
module _ (tells : Type 0) (mode : Mode) (erase : Pending) (pages : List (List Entry)) where
  one_more : (before : List Placed) (page : Placed) (stays : Bool) → stays_in mode erase.range page ≡ stays
      → own_places mode erase.range (before ++ page ∷ []) ≡ own_places mode erase.range before ++ cond stays (page.place ∷ []) []
  unfolding own_places
  one_more before page stays is =
      ap (map (λ (p : Placed). p.place)) (filter-append (stays_in mode erase.range) before (page ∷ []))
      ∙ map-append (λ (p : Placed). p.place) (filter (stays_in mode erase.range) before) (filter (stays_in mode erase.range) (page ∷ []))
      ∙ ap (λ (b : Bool). map (λ (p : Placed). p.place) (filter (stays_in mode erase.range) before) ++ map (λ (p : Placed). p.place) (cond b (page ∷ []) [])) is
      ∙ ap (λ (ns : List ℕ). map (λ (p : Placed). p.place) (filter (stays_in mode erase.range) before) ++ ns) (by stays)
    where
      by : (b : Bool) → map (λ (p : Placed). p.place) (cond b (page ∷ []) []) ≡ cond b (page.place ∷ []) []
      by true = refl
      by false = refl

  -- whether a page stays
  whether : (page : Placed) (met fetched : Bool) → meets erase.range page.line ≡ met → is_fetched_in mode erase.range page.line ≡ fetched → stays_in mode erase.range page ≡ not met && not fetched
  unfolding stays_in
  whether page met fetched m f = λ i. not (m i) && not (f i)

  left_places : (tile : List Placed) (tombs : List Entry) (parts : List Part) → IsLeft tells mode erase pages tile tombs parts → filter_map place_of parts ≡ own_places mode erase.range tile
  unfolding own_places
  left_places tile tombs parts Begun = refl
  left_places tile tombs parts (Stays before own some left page apart outside) =
      filter_map-append place_of some (Kept page.place ∷ [])
      ∙ ap (λ (ns : List ℕ). ns ++ page.place ∷ []) (left_places before own some left)
      ∙ sym (one_more before page true (whether page false false outside apart))
  left_places tile tombs parts (Goes before own some left page apart met) =
      left_places before own some left ∙ sym (append-nil (own_places mode erase.range before)) ∙ sym (one_more before page false (whether page true false met apart))
  left_places tile tombs parts (Fetched before own some left page fetched entries read) =
      filter_map-append place_of some (fresh (puts_of (left_in (is_alone mode) erase (fenced page.line.fence entries))))
      ∙ ap (λ (ns : List ℕ). filter_map place_of some ++ ns) (fresh_kept (puts_of (left_in (is_alone mode) erase (fenced page.line.fence entries))))
      ∙ ap (λ (ns : List ℕ). ns ++ []) (left_places before own some left)
      ∙ sym (one_more before page false (whether page (meets erase.range page.line) true refl fetched ∙ and_false (not (meets erase.range page.line))))

kept_in : Bool → Ends → ℕ → List PageLine → List ℕ
kept_in alone range first lines = map (λ page. page.place) (filter (λ page. is_kept alone range lines page.line) (placed first lines))

same_kept : (alone : Bool) (range : Ends) (first : ℕ) (lines : List PageLine) → own_places (mode_of alone range (map (λ page. page.line) (placed first lines))) range (placed first lines) ≡ kept_in alone range first lines
unfolding own_places stays_in kept_in
same_kept alone range first lines =
    ap (λ (ls : List PageLine). own_places (mode_of alone range ls) range (placed first lines)) (lines_placed first lines)
    ∙ (λ i. map (λ (page : Placed). page.place) (filter (λ (page : Placed). not (meets range page.line) && not (same_fetched alone range lines page.line i)) (placed first lines)))

tile_places : (tells : Type 0) (alone : Bool) (erase : Pending) (pages : List (List Entry)) (first : ℕ) (lines : List PageLine) (parts : List Part) → IsTileLeft tells alone erase pages (placed first lines) parts
    → filter_map place_of parts ≡ kept_in alone erase.range first lines
tile_places tells alone erase pages first lines parts left =
    let head = fresh (merged left.tombs [] false) in
    ap (filter_map place_of) left.parts_are ∙ filter_map-append place_of head left.own
    ∙ ap (λ (ns : List ℕ). ns ++ filter_map place_of left.own) (fresh_kept (merged left.tombs [] false))
    ∙ left_places tells (mode_of alone erase.range (map (λ page. page.line) (placed first lines))) erase pages (placed first lines) left.tombs left.own left.left
    ∙ same_kept alone erase.range first lines

-- the tile that is left has the parts
pub parts_left : (tile : TileLine) (parts : List Part) → flat_map (λ (tile : SweptTile). tile.parts) (tile_left tile parts) ≡ parts
parts_left tile [] = refl
parts_left tile (part ∷ parts) = append-nil (part ∷ parts)

kept_append : (alone : Bool) (range : Ends) (first : ℕ) (tiles : List TileLine) (tile : TileLine)
    → kept_places alone range first (tiles ++ tile ∷ []) ≡ kept_places alone range first tiles ++ kept_in alone range (first + length (lines_of tiles)) tile.pages
unfolding kept_in
kept_append alone range first [] tile = append-nil (kept_in alone range first tile.pages) ∙ ap (λ (n : ℕ). kept_in alone range n tile.pages) (omega arith)
kept_append alone range first (t ∷ ts) tile =
    let own = kept_in alone range first t.pages in
    let rest = kept_places alone range (first + length t.pages) ts in
    ap (λ (ns : List ℕ). own ++ ns) (kept_append alone range (first + length t.pages) ts tile)
    ∙ ap (λ (n : ℕ). own ++ (rest ++ kept_in alone range n tile.pages)) (omega (arith, length-append t.pages (lines_of ts)))
    ∙ sym (append_assoc own rest (kept_in alone range (first + length (t.pages ++ lines_of ts)) tile.pages))

-- so are those of all tiles
pub all_places : (tells : Type 0) (alone : Bool) (erase : Pending) (pages : List (List Entry)) (tiles : List TileLine) (swept : List SweptTile) → AreTilesLeft tells alone erase pages tiles swept
    → filter_map place_of (flat_map (λ tile. tile.parts) swept) ≡ kept_places alone erase.range 0 tiles
all_places tells alone erase pages tiles swept NoTile = refl
all_places tells alone erase pages tiles swept (More before some left tile parts own) =
    ap (filter_map place_of) (flat_map-append (λ (tile : SweptTile). tile.parts) some (tile_left tile parts) ∙ ap (λ (ps : List Part). flat_map (λ (tile : SweptTile). tile.parts) some ++ ps) (parts_left tile parts))
    ∙ filter_map-append place_of (flat_map (λ (tile : SweptTile). tile.parts) some) parts
    ∙ ap (λ (ns : List ℕ). ns ++ filter_map place_of parts) (all_places tells alone erase pages before some left)
    ∙ ap (λ (ns : List ℕ). kept_places alone erase.range 0 before ++ ns) (tile_places tells alone erase pages (length (lines_of before)) tile.pages parts own)
    ∙ ap (λ (n : ℕ). kept_places alone erase.range 0 before ++ kept_in alone erase.range n tile.pages) (omega arith)
    ∙ sym (kept_append alone erase.range 0 before tile)
