-- The places of the pages that stay ascend.
use Rattle.std.proofs.Common.{◌≡◌, inl, inr, ℕ, ◌+◌, ◌≤◌, ◌<◌, Bool, true, false, ◌||◌, cond, List, [], ◌∷◌, ◌++◌, length, map, All, Contains, refl, sym, ap, subst, length-append, arith}
use Rattle.std.specs.Prelude.{filter, filter_map, flat_map}
use Rattle.std.specs.List.{AllZip}
use Rattle.std.proofs.lemmas.List.Elements.{All-cons, All-nil, filter_map-append}
use Rattle.lethe_base.proofs.LayoutLaws.{none_in}
use Rattle.lethe_base.proofs.Newest.{first_or_rest}
use Rattle.lethe_base.specs.declared.entry.Entry.{Entry}
use Rattle.lethe_base.specs.declared.pending.Pending.{Pending}
use Rattle.lethe_cover.proofs.Lists.{Pairs}
use Rattle.lethe_header.specs.Facts.{lines_of}
use Rattle.lethe_header.specs.Headers.{is_puts}
use Rattle.lethe_header.specs.declared.header.PageLine.{PageLine}
use Rattle.lethe_header.specs.declared.header.TileLine.{TileLine}
use Rattle.lethe_sweep.specs.Fences.{is_met, meets}
use Rattle.lethe_sweep.specs.Sweeping.{IsSweptBy, IsSweptTile, left_in, left_of}
use Rattle.lethe_swept.specs.Left.{Placed, by_tile, entries_at, fresh, place_of, placed, places_in, tiles_left}
use Rattle.lethe_swept.specs.declared.part.Part.{Part}
use Rattle.lethe_swept.specs.declared.part.Part.TheVariants.{Kept}
use Rattle.lethe_swept.specs.declared.part.SweptFile.{SweptFile}
use Rattle.lethe_swept.specs.declared.part.SweptTile.{SweptTile}
use Rattle.lethe_tile.specs.Woven.{puts_of}

-- Numbers that rise

-- the first number is at most the first of them, each is below the next one, and the last of them is below the last number
abbrev pub Rises : ℕ → ℕ → List ℕ → Type 0
Rises first last [] = first ≤ last
Rises first last (place ∷ places) = (first ≤ place) × Rises (place + 1) last places

rises_from : (earlier first last : ℕ) (places : List ℕ) → earlier ≤ first → Rises first last places → Rises earlier last places
rises_from earlier first last [] upto rises = let low : first ≤ last = rises in omega arith
rises_from earlier first last (place ∷ places) upto rises = (let low : first ≤ place = rises.0 in omega arith, rises.1)

rises_append : (first middle last : ℕ) (xs ys : List ℕ) → Rises first middle xs → Rises middle last ys → Rises first last (xs ++ ys)
rises_append first middle last [] ys one two = rises_from first middle last ys one two
rises_append first middle last (x ∷ xs) ys one two = (one.0, rises_append (x + 1) middle last xs ys one.1 two)

rises_above : (first last : ℕ) (places : List ℕ) → Rises first last places → (place : ℕ) → Contains places place → first ≤ place
rises_above first last [] rises place there = absurd (none_in place there)
rises_above first last (own ∷ places) rises place there =
    let low : first ≤ own = rises.0 in
    elim (first_or_rest own places place there) [
      | inl same ↦ omega (arith, same)
      | inr rest ↦ let above = rises_above (own + 1) last places rises.1 place rest in omega (arith, above)
    ]

abbrev pub IsBefore : ℕ → ℕ → Type 0
IsBefore a b = a < b

rising : (first last : ℕ) (places : List ℕ) → Rises first last places → Pairs IsBefore places
rising first last [] rises = tt
rising first last (own ∷ places) rises = (
  (λ place there. let above = rises_above (own + 1) last places rises.1 place there in omega (arith, above)),
  rising (own + 1) last places rises.1,
)

-- The pages of a tile

abbrev place_in : Placed → ℕ
place_in page = page.place

abbrev line_in : Placed → PageLine
line_in page = page.line

placed_rise : (first : ℕ) (lines : List PageLine) → Rises first (first + length lines) (map place_in (placed first lines))
placed_rise first [] = omega arith
placed_rise first (line ∷ lines) =
    let same : first + 1 + length lines ≡ first + length (line ∷ lines) = omega arith in
    (omega arith, subst (λ (last : ℕ). Rises (first + 1) last (map place_in (placed (first + 1) lines))) same (placed_rise (first + 1) lines))

filter_rises : (test : Placed → Bool) (first last : ℕ) (pages : List Placed) → Rises first last (map place_in pages) → Rises first last (map place_in (filter test pages))
filter_rises test first last [] rises = rises
filter_rises test first last (page ∷ pages) rises = by (test page) (filter_rises test (page.place + 1) last pages rises.1)
  where
    by : (b : Bool) → Rises (page.place + 1) last (map place_in (filter test pages)) → Rises first last (map place_in (cond b (page ∷ filter test pages) (filter test pages)))
    by true more = (rises.0, more)
    by false more = rises_from first (page.place + 1) last (map place_in (filter test pages)) (let low : first ≤ page.place = rises.0 in omega arith) more

fresh_places : (entries : List Entry) (parts : List Part) → filter_map place_of (fresh entries ++ parts) ≡ filter_map place_of parts
fresh_places [] parts = refl
fresh_places (entry ∷ entries) parts = refl

kept_places : (pages : List Placed) → filter_map place_of (map (λ (page : Placed). Kept page.place) pages) ≡ map place_in pages
kept_places [] = refl
kept_places (page ∷ pages) = ap (λ (places : List ℕ). page.place ∷ places) (kept_places pages)

none_met : (erase : Pending) (pages : List Placed) → is_met erase.range (map line_in pages) ≡ false → All (λ page. meets erase.range page.line ≡ false) pages
none_met erase [] none = All-nil (λ (page : Placed). meets erase.range page.line ≡ false)
none_met erase (page ∷ pages) none = by (meets erase.range page.line) refl none (λ later. none_met erase pages later)
  where
    by : (b : Bool) → meets erase.range page.line ≡ b → (b || is_met erase.range (map line_in pages)) ≡ false
        → (is_met erase.range (map line_in pages) ≡ false → All (λ page. meets erase.range page.line ≡ false) pages)
        → All (λ page. meets erase.range page.line ≡ false) (page ∷ pages)
    by true is none more = absurd cc
    by false is none more = All-cons (λ (page : Placed). meets erase.range page.line ≡ false) page pages is (more none)

module _ (alone : Bool) (erase : Pending) (entries : List (List Entry)) where
  -- what is left of some pages
  abbrev left_from : List Placed → List Part
  left_from pages = flat_map (left_of alone erase entries) pages

  abbrev puts_in : Placed → List Entry
  puts_in page = puts_of (left_in alone erase (entries_at entries page.place))

  left_rises : (first last : ℕ) (pages : List Placed) → Rises first last (map place_in pages) → Rises first last (filter_map place_of (left_from pages))
  left_rises first last [] rises = rises
  left_rises first last (page ∷ pages) rises = by (meets erase.range page.line) (left_rises (page.place + 1) last pages rises.1)
    where
      by : (b : Bool) → Rises (page.place + 1) last (filter_map place_of (left_from pages))
          → Rises first last (filter_map place_of (cond b (fresh (puts_in page)) (Kept page.place ∷ []) ++ left_from pages))
      by true more = subst (Rises first last) (sym (fresh_places (puts_in page) (left_from pages)))
          (rises_from first (page.place + 1) last (filter_map place_of (left_from pages)) (let low : first ≤ page.place = rises.0 in omega arith) more)
      by false more = (rises.0, more)

-- the places of these parts are among those of so many pages from the first on
abbrev StandIn : ℕ → List PageLine → List Part → Type 0
StandIn first lines parts = Rises first (first + length lines) (filter_map place_of parts)

abbrev puts_pages : List Placed → List Placed
puts_pages pages = filter (λ page. is_puts page.line.class) pages

tile_rises : (alone : Bool) (erase : Pending) (entries : List (List Entry)) (first : ℕ) (lines : List PageLine) (parts : List Part)
    → IsSweptTile alone erase entries (placed first lines) parts → StandIn first lines parts
tile_rises true erase entries first lines parts swept = subst (StandIn first lines) (sym (swept.alone_left refl))
    (left_rises true erase entries first (first + length lines) (placed first lines) (placed_rise first lines))
tile_rises false erase entries first lines parts swept = by (is_met erase.range (map line_in (placed first lines))) refl
  where
    by : (b : Bool) → is_met erase.range (map line_in (placed first lines)) ≡ b → StandIn first lines parts
    by true met =
        let last = first + length lines in
        let left = swept.left refl met in
        let puts = puts_pages (placed first lines) in
        let own = flat_map (left_of false erase entries) puts in
        let some = filter_rises (λ (page : Placed). is_puts page.line.class) first last (placed first lines) (placed_rise first lines) in
        let rises = left_rises false erase entries first last puts some in
        subst (StandIn first lines) (sym left.parts_are) (subst (Rises first last) (sym (fresh_places left.tombs own)) rises)
    by false none = subst (StandIn first lines) (sym (swept.whole (none_met erase (placed first lines) none)))
        (subst (Rises first (first + length lines)) (sym (kept_places (placed first lines))) (placed_rise first lines))

-- The tiles

abbrev parts_of : List SweptTile → List Part
parts_of tiles = flat_map (λ (tile : SweptTile). tile.parts) tiles

module _ (alone : Bool) (erase : Pending) (entries : List (List Entry)) where
  tiles_rise : (first : ℕ) (tiles : List TileLine) (parts : List (List Part)) → AllZip (IsSweptTile alone erase entries) (by_tile first tiles) parts
      → Rises first (first + length (lines_of tiles)) (filter_map place_of (parts_of (tiles_left tiles parts)))
  tiles_rise first [] [] each = omega arith
  tiles_rise first [] (own ∷ parts) each = absurd each
  tiles_rise first (tile ∷ tiles) [] each = absurd each
  tiles_rise first (tile ∷ tiles) (own ∷ parts) each =
      let middle = first + length tile.pages in
      let same : middle + length (lines_of tiles) ≡ first + length (lines_of (tile ∷ tiles)) = omega (arith, length-append tile.pages (lines_of tiles)) in
      by own (tile_rises alone erase entries first tile.pages own each.0)
      (subst (λ (last : ℕ). Rises middle last (filter_map place_of (parts_of (tiles_left tiles parts)))) same (tiles_rise middle tiles parts each.1))
    where
      by : (own : List Part) → StandIn first tile.pages own
          → Rises (first + length tile.pages) (first + length (lines_of (tile ∷ tiles))) (filter_map place_of (parts_of (tiles_left tiles parts)))
          → Rises first (first + length (lines_of (tile ∷ tiles))) (filter_map place_of (parts_of (tiles_left (tile ∷ tiles) (own ∷ parts))))
      by [] here more =
          let last = first + length (lines_of (tile ∷ tiles)) in
          rises_from first (first + length tile.pages) last (filter_map place_of (parts_of (tiles_left tiles parts))) here more
      by (part ∷ own) here more =
          let last = first + length (lines_of (tile ∷ tiles)) in
          let behind = parts_of (tiles_left tiles parts) in
          subst (Rises first last) (sym (filter_map-append place_of (part ∷ own) behind))
          (rises_append first (first + length tile.pages) last (filter_map place_of (part ∷ own)) (filter_map place_of behind) here more)

  pub places_rise : (tiles : List TileLine) (swept : SweptFile) → IsSweptBy alone erase tiles entries swept → Pairs IsBefore (places_in swept)
  places_rise tiles swept is = subst (λ (ts : List SweptTile). Pairs IsBefore (filter_map place_of (parts_of ts))) (sym is.tiles_are)
      (rising 0 (0 + length (lines_of tiles)) (filter_map place_of (parts_of (tiles_left tiles is.parts))) (tiles_rise 0 tiles is.parts is.each))
