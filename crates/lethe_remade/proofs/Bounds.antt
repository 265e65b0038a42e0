-- Tiles that are left keep their bounds, so these lie within the file's.
use Rattle.std.proofs.Common.{◌≡◌, inl, inr, ℕ, ◌<◌, List, [], ◌∷◌, length, drop, Contains, refl, sym, ap, subst, arith}
use Rattle.std.specs.List.{AllZip}
use Rattle.std.specs.declared.cmp.Ordering.TheVariants.{Less}
use Rattle.std.proofs.lemmas.List.Elements.{All-contains}
use Rattle.lethe_base.proofs.LayoutLaws.{none_in}
use Rattle.lethe_base.proofs.Newest.{first_is, first_or_rest}
use Rattle.lethe_base.specs.Keys.{Bytes, key_cmp}
use Rattle.lethe_cover.proofs.Lists.{Pairs, in_rest, pairs_from}
use Rattle.lethe_fade.proofs.MeetingLaws.{key_upto}
use Rattle.lethe_fade.specs.Spans.{KeyRange}
use Rattle.lethe_file.proofs.Orders.{tiles_rise}
use Rattle.lethe_sweeps.specs.Merged.{range_of}
use Rattle.lethe_header.proofs.Lines.{are_tiles}
use Rattle.lethe_header.specs.Facts.{greatest_key, least_key}
use Rattle.lethe_header.specs.Headers.{HasSpelling, IsTile}
use Rattle.lethe_header.specs.declared.header.Header.{Header}
use Rattle.lethe_header.specs.declared.header.PageLine.{PageLine}
use Rattle.lethe_header.specs.declared.header.TileLine.{TileLine}
use Rattle.lethe_moves.proofs.KeyOrder.{IsUpto, highest, lowest}
use Rattle.lethe_moves.specs.Files.{IsWithin}
use Rattle.lethe_stored.proofs.FileFacts.{lower_is, upper_is}
use Rattle.lethe_stored.specs.Files.{StoredFile}
use Rattle.lethe_swept.specs.Drafts.{IsTileFor, new_in, tile_of, tiles_with}
use Rattle.lethe_swept.specs.Left.{bounded, tiles_left}
use Rattle.lethe_swept.specs.declared.draft.DraftTile.{DraftTile}
use Rattle.lethe_swept.specs.declared.part.Part.{Part}
use Rattle.lethe_swept.specs.declared.part.SweptTile.{SweptTile}

-- one of the tiles has these bounds
pub record IsBoundOf (tiles : List TileLine) (lo hi : Bytes) : Type 0 where
  pub tile : TileLine
  pub there : Contains tiles tile
  pub lo_is : tile.lo ≡ lo
  pub hi_is : tile.hi ≡ hi

-- each tile has the bounds of one of these
abbrev AreBoundedBy : List TileLine → List TileLine → Type 0
AreBoundedBy bounds tiles = (tile : TileLine) → Contains tiles tile → IsBoundOf bounds tile.lo tile.hi

later_bound : (tile : TileLine) (tiles : List TileLine) (lo hi : Bytes) → IsBoundOf tiles lo hi → IsBoundOf (tile ∷ tiles) lo hi
later_bound tile tiles lo hi is = record { tile = is.tile; there = in_rest tile tiles is.tile is.there; lo_is = is.lo_is; hi_is = is.hi_is }

left_bound : (tiles : List TileLine) (parts : List (List Part)) (left : SweptTile) → Contains (tiles_left tiles parts) left → IsBoundOf tiles left.lo left.hi
left_bound [] parts left there = absurd (none_in left there)
left_bound (tile ∷ tiles) [] left there = absurd (none_in left there)
left_bound (tile ∷ tiles) ([] ∷ parts) left there = later_bound tile tiles left.lo left.hi (left_bound tiles parts left there)
left_bound (tile ∷ tiles) ((part ∷ own) ∷ parts) left there = elim (first_or_rest (bounded (tile, part ∷ own)) (tiles_left tiles parts) left there) [
  | inl same ↦ record { tile = tile; there = first_is tile tiles tile refl; lo_is = ap (λ (t : SweptTile). t.lo) same; hi_is = ap (λ (t : SweptTile). t.hi) same }
  | inr rest ↦ later_bound tile tiles left.lo left.hi (left_bound tiles parts left rest)
]

-- what holds of the bounds of each tile that is left holds of each tile of the draft
draft_bound : (lines : List PageLine) (P : Bytes → Bytes → Type 0) (numbers : List ℕ) (swept : List SweptTile) (drafts : List DraftTile)
    → AllZip (IsTileFor lines) swept drafts
    → ((left : SweptTile) → Contains swept left → P left.lo left.hi) → (tile : TileLine) → Contains (tiles_with numbers drafts) tile → P tile.lo tile.hi
draft_bound lines P numbers [] [] each holds tile there = absurd (none_in tile there)
draft_bound lines P numbers [] (draft ∷ drafts) each holds tile there = absurd each
draft_bound lines P numbers (left ∷ swept) [] each holds tile there = absurd each
draft_bound lines P numbers (left ∷ swept) (draft ∷ drafts) each holds tile there =
    let behind = drop (length (new_in draft)) numbers in
    elim (first_or_rest (tile_of draft numbers) (tiles_with behind drafts) tile there) [
      | inl same ↦
          let own = holds left (first_is left swept left refl) in
          subst (λ (t : TileLine). P t.lo t.hi) same (subst (λ (lo : Bytes). P lo draft.hi) (sym each.0.lo) (subst (P left.lo) (sym each.0.hi) own))
      | inr rest ↦ draft_bound lines P behind swept drafts each.1 (λ other inside. holds other (in_rest left swept other inside)) tile rest
    ]

-- The bounds of a file

abbrev bounds_of : List TileLine → KeyRange
bounds_of tiles = record { lo = least_key tiles; hi = greatest_key tiles }

bounds_are : (file : StoredFile) → bounds_of file.header.tiles ≡ range_of file
bounds_are file = λ i. record { lo = lower_is file.header.tiles file.pages i; hi = upper_is [] file.header.tiles file.pages i }

abbrev Rise : List TileLine → Type 0
Rise tiles = Pairs (λ a b. key_cmp a.hi b.lo ≡ Less) tiles

abbrev AreRanges : List TileLine → Type 0
AreRanges tiles = (tile : TileLine) → Contains tiles tile → IsUpto tile.lo tile.hi

tile_inside : (tiles : List TileLine) → AreRanges tiles → Rise tiles → (tile : TileLine) → Contains tiles tile
    → IsUpto (least_key tiles) tile.lo × IsUpto tile.hi (greatest_key tiles)
tile_inside [] ranges rise tile there = absurd (none_in tile there)
tile_inside (first ∷ tiles) ranges rise tile there = (
  lowest (λ (t : TileLine). t.lo) (λ (t : TileLine). t.hi) first tiles ranges rise tile there,
  highest (λ (t : TileLine). t.lo) (λ (t : TileLine). t.hi) [] (first ∷ tiles) ranges rise tile there,
)

last_tile : (tile : TileLine) (tiles : List TileLine) → (last : TileLine) × Contains (tile ∷ tiles) last × (last.hi ≡ greatest_key (tile ∷ tiles))
last_tile tile [] = (tile, first_is tile [] tile refl, refl)
last_tile tile (next ∷ tiles) = let last = last_tile next tiles in (last.0, in_rest tile (next ∷ tiles) last.0 last.1, last.2)

module _ (header : Header) (spelled : HasSpelling header) where
  ranges : AreRanges header.tiles
  ranges tile there = (All-contains IsTile header.tiles tile (are_tiles header.tiles spelled.tiles) there).keys

  rises : Rise header.tiles
  rises = pairs_from (λ (a b : TileLine). key_cmp a.hi b.lo ≡ Less) header.tiles (λ i j d before within. tiles_rise header.tiles spelled.tiles i j d before within)

  abbrev IsInside : Bytes → Type 0
  IsInside key = IsWithin (least_key header.tiles) (greatest_key header.tiles) key

  -- both bounds of a tile lie within the header's
  bounds_inside : (lo hi : Bytes) → IsBoundOf header.tiles lo hi → IsInside lo × IsInside hi
  bounds_inside lo hi is =
      let inside = tile_inside header.tiles ranges rises is.tile is.there in
      let own = ranges is.tile is.there in
      let least = least_key header.tiles in
      let most = greatest_key header.tiles in
      let low : IsInside is.tile.lo = (inside.0, key_upto is.tile.lo is.tile.hi most own inside.1) in
      let high : IsInside is.tile.hi = (key_upto least is.tile.lo is.tile.hi inside.0 own, inside.1) in
      (subst IsInside is.lo_is low, subst IsInside is.hi_is high)

  -- tiles whose bounds are those of some of the header's have no key outside
  pub ends_inside : (tiles : List TileLine) → 0 < length tiles → AreBoundedBy header.tiles tiles
      → IsInside (least_key tiles) × IsInside (greatest_key tiles)
  ends_inside [] some each = absurd (omega (arith, some))
  ends_inside (tile ∷ tiles) some each =
      let first = bounds_inside tile.lo tile.hi (each tile (first_is tile tiles tile refl)) in
      let last = last_tile tile tiles in
      let high = bounds_inside last.0.lo last.0.hi (each last.0 last.1) in
      (first.0, subst IsInside last.2 high.1)

abbrev Within : KeyRange → KeyRange → Type 0
Within outer inner = IsWithin outer.lo outer.hi inner.lo × IsWithin outer.lo outer.hi inner.hi

-- the draft of what is left of a file lies within its bounds
pub made_inside : (file made : StoredFile) → HasSpelling file.header → HasSpelling made.header
    → (parts : List (List Part)) (drafts : List DraftTile) (numbers : List ℕ) (lines : List PageLine)
    → AllZip (IsTileFor lines) (tiles_left file.header.tiles parts) drafts → made.header.tiles ≡ tiles_with numbers drafts
    → IsWithin (range_of file).lo (range_of file).hi (range_of made).lo × IsWithin (range_of file).lo (range_of file).hi (range_of made).hi
made_inside file made spelled again parts drafts numbers lines each are =
    let bound = draft_bound lines (IsBoundOf file.header.tiles) numbers (tiles_left file.header.tiles parts) drafts each (left_bound file.header.tiles parts) in
    let inside = ends_inside file.header spelled made.header.tiles again.some (subst (AreBoundedBy file.header.tiles) (sym are) bound) in
    subst (λ (outer : KeyRange). Within outer (range_of made)) (bounds_are file) (subst (Within (bounds_of file.header.tiles)) (bounds_are made) inside)
