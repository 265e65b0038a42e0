-- The tiles of a stored file bound its keys.
use Rattle.std.proofs.Common.{◌≡◌, ◌≢◌, ℕ, ◌<◌, IsTrue, List, [], ◌∷◌, length, take, drop, map, All, Contains, refl, ap, subst, arith}
use Rattle.std.specs.Prelude.{flat_map}
use Rattle.std.specs.List.{AllZip}
use Rattle.std.specs.Ordering.{is_le}
use Rattle.std.specs.declared.cmp.Ordering.TheVariants.{Less}
use Rattle.std.proofs.lemmas.List.{take-map, drop-map}
use Rattle.std.proofs.lemmas.List.Elements.{All-nil, All-cons, All-contains}
use Rattle.lethe_base.specs.Entries.{IsAscending}
use Rattle.lethe_base.specs.Keys.{Bytes, key_cmp}
use Rattle.lethe_base.specs.Layout.{Tile}
use Rattle.lethe_base.specs.declared.entry.Entry.{Entry}
use Rattle.lethe_base.proofs.LayoutLaws.{none_in}
use Rattle.lethe_base.proofs.Newest.{first_is, first_or_rest}
use Rattle.lethe_cover.proofs.Common.{⊎_elim}
use Rattle.lethe_cover.proofs.Lists.{Pairs, in_rest, flat_from, all_from, pairs_from, pairs_to, pairs_append}
use Rattle.lethe_version.specs.Agreement.{Agrees, HaveNoCommonKey, TilesHold, entries_in}
use Rattle.lethe_version.specs.Agreement as files
use Rattle.lethe_version.proofs.Orders.{own_key, tiles_rise}
use Rattle.lethe_version.proofs.Tiles.{zip_parts}
use Rattle.lethe_header.specs.Facts.{lines_of}
use Rattle.lethe_header.specs.Headers.{IsTile}
use Rattle.lethe_header.specs.declared.header.PageLine.{PageLine}
use Rattle.lethe_header.specs.declared.header.TileLine.{TileLine}
use Rattle.lethe_header.proofs.Lines.{are_tiles}
use Rattle.lethe_mem.proofs.Places.{above_head, tail_ascends, each_above}
use Rattle.lethe_moves.specs.Files as moves
use Rattle.lethe_moves.specs.Files.{IsBounded, IsLower, IsTiled}
use Rattle.lethe_stored.specs.Files.{StoredFile, IsFile, tiles_of, file_of}

-- Entries

abbrev HasOtherKey : Entry → Entry → Type 0
HasOtherKey entry other = entry.key ≢ other.key

other_key : (key other : Bytes) → key_cmp key other ≡ Less → key ≢ other
other_key key other less same = let itself = own_key other in let tie : key_cmp other other ≡ Less = subst (λ k. key_cmp k other ≡ Less) same less in cc

page_once : (entries : List Entry) → IsAscending entries → Pairs HasOtherKey entries
page_once [] ascends = tt
page_once (entry ∷ entries) ascends = (
  (λ other there. other_key entry.key other.key (subst (λ (e : Entry). key_cmp entry.key e.key ≡ Less) there.2 (each_above entry.key entries there.0 other (above_head entry entries ascends) there.1))),
  page_once entries (tail_ascends entry entries ascends),
)

-- of pages that ascend, no two of which share a key, no key stands twice
pages_once : (pages : List (List Entry)) → ((page : List Entry) → Contains pages page → IsAscending page) → Pairs HaveNoCommonKey pages → Pairs HasOtherKey (flat_map (λ page. page) pages)
pages_once [] ascend apart = tt
pages_once (page ∷ pages) ascend apart = pairs_append HasOtherKey page (flat_map (λ page. page) pages)
    (page_once page (ascend page (first_is page pages page refl)))
    (pages_once pages (λ other there. ascend other (in_rest page pages other there)) apart.1)
    (λ entry other left right.
    let found = flat_from (λ page. page) pages other right in
    All-contains (HasOtherKey entry) found.0 other (All-contains (λ e. All (HasOtherKey e) found.0) page entry (apart.0 found.0 found.1) left) found.2)

page_ascends : (lines : List PageLine) (pages : List (List ℕ)) → AllZip Agrees lines pages → (page : List Entry) → Contains (map entries_in pages) page → IsAscending page
page_ascends [] [] agrees page there = absurd (none_in page there)
page_ascends [] (first ∷ pages) agrees page there = absurd agrees
page_ascends (line ∷ lines) [] agrees page there = absurd agrees
page_ascends (line ∷ lines) (first ∷ pages) agrees page there = ⊎_elim (λ same. subst IsAscending same agrees.0.page.spelled.ascending) (λ rest. page_ascends lines pages agrees.1 page rest)
    (first_or_rest (entries_in first) (map entries_in pages) page there)

-- Tiles

tile_bounded : (tile : TileLine) (pages : List (List ℕ)) → IsTrue (is_le (key_cmp tile.lo tile.hi)) → AllZip Agrees tile.pages pages → files.TileHolds tile (map entries_in pages)
    → IsBounded (record { lo = tile.lo; hi = tile.hi; pages = map entries_in pages })
tile_bounded tile pages range agrees holds = record {
  range = range;
  within = all_from (λ entry. moves.IsWithin tile.lo tile.hi entry.key) (flat_map (λ page. page) (map entries_in pages)) (λ entry there.
      let found = flat_from (λ page. page) (map entries_in pages) entry there in
      let within = All-contains (λ entry. files.IsWithin tile entry.key) found.0 entry (All-contains (All (λ entry. files.IsWithin tile entry.key)) (map entries_in pages) found.0 holds.within found.1) found.2 in
      (within.lo, within.hi));
  once = pairs_to HasOtherKey (flat_map (λ page. page) (map entries_in pages)) (pages_once (map entries_in pages) (page_ascends tile.pages pages agrees) (pairs_from HaveNoCommonKey (map entries_in pages) holds.once));
}

tiles_bounded : (tiles : List TileLine) (pages : List (List ℕ)) → ((tile : TileLine) → Contains tiles tile → IsTrue (is_le (key_cmp tile.lo tile.hi))) → AllZip Agrees (lines_of tiles) pages → TilesHold tiles (map entries_in pages)
    → All IsBounded (tiles_of tiles pages)
tiles_bounded [] pages ranges agrees hold = All-nil IsBounded
tiles_bounded (tile ∷ tiles) pages ranges agrees hold =
    let count = length tile.pages in
    let parts = zip_parts Agrees tile.pages (lines_of tiles) pages agrees in
    let own : files.TileHolds tile (map entries_in (take count pages)) = subst (files.TileHolds tile) (take-map entries_in count pages) hold.0 in
    let rest : TilesHold tiles (map entries_in (drop count pages)) = subst (TilesHold tiles) (drop-map entries_in count pages) hold.1 in
    All-cons IsBounded (record { lo = tile.lo; hi = tile.hi; pages = map entries_in (take count pages) }) (tiles_of tiles (drop count pages))
    (tile_bounded tile (take count pages) (ranges tile (first_is tile tiles tile refl)) parts.0 own)
    (tiles_bounded tiles (drop count pages) (λ other there. ranges other (in_rest tile tiles other there)) parts.1 rest)

-- each tile has the keys of a line
line_of_tile : (tiles : List TileLine) (pages : List (List ℕ)) (tile : Tile) → Contains (tiles_of tiles pages) tile → (line : TileLine) × Contains tiles line × (line.lo ≡ tile.lo)
line_of_tile [] pages tile there = absurd (none_in tile there)
line_of_tile (line ∷ tiles) pages tile there =
    let count = length line.pages in
    ⊎_elim (λ same. (line, first_is line tiles line refl, ap (λ (t : Tile). t.lo) same))
    (λ rest. let found = line_of_tile tiles (drop count pages) tile rest in (found.0, in_rest line tiles found.0 found.1, found.2))
    (first_or_rest (record { lo = line.lo; hi = line.hi; pages = map entries_in (take count pages) }) (tiles_of tiles (drop count pages)) tile there)

tiles_ascend : (tiles : List TileLine) (pages : List (List ℕ)) → Pairs (λ a b. key_cmp a.hi b.lo ≡ Less) tiles → Pairs IsLower (tiles_of tiles pages)
tiles_ascend [] pages rise = tt
tiles_ascend (line ∷ tiles) pages rise = (
  (λ tile there. let found = line_of_tile tiles (drop (length line.pages) pages) tile there in subst (λ key. key_cmp line.hi key ≡ Less) found.2 (rise.0 found.0 found.1)),
  tiles_ascend tiles (drop (length line.pages) pages) rise.1,
)

some_tile : (tiles : List TileLine) (pages : List (List ℕ)) → 0 < length tiles → tiles_of tiles pages ≢ []
some_tile [] pages some is = omega arith
some_tile (tile ∷ tiles) pages some is = cc

pub file_tiled : (next : ℕ) (file : StoredFile) → IsFile next file → IsTiled (file_of file)
file_tiled next file is =
    let tiles = file.header.tiles in
    let each = is.spelled.tiles in
    record {
      some = some_tile tiles file.pages is.spelled.some;
      bounded = tiles_bounded tiles file.pages (λ tile there. (All-contains IsTile tiles tile (are_tiles tiles each) there).keys) is.agrees.pages is.agrees.tiles;
      ascending = pairs_to IsLower (tiles_of tiles file.pages) (tiles_ascend tiles file.pages (pairs_from (λ a b. key_cmp a.hi b.lo ≡ Less) tiles (λ i j d before within. tiles_rise tiles each i j d before within)));
    }
