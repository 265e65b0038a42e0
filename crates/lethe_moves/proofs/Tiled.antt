-- What the tiles of a file say of its keys.
use Rattle.std.proofs.Common.{◌≡◌, ◌≢◌, List, [], ◌∷◌, flat_map, Contains, refl, ◌∙◌, subst, arith}
use Rattle.lethe_moves.proofs.Common.{All-contains, Tile, File, entries_of, lower_key, upper_key, Entry, none_in, first_is, first_or_rest, flat_in, flat_from, key_upto, IsBounded, IsLower, IsTiled, IsTight, IsWithin, entries_in, keys_of}
use Rattle.lethe_moves.proofs.KeyOrder.{IsUpto, Spans, spans_through, not_less, lowest, highest}
use Rattle.lethe_cover.proofs.Lists.{Pairs, in_rest, pairs_from, pairs_append}

abbrev AreBounded : List Tile → Type 0
AreBounded tiles = (tile : Tile) → Contains tiles tile → IsBounded tile

entry_within : (tile : Tile) → IsBounded tile → (entry : Entry) → Contains (entries_in tile) entry → IsWithin tile.lo tile.hi entry.key
entry_within tile bounded entry there = All-contains (λ entry. IsWithin tile.lo tile.hi entry.key) (entries_in tile) entry bounded.within there

abbrev HasOtherKey : Entry → Entry → Type 0
HasOtherKey entry other = entry.key ≢ other.key

each_once : (tiles : List Tile) → AreBounded tiles → Pairs IsLower tiles → Pairs HasOtherKey (flat_map entries_in tiles)
each_once [] bounded pairs = tt
each_once (tile ∷ tiles) bounded pairs =
    let own = bounded tile (first_is tile tiles tile refl) in
    let behind = λ (other : Tile) (there : Contains tiles other). bounded other (in_rest tile tiles other there) in
    pairs_append HasOtherKey (entries_in tile) (flat_map entries_in tiles) (pairs_from HasOtherKey (entries_in tile) own.once) (each_once tiles behind pairs.1)
    (λ entry other left right same.
    let found = flat_from entries_in tiles other right in
    not_less tile.hi found.0.lo (pairs.0 found.0 found.1) (key_upto found.0.lo other.key tile.hi (entry_within found.0 (behind found.0 found.1) other found.2).0
    (subst (λ key. IsUpto key tile.hi) same (entry_within tile own entry left).1)))

one_of_key : (entries : List Entry) → Pairs HasOtherKey entries → (entry other : Entry) → Contains entries entry → Contains entries other → entry.key ≡ other.key → entry ≡ other
one_of_key [] pairs entry other left right same = absurd (none_in entry left)
one_of_key (x ∷ entries) pairs entry other left right same =
    grind (arith, first_or_rest x entries entry left, first_or_rest x entries other right, pairs.0 entry, pairs.0 other, one_of_key entries pairs.1 entry other)

-- the last tile has the upper key
last_tile : (tile : Tile) (tiles : List Tile) → (last : Tile) × Contains (tile ∷ tiles) last × (last.hi ≡ upper_key (tile ∷ tiles))
last_tile tile [] = (tile, first_is tile [] tile refl, refl)
last_tile tile (next ∷ tiles) = let last = last_tile next tiles in (last.0, in_rest tile (next ∷ tiles) last.0 last.1, last.2)

end_tiles : (tiles : List Tile) → tiles ≢ [] → ((first : Tile) × Contains tiles first × (first.lo ≡ lower_key tiles)) × ((last : Tile) × Contains tiles last × (last.hi ≡ upper_key tiles))
end_tiles [] some = absurd (some refl)
end_tiles (tile ∷ tiles) some = ((tile, first_is tile tiles tile refl, refl), last_tile tile tiles)

module _ (file : File) (tiled : IsTiled file) where
  bounded : AreBounded file.tiles
  bounded tile there = All-contains IsBounded file.tiles tile tiled.bounded there

  ascending : Pairs IsLower file.tiles
  ascending = pairs_from IsLower file.tiles tiled.ascending

  tile_keys : (tile : Tile) → Contains file.tiles tile → Spans (keys_of file) (record { lo = tile.lo; hi = tile.hi })
  tile_keys tile there = by file.tiles bounded ascending there
    where
      by : (tiles : List Tile) → AreBounded tiles → Pairs IsLower tiles → Contains tiles tile → IsUpto (lower_key tiles) tile.lo × IsUpto tile.hi (upper_key tiles)
      by [] each pairs there = absurd (none_in tile there)
      by (first ∷ tiles) each pairs there =
          let ranges = λ (tile : Tile) (there : Contains (first ∷ tiles) tile). (each tile there).range in
          (lowest (λ tile. tile.lo) (λ tile. tile.hi) first tiles ranges pairs tile there, highest (λ tile. tile.lo) (λ tile. tile.hi) [] (first ∷ tiles) ranges pairs tile there)

  pub keys_ordered : IsUpto (keys_of file).lo (keys_of file).hi
  keys_ordered =
      let first = (end_tiles file.tiles tiled.some).0 in
      subst (λ key. IsUpto key (keys_of file).hi) first.2 (key_upto first.0.lo first.0.hi (keys_of file).hi (bounded first.0 first.1).range (tile_keys first.0 first.1).1)

  pub entry_keys : (entry : Entry) → Contains (entries_of file) entry → IsWithin (keys_of file).lo (keys_of file).hi entry.key
  entry_keys entry there =
      let found = flat_from entries_in file.tiles entry there in
      spans_through (keys_of file) (record { lo = found.0.lo; hi = found.0.hi }) (record { lo = entry.key; hi = entry.key }) (tile_keys found.0 found.1) (entry_within found.0 (bounded found.0 found.1) entry found.2)

  -- no key stands twice in it
  pub file_once : (entry other : Entry) → Contains (entries_of file) entry → Contains (entries_of file) other → entry.key ≡ other.key → entry ≡ other
  file_once = one_of_key (entries_of file) (each_once file.tiles bounded ascending)

  -- its two keys are those of two of its entries, where those of its tiles are
  pub ends_held : ((tile : Tile) → Contains file.tiles tile → IsTight tile)
      → ((first : Entry) × Contains (entries_of file) first × (first.key ≡ (keys_of file).lo)) × ((last : Entry) × Contains (entries_of file) last × (last.key ≡ (keys_of file).hi))
  ends_held tight =
      let ends = end_tiles file.tiles tiled.some in
      let low = (tight ends.0.0 ends.0.1).lo in
      let high = (tight ends.1.0 ends.1.1).hi in
      ((low.0, flat_in entries_in file.tiles ends.0.0 low.0 ends.0.1 low.1, low.2 ∙ ends.0.2), (high.0, flat_in entries_in file.tiles ends.1.0 high.0 ends.1.1 high.1, high.2 ∙ ends.1.2))
