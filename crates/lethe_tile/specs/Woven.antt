-- Entries woven into tiles. A tile's puts stand in pages by their delete keys, so that an erase of a range of delete keys
-- drops whole pages; inside a page they stand by their keys. (The key weaving of Sarkar, Papon, Staratzis and Athanassoulis.)
use Rattle.std.specs.Prelude.{◌≡◌, ℕ, ◌*◌, ◌-◌, not, List, [], ◌∷◌, ◌++◌, length, filter, flat_map, slice_get, Option, Some, option_map, All, AllPairs, IsPermutation}
use Rattle.std.specs.List.{AllZip, IsDistinct}
use Rattle.std.specs.Int.{IsInRange}
use Rattle.std.specs.declared.cmp.Ordering.{Ordering}
use Rattle.std.specs.declared.cmp.Ordering.TheVariants.{Less}
use Rattle.std.specs.Ordering.{nat_cmp, ordering_then}
use Rattle.lethe_base.specs.Keys.{Bytes, key_cmp, same_key}
use Rattle.lethe_base.specs.Entries.{IsAscending}
use Rattle.lethe_base.specs.Shapes.{is_tomb}
use Rattle.lethe_base.specs.Layout as layout
use Rattle.lethe_base.specs.declared.config.Fields.{Fields}
use Rattle.lethe_base.specs.declared.entry.Body.{Body}
use Rattle.lethe_base.specs.declared.entry.Body.TheVariants.{Put, Tomb}
use Rattle.lethe_base.specs.declared.entry.Entry.{Entry}
use Rattle.lethe_tile.specs.declared.weaving.Tile.{Tile}

-- a tile of the code, as a layout has it
abbrev pub plain : Tile → layout.Tile
plain tile = record { lo = tile.lo; hi = tile.hi; pages = tile.pages }

-- the parts end to end
abbrev pub joined : {X : Type 0} → List (List X) → List X
joined parts = flat_map (λ part. part) parts

-- every part but the last has `most` items, and the last has from 1 to `most`
abbrev pub IsCut : {X : Type 0} → ℕ → List (List X) → Type 0
IsCut most [] = Unit {0}
IsCut most (last ∷ []) = IsInRange 1 most (length last)
IsCut most (part ∷ next ∷ parts) = (length part ≡ most) × IsCut most (next ∷ parts)

abbrev pub puts_of : List Entry → List Entry
puts_of entries = filter (λ entry. not (is_tomb entry.body)) entries

abbrev pub tombs_of : List Entry → List Entry
tombs_of entries = filter (λ entry. is_tomb entry.body) entries

-- the page of the tombstones, where there are any
abbrev pub page_of : List Entry → List (List Entry)
page_of [] = []
page_of (tomb ∷ tombs) = (tomb ∷ tombs) ∷ []

-- the delete key of a put, and 0 where there is none
abbrev pub dkey_of : Body → ℕ
dkey_of (Put dkey value) = dkey
dkey_of Tomb = 0

-- by delete keys, and equal ones by the keys
abbrev pub weave_cmp : Entry → Entry → Ordering
weave_cmp entry other = ordering_then (nat_cmp (dkey_of entry.body) (dkey_of other.body)) (key_cmp entry.key other.key)

abbrev pub ComesBefore : Entry → Entry → Type 0
ComesBefore entry other = weave_cmp entry other ≡ Less

-- each entry of the page comes before each of the other
abbrev pub IsBelow : List Entry → List Entry → Type 0
IsBelow page other = All (λ entry. All (ComesBefore entry) other) page

-- no two entries have one key
abbrev pub HaveDistinctKeys : List Entry → Type 0
HaveDistinctKeys entries = IsDistinct (λ entry other. same_key entry.key other.key) entries

-- pages of so many of these puts, each put in exactly one page
pub record IsPaged (page : ℕ) (puts : List Entry) (pages : List (List Entry)) : Type 0 where
  pub lengths : IsCut page pages
  pub once : IsPermutation puts (joined pages)
  pub ascending : All IsAscending pages
  pub below : AllPairs IsBelow pages

abbrev pub key_at : ℕ → List Entry → Option Bytes
key_at place entries = option_map (λ entry. entry.key) (slice_get entries place)

-- a tile of these entries: the tombstones in their order, where there are any, and behind them the pages of the puts
pub record IsTile (page : ℕ) (entries : List Entry) (tile : layout.Tile) : Type 0 where
  pub lo : key_at 0 entries ≡ Some tile.lo
  pub hi : key_at (length entries - 1) entries ≡ Some tile.hi
  pub pages : List (List Entry)
  pub is : tile.pages ≡ page_of (tombs_of entries) ++ pages
  pub paged : IsPaged page (puts_of entries) pages

-- the tiles of consecutive slices of the entries
pub record IsWoven (fields : Fields) (entries : List Entry) (tiles : List layout.Tile) : Type 0 where
  pub slices : List (List Entry)
  pub consecutive : joined slices ≡ entries
  pub lengths : IsCut (fields.page * fields.tile) slices
  pub each : AllZip (IsTile fields.page) slices tiles

-- entries in order are woven in one way
abbrev pub OneWeave : Type 0
OneWeave =
    (fields : Fields) (entries : List Entry) (a b : List layout.Tile) → IsAscending entries → IsWoven fields entries a → IsWoven fields entries b → a ≡ b
