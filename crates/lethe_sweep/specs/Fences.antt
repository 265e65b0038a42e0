-- What a sweep by a range of delete keys does with the pages of a tile, as far as their lines tell.
use Rattle.std.specs.Prelude.{ℕ, ◌&&◌, ◌||◌, Bool, true, false, not, nat_le, nat_lt, List, map, filter, flat_map, count_by, sum_by, Option, Some, None}
use Rattle.std.specs.List.{list_any}
use Rattle.lethe_base.specs.Ranges.{Ends}
use Rattle.lethe_header.specs.Headers.{is_puts}
use Rattle.lethe_header.specs.declared.header.PageLine.{PageLine}
use Rattle.lethe_header.specs.declared.header.TileLine.{TileLine}

-- a delete key between the two of the fence, both included, is in the range
abbrev pub is_across : Ends → Option (ℕ × ℕ) → Bool
is_across range None = false
is_across range (Some fence) = nat_lt fence.0 range.hi && nat_le range.lo fence.1

-- all of them are
abbrev pub is_within : Ends → Option (ℕ × ℕ) → Bool
is_within range None = false
is_within range (Some fence) = nat_le range.lo fence.0 && nat_lt fence.1 range.hi

-- the page's fence meets the range; a page of tombstones has no fence, and meets none
abbrev pub meets : Ends → PageLine → Bool
meets range line = is_across range line.fence

-- the page's fence lies inside the range
abbrev pub is_inside : Ends → PageLine → Bool
is_inside range line = is_within range line.fence

-- a page of the tile meets the range
abbrev pub is_met : Ends → List PageLine → Bool
is_met range lines = list_any (meets range) lines

-- The page is fetched. In a file that is alone these are the pages that only meet the range; in another one, of each tile that a page
-- meets, the pages that meet and the tombstones.
abbrev pub is_fetched : Bool → Ends → List PageLine → PageLine → Bool
is_fetched true range lines line = meets range line && not (is_inside range line)
is_fetched false range lines line = is_met range lines && (meets range line || not (is_puts line.class))

-- the page stays as it is
abbrev pub is_kept : Bool → Ends → List PageLine → PageLine → Bool
is_kept alone range lines line = not (meets range line) && not (is_fetched alone range lines line)

-- how many pages of these tiles are fetched
abbrev pub fetches_of : Bool → Ends → List TileLine → ℕ
fetches_of alone range tiles = sum_by (λ tile. count_by (is_fetched alone range tile.pages) tile.pages) tiles

-- the numbers of the pages that stay, and of all others
abbrev pub kept_numbers : Bool → Ends → List TileLine → List ℕ
kept_numbers alone range tiles = flat_map (λ tile. map (λ line. line.no) (filter (is_kept alone range tile.pages) tile.pages)) tiles

abbrev pub dropped_numbers : Bool → Ends → List TileLine → List ℕ
dropped_numbers alone range tiles = flat_map (λ tile. map (λ line. line.no) (filter (λ line. not (is_kept alone range tile.pages line)) tile.pages)) tiles
