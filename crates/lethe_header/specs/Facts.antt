-- The facts of a file, by its header.
use Rattle.std.specs.Prelude.{ℕ, max, List, [], ◌∷◌, fold, flat_map, sum_by, Option, None, if◌then◌else◌}
use Rattle.lethe_base.specs.Keys.{Bytes}
use Rattle.lethe_base.specs.Shapes.{earlier}
use Rattle.lethe_base.specs.declared.shape.FileFacts.{FileFacts}
use Rattle.lethe_header.specs.Headers.{is_puts, entries_in}
use Rattle.lethe_header.specs.declared.facts.Sums.{Sums}
use Rattle.lethe_header.specs.declared.header.Header.{Header}
use Rattle.lethe_header.specs.declared.header.PageLine.{PageLine}
use Rattle.lethe_header.specs.declared.header.TileLine.{TileLine}

-- the lines of all pages, in order
abbrev pub lines_of : List TileLine → List PageLine
lines_of tiles = flat_map (λ tile. tile.pages) tiles

-- the least time that a line has
abbrev pub oldest_in : List PageLine → Option ℕ
oldest_in lines = fold (λ least line. earlier least line.oldest) None lines

-- the entries of the pages of tombstones
abbrev pub tombs_in : List PageLine → ℕ
tombs_in lines = sum_by (λ line. if is_puts line.class then 0 else line.entries) lines

abbrev pub max_seq_in : List PageLine → ℕ
max_seq_in lines = fold (λ most line. max most line.max_seq) 0 lines

-- what the lines say together
abbrev pub sums_of : List PageLine → Sums
sums_of lines = record { oldest = oldest_in lines; tombs = tombs_in lines; entries = entries_in lines; max_seq = max_seq_in lines }

-- the first tile's least key
abbrev pub least_key : List TileLine → Bytes
least_key [] = []
least_key (tile ∷ tiles) = tile.lo

-- the last tile's greatest key
abbrev pub greatest_key : List TileLine → Bytes
greatest_key tiles = fold (λ before tile. tile.hi) [] tiles

abbrev pub facts_of : ℕ → ℕ → Header → FileFacts
facts_of level swept header = record {
  no = header.no;
  level = level;
  lo = least_key header.tiles;
  hi = greatest_key header.tiles;
  oldest = oldest_in (lines_of header.tiles);
  tombs = tombs_in (lines_of header.tiles);
  entries = entries_in (lines_of header.tiles);
  max_seq = max_seq_in (lines_of header.tiles);
  swept = swept;
}
