-- What lines say together, as they are counted one after another.
use Rattle.std.proofs.Common.{◌≡◌, ◌+◌, ◌*◌, ◌≤◌, List, ◌++◌, length}
use Rattle.lethe_header.specs.Facts.{sums_of, lines_of}
use Rattle.lethe_header.specs.Headers.{entries_in, max_tile_entries}
use Rattle.lethe_header.specs.declared.facts.Sums.{Sums}
use Rattle.lethe_header.specs.declared.header.PageLine.{PageLine}
use Rattle.lethe_header.specs.declared.header.TileLine.{TileLine}

-- the sums of what was counted before and of these lines
pub record AreSums (first sums : Sums) (lines : List PageLine) : Type 0 where
  pub counted : (before : List PageLine) → first ≡ sums_of before → sums ≡ sums_of (before ++ lines)
  pub entries : sums.entries ≡ first.entries + entries_in lines
  pub tombs : sums.tombs ≤ first.tombs + entries_in lines

-- the sums of the lines of so many tiles, of which each has not too many entries
pub record AreTileSums (sums : Sums) (tiles : List TileLine) : Type 0 where
  pub counted : sums ≡ sums_of (lines_of tiles)
  pub entries : sums.entries ≤ max_tile_entries * length tiles
  pub tombs : sums.tombs ≤ max_tile_entries * length tiles
