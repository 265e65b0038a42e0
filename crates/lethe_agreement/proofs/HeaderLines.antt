-- The lines of a header that has a spelling.
use Rattle.std.proofs.Common.{List, [], ◌∷◌, All}
use Rattle.std.proofs.lemmas.List.Elements.{All-append, All-head, All-nil, All-tail}
use Rattle.lethe_header.specs.Facts.{lines_of}
use Rattle.lethe_header.specs.Headers.{HasSpelling, IsLine, IsTile, LineFollows}
use Rattle.lethe_header.specs.declared.header.Header.{Header}
use Rattle.lethe_header.specs.declared.header.TileLine.{TileLine}
use Rattle.lethe_header.proofs.Follows.{follows_at}
use Rattle.lethe_header.proofs.Lines.{are_tiles}

pub tile_lines : (tile : TileLine) → IsTile tile → All IsLine tile.pages
tile_lines tile is k d lt = (follows_at LineFollows tile.pages k d is.lines lt).itself

all_lines : (tiles : List TileLine) → All IsTile tiles → All IsLine (lines_of tiles)
all_lines [] are = All-nil IsLine
all_lines (tile ∷ tiles) are =
    All-append IsLine tile.pages (lines_of tiles) (tile_lines tile (All-head IsTile tile tiles are)) (all_lines tiles (All-tail IsTile tile tiles are))

pub header_lines : (header : Header) → HasSpelling header → All IsLine (lines_of header.tiles)
header_lines header fits = all_lines header.tiles (are_tiles header.tiles fits.tiles)
