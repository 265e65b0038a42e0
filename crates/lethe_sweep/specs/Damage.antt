-- Pages that a sweep tells as damaged.
use Rattle.std.specs.Prelude.{ℕ, Bool, IsTrue, List, zip, Contains}
use Rattle.lethe_base.specs.Ranges.{Ends}
use Rattle.lethe_base.specs.declared.name.Name.{Name}
use Rattle.lethe_header.specs.Facts.{lines_of}
use Rattle.lethe_header.specs.declared.header.PageLine.{PageLine}
use Rattle.lethe_header.specs.declared.header.TileLine.{TileLine}
use Rattle.lethe_file.specs.Damage.{IsDamagedAs}
use Rattle.lethe_sweep.specs.Fences.{is_fetched}

-- The name is that of a page that the sweep fetches, whose bytes are another page's.
pub record IsDamagedFor (tells : Type 0) (alone : Bool) (range : Ends) (tiles : List TileLine) (pages : List (List ℕ)) (name : Name) : Type 0 where
  pub tile : TileLine
  pub there : Contains tiles tile
  pub line : PageLine
  pub of_tile : Contains tile.pages line
  pub fetched : IsTrue (is_fetched alone range tile.pages line)
  pub bytes : List ℕ
  pub page : Contains (zip (lines_of tiles) pages) (line, bytes)
  pub damaged : IsDamagedAs tells name line bytes
