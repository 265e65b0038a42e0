-- The parts of a file, one by one.
use Rattle.std.specs.Prelude.{◌≡◌, ◌*◌, ◌<◌, ◌≤◌, List, length, All, AllPairs}
use Rattle.std.specs.List.{AllZip}
use Rattle.std.specs.declared.cmp.Ordering.TheVariants.{Less}
use Rattle.lethe_base.specs.Configuration.{IsConfig}
use Rattle.lethe_base.specs.Entries.{IsAscending}
use Rattle.lethe_base.specs.Keys.{key_cmp}
use Rattle.lethe_base.specs.Layout as layout
use Rattle.lethe_base.specs.Spelling as spelling
use Rattle.lethe_base.specs.declared.config.Fields.{Fields}
use Rattle.lethe_base.specs.declared.entry.Entry.{Entry}
use Rattle.lethe_page.specs.Pages as pages
use Rattle.lethe_tile.specs.Woven.{IsTile}
use Rattle.lethe_header.specs.Headers.{IsLine, max_tile_entries}
use Rattle.lethe_header.specs.declared.header.PageLine.{PageLine}
use Rattle.lethe_header.specs.declared.header.TileLine.{TileLine}
use Rattle.lethe_file.specs.Agreement.{Agrees, fence_of}
use Rattle.lethe_build.specs.Built.{class_of, spelled}

-- entries that make a page of a tile
pub record IsPage (entries : List Entry) : Type 0 where
  pub has_spelling : pages.HasSpelling (class_of entries) entries
  pub few : length entries ≤ max_tile_entries

-- the line of the page of these entries
pub record IsLineOf (entries : List Entry) (line : PageLine) : Type 0 where
  pub itself : IsLine line
  pub class : line.class ≡ class_of entries
  pub len : line.entries ≡ length entries
  pub fence : line.fence ≡ fence_of entries
  pub agrees : Agrees line (spelled entries)

-- a tile that a configuration makes of some entries
pub record IsWhole (tile : layout.Tile) : Type 0 where
  pub fields : Fields
  pub config : IsConfig fields
  pub entries : List Entry
  pub some : 0 < length entries
  pub few : length entries ≤ fields.page * fields.tile
  pub ascending : IsAscending entries
  pub each : All spelling.HasSpelling entries
  pub is : IsTile fields.page entries tile

-- the line of a tile
pub record IsTileLineOf (tile : layout.Tile) (line : TileLine) : Type 0 where
  pub lo : line.lo ≡ tile.lo
  pub hi : line.hi ≡ tile.hi
  pub pages : AllZip IsLineOf tile.pages line.pages

-- each key of the tile is below each of the other
abbrev pub IsBelow : layout.Tile → layout.Tile → Type 0
IsBelow tile other = key_cmp tile.hi other.lo ≡ Less

-- neighbouring tiles, as many as a file may have
pub record IsGroup (tiles : List layout.Tile) : Type 0 where
  pub some : 0 < length tiles
  pub few : length tiles ≤ 256
  pub whole : All IsWhole tiles
  pub below : AllPairs IsBelow tiles
