-- The names that a manifest and its files cite.
use Rattle.std.specs.Prelude.{List, ◌∷◌, ◌++◌, map, flat_map}
use Rattle.lethe_base.specs.declared.name.Name.{Name}
use Rattle.lethe_commit.specs.Gates.{gate_name}
use Rattle.lethe_commit.specs.Switch.{manifest_name}
use Rattle.lethe_file.specs.Agreement.{page_name}
use Rattle.lethe_header.specs.Facts.{lines_of}
use Rattle.lethe_header.specs.declared.header.Header.{Header}
use Rattle.lethe_header.specs.declared.header.PageLine.{PageLine}
use Rattle.lethe_manifest.specs.declared.manifest.Manifest.{Manifest}
use Rattle.lethe_stored.specs.Files.{file_name}
use Rattle.lethe_stored.specs.Stored.{segment_name}

abbrev pub line_name : PageLine → Name
line_name line = page_name line.no

-- of a file, its header's and its pages'
abbrev pub names_in : Header → List Name
names_in header = file_name header.no ∷ map line_name (lines_of header.tiles)

-- of a manifest with these files, its gate's and its own, and what it cites
abbrev pub names_of : Manifest → List Header → List Name
names_of m headers = gate_name m.no ∷ manifest_name m.no ∷ (map segment_name m.segments ++ flat_map names_in headers)
