-- What has to be known of a job's inputs and of the files beside them.
use Rattle.std.specs.Prelude.{◌≡◌, ℕ, ◌==◌, ◌&&◌, not, Bool, List, ◌∷◌, map, filter, flat_map}
use Rattle.std.specs.List.{list_any}
use Rattle.std.specs.Ordering.{is_le}
use Rattle.lethe_base.specs.Keys.{key_cmp}
use Rattle.lethe_base.specs.declared.name.Name.{Name}
use Rattle.lethe_file.specs.Agreement.{page_name}
use Rattle.lethe_header.specs.Facts.{least_key, greatest_key}
use Rattle.lethe_stored.specs.Files.{StoredFile, file_name, lines_in}
use Rattle.lethe_install.specs.Placed.{is_among}
use Rattle.lethe_install.specs.declared.inputs.Inputs.{Inputs}

abbrev pub number_of : StoredFile → ℕ
number_of file = file.header.no

-- a source has a key that isn't below all keys of the file
abbrev pub is_reached : List StoredFile → StoredFile → Bool
is_reached sources file = list_any (λ source. is_le (key_cmp (least_key file.header.tiles) (greatest_key source.header.tiles))) sources

-- it stands in the level, above the sources
abbrev pub is_above : ℕ → List StoredFile → StoredFile → Bool
is_above level sources file = file.level == level && not (is_reached sources file)

-- the names of its header and its pages
abbrev pub names_of : StoredFile → List Name
names_of file = file_name file.header.no ∷ map (λ line. page_name line.no) (lines_in file)

-- the files with these numbers
abbrev pub numbered : List ℕ → List StoredFile → List StoredFile
numbered numbers files = filter (λ file. is_among numbers file.header.no) files

-- of all files, which stand above the sources, and the names of those that go
pub record AreInputs (level : ℕ) (sources files : List StoredFile) (inputs : Inputs) : Type 0 where
  pub above : inputs.above.items ≡ map number_of (filter (is_above level sources) files)
  pub names : inputs.names.items ≡ flat_map names_of (numbered inputs.numbers.items files)
