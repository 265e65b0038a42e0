-- The files that readers have.
use Rattle.std.specs.Prelude.{◌≡◌, ◌==◌, ◌<◌, ℕ, List, [], ◌++◌, length, map, filter, slice_index_or, All, IsSome}
use Rattle.std.specs.List.Sorted.{IsPermutation}
use Rattle.lethe_disk.specs.declared.disk.Disk.{Ghosts}
use Rattle.lethe_disk.specs.Directory.{Directory, object, content}
use Rattle.lethe_version.specs.Agreement.{page_name}
use Rattle.lethe_version.specs.FileView.{FileView}
use Rattle.lethe_header.specs.Facts.{lines_of}
use Rattle.lethe_header.specs.declared.header.Header.{Header}
use Rattle.lethe_stored.specs.Files.{Parts}
use Rattle.lethe_version.specs.Order.{is_kept}
use Rattle.lethe_version.specs.Versions.{bytes_of, levels_of}
use Rattle.lethe_version.specs.declared.new_file.NewFile.{NewFile}
use Rattle.lethe_version.specs.declared.version.Version.{Version}
use Rattle.lethe_advance.specs.declared.new_header.NewHeader.{NewHeader}

-- a file as its readers have it
abbrev pub parts_in : {D Page Port : Type 0} {disk : Ghosts D Page Port} → FileView D Page Port disk → Parts
parts_in file = record { header = file.header; pages = bytes_of file }

-- a version's files by level
abbrev pub parts_by_level : {D Page Port : Type 0} {disk : Ghosts D Page Port} → Version D Page Port disk → List (List Parts)
parts_by_level version = map (map parts_in) (levels_of version)

-- the pages of a header are there
abbrev pub HasPages : Directory → Header → Type 0
HasPages d header = All (λ line. IsSome (object d (page_name line.no))) (lines_of header.tiles)

-- the header with the bytes that its pages have in a directory
abbrev pub parts_at : Directory → Header → Parts
parts_at d header = record { header = header; pages = map (λ line. content d (page_name line.no)) (lines_of header.tiles) }

-- the files whose numbers aren't among these
abbrev pub parts_without : List ℕ → List Parts → List Parts
parts_without merged files = filter (λ file. is_kept merged file.header) files

-- a file that is added, with its level
pub record NewParts : Type 0 where
  pub level : ℕ
  pub parts : Parts

abbrev pub new_parts : {D Page Port : Type 0} {disk : Ghosts D Page Port} → NewFile D Page Port disk → NewParts
new_parts new = record { level = new.level; parts = parts_in new.file }

abbrev pub new_parts_at : Directory → NewHeader → NewParts
new_parts_at d new = record { level = new.level; parts = parts_at d new.header }

-- of files that are added, those that come into the level
abbrev pub in_level : ℕ → List NewParts → List Parts
in_level level added = map (λ new. new.parts) (filter (λ new. new.level == level) added)

-- the levels without the files of some numbers and with files added; within a level in whatever order
pub record AreLevelsWith (merged : List ℕ) (added : List NewParts) (old new : List (List Parts)) : Type 0 where
  pub count : length new ≡ length old
  pub each : (level : ℕ) → level < length old → IsPermutation (parts_without merged (slice_index_or old level []) ++ in_level level added) (slice_index_or new level [])
