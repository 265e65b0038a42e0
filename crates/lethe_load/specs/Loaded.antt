-- What is read of a disk, and what of it a directory encodes.
use Rattle.std.specs.Prelude.{◌≡◌, ◌⊎◌, List, [], length, map, All, Option, Some, None}
use Rattle.std.specs.List.{AllZip}
use Rattle.lethe_base.specs.declared.config.Fields.{Fields}
use Rattle.lethe_disk.specs.Directory.{Directory}
use Rattle.lethe_disk.specs.declared.disk.Disk.{Ghosts}
use Rattle.lethe_segment.specs.declared.record.Record.{Record}
use Rattle.lethe_segment.specs.Segments.{Ascends}
use Rattle.lethe_header.specs.Headers as headers
use Rattle.lethe_manifest.specs.declared.manifest.Manifest.{Manifest}
use Rattle.lethe_manifest.specs.Manifests.{HasSpelling}
use Rattle.lethe_commit.specs.Switch.{HasGreatest}
use Rattle.lethe_file.specs.declared.view.FileView.{FileView}
use Rattle.lethe_version.specs.Versions.{bytes_of, levels_of}
use Rattle.lethe_version.specs.declared.version.Version.{Version}
use Rattle.lethe_stored.specs.Files.{Parts, parts_of}
use Rattle.lethe_stored.specs.Levels.{AreRising}
use Rattle.lethe_stored.specs.Stored.{Stored, IsCoherent, segments_of}
use Rattle.lethe_stored.specs.Encodes.{Encodes}
use Rattle.lethe_load.specs.declared.recovered.Recovered.{Recovered}

-- what was read, as plain values
pub record Read : Type 0 where
  pub manifest : Option Manifest
  pub segments : List (List Record)
  pub files : List Parts

-- nothing is there
abbrev pub nothing : Read
nothing = record { manifest = None; segments = []; files = [] }

-- the manifest, the records of each segment that it cites, and its files
abbrev pub read_of : Stored → Read
read_of s = record { manifest = Some s.manifest; segments = map (λ segment. segment.records) (segments_of s); files = map parts_of s.files }

-- a file as its readers have it
abbrev pub parts_in : {D Page Port : Type 0} {disk : Ghosts D Page Port} → FileView D Page Port disk → Parts
parts_in file = record { header = file.header; pages = bytes_of file }

-- a version's files by level
abbrev pub parts_by_level : {D Page Port : Type 0} {disk : Ghosts D Page Port} → Version D Page Port disk → List (List Parts)
parts_by_level version = map (map parts_in) (levels_of version)

abbrev pub shown : {D Page Port : Type 0} {disk : Ghosts D Page Port} → Recovered D Page Port disk → Read
shown read = record { manifest = read.manifest; segments = read.segments; files = map parts_in read.files.items }

-- the manifest and the records have a spelling and are of the configuration, and there is a header of its number for each file that is cited
pub record IsSpelledAs (config : Fields) (m : Manifest) (read : Read) : Type 0 where
  pub manifest : read.manifest ≡ Some m
  pub spelled : HasSpelling m
  pub config_is : m.config ≡ config
  pub segments : length read.segments ≡ length m.segments
  pub ascends : All (Ascends 0) read.segments
  pub files : AllZip (λ cited parts. (parts.header.no ≡ cited.no) × headers.HasSpelling parts.header) m.files read.files

-- nothing, or what a manifest of the configuration cites, whatever the disk may hold
abbrev pub IsSpelledOut : Fields → Read → Type 0
IsSpelledOut config read = (read ≡ nothing) ⊎ ((m : Manifest) × IsSpelledAs config m read)

-- the directory encodes what was read, of this configuration, and the files of each level behind level 0 ascend
pub record IsRead (config : Fields) (d : Directory) (read : Read) : Type 0 where
  pub s : Stored
  pub coherent : IsCoherent s
  pub encodes : Encodes d s
  pub rising : AreRising s.files
  pub config_is : s.manifest.config ≡ config
  pub all : read ≡ read_of s

-- it does, or there is no gate and nothing was read
abbrev pub IsLoaded : Fields → Directory → Read → Type 0
IsLoaded config d read = (HasGreatest None d × (read ≡ nothing)) ⊎ IsRead config d read
