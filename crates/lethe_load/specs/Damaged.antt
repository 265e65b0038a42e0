-- What is damaged in a directory. Its objects are looked at in this order: the manifest of the greatest gate, the segments that it cites,
-- then each file's header, followed by the file's pages.
use Rattle.std.specs.Prelude.{◌≡◌, ◌≢◌, ◌⊎◌, ◌<◌, ℕ, List, ◌∷◌, ◌++◌, map, flat_map, All, Any, Contains, Some}
use Rattle.sha2.specs.Sha256.{sha256}
use Rattle.lethe_base.specs.declared.config.Fields.{Fields}
use Rattle.lethe_base.specs.declared.name.Name.{Name}
use Rattle.lethe_disk.specs.Directory.{Directory, object}
use Rattle.lethe_segment.specs.declared.record.Record.{Record}
use Rattle.lethe_segment.specs.Segments.{Ascends}
use Rattle.lethe_header.specs.Facts.{lines_of}
use Rattle.lethe_header.specs.Headers.{EachFollows, header_bytes}
use Rattle.lethe_header.specs.Headers as headers
use Rattle.lethe_header.specs.declared.header.Header.{Header}
use Rattle.lethe_header.specs.declared.header.PageLine.{PageLine}
use Rattle.lethe_header.specs.declared.header.TileLine.{TileLine}
use Rattle.lethe_file.specs.Agreement.{Agrees, IsWithin, HaveNoCommonKey, entries_in, page_name}
use Rattle.lethe_manifest.specs.declared.manifest.Cited.{Cited}
use Rattle.lethe_manifest.specs.declared.manifest.Manifest.{Manifest}
use Rattle.lethe_manifest.specs.Manifests.{manifest_bytes, HasSpelling}
use Rattle.lethe_commit.specs.Append.{HasRecords}
use Rattle.lethe_commit.specs.Switch.{manifest_name, HasGreatest}
use Rattle.lethe_stored.specs.Files.{file_name}
use Rattle.lethe_stored.specs.Levels.{AreRising}
use Rattle.lethe_stored.specs.Stored.{Stored, IsCoherent, segment_name}
use Rattle.lethe_stored.specs.Encodes.{Encodes}

-- in this order the first item that is bad, where those before it are good
pub record IsFirstBad {A : Type 0} (Good : List A → A → Type 0) (items before : List A) (bad : A) : Type 0 where
  pub behind : List A
  pub split : items ≡ before ++ bad ∷ behind
  pub good : EachFollows Good before
  pub is : Good before bad → ⊥

-- The manifest

-- the manifest of this number is spelled there
pub record IsSpelled (d : Directory) (number : ℕ) (m : Manifest) : Type 0 where
  pub spelled : HasSpelling m
  pub own : m.no ≡ number
  pub there : object d (manifest_name number) ≡ Some (manifest_bytes m)

-- the greatest gate names the manifest, which is spelled there
pub record IsGated (d : Directory) (m : Manifest) : Type 0 where
  pub greatest : HasGreatest (Some m.no) d
  pub is : IsSpelled d m.no m

-- the greatest gate names a manifest that is missing, or isn't spelled there under its number
pub record IsDamagedManifest (d : Directory) (name : Name) : Type 0 where
  pub number : ℕ
  pub greatest : HasGreatest (Some number) d
  pub is : name ≡ manifest_name number
  pub damaged : (m : Manifest) → IsSpelled d number m → ⊥

-- Segments

-- the segment of this number is there and holds these records
abbrev pub IsReplayed : Directory → ℕ → List Record → Type 0
IsReplayed d number records = Ascends 0 records × HasRecords (segment_name number) number records d

-- a segment, behind those before it: it is cited for the first time, and there
abbrev pub IsSoundSegment : Directory → List ℕ → ℕ → Type 0
IsSoundSegment d before number = (Contains before number → ⊥) × ((records : List Record) × IsReplayed d number records)

-- of these segments the first that isn't sound
abbrev pub IsDamagedSegment : Directory → List ℕ → Name → Type 0
IsDamagedSegment d segments name = (before : List ℕ) × (number : ℕ) × IsFirstBad (IsSoundSegment d) segments before number × (name ≡ segment_name number)

-- Files

-- the header that a manifest cites is spelled there
pub record IsHeaderOf (d : Directory) (cited : Cited) (header : Header) : Type 0 where
  pub spelled : headers.HasSpelling header
  pub own : header.no ≡ cited.no
  pub there : object d (file_name cited.no) ≡ Some (header_bytes header)
  pub digest : sha256 (header_bytes header) ≡ cited.digest

-- the lines of some tiles, each with its tile
abbrev pub placed_in : List TileLine → List (TileLine × PageLine)
placed_in tiles = flat_map (λ tile. map (λ line. (tile, line)) tile.pages) tiles

abbrev pub placed_lines : Header → List (TileLine × PageLine)
placed_lines header = placed_in header.tiles

-- The page of a line, behind those before it in its file: it is there, its number is below the next and is cited for the first time, and it
-- agrees with its line, its tile and the pages before.
pub record IsSoundPage (d : Directory) (next : ℕ) (taken : ℕ → Type 0) (before : List (TileLine × PageLine)) (item : TileLine × PageLine) : Type 0 where
  pub below : item.1.no < next
  pub once : taken item.1.no → ⊥
  pub new : All (λ other. other.1.no ≢ item.1.no) before
  pub bytes : List ℕ
  pub there : object d (page_name item.1.no) ≡ Some bytes
  pub agrees : Agrees item.1 bytes
  pub within : All (λ entry. IsWithin item.0 entry.key) (entries_in bytes)
  pub apart : All (λ other. (earlier : List ℕ) → object d (page_name other.1.no) ≡ Some earlier → HaveNoCommonKey (entries_in earlier) (entries_in bytes)) before

-- a file that was cited before has the page of this number
abbrev pub IsTakenBy : Directory → List Cited → ℕ → Type 0
IsTakenBy d before number = Any (λ other. (header : Header) × IsHeaderOf d other header × Contains (map (λ line. line.no) (lines_of header.tiles)) number) before

-- a file, behind those before it
pub record IsSoundFile (d : Directory) (next : ℕ) (before : List Cited) (cited : Cited) : Type 0 where
  pub once : All (λ other. other.no ≢ cited.no) before
  pub header : Header
  pub is : IsHeaderOf d cited header
  pub pages : EachFollows (IsSoundPage d next (IsTakenBy d before)) (placed_lines header)

-- the file was cited before, or its header isn't there
pub record HasBadHeader (d : Directory) (before : List Cited) (cited : Cited) (name : Name) : Type 0 where
  pub named : name ≡ file_name cited.no
  pub bad : Any (λ other. other.no ≡ cited.no) before ⊎ ((header : Header) → IsHeaderOf d cited header → ⊥)

-- its header is sound, and this is the first of its pages that isn't
pub record HasBadPage (d : Directory) (next : ℕ) (before : List Cited) (cited : Cited) (name : Name) : Type 0 where
  pub once : All (λ other. other.no ≢ cited.no) before
  pub header : Header
  pub is : IsHeaderOf d cited header
  pub sound : List (TileLine × PageLine)
  pub item : TileLine × PageLine
  pub first : IsFirstBad (IsSoundPage d next (IsTakenBy d before)) (placed_lines header) sound item
  pub named : name ≡ page_name item.1.no

-- of these files the first that isn't sound, and of its objects the first that isn't
pub record IsDamagedFile (d : Directory) (next : ℕ) (files : List Cited) (name : Name) : Type 0 where
  pub before : List Cited
  pub cited : Cited
  pub behind : List Cited
  pub split : files ≡ before ++ cited ∷ behind
  pub good : EachFollows (IsSoundFile d next) before
  pub bad : HasBadHeader d before cited name ⊎ HasBadPage d next before cited name

-- all of it is there, but the files of a level behind level 0 are out of order
pub record IsDisordered (d : Directory) (m : Manifest) (name : Name) : Type 0 where
  pub named : name ≡ manifest_name m.no
  pub s : Stored
  pub coherent : IsCoherent s
  pub encodes : Encodes d s
  pub manifest : s.manifest ≡ m
  pub falls : AreRising s.files → ⊥

-- All

-- of what a manifest cites: a segment, or, where all segments are sound, a file, or the order of the files
abbrev pub IsDamagedPart : Directory → Manifest → Name → Type 0
IsDamagedPart d m name = IsDamagedSegment d m.segments name ⊎ ((EachFollows (IsSoundSegment d) m.segments × IsDamagedFile d m.next m.files name) ⊎ IsDisordered d m name)

-- the first object that is damaged, of the manifest of the greatest gate and what this cites; the latter is looked at in a manifest of the
-- configuration alone
abbrev pub IsDamaged : Fields → Directory → Name → Type 0
IsDamaged config d name = IsDamagedManifest d name ⊎ ((m : Manifest) × IsGated d m × (m.config ≡ config) × IsDamagedPart d m name)
