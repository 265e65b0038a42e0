-- Which directories spell what is stored.
use Rattle.std.specs.Prelude.{◌≡◌, ◌<◌, ℕ, List, Some, None, IfSome, All, Contains}
use Rattle.lethe_base.specs.declared.name.Name.{Name}
use Rattle.lethe_disk.specs.Directory.{Directory, object}
use Rattle.lethe_manifest.specs.Manifests.{manifest_bytes}
use Rattle.lethe_commit.specs.Append.{HasRecords}
use Rattle.lethe_commit.specs.Gates.{gate_name}
use Rattle.lethe_commit.specs.Switch.{manifest_name, HasGreatest}
use Rattle.lethe_stored.specs.Files.{objects_of}
use Rattle.lethe_stored.specs.Stored.{Stored, Segment, segment_name, IsCited, IsSpare}

-- the segment is there under its number and holds its records, up to the first gate that isn't open
abbrev pub HasSegment : Directory → Segment → Type 0
HasSegment d segment = HasRecords (segment_name segment.no) segment.no segment.records d

-- the object of the name has these bytes
abbrev pub HasObject : Directory → Name × List ℕ → Type 0
HasObject d named = object d named.0 ≡ Some named.1

-- what the manifest cites is there
pub record HasParts (d : Directory) (s : Stored) : Type 0 where
  pub active : HasSegment d s.active
  pub frozen : IfSome s.frozen (HasSegment d)
  pub files : All (HasObject d) (objects_of s.files)

-- the greatest gate names the manifest, which is spelled there, and what this cites is there
pub record Encodes (d : Directory) (s : Stored) : Type 0 where
  pub greatest : HasGreatest (Some s.manifest.no) d
  pub manifest : object d (manifest_name s.manifest.no) ≡ Some (manifest_bytes s.manifest)
  pub parts : HasParts d s

-- the second directory has what is cited as the first has it, and no greater gate
pub record Agrees (s : Stored) (d c : Directory) : Type 0 where
  pub same : (name : Name) → IsCited s name → object c name ≡ object d name
  pub above : (number : ℕ) → s.manifest.no < number → object c (gate_name number) ≡ None

-- the same of whatever the first directory encodes: the second agrees on the greatest gate, its manifest and what this cites
pub record IsBeside (d c : Directory) : Type 0 where
  pub none : HasGreatest None d → HasGreatest None c
  pub agrees : (s : Stored) → Encodes d s → Agrees s d c

-- none of them is cited, or a greater gate
abbrev pub AreSpare : Stored → List Name → Type 0
AreSpare s names = (name : Name) → Contains names name → IsSpare s name
