-- What the greatest gate of a directory commits, as plain values, and the layout that this is.
use Rattle.std.specs.Prelude.{◌≡◌, ◌⊎◌, ◌≢◌, ℕ, ◌+◌, ◌<◌, max, List, [], ◌∷◌, ◌++◌, map, filter_map, flat_map, option_to_list, All, AllPairs, Contains, Option, Some, None, option_map}
use Rattle.std.specs.Ordering.{nat_cmp}
use Rattle.std.specs.FinMap as finmap
use Rattle.lethe_base.specs.declared.name.Kind.TheVariants as kinds
use Rattle.lethe_base.specs.declared.name.Name.{Name}
use Rattle.lethe_base.specs.declared.pending.Pending.{Pending}
use Rattle.lethe_base.specs.Layout as layout
use Rattle.lethe_base.specs.Layout.{Layout}
use Rattle.lethe_segment.specs.declared.record.Record.{Record}
use Rattle.lethe_segment.specs.declared.record.Record.TheVariants as of
use Rattle.lethe_segment.specs.Segments.{Ascends, last_seq}
use Rattle.lethe_manifest.specs.declared.manifest.LastCert.{LastCert}
use Rattle.lethe_manifest.specs.declared.manifest.Manifest.{Manifest}
use Rattle.lethe_manifest.specs.Manifests.{HasSpelling}
use Rattle.lethe_commit.specs.Gates.{gate_name}
use Rattle.lethe_commit.specs.Switch.{manifest_name}
use Rattle.lethe_stored.specs.Files.{StoredFile, IsFile, lines_in, cited_of, objects_of, levels_of}

-- a segment of the journal, as it is replayed
pub record Segment : Type 0 where
  pub no : ℕ
  pub records : List Record

-- a manifest, and what it cites
pub record Stored : Type 0 where
  pub manifest : Manifest
  pub frozen : Option Segment
  pub active : Segment
  -- by level; in level 0 from newest to oldest, in the others by key
  pub files : List StoredFile

-- the oldest first
abbrev pub segments_of : Stored → List Segment
segments_of s = option_to_list s.frozen ++ s.active ∷ []

abbrev pub number_of : Segment → ℕ
number_of segment = segment.no

abbrev pub segment_numbers : Stored → List ℕ
segment_numbers s = map number_of (option_to_list s.frozen) ++ s.active.no ∷ []

abbrev pub records_in : Option Segment → List Record
records_in None = []
records_in (Some segment) = segment.records

-- the records of the journal, the oldest first
abbrev pub records_of : Stored → List Record
records_of s = records_in s.frozen ++ s.active.records

-- It has a spelling: the manifest has one and cites these segments and these files, each once, and the places of each segment's
-- records ascend.
pub record IsCoherent (s : Stored) : Type 0 where
  pub spelled : HasSpelling s.manifest
  pub cites : s.manifest.segments ≡ segment_numbers s
  pub once : AllPairs (λ a b. a ≢ b) s.manifest.segments
  pub active : Ascends 0 s.active.records
  pub frozen : Ascends 0 (records_in s.frozen)
  pub files : s.manifest.files ≡ map cited_of s.files
  pub each : All (IsFile s.manifest.next) s.files
  pub files_once : AllPairs (λ a b. a.header.no ≢ b.header.no) s.files
  pub pages_once : AllPairs (λ a b. a.no ≢ b.no) (flat_map lines_in s.files)

-- Names

abbrev pub segment_name : ℕ → Name
segment_name number = record { kind = kinds.Segment; no = number }

-- of the segments, and of the files' headers and pages
abbrev pub part_names : Stored → List Name
part_names s = map segment_name (segment_numbers s) ++ map (λ named. named.0) (objects_of s.files)

-- the gate, its manifest, or what this cites
abbrev pub IsCited : Stored → Name → Type 0
IsCited s name = (name ≡ gate_name s.manifest.no) ⊎ (name ≡ manifest_name s.manifest.no) ⊎ Contains (part_names s) name

-- not cited, and no greater gate
pub record IsSpare (s : Stored) (name : Name) : Type 0 where
  pub uncited : IsCited s name → ⊥
  pub no_gate : (number : ℕ) → s.manifest.no < number → name ≢ gate_name number

-- The layout

abbrev pub plain : Record → layout.Record
plain (of.Entry entry) = layout.Written entry
plain (of.Blind place) = layout.Blind place
plain (of.Erase erase) = layout.Erasing erase

abbrev pub erase_of : Record → Option Pending
erase_of (of.Entry entry) = None
erase_of (of.Blind place) = None
erase_of (of.Erase erase) = Some erase

-- ascending by place, and of equal places the first alone
abbrev pub in_order : List Pending → List Pending
in_order erases = finmap.values (finmap.from_entries {R = nat_cmp} (map (λ erase. (erase.seq, erase)) erases))

-- the manifest's erases, followed by those of the records
abbrev pub pending_of : Stored → List Pending
pending_of s = in_order (s.manifest.erases ++ filter_map erase_of (records_of s))

-- the greatest of the manifest's count and the places of the last records
abbrev pub count_of : Stored → ℕ
count_of s = max s.manifest.count (max (last_seq 0 (records_in s.frozen)) (last_seq 0 s.active.records))

abbrev pub certificate_number : Option LastCert → ℕ
certificate_number None = 0
certificate_number (Some last) = last.number

abbrev pub layout_of : Stored → Layout
layout_of s = record {
  clock = s.manifest.clock;
  count = count_of s;
  next = s.manifest.next;
  certificate = certificate_number s.manifest.certificate;
  pending = pending_of s;
  active = map plain s.active.records;
  frozen = option_map (λ older. map plain older.records) s.frozen;
  levels = levels_of s.manifest.config.levels s.files;
}

-- Steps

-- one record more in the active segment
abbrev pub appended : Stored → Record → Stored
appended s next = record s { active = record s.active { records = s.active.records ++ next ∷ [] } }

-- The active segment is frozen, and an empty one of that number is active. The manifest of that number cites both, and has the count.
abbrev pub froze : Stored → ℕ → ℕ → Stored
froze s segment number = record s {
  manifest = record s.manifest { no = number; count = count_of s; next = number + 1; segments = s.active.no ∷ segment ∷ [] };
  frozen = Some s.active;
  active = record { no = segment; records = [] };
}
