-- A record is appended to a segment.
use Rattle.std.specs.Prelude.{◌≡◌, ◌<◌, ◌≤◌, ◌⊎◌, ◌↔◌, ◌+◌, ℕ, List, [], ◌∷◌, ◌++◌, length, Some}
use Rattle.lethe_base.specs.declared.name.Name.{Name}
use Rattle.lethe_disk.specs.Directory.{Directory, object, IsWritten}
use Rattle.lethe_disk.specs.Disk.{Seen, Image}
use Rattle.lethe_segment.specs.declared.record.Record.{Record}
use Rattle.lethe_segment.specs.Records.{record_bytes, record_seq, RecordHasSpelling}
use Rattle.lethe_segment.specs.Segments.{segment_bytes, Ascends, last_seq}
use Rattle.lethe_segment.specs.Holding.{Holds}

-- a segment's number and records, and the record that comes behind them
pub record Addition : Type 0 where
  pub number : ℕ
  pub records : List Record
  pub next : Record

-- the records with the new one
abbrev pub longer : Addition → List Record
longer a = a.records ++ a.next ∷ []

-- in every image the segment is one and the same spelling, whose closed gate byte at this place ends it
pub record EndsAt (disk : Seen) (segment : Name) (number : ℕ) (records : List Record) (at : ℕ) : Type 0 where
  pub ascends : Ascends 0 records
  pub spelled : (c : Directory) → Image disk c → object c segment ≡ Some (segment_bytes number records)
  pub place : at + 1 ≡ length (segment_bytes number records)

-- so it is, and these bytes are the spelling of the new record, whose place is above all others
pub record IsReady (disk : Seen) (segment : Name) (at : ℕ) (body : List ℕ) (a : Addition) : Type 0 where
  pub ends : EndsAt disk segment a.number a.records at
  pub spelled : RecordHasSpelling a.next
  pub above : last_seq 0 a.records < record_seq a.next
  pub bytes : body ≡ record_bytes a.next

-- the segment is there and holds these records
pub record HasRecords (segment : Name) (number : ℕ) (records : List Record) (left : Directory) : Type 0 where
  pub bytes : List ℕ
  pub there : object left segment ≡ Some bytes
  pub holds : Holds number records bytes

-- every other object, and every byte of the segment before the gate, is as it was, nothing is longer than
-- what was to be written, and the segment has its old records, or the new one too
pub record IsAppended (segment : Name) (at : ℕ) (a : Addition) (old left : Directory) : Type 0 where
  pub written : IsWritten segment at (length (record_bytes a.next) + 2) old left
  pub either : HasRecords segment a.number a.records left ⊎ HasRecords segment a.number (longer a) left

-- at each moment of a run, up to this many device calls, a crash leaves the old records alone
abbrev pub KeepsUnopened : Name → Addition → ℕ → Seen → Seen → Type 0
KeepsUnopened segment a calls old new = (m : ℕ) (c : Directory) → old.moment ≤ m → m ≤ new.moment → m ≤ old.moment + calls → new.left m c → HasRecords segment a.number a.records c

-- nothing was changed, and no device call was taken
pub record IsUntouched (old new : Seen) : Type 0 where
  pub moment : new.moment ≡ old.moment
  pub directory : new.directory ≡ old.directory
  pub images : (c : Directory) → Image new c ↔ Image old c
