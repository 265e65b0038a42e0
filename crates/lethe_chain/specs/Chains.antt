-- Records are appended one behind another. The one that was appended last waits behind a closed gate, which is opened with the next.
use Rattle.std.specs.Prelude.{◌≡◌, ◌<◌, ◌⊎◌, ◌+◌, ℕ, List, [], ◌∷◌, ◌++◌, length, Some}
use Rattle.lethe_base.specs.declared.name.Name.{Name}
use Rattle.lethe_disk.specs.Directory.{Directory, object, IsWritten}
use Rattle.lethe_disk.specs.Disk.{Seen, Image}
use Rattle.lethe_segment.specs.Records.{record_bytes, record_seq, RecordHasSpelling}
use Rattle.lethe_segment.specs.Segments.{segment_bytes, Ascends, last_seq}
use Rattle.lethe_commit.specs.Append.{Addition, longer, HasRecords}

-- the segment's bytes with a record that waits behind the closed gate, with a closed gate of its own
abbrev pub waiting_bytes : Addition → List ℕ
waiting_bytes a = segment_bytes a.number a.records ++ (record_bytes a.next ++ 0 ∷ [])

-- In every image the segment is one and the same: its records, the closed gate at this place, and behind it the record that waits and its own closed gate.
pub record IsWaiting (disk : Seen) (segment : Name) (at : ℕ) (a : Addition) : Type 0 where
  pub ascends : Ascends 0 a.records
  pub spelled : RecordHasSpelling a.next
  pub above : last_seq 0 a.records < record_seq a.next
  pub waiting : (c : Directory) → Image disk c → object c segment ≡ Some (waiting_bytes a)
  pub place : at + 1 ≡ length (segment_bytes a.number a.records)

-- the place of the closed gate behind the record that waits
abbrev pub end_of : ℕ → Addition → ℕ
end_of at a = at + 1 + length (record_bytes a.next)

-- the record of this place in the history waits behind its gate, and its own closed gate stands at the end
pub record Waits (disk : Seen) (segment : Name) (at end seq : ℕ) : Type 0 where
  pub addition : Addition
  pub waits : IsWaiting disk segment at addition
  pub ends : end ≡ end_of at addition
  pub place : record_seq addition.next ≡ seq

-- these bytes are the spelling of the record behind the one that waits
pub record IsBehind (a : Addition) (body : List ℕ) (b : Addition) : Type 0 where
  pub number : b.number ≡ a.number
  pub records : b.records ≡ longer a
  pub spelled : RecordHasSpelling b.next
  pub above : record_seq a.next < record_seq b.next
  pub bytes : body ≡ record_bytes b.next

-- Every other object is as it was, and of the segment every byte outside of so many from the gate on; it has its old records, or the one that waited too.
pub record IsOpened (segment : Name) (at n : ℕ) (a : Addition) (old left : Directory) : Type 0 where
  pub written : IsWritten segment at n old left
  pub either : HasRecords segment a.number a.records left ⊎ HasRecords segment a.number (longer a) left
