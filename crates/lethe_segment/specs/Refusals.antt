-- Why bytes aren't replayed.
use Rattle.std.specs.Prelude.{◌≡◌, ℕ, ◌+◌, ◌≤◌, List, ◌∷◌, ◌++◌, length}
use Rattle.lethe_base.specs.Reading.{StandsAt}
use Rattle.lethe_base.specs.Spelling.{IsPlace}
use Rattle.lethe_base.specs.Erases.{IsErase}
use Rattle.lethe_base.specs.declared.pending.Pending.{Pending}
use Rattle.lethe_base.specs.declared.reading.EntryRefused.{EntryRefused}
use Rattle.lethe_base.specs.declared.reading.EntryRefused.TheVariants.{Short, Kind, NoMemory}
use Rattle.lethe_segment.specs.declared.record.Record.{Record}
use Rattle.lethe_segment.specs.declared.record.Record.TheVariants as of
use Rattle.lethe_segment.specs.declared.replaying.SegmentRefused.{SegmentRefused}
use Rattle.lethe_segment.specs.declared.replaying.SegmentRefused.TheVariants as refused
use Rattle.lethe_segment.specs.Records.{record_bytes, record_seq, RecordHasSpelling}
use Rattle.lethe_segment.specs.Segments.{head_bytes, open_records, Ascends, last_seq}
use Rattle.lethe_segment.specs.Heads.{IsHeadFault}

-- behind a head, these records and an open gate, the rest begins at this place
pub record Reaches (bytes : List ℕ) (records : List Record) (at : ℕ) (rest : List ℕ) : Type 0 where
  pub number : ℕ
  pub parts : bytes ≡ (head_bytes number ++ open_records records) ++ 1 ∷ rest
  pub ascends : Ascends 0 records
  pub place : at + length rest ≡ length bytes

-- behind an open gate no record begins at this place
pub record IsUnread (bytes : List ℕ) (at : ℕ) : Type 0 where
  pub records : List Record
  pub rest : List ℕ
  pub reaches : Reaches bytes records at rest
  pub unread : (r : Record) (behind : List ℕ) → RecordHasSpelling r → rest ≡ record_bytes r ++ behind → ⊥

-- behind an open gate the record at this place isn't above the one before
pub record IsDisordered (bytes : List ℕ) (at : ℕ) : Type 0 where
  pub records : List Record
  pub next : Record
  pub behind : List ℕ
  pub reaches : Reaches bytes records at (record_bytes next ++ behind)
  pub spelled : RecordHasSpelling next
  pub disorder : record_seq next ≤ last_seq 0 records

-- want of memory has no reason in the bytes
abbrev pub HasReason : List ℕ → SegmentRefused → Type 0
HasReason bytes (refused.Header at) = IsHeadFault bytes at
HasReason bytes (refused.Record at) = IsUnread bytes at
HasReason bytes (refused.Order at) = IsDisordered bytes at
HasReason bytes refused.NoMemory = ⊥

-- why no record was read at a place: none stands there, or memory ran out
abbrev pub IsUnreadAt : List ℕ → ℕ → SegmentRefused → Type 0
IsUnreadAt bytes at (refused.Header place) = ⊥
IsUnreadAt bytes at (refused.Record place) = (place ≡ at) × ((r : Record) (end : ℕ) → RecordHasSpelling r → StandsAt (record_bytes r) bytes at end → ⊥)
IsUnreadAt bytes at (refused.Order place) = ⊥
IsUnreadAt bytes at refused.NoMemory = Unit {0}

-- why a record couldn't be read, where the entry at its place couldn't
abbrev pub refusal_of : ℕ → EntryRefused → SegmentRefused
refusal_of at (Short place) = refused.Record at
refusal_of at (Kind place) = refused.Record at
refusal_of at NoMemory = refused.NoMemory

-- a blind delete of this place stands there
abbrev pub IsBlindAt : List ℕ → ℕ → ℕ → ℕ → Type 0
IsBlindAt bytes at seq end = IsPlace seq × StandsAt (record_bytes (of.Blind seq)) bytes at end

abbrev pub IsNoBlindAt : List ℕ → ℕ → Type 0
IsNoBlindAt bytes at = (seq end : ℕ) → IsBlindAt bytes at seq end → ⊥

-- this erase stands there
abbrev pub IsEraseAt : List ℕ → ℕ → Pending → ℕ → Type 0
IsEraseAt bytes at erase end = IsErase erase × StandsAt (record_bytes (of.Erase erase)) bytes at end

abbrev pub IsNoEraseAt : List ℕ → ℕ → Type 0
IsNoEraseAt bytes at = (erase : Pending) (end : ℕ) → IsEraseAt bytes at erase end → ⊥
