-- The one spelling of a segment.
use Rattle.std.specs.Prelude.{ℕ, ◌<◌, List, [], ◌∷◌, ◌++◌}
use Rattle.std.specs.Int.{w64, to_be_bytes}
use Rattle.lethe_segment.specs.declared.record.Record.{Record}
use Rattle.lethe_segment.specs.Records.{record_bytes, record_seq, RecordHasSpelling}

-- `LS` and the format
abbrev pub mark : List ℕ
mark = 76 ∷ 83 ∷ 1 ∷ []

-- the mark and the segment's number
unfoldable pub head_bytes : ℕ → List ℕ
head_bytes number = mark ++ to_be_bytes w64 number

-- the records, each behind an open gate
abbrev pub open_records : List Record → List ℕ
open_records [] = []
open_records (r ∷ rs) = (1 ∷ record_bytes r) ++ open_records rs

-- a head, the records and a closed gate
unfoldable pub segment_bytes : ℕ → List Record → List ℕ
segment_bytes number records = (head_bytes number ++ open_records records) ++ 0 ∷ []

-- each has a spelling, and their places strictly ascend from above the last one
abbrev pub Ascends : ℕ → List Record → Type 0
Ascends last [] = Unit {0}
Ascends last (r ∷ rs) = RecordHasSpelling r × (last < record_seq r) × Ascends (record_seq r) rs

-- the place of the last record, if there is one
abbrev pub last_seq : ℕ → List Record → ℕ
last_seq last [] = last
last_seq last (r ∷ rs) = last_seq (record_seq r) rs
