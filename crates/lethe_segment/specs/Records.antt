-- The one spelling of a record.
use Rattle.std.specs.Prelude.{ℕ, List, ◌∷◌}
use Rattle.std.specs.Int.{w64, to_be_bytes}
use Rattle.lethe_base.specs.Spelling.{entry_bytes, HasSpelling, IsPlace}
use Rattle.lethe_base.specs.Erases.{erase_bytes, IsErase}
use Rattle.lethe_segment.specs.declared.record.Record.{Record}
use Rattle.lethe_segment.specs.declared.record.Record.TheVariants as of

-- an entry is spelled as in a page, an erase as in a manifest behind a byte of 4
unfoldable pub record_bytes : Record → List ℕ
record_bytes (of.Entry entry) = entry_bytes entry
record_bytes (of.Blind seq) = 3 ∷ to_be_bytes w64 seq
record_bytes (of.Erase erase) = 4 ∷ erase_bytes erase

-- the place of the change
abbrev pub record_seq : Record → ℕ
record_seq (of.Entry entry) = entry.seq
record_seq (of.Blind seq) = seq
record_seq (of.Erase erase) = erase.seq

abbrev pub RecordHasSpelling : Record → Type 0
RecordHasSpelling (of.Entry entry) = HasSpelling entry
RecordHasSpelling (of.Blind seq) = IsPlace seq
RecordHasSpelling (of.Erase erase) = IsErase erase
