-- A segment's bytes with a record that waits, and the records that are read from them.
use Rattle.std.proofs.Common.{◌≡◌, ◌≢◌, ◌<◌, ℕ, ◌+◌, List, [], ◌∷◌, ◌++◌, length, Some, refl, sym, ◌∙◌, ap, arith, append_assoc, length-append}
use Rattle.std.proofs.lemmas.List.{append-nil}
use Rattle.lethe_base.specs.declared.name.Name.{Name}
use Rattle.lethe_disk.specs.Directory.{Directory, object}
use Rattle.lethe_segment.specs.declared.record.Record.{Record}
use Rattle.lethe_segment.specs.Records.{record_bytes, record_seq, RecordHasSpelling}
use Rattle.lethe_segment.specs.Segments.{head_bytes, open_records, segment_bytes, Ascends, last_seq}
use Rattle.lethe_commit.specs.Append.{Addition, longer, HasRecords}
use Rattle.lethe_chain.specs.Chains.{waiting_bytes, end_of}

-- what stands in front of the gate, and the record with its own closed gate
abbrev pub front_of : Addition → List ℕ
front_of a = head_bytes a.number ++ open_records a.records

abbrev pub tail_of : Addition → List ℕ
tail_of a = record_bytes a.next ++ 0 ∷ []

pub segment-front : (a : Addition) → segment_bytes a.number a.records ≡ front_of a ++ 0 ∷ []
unfolding segment_bytes
segment-front a = refl

open_records-push : (records : List Record) (next : Record) → open_records (records ++ next ∷ []) ≡ open_records records ++ 1 ∷ record_bytes next
open_records-push [] next = ap (λ (l : List ℕ). 1 ∷ l) (append-nil (record_bytes next))
open_records-push (r ∷ records) next = ap (λ (l : List ℕ). (1 ∷ record_bytes r) ++ l) (open_records-push records next) ∙ sym (append_assoc (1 ∷ record_bytes r) (open_records records) (1 ∷ record_bytes next))

-- behind an open gate the record is one of the records
front-longer : (a : Addition) → front_of a ++ 1 ∷ record_bytes a.next ≡ head_bytes a.number ++ open_records (longer a)
front-longer a = append_assoc (head_bytes a.number) (open_records a.records) (1 ∷ record_bytes a.next) ∙ ap (λ (l : List ℕ). head_bytes a.number ++ l) (sym (open_records-push a.records a.next))

opened-parts : (a : Addition) (rest : List ℕ) → front_of a ++ 1 ∷ (record_bytes a.next ++ rest) ≡ (head_bytes a.number ++ open_records (longer a)) ++ rest
opened-parts a rest = sym (append_assoc (front_of a) (1 ∷ record_bytes a.next) rest) ∙ ap (λ (l : List ℕ). l ++ rest) (front-longer a)

pub segment-opened : (a : Addition) → front_of a ++ 1 ∷ tail_of a ≡ segment_bytes a.number (longer a)
unfolding segment_bytes
segment-opened a = opened-parts a (0 ∷ [])

-- two ways to see the segment with the record that waits: its own gate, and the closed gate behind it
pub waiting-gate : (a : Addition) → waiting_bytes a ≡ front_of a ++ 0 ∷ tail_of a
waiting-gate a = ap (λ (l : List ℕ). l ++ tail_of a) (segment-front a) ∙ append_assoc (front_of a) (0 ∷ []) (tail_of a)

pub gate-end : (a : Addition) (gate : ℕ) (rest : List ℕ) → (front_of a ++ gate ∷ record_bytes a.next) ++ 0 ∷ rest ≡ front_of a ++ gate ∷ (record_bytes a.next ++ 0 ∷ rest)
gate-end a gate rest = append_assoc (front_of a) (gate ∷ record_bytes a.next) (0 ∷ rest)

-- Places

pub front_long : (at : ℕ) (a : Addition) → at + 1 ≡ length (segment_bytes a.number a.records) → length (front_of a) ≡ at
front_long at a place = omega (arith, place, ap length (segment-front a), length-append (front_of a) (0 ∷ []))

pub end_long : (at : ℕ) (a : Addition) (gate : ℕ) → length (front_of a) ≡ at → length (front_of a ++ gate ∷ record_bytes a.next) ≡ end_of at a
end_long at a gate long = omega (arith, long, length-append (front_of a) (gate ∷ record_bytes a.next))

pub longer_long : (at : ℕ) (a : Addition) → length (front_of a) ≡ at → end_of at a + 1 ≡ length (segment_bytes a.number (longer a))
longer_long at a long = omega (arith, long, ap length (segment-opened a), length-append (front_of a) (1 ∷ tail_of a), length-append (record_bytes a.next) (0 ∷ []))

-- The order of the records

pub ascends_push : (last : ℕ) (records : List Record) (next : Record) → Ascends last records → RecordHasSpelling next → last_seq last records < record_seq next → Ascends last (records ++ next ∷ [])
ascends_push last [] next up spelled above = (spelled, above, tt)
ascends_push last (r ∷ records) next up spelled above = (up.0, up.1, ascends_push (record_seq r) records next up.2 spelled above)

pub last_pushed : (last : ℕ) (records : List Record) (next : Record) → last_seq last (records ++ next ∷ []) ≡ record_seq next
last_pushed last [] next = refl
last_pushed last (r ∷ records) next = last_pushed (record_seq r) records next

-- What is read

pub shut_records : (segment : Name) (a : Addition) (c : Directory) (gate : ℕ) (rest : List ℕ) → gate ≢ 1 → object c segment ≡ Some (front_of a ++ gate ∷ rest) → HasRecords segment a.number a.records c
shut_records segment a c gate rest shut is = record { bytes = front_of a ++ gate ∷ rest; there = is; holds = record { rest = gate ∷ rest; parts = refl; shut = shut } }

pub open_records_too : (segment : Name) (a : Addition) (c : Directory) (rest : List ℕ) → object c segment ≡ Some (front_of a ++ 1 ∷ (record_bytes a.next ++ 0 ∷ rest)) → HasRecords segment a.number (longer a) c
open_records_too segment a c rest is = record { bytes = front_of a ++ 1 ∷ (record_bytes a.next ++ 0 ∷ rest); there = is; holds = record { rest = 0 ∷ rest; parts = opened-parts a (0 ∷ rest); shut = λ e. omega (arith, e) } }
