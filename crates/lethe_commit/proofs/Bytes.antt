-- A segment's bytes in the course of an append.
use Rattle.std.proofs.Common.{◌≡◌, ◌<◌, ℕ, ◌+◌, List, [], ◌∷◌, ◌++◌, length, get_or, take, drop, refl, sym, ◌∙◌, ap, arith, append_assoc, length-append, take-append-drop}
use Rattle.std.proofs.lemmas.List.{take_at, drop_at, drop_more, take_all, drop_all, append-nil}
use Rattle.lethe_disk.specs.Directory.{Torn, written}
use Rattle.lethe_segment.specs.declared.record.Record.{Record}
use Rattle.lethe_segment.specs.Records.{record_bytes, record_seq, RecordHasSpelling}
use Rattle.lethe_segment.specs.Segments.{head_bytes, open_records, segment_bytes, Ascends, last_seq}

-- What is in front of the closing gate, and what an append puts behind it.

abbrev pub front_of : ℕ → List Record → List ℕ
front_of number records = head_bytes number ++ open_records records

abbrev pub tail_of : Record → List ℕ
tail_of next = record_bytes next ++ 0 ∷ []

pub segment-front : (number : ℕ) (records : List Record) → segment_bytes number records ≡ front_of number records ++ 0 ∷ []
unfolding segment_bytes
segment-front number records = refl

pub open_records-push : (records : List Record) (next : Record) → open_records (records ++ next ∷ []) ≡ open_records records ++ 1 ∷ record_bytes next
open_records-push [] next = ap (λ (l : List ℕ). 1 ∷ l) (append-nil (record_bytes next))
open_records-push (r ∷ records) next = ap (λ (l : List ℕ). (1 ∷ record_bytes r) ++ l) (open_records-push records next) ∙ sym (append_assoc (1 ∷ record_bytes r) (open_records records) (1 ∷ record_bytes next))

-- behind an open gate it is the spelling with the new record
pub segment-longer : (number : ℕ) (records : List Record) (next : Record) → front_of number records ++ 1 ∷ tail_of next ≡ segment_bytes number (records ++ next ∷ [])
segment-longer number records next =
    sym (append_assoc (front_of number records) (1 ∷ record_bytes next) (0 ∷ []))
    ∙ ap (λ (l : List ℕ). l ++ 0 ∷ []) (append_assoc (head_bytes number) (open_records records) (1 ∷ record_bytes next))
    ∙ ap (λ (l : List ℕ). (head_bytes number ++ l) ++ 0 ∷ []) (sym (open_records-push records next))
    ∙ sym (segment-front number (records ++ next ∷ []))

pub ascends_push : (last : ℕ) (records : List Record) (next : Record) → Ascends last records → RecordHasSpelling next → last_seq last records < record_seq next → Ascends last (records ++ next ∷ [])
ascends_push last [] next up spelled above = (spelled, above, tt)
ascends_push last (r ∷ records) next up spelled above = (up.0, up.1, ascends_push (record_seq r) records next up.2 spelled above)

-- The two writes, where the gate is at this place.

module _ (front : List ℕ) (at : ℕ) (place : length front ≡ at) where
  gate_long : (gate : ℕ) → length (front ++ gate ∷ []) ≡ at + 1
  gate_long gate = length-append front (gate ∷ []) ∙ ap (λ k. k + 1) place

  -- the closed gate stands in each outcome of the first
  pub torn_behind : (n : ℕ) (left : List ℕ) → Torn (at + 1) n (front ++ 0 ∷ []) left → (rest : List ℕ) × (left ≡ front ++ 0 ∷ rest)
  torn_behind n left torn =
      let kept : take (at + 1) left ≡ front ++ 0 ∷ [] = torn.before ∙ take_all (at + 1) (front ++ 0 ∷ []) (omega (arith, gate_long 0)) in
      (drop (at + 1) left, sym (take-append-drop (at + 1) left) ∙ ap (λ (l : List ℕ). l ++ drop (at + 1) left) kept ∙ append_assoc front (0 ∷ []) (drop (at + 1) left))

  pub written_behind : (tail : List ℕ) → written (front ++ 0 ∷ []) (at + 1) tail ≡ front ++ 0 ∷ tail
  written_behind tail =
      ap (λ (l : List ℕ). l ++ tail ++ drop (at + 1 + length tail) (front ++ 0 ∷ [])) (take_all (at + 1) (front ++ 0 ∷ []) (omega (arith, gate_long 0)))
      ∙ ap (λ (l : List ℕ). (front ++ 0 ∷ []) ++ tail ++ l) (drop_all (at + 1 + length tail) (front ++ 0 ∷ []) (omega (arith, gate_long 0)))
      ∙ append-nil ((front ++ 0 ∷ []) ++ tail)
      ∙ append_assoc front (0 ∷ []) tail

  behind_gate : (tail : List ℕ) (gate : ℕ) → drop (at + 1) (front ++ gate ∷ tail) ≡ tail
  behind_gate tail gate = ap (drop (at + 1)) (sym (append_assoc front (gate ∷ []) tail)) ∙ drop_at (front ++ gate ∷ []) tail (at + 1) (gate_long gate)

  -- what stands behind the gate is whole in each outcome of the second
  pub torn_gate : (tail left : List ℕ) → Torn at 1 (front ++ 0 ∷ tail) left → (gate : ℕ) × (left ≡ front ++ gate ∷ tail)
  torn_gate tail left torn =
      let gate = get_or left at 0 in
      let long : length (front ++ 0 ∷ tail) ≡ at + (length tail + 1) = length-append front (0 ∷ tail) ∙ omega (arith, place) in
      let rest : drop at left ≡ gate ∷ tail = drop_more left at 0 (omega (arith, long, torn.no_shorter)) ∙ ap (λ (l : List ℕ). gate ∷ l) (torn.after ∙ behind_gate tail 0) in
      (gate, sym (take-append-drop at left) ∙ ap (λ (l : List ℕ). l ++ drop at left) (torn.before ∙ take_at front (0 ∷ tail) at place) ∙ ap (λ (l : List ℕ). front ++ l) rest)

  pub written_gate : (tail : List ℕ) → written (front ++ 0 ∷ tail) at (1 ∷ []) ≡ front ++ 1 ∷ tail
  written_gate tail =
      ap (λ (l : List ℕ). l ++ (1 ∷ []) ++ drop (at + 1) (front ++ 0 ∷ tail)) (take_at front (0 ∷ tail) at place)
      ∙ ap (λ (l : List ℕ). front ++ (1 ∷ []) ++ l) (behind_gate tail 0)
      ∙ append_assoc front (1 ∷ []) tail
