-- A segment that is written record by record.
use Rattle.std.proofs.Common.{◌≡◌, ◌<◌, ℕ, ◌+◌, zero, suc, List, [], ◌∷◌, ◌++◌, length, take, get_or, sym, ap, ◌∙◌, append_assoc, arith}
use Rattle.std.proofs.lemmas.List.{take_more}
use Rattle.lethe_segment.specs.declared.record.Record.{Record}
use Rattle.lethe_segment.specs.Records.{record_bytes, record_seq, RecordHasSpelling}
use Rattle.lethe_segment.specs.Segments.{open_records, Ascends}
use Rattle.lethe_segment.proofs.Loop.{open_records-push}

pub spelled_at : (last : ℕ) (records : List Record) (i : ℕ) (d : Record) → Ascends last records → i < length records → RecordHasSpelling (get_or records i d)
spelled_at last [] i d up lt = absurd (omega arith)
spelled_at last (r ∷ records) zero d up lt = up.0
spelled_at last (r ∷ records) (suc i) d up lt = spelled_at (record_seq r) records i d up.2 (omega arith)

pub one_written : (head out body : List ℕ) (records : List Record) (i : ℕ) (r : Record) → i < length records → r ≡ get_or records i r → out ≡ head ++ open_records (take i records) → body ≡ record_bytes r
    → (out ++ 1 ∷ []) ++ body ≡ head ++ open_records (take (i + 1) records)
one_written head out body records i r lt is so_far spelled =
    append_assoc out (1 ∷ []) body ∙ ap (λ o. o ++ 1 ∷ body) so_far ∙ append_assoc head (open_records (take i records)) (1 ∷ body) ∙ ap (λ b. head ++ (open_records (take i records) ++ 1 ∷ b)) spelled
    ∙ ap (λ l. head ++ l) (sym (open_records-push (take i records) r) ∙ ap open_records (ap (λ x. take i records ++ x ∷ []) is ∙ sym (take_more records i r lt)))
