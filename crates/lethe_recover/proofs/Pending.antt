-- The pending erases of a manifest and of two segments.
use Rattle.std.proofs.Common.{◌≡◌, List, ◌++◌, All, sym, ap, ◌∙◌, append_assoc}
use Rattle.std.specs.Prelude.{filter_map}
use Rattle.std.proofs.lemmas.List.Elements.{All-append, All-contains, filter_map-append}
use Rattle.lethe_base.specs.Erases.{IsErase}
use Rattle.lethe_base.specs.declared.pending.Pending.{Pending}
use Rattle.lethe_segment.specs.Segments.{Ascends}
use Rattle.lethe_segment.specs.declared.record.Record.{Record}
use Rattle.lethe_stored.specs.Stored.{Stored, erase_of, in_order, pending_of, records_in}
use Rattle.lethe_follows.proofs.Erases.{all_in_order, erases_in, in_order_then}

-- those of a manifest's erases and the records, one segment after the other
abbrev pub pending_under : List Pending → List Record → List Record → List Pending
pending_under erases older newer = in_order (in_order (erases ++ filter_map erase_of older) ++ filter_map erase_of newer)

pub pending_is : (s : Stored) (older newer : List Record) → older ≡ records_in s.frozen → newer ≡ s.active.records → pending_under s.manifest.erases older newer ≡ pending_of s
pending_is s older newer older_are newer_are =
    let erases = s.manifest.erases in
    in_order_then (erases ++ filter_map erase_of older) (filter_map erase_of newer)
    ∙ ap in_order (append_assoc erases (filter_map erase_of older) (filter_map erase_of newer) ∙ ap (λ l. erases ++ l) (sym (filter_map-append erase_of older newer)))
    ∙ (λ i. in_order (erases ++ filter_map erase_of (older_are i ++ newer_are i)))

-- Their spelling

more_erases : (erases : List Pending) (records : List Record) → All IsErase erases → Ascends 0 records → All IsErase (in_order (erases ++ filter_map erase_of records))
more_erases erases records each up =
    let all = erases ++ filter_map erase_of records in
    let spelled = All-append IsErase erases (filter_map erase_of records) each (erases_in 0 records up) in
    all_in_order IsErase all (λ erase there. All-contains IsErase all erase spelled there)

pub pending_each : (erases : List Pending) (older newer : List Record) → All IsErase erases → Ascends 0 older → Ascends 0 newer → All IsErase (pending_under erases older newer)
pending_each erases older newer each up_older up_newer = more_erases (in_order (erases ++ filter_map erase_of older)) newer (more_erases erases older each up_older) up_newer
