-- The images of a disk through an append: the record is written behind the closed gate, then the gate is opened.
use Rattle.std.proofs.Common.{◌≡◌, ◌≤◌, ◌<◌, inl, inr, ℕ, ◌+◌, List, [], ◌∷◌, ◌++◌, length, Some, refl, sym, ◌∙◌, ap, subst, arith, length-append}
use Rattle.std.specs.Prelude.{Result, Ok, Err, OnOk, IsErrOf, IsSomeAnd, unwrap_or}
use Rattle.std.proofs.lemmas.Bool.{cases_eq}
use Rattle.std.specs.FinMap.{insert}
use Rattle.lethe_base.specs.declared.name.Name.{Name}
use Rattle.lethe_disk.specs.declared.disk.DiskRefused.{DiskRefused}
use Rattle.lethe_disk.specs.declared.disk.DiskRefused.TheVariants.{Failed, NoMemory}
use Rattle.lethe_disk.specs.Directory.{Directory, object, content, written, write_in, IsWritten}
use Rattle.lethe_disk.specs.Disk.{Seen, Image, IsSynced}
use Rattle.lethe_disk.specs.Runs.{Leads}
use Rattle.lethe_disk.proofs.Objects.{object_inserted, insert_again, write_written}
use Rattle.lethe_disk.proofs.Moments.{leads_start, leads_weaker, leads_leads}
use Rattle.lethe_segment.specs.Records.{record_bytes}
use Rattle.lethe_segment.specs.Segments.{segment_bytes}
use Rattle.lethe_commit.specs.Append.{Addition, longer, EndsAt, IsReady, HasRecords, IsAppended, KeepsUnopened}
use Rattle.lethe_commit.proofs.Writes.{written_itself, written_wider, written_then}
use Rattle.lethe_commit.proofs.Bytes.{front_of, tail_of, segment-front, segment-longer, ascends_push, torn_behind, written_behind, torn_gate, written_gate}

-- What is known of a result

pub on_ok : {T E : Type 0} (result : Result T E) (P Q : Type 0) → OnOk result P → (P → Q) → OnOk result Q
on_ok (Ok x) P Q p goes = goes p
on_ok (Err e) P Q p goes = tt

pub on_ok_both : {T E : Type 0} (result : Result T E) (P Q : Type 0) → OnOk result P → OnOk result Q → OnOk result (P × Q)
on_ok_both (Ok x) P Q p q = (p, q)
on_ok_both (Err e) P Q p q = tt

-- a call that takes no memory is done or has failed
pub unless_failed : {T : Type 0} (result : Result T DiskRefused) (P Q : Type 0) → OnOk result P → (P → Q) → (IsErrOf result NoMemory → ⊥) → (IsErrOf result Failed → ⊥) → Q
unless_failed (Ok x) P Q p goes memory failed = goes p
unless_failed (Err Failed) P Q p goes memory failed = absurd (failed refl)
unless_failed (Err NoMemory) P Q p goes memory failed = absurd (memory refl)

module _ (segment : Name) (at : ℕ) (body : List ℕ) (a : Addition) (old : Seen) (ready : IsReady old segment at body a) where
  abbrev front : List ℕ
  front = front_of a.number a.records

  abbrev tail : List ℕ
  tail = tail_of a.next

  -- how many bytes are written: the gate, the record and the next gate
  abbrev range : ℕ
  range = length (record_bytes a.next) + 2

  place : length front ≡ at
  place = omega (arith, ready.ends.place, ap length (segment-front a.number a.records), length-append front (0 ∷ []))

  tail_long : length tail ≡ length (record_bytes a.next) + 1
  tail_long = length-append (record_bytes a.next) (0 ∷ [])

  held : (d : Directory) → Image old d → object d segment ≡ Some (front ++ 0 ∷ [])
  held d here = ready.ends.spelled d here ∙ ap Some (segment-front a.number a.records)

  -- Before the gate is opened

  shut_records : (c : Directory) (rest : List ℕ) → object c segment ≡ Some (front ++ 0 ∷ rest) → HasRecords segment a.number a.records c
  shut_records c rest is = record { bytes = front ++ 0 ∷ rest; there = is; holds = record { rest = 0 ∷ rest; parts = refl; shut = λ e. omega (arith, e) } }

  start_records : (d : Directory) → Image old d → HasRecords segment a.number a.records d
  start_records d here = shut_records d [] (held d here)

  first_records : (n : ℕ) (d c : Directory) → Image old d → IsWritten segment (at + 1) n d c → HasRecords segment a.number a.records c
  first_records n d c here step =
      let torn = step.torn (front ++ 0 ∷ []) (held d here) in
      let behind = torn_behind front at place n torn.0 torn.2 in
      shut_records c behind.0 (torn.1 ∙ ap Some behind.1)

  pub at_start : Leads (IsAppended segment at a) old old
  at_start = leads_start (IsAppended segment at a) old (λ d here. record { written = written_itself segment at range d; either = inl (start_records d here) })

  pub unopened_at_start : KeepsUnopened segment a 2 old old
  unopened_at_start m c low high few left =
      let is : m ≡ old.moment = omega (arith, low, high) in
      start_records c (subst (λ k. old.left k c) is left)

  module _ (behind : ℕ) (bytes : List ℕ) (behind_is : behind ≡ at + 1) (bytes_are : bytes ≡ body ++ 0 ∷ []) (mid : Seen) (run : Leads (IsWritten segment behind (length bytes)) old mid) where
    bytes_tail : bytes ≡ tail
    bytes_tail = bytes_are ∙ ap (λ (l : List ℕ). l ++ 0 ∷ []) ready.bytes

    -- the first write, at its place and of its length
    first : Leads (IsWritten segment (at + 1) (length tail)) old mid
    first = subst (λ (l : List ℕ). Leads (IsWritten segment (at + 1) (length l)) old mid) bytes_tail (subst (λ k. Leads (IsWritten segment k (length bytes)) old mid) behind_is run)

    first_wider : (d c : Directory) → IsWritten segment (at + 1) (length tail) d c → IsWritten segment at range d c
    first_wider d c step = written_wider segment at (at + 1) (length tail) range d c (omega arith) (omega (arith, tail_long)) step

    pub after_first : Leads (IsAppended segment at a) old mid
    after_first = leads_weaker (IsWritten segment (at + 1) (length tail)) (IsAppended segment at a) old mid first
        (λ d c here step. record { written = first_wider d c step; either = inl (first_records (length tail) d c here step) })

    pub unopened_first : KeepsUnopened segment a 2 old mid
    unopened_first m c low high few left = let d = first.each m c low high left in first_records (length tail) d.0 c d.1 d.2

    -- once it is synced

    module _ (here : Image old old.directory) (done : mid.directory ≡ write_in old.directory segment behind bytes) where
      held_now : content old.directory segment ≡ front ++ 0 ∷ []
      held_now = ap (λ o. unwrap_or o []) (held old.directory here)

      done_tail : mid.directory ≡ write_in old.directory segment (at + 1) tail
      done_tail = done ∙ ap (λ k. write_in old.directory segment k bytes) behind_is ∙ ap (λ (l : List ℕ). write_in old.directory segment (at + 1) l) bytes_tail

      staged : mid.directory ≡ insert old.directory segment (front ++ 0 ∷ tail)
      staged = done_tail
          ∙ ap (λ (l : List ℕ). insert old.directory segment (written l (at + 1) tail)) held_now
          ∙ ap (insert old.directory segment) (written_behind front at place tail)

      staged_object : object mid.directory segment ≡ Some (front ++ 0 ∷ tail)
      staged_object = ap (λ x. object x segment) staged ∙ object_inserted old.directory segment (front ++ 0 ∷ tail)

      staged_long : at < length (front ++ 0 ∷ tail)
      staged_long = omega (arith, place, length-append front (0 ∷ tail))

      -- the gate's byte lies inside the object
      pub gate_inside : IsSomeAnd (object mid.directory segment) (λ bytes. at ≤ length bytes)
      gate_inside = subst (λ o. IsSomeAnd o (λ bytes. at ≤ length bytes)) (sym staged_object) (omega (arith, staged_long))

      pub gate_before : at < length (content mid.directory segment)
      gate_before = subst (λ (l : List ℕ). at < length l) (sym (ap (λ o. unwrap_or o []) staged_object)) staged_long

      -- The gate

      gate_records : (e c : Directory) → object e segment ≡ Some (front ++ 0 ∷ tail) → IsWritten segment at 1 e c → (d : Directory) → IsAppended segment at a d e → IsAppended segment at a d c
      gate_records e c is step d before =
          let torn = step.torn (front ++ 0 ∷ tail) is in
          let gate = torn_gate front at place tail torn.0 torn.2 in
          let holds : object c segment ≡ Some (front ++ gate.0 ∷ tail) = torn.1 ∙ ap Some gate.1 in
          record {
            written = written_then segment at range d e c before.written (written_wider segment at at 1 range e c (omega arith) (omega arith) step);
            either = elim (cases_eq gate.0 1) [
              | inl open_gate ↦ inr (record {
                bytes = front ++ gate.0 ∷ tail;
                there = holds;
                holds = record { rest = 0 ∷ []; parts = ap (λ g. front ++ g ∷ tail) open_gate ∙ segment-longer a.number a.records a.next ∙ segment-front a.number (longer a); shut = λ e. omega (arith, e) };
              })
              | inr shut_gate ↦ inl (record { bytes = front ++ gate.0 ∷ tail; there = holds; holds = record { rest = gate.0 ∷ tail; parts = refl; shut = shut_gate } })
            ];
          }

      -- the second write, and what it came to

      module _ (synced : IsSynced mid) (new : Seen) (gate : Leads (IsWritten segment at 1) mid new) where
        record Gated (e c : Directory) : Type 0 where
          staged_before : object e segment ≡ Some (front ++ 0 ∷ tail)
          written : IsWritten segment at 1 e c

        gated : Leads Gated mid new
        gated = leads_weaker (IsWritten segment at 1) Gated mid new gate (λ e c here step. record { staged_before = ap (λ x. object x segment) (synced e here) ∙ staged_object; written = step })

        pub after_gate : Leads (IsAppended segment at a) old new
        after_gate = leads_leads (IsAppended segment at a) Gated (IsAppended segment at a) old mid new after_first gated (λ d c before. before) (λ d e c here before step. gate_records e c step.staged_before step.written d before)

        pub unopened_gate : mid.moment ≡ old.moment + 2 → KeepsUnopened segment a 2 old new
        unopened_gate two m c low high few left =
            let early : m ≤ mid.moment = omega (arith, two, few) in
            unopened_first m c low early few ((gate.past m c early).0 left)

        module _ (opened : new.directory ≡ write_in mid.directory segment at (1 ∷ [])) where
          held_mid : content mid.directory segment ≡ front ++ 0 ∷ tail
          held_mid = ap (λ o. unwrap_or o []) staged_object

          pub done_now : new.directory ≡ insert old.directory segment (segment_bytes a.number (longer a))
          done_now = opened
              ∙ ap (λ (l : List ℕ). insert mid.directory segment (written l at (1 ∷ []))) held_mid
              ∙ ap (insert mid.directory segment) (written_gate front at place tail ∙ segment-longer a.number a.records a.next)
              ∙ ap (λ x. insert x segment (segment_bytes a.number (longer a))) staged
              ∙ insert_again old.directory segment (front ++ 0 ∷ tail) (segment_bytes a.number (longer a))

          pub ends_now : IsSynced new → EndsAt new segment a.number (longer a) (at + length body + 1)
          ends_now synced_now = record {
            ascends = ascends_push 0 a.records a.next ready.ends.ascends ready.spelled ready.above;
            spelled = λ c here. ap (λ x. object x segment) (synced_now c here ∙ done_now) ∙ object_inserted old.directory segment (segment_bytes a.number (longer a));
            place = omega (arith, place, tail_long, ap length ready.bytes, ap length (segment-longer a.number a.records a.next), length-append front (1 ∷ tail));
          }

          pub written_now : IsWritten segment at (length body + 2) old.directory new.directory
          written_now =
              let first_write = write_written old.directory segment (at + 1) tail (front ++ 0 ∷ []) (held old.directory here) (omega (arith, place, length-append front (0 ∷ []))) in
              let second_write = write_written mid.directory segment at (1 ∷ []) (front ++ 0 ∷ tail) staged_object (omega (arith, staged_long)) in
              let to_mid : IsWritten segment at range old.directory mid.directory = subst (λ x. IsWritten segment at range old.directory x) (sym done_tail) (first_wider old.directory (write_in old.directory segment (at + 1) tail) first_write) in
              let to_new : IsWritten segment at range mid.directory new.directory = subst (λ x. IsWritten segment at range mid.directory x) (sym opened) (written_wider segment at at 1 range mid.directory (write_in mid.directory segment at (1 ∷ [])) (omega arith) (omega arith) second_write) in
              subst (λ (l : List ℕ). IsWritten segment at (length l + 2) old.directory new.directory) (sym ready.bytes) (written_then segment at range old.directory mid.directory new.directory to_mid to_new)
