-- The images of a disk while the gate of the record that waits is opened, alone or behind the write of the next record.
use Rattle.std.proofs.Common.{◌≡◌, inl, inr, ℕ, ◌+◌, List, [], ◌∷◌, ◌++◌, length, Some, sym, ◌∙◌, ap, subst, arith, append_assoc, length-append}
use Rattle.std.specs.Prelude.{◌⊎◌, unwrap_or}
use Rattle.std.proofs.lemmas.Bool.{cases_eq}
use Rattle.std.specs.FinMap.{insert}
use Rattle.lethe_base.specs.declared.name.Name.{Name}
use Rattle.lethe_disk.specs.Directory.{Directory, object, written, write_in, IsWritten}
use Rattle.lethe_disk.specs.Disk.{Seen, Image, IsSynced}
use Rattle.lethe_disk.specs.Runs.{Leads}
use Rattle.lethe_disk.proofs.Objects.{object_inserted, insert_again}
use Rattle.lethe_disk.proofs.Moments.{leads_start, leads_weaker, leads_leads}
use Rattle.lethe_segment.specs.declared.record.Record.{Record}
use Rattle.lethe_segment.specs.Records.{record_bytes}
use Rattle.lethe_segment.specs.Segments.{segment_bytes, Ascends, last_seq}
use Rattle.lethe_commit.specs.Append.{Addition, longer, EndsAt, HasRecords}
use Rattle.lethe_commit.proofs.Writes.{written_itself, written_wider, written_then}
use Rattle.lethe_chain.specs.Chains.{waiting_bytes, end_of, IsWaiting, IsBehind, IsOpened}
use Rattle.lethe_chain.proofs.Bytes.{torn_behind, written_behind, torn_gate, written_gate}
use Rattle.lethe_chain.proofs.Records.{front_of, tail_of, segment-opened, waiting-gate, gate-end, front_long, end_long, longer_long, ascends_push, last_pushed, shut_records, open_records_too}

module _ (segment : Name) (at : ℕ) (a : Addition) (old : Seen) (waits : IsWaiting old segment at a) where
  place : length (front_of a) ≡ at
  place = front_long at a waits.place

  -- the segment with a closed gate, the record that waits, and what stands behind the closed gate of its own
  abbrev waiting_then : List ℕ → List ℕ
  waiting_then rest = front_of a ++ 0 ∷ (record_bytes a.next ++ 0 ∷ rest)

  held : (d : Directory) → Image old d → object d segment ≡ Some (waiting_then [])
  held d here = waits.waiting d here ∙ ap Some (waiting-gate a)

  kept : (d : Directory) → Image old d → HasRecords segment a.number a.records d
  kept d here = shut_records segment a d 0 (tail_of a) (λ e. omega (arith, e)) (held d here)

  pub at_start : (n : ℕ) → Leads (IsOpened segment at n a) old old
  at_start n = leads_start (IsOpened segment at n a) old (λ d here. record { written = written_itself segment at n d; either = inl (kept d here) })

  -- a write of the gate leaves it open or not
  opened_or_not : (rest : List ℕ) (e c : Directory) → object e segment ≡ Some (waiting_then rest) → IsWritten segment at 1 e c → HasRecords segment a.number a.records c ⊎ HasRecords segment a.number (longer a) c
  opened_or_not rest e c is step =
      let torn = step.torn (waiting_then rest) is in
      let gate = torn_gate (front_of a) at place (record_bytes a.next ++ 0 ∷ rest) torn.0 torn.2 in
      let there : object c segment ≡ Some (front_of a ++ gate.0 ∷ (record_bytes a.next ++ 0 ∷ rest)) = torn.1 ∙ ap Some gate.1 in
      elim (cases_eq gate.0 1) [
        | inl open_gate ↦ inr (open_records_too segment a c rest (there ∙ ap (λ g. Some (front_of a ++ g ∷ (record_bytes a.next ++ 0 ∷ rest))) open_gate))
        | inr shut_gate ↦ inl (shut_records segment a c gate.0 (record_bytes a.next ++ 0 ∷ rest) shut_gate there)
      ]

  written_open : (rest : List ℕ) (e : Directory) → object e segment ≡ Some (waiting_then rest) → write_in e segment at (1 ∷ []) ≡ insert e segment (front_of a ++ 1 ∷ (record_bytes a.next ++ 0 ∷ rest))
  written_open rest e is = ap (λ o. insert e segment (written (unwrap_or o []) at (1 ∷ []))) is ∙ ap (insert e segment) (written_gate (front_of a) at place (record_bytes a.next ++ 0 ∷ rest))

  -- The gate alone

  module _ (new : Seen) where
    pub after_gate : Leads (IsWritten segment at 1) old new → Leads (IsOpened segment at 1 a) old new
    after_gate run = leads_weaker (IsWritten segment at 1) (IsOpened segment at 1 a) old new run (λ d c here step. record { written = step; either = opened_or_not [] d c (held d here) step })

    module _ (here : Image old old.directory) (done : new.directory ≡ write_in old.directory segment at (1 ∷ [])) where
      pub opened_now : new.directory ≡ insert old.directory segment (segment_bytes a.number (longer a))
      opened_now = done ∙ written_open [] old.directory (held old.directory here) ∙ ap (insert old.directory segment) (segment-opened a)

      pub ends_now : IsSynced new → EndsAt new segment a.number (longer a) (end_of at a)
      ends_now synced = record {
        ascends = ascends_push 0 a.records a.next waits.ascends waits.spelled waits.above;
        spelled = λ c now. ap (λ x. object x segment) (synced c now ∙ opened_now) ∙ object_inserted old.directory segment (segment_bytes a.number (longer a));
        place = longer_long at a place;
      }

  -- The next record, and then the gate

  module _ (end : ℕ) (end_is : end ≡ end_of at a) where
    end_place : length (front_of a ++ 0 ∷ record_bytes a.next) ≡ end
    end_place = end_long at a 0 place ∙ sym end_is

    held_end : (d : Directory) → Image old d → object d segment ≡ Some ((front_of a ++ 0 ∷ record_bytes a.next) ++ 0 ∷ [])
    held_end d here = held d here ∙ ap Some (sym (gate-end a 0 []))

    module _ (behind : ℕ) (bytes body : List ℕ) (behind_is : behind ≡ end + 1) (bytes_are : bytes ≡ body ++ 0 ∷ []) (mid : Seen) where
      -- how many bytes are written: the gate, the record that waits, its closed gate, the next record and its closed gate
      abbrev range : ℕ
      range = length (record_bytes a.next) + length body + 3

      long : length bytes ≡ length body + 1
      long = ap length bytes_are ∙ length-append body (0 ∷ [])

      record IsBehindEnd (d c : Directory) : Type 0 where
        written : IsWritten segment at range d c
        rest : List ℕ
        is : object c segment ≡ Some (waiting_then rest)

      behind_end : (d c : Directory) → Image old d → IsWritten segment behind (length bytes) d c → IsBehindEnd d c
      behind_end d c here step =
          let at_end : IsWritten segment (end + 1) (length bytes) d c = subst (λ k. IsWritten segment k (length bytes) d c) behind_is step in
          let torn = at_end.torn ((front_of a ++ 0 ∷ record_bytes a.next) ++ 0 ∷ []) (held_end d here) in
          let left = torn_behind (front_of a ++ 0 ∷ record_bytes a.next) end end_place (length bytes) torn.0 torn.2 in
          record {
            written = written_wider segment at behind (length bytes) range d c (omega (arith, behind_is, end_is)) (omega (arith, behind_is, end_is, long)) step;
            rest = left.0;
            is = torn.1 ∙ ap Some (left.1 ∙ gate-end a 0 left.0);
          }

      still_shut : (d c : Directory) → IsBehindEnd d c → IsOpened segment at range a d c
      still_shut d c left = record { written = left.written; either = inl (shut_records segment a c 0 (record_bytes a.next ++ 0 ∷ left.rest) (λ e. omega (arith, e)) left.is) }

      -- at each moment of the two writes and the sync

      module _ (run : Leads (IsWritten segment behind (length bytes)) old mid) where
        run_behind : Leads IsBehindEnd old mid
        run_behind = leads_weaker (IsWritten segment behind (length bytes)) IsBehindEnd old mid run behind_end

        pub after_next : Leads (IsOpened segment at range a) old mid
        after_next = leads_weaker IsBehindEnd (IsOpened segment at range a) old mid run_behind (λ d c here left. still_shut d c left)

        pub after_both : (new : Seen) → Leads (IsWritten segment at 1) mid new → Leads (IsOpened segment at range a) old new
        after_both new gate = leads_leads IsBehindEnd (IsWritten segment at 1) (IsOpened segment at range a) old mid new run_behind gate still_shut (λ d e c here left step. record {
          written = written_then segment at range d e c left.written (written_wider segment at at 1 range e c (omega arith) (omega arith) step);
          either = opened_or_not left.rest e c left.is step;
        })

      -- behind them

      module _ (here : Image old old.directory) (done : mid.directory ≡ write_in old.directory segment behind bytes) where
        staged : mid.directory ≡ insert old.directory segment (waiting_then bytes)
        staged = done
            ∙ ap (λ k. write_in old.directory segment k bytes) behind_is
            ∙ ap (λ o. insert old.directory segment (written (unwrap_or o []) (end + 1) bytes)) (held_end old.directory here)
            ∙ ap (insert old.directory segment) (written_behind (front_of a ++ 0 ∷ record_bytes a.next) end end_place bytes ∙ gate-end a 0 bytes)

        staged_object : object mid.directory segment ≡ Some (waiting_then bytes)
        staged_object = ap (λ x. object x segment) staged ∙ object_inserted old.directory segment (waiting_then bytes)

        module _ (b : Addition) (next : IsBehind a body b) (new : Seen) (opened : new.directory ≡ write_in mid.directory segment at (1 ∷ [])) where
          next_bytes : front_of a ++ 1 ∷ (record_bytes a.next ++ 0 ∷ bytes) ≡ waiting_bytes b
          next_bytes =
              sym (ap (λ (l : List ℕ). front_of a ++ 1 ∷ l) (append_assoc (record_bytes a.next) (0 ∷ []) bytes))
              ∙ sym (append_assoc (front_of a) (1 ∷ tail_of a) bytes)
              ∙ ap (λ (l : List ℕ). l ++ bytes) (segment-opened a)
              ∙ ap (λ (l : List ℕ). segment_bytes a.number (longer a) ++ l) (bytes_are ∙ ap (λ (l : List ℕ). l ++ 0 ∷ []) next.bytes)
              ∙ sym (ap (λ n. segment_bytes n b.records ++ tail_of b) next.number ∙ ap (λ (l : List Record). segment_bytes a.number l ++ tail_of b) next.records)

          pub waiting_now : new.directory ≡ insert old.directory segment (waiting_bytes b)
          waiting_now = opened
              ∙ written_open bytes mid.directory staged_object
              ∙ ap (insert mid.directory segment) next_bytes
              ∙ ap (λ x. insert x segment (waiting_bytes b)) staged
              ∙ insert_again old.directory segment (waiting_then bytes) (waiting_bytes b)

          pub waits_now : IsSynced new → IsWaiting new segment end b
          waits_now synced = record {
            ascends = subst (Ascends 0) (sym next.records) (ascends_push 0 a.records a.next waits.ascends waits.spelled waits.above);
            spelled = next.spelled;
            above = omega (arith, next.above, ap (last_seq 0) next.records, last_pushed 0 a.records a.next);
            waiting = λ c now. ap (λ x. object x segment) (synced c now ∙ waiting_now) ∙ object_inserted old.directory segment (waiting_bytes b);
            place = omega (arith, end_is, longer_long at a place, ap (λ n. length (segment_bytes n b.records)) next.number, ap (λ (l : List Record). length (segment_bytes a.number l)) next.records);
          }
