-- The images of a disk while a record is written behind the closed gate that ends the segment.
use Rattle.std.proofs.Common.{◌≡◌, inl, ℕ, ◌+◌, List, [], ◌∷◌, ◌++◌, length, Some, sym, ◌∙◌, ap, subst, arith, length-append}
use Rattle.std.specs.Prelude.{unwrap_or}
use Rattle.std.specs.FinMap.{insert}
use Rattle.lethe_base.specs.declared.name.Name.{Name}
use Rattle.lethe_disk.specs.Directory.{Directory, object, written, write_in, IsWritten}
use Rattle.lethe_disk.specs.Disk.{Seen, Image, IsSynced}
use Rattle.lethe_disk.specs.Runs.{Leads, Throughout}
use Rattle.lethe_disk.proofs.Objects.{object_inserted}
use Rattle.lethe_disk.proofs.Moments.{leads_start, leads_weaker}
use Rattle.lethe_commit.specs.Append.{Addition, IsReady, HasRecords}
use Rattle.lethe_commit.proofs.Writes.{written_itself, written_wider}
use Rattle.lethe_chain.specs.Chains.{waiting_bytes, IsWaiting, IsOpened}
use Rattle.lethe_chain.proofs.Bytes.{torn_behind, written_behind}
use Rattle.lethe_chain.proofs.Records.{front_of, tail_of, segment-front, waiting-gate, front_long, shut_records}

module _ (segment : Name) (at : ℕ) (body : List ℕ) (a : Addition) (old : Seen) (ready : IsReady old segment at body a) where
  place : length (front_of a) ≡ at
  place = front_long at a ready.ends.place

  held : (d : Directory) → Image old d → object d segment ≡ Some (front_of a ++ 0 ∷ [])
  held d here = ready.ends.spelled d here ∙ ap Some (segment-front a)

  kept : (d : Directory) → Image old d → HasRecords segment a.number a.records d
  kept d here = shut_records segment a d 0 [] (λ e. omega (arith, e)) (held d here)

  kept_behind : (n : ℕ) (d c : Directory) → Image old d → IsWritten segment (at + 1) n d c → HasRecords segment a.number a.records c
  kept_behind n d c here step =
      let torn = step.torn (front_of a ++ 0 ∷ []) (held d here) in
      let behind = torn_behind (front_of a) at place n torn.0 torn.2 in
      shut_records segment a c 0 behind.0 (λ e. omega (arith, e)) (torn.1 ∙ ap Some behind.1)

  pub at_start : Leads (IsOpened segment at (length body + 2) a) old old
  at_start = leads_start (IsOpened segment at (length body + 2) a) old (λ d here. record { written = written_itself segment at (length body + 2) d; either = inl (kept d here) })

  pub unopened_at_start : Throughout (HasRecords segment a.number a.records) old old
  unopened_at_start m c low high left =
      let is : m ≡ old.moment = omega (arith, low, high) in
      kept c (subst (λ k. old.left k c) is left)

  module _ (behind : ℕ) (bytes : List ℕ) (behind_is : behind ≡ at + 1) (bytes_are : bytes ≡ body ++ 0 ∷ []) (new : Seen) where
    long : length bytes ≡ length body + 1
    long = ap length bytes_are ∙ length-append body (0 ∷ [])

    -- At each moment of the write and the sync

    module _ (run : Leads (IsWritten segment behind (length bytes)) old new) where
      run_behind : Leads (IsWritten segment (at + 1) (length bytes)) old new
      run_behind = subst (λ k. Leads (IsWritten segment k (length bytes)) old new) behind_is run

      pub after_record : Leads (IsOpened segment at (length body + 2) a) old new
      after_record = leads_weaker (IsWritten segment (at + 1) (length bytes)) (IsOpened segment at (length body + 2) a) old new run_behind (λ d c here step. record {
        written = written_wider segment at (at + 1) (length bytes) (length body + 2) d c (omega arith) (omega (arith, long)) step;
        either = inl (kept_behind (length bytes) d c here step);
      })

      pub unopened_record : Throughout (HasRecords segment a.number a.records) old new
      unopened_record m c low high left = let d = run_behind.each m c low high left in kept_behind (length bytes) d.0 c d.1 d.2

    -- Behind them

    module _ (here : Image old old.directory) (done : new.directory ≡ write_in old.directory segment behind bytes) where
      bytes_tail : bytes ≡ tail_of a
      bytes_tail = bytes_are ∙ ap (λ (l : List ℕ). l ++ 0 ∷ []) ready.bytes

      pub waiting_now : new.directory ≡ insert old.directory segment (waiting_bytes a)
      waiting_now = done
          ∙ ap (λ k. write_in old.directory segment k bytes) behind_is
          ∙ ap (λ (l : List ℕ). write_in old.directory segment (at + 1) l) bytes_tail
          ∙ ap (λ o. insert old.directory segment (written (unwrap_or o []) (at + 1) (tail_of a))) (held old.directory here)
          ∙ ap (insert old.directory segment) (written_behind (front_of a) at place (tail_of a) ∙ sym (waiting-gate a))

      pub waits_now : IsSynced new → IsWaiting new segment at a
      waits_now synced = record {
        ascends = ready.ends.ascends;
        spelled = ready.spelled;
        above = ready.above;
        waiting = λ c now. ap (λ x. object x segment) (synced c now ∙ waiting_now) ∙ object_inserted old.directory segment (waiting_bytes a);
        place = ready.ends.place;
      }
