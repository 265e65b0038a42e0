use Rattle.std.proofs.Common.{◌≡◌, ℕ, ◌+◌, List, [], length, ap, ◌∙◌, rules, arith}
use Rattle.lethe_memdisk.specs.Held.{Held, seen_of}
use Rattle.lethe_segment.specs.declared.record.Record.{Record}
use Rattle.lethe_segment.specs.Records.{record_bytes, record_seq, RecordHasSpelling}
use Rattle.lethe_commit.specs.Append.{Addition, EndsAt, IsReady}
use Rattle.lethe_chain.specs.Chains.{IsWaiting, Waits}
use Rattle.lethe_test_chain.specs.declared.disks.TheConstants.{SEGMENT}
use Rattle.lethe_test_chain.proofs.rows.begin.Goals as goal

abbrev first : Record → Addition
first r = record { number = 3; records = []; next = r }

ready_for : (disk : Held) (r : Record) (body : List ℕ) → EndsAt (seen_of disk) SEGMENT 3 [] 11 → RecordHasSpelling r → record_seq r ≡ 1 → body ≡ record_bytes r
    → IsReady (seen_of disk) SEGMENT 11 body (first r)
ready_for disk r body ends spelled place is = record { ends = ends; spelled = spelled; above = omega (arith, place); bytes = is }

waits_first : (disk : Held) (r : Record) (body : List ℕ) (end : ℕ) → IsWaiting (seen_of disk) SEGMENT 11 (first r) → record_seq r ≡ 1 → body ≡ record_bytes r → end ≡ 11 + 1 + length body
    → Waits (seen_of disk) SEGMENT 11 end 1
waits_first disk r body end waits place is ends = record { addition = first r; waits = waits; ends = ends ∙ ap (λ (l : List ℕ). 11 + 1 + length l) is; place = place }

pub append_first-requires-after_bounds : goal.append_first-requires-after_bounds
append_first-requires-after_bounds c κs = λ told.
    let is : c.deref.result.now ≡ record_bytes c.in_ok-item.item = search rules in
    (first c.in_ok-item.item, ready_for c.args.disk.now c.in_ok-item.item c.deref.result.now c.requires c.in_ok-item.ensures.spelled c.in_ok-item.ensures.place is)

pub returns-in-Ok-clause-waits : goal.returns-in-Ok-clause-waits
returns-in-Ok-clause-waits c =
    let r = c.in_ok-item.item in
    let is : c.deref.result.now ≡ record_bytes r = search rules in
    let is_again : c.deref-in-Ok.result.now ≡ record_bytes r = search rules in
    let ready = ready_for c.args.disk.now r c.deref.result.now c.requires c.in_ok-item.ensures.spelled c.in_ok-item.ensures.place is in
    waits_first c.append_first.new.disk r c.deref-in-Ok.result.now c.in_ok-gate_behind-in-Ok.field-0 (c.in-Ok.ensures.waits tt (first r) ready) c.in_ok-item.ensures.place is_again c.in_ok-gate_behind-in-Ok.ensures
