use Rattle.std.proofs.Common.{◌≡◌, ℕ, ◌+◌, List, length, refl, ap, ◌∙◌, rules, arith}
use Rattle.lethe_memdisk.specs.Held.{Held, seen_of}
use Rattle.lethe_segment.specs.declared.record.Record.{Record}
use Rattle.lethe_segment.specs.Records.{record_bytes, record_seq, RecordHasSpelling}
use Rattle.lethe_commit.specs.Append.{Addition, longer}
use Rattle.lethe_chain.specs.Chains.{IsWaiting, IsBehind, Waits}
use Rattle.lethe_test_chain.specs.declared.disks.TheConstants.{SEGMENT}
use Rattle.lethe_test_chain.proofs.rows.go_on.Goals as goal

abbrev then : Addition → Record → Addition
then a r = record { number = a.number; records = longer a; next = r }

behind_it : (a : Addition) (r : Record) (body : List ℕ) (seq : ℕ) → record_seq a.next ≡ seq → RecordHasSpelling r → record_seq r ≡ seq + 1 → body ≡ record_bytes r
    → IsBehind a body (then a r)
behind_it a r body seq waiting spelled place is = record { number = refl; records = refl; spelled = spelled; above = omega (arith, waiting, place); bytes = is }

waits_next : (disk : Held) (b : Addition) (body : List ℕ) (at end seq : ℕ) → IsWaiting (seen_of disk) SEGMENT at b → record_seq b.next ≡ seq + 1 → body ≡ record_bytes b.next → end ≡ at + 1 + length body
    → Waits (seen_of disk) SEGMENT at end (seq + 1)
waits_next disk b body at end seq waits place is ends = record { addition = b; waits = waits; ends = ends ∙ ap (λ (l : List ℕ). at + 1 + length l) is; place = place }

pub append_next-requires-after_bounds : goal.append_next-requires-after_bounds
append_next-requires-after_bounds c κs = λ told.
    let a = c.requires.waits.addition in
    let r = c.in_ok-item.item in
    let is : c.deref.result.now ≡ record_bytes r = search rules in
    (a, then a r, c.requires.waits.waits, c.requires.waits.ends, behind_it a r c.deref.result.now c.args.seq c.requires.waits.place c.in_ok-item.ensures.spelled c.in_ok-item.ensures.place is)

pub returns-in-Ok-clause-waits : goal.returns-in-Ok-clause-waits
returns-in-Ok-clause-waits c =
    let a = c.requires.waits.addition in
    let r = c.in_ok-item.item in
    let is : c.deref.result.now ≡ record_bytes r = search rules in
    let is_again : c.deref-in-Ok.result.now ≡ record_bytes r = search rules in
    let next = behind_it a r c.deref.result.now c.args.seq c.requires.waits.place c.in_ok-item.ensures.spelled c.in_ok-item.ensures.place is in
    let waits = c.in-Ok.ensures.waits tt a (then a r) c.requires.waits.waits c.requires.waits.ends next in
    waits_next c.append_next.new.disk (then a r) c.deref-in-Ok.result.now c.args.end c.in_ok-gate_behind-in-Ok.field-0 c.args.seq waits c.in_ok-item.ensures.place is_again c.in_ok-gate_behind-in-Ok.ensures
