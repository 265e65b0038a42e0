use Rattle.std.proofs.Common.{◌≡◌, ◌≤◌, ◌<◌, ◌++◌, ◌∷◌, [], Some, arith, rules}
use Rattle.std.specs.Int.{w8}
use Rattle.std.proofs.lemmas.Result.{err_from_is_err_and}
use Rattle.lethe_base.specs.Numbers.{number_at}
use Rattle.lethe_segment.specs.Records.{record_seq}
use Rattle.lethe_segment.proofs.Loop.{at_head, one_more, is_disordered, is_refused}
use Rattle.lethe_segment.proofs.replaying.read_all.Goals as goal

pub gates-init : goal.gates-init
gates-init c = rw c.new-records.ensures.items (at_head c.args.bytes.now c.in_default.field-0 c.in_default.ensures.number)

pub returns-in_err-record-clause-refused : goal.returns-in_err-record-clause-refused
returns-in_err-record-clause-refused c =
    let is_open : number_at w8 c.args.bytes.now c.gates.gate ≡ Some 1 = c.is_open.ensures.0 c.gates-test.true in
    let p = err_from_is_err_and c.from_residual.result c.from_residual.ensures.1 in
    rw (p.1, p.2) (is_refused c.args.bytes.now c.gates.records.items c.gates.last c.gates.gate c.in_err-record.field-0.0 (λ i. omega (arith, c.type_inv.bytes i)) c.gates.invariant is_open c.in_err-record.ensures.refused)

pub returns-then-seq-last-clause-refused : goal.returns-then-seq-last-clause-refused
returns-then-seq-last-clause-refused c = λ _.
    let is_open : number_at w8 c.args.bytes.now c.gates.gate ≡ Some 1 = c.is_open.ensures.0 c.gates-test.true in
    let read = c.in_ok-record.ensures.found in
    let below : record_seq c.in_ok-record.record ≤ c.gates.last = omega (arith, c.seq-seq.ensures, c.if-seq-last.true) in
    is_disordered c.args.bytes.now c.gates.records.items c.gates.last c.gates.gate c.in_ok-record.end c.in_ok-record.record (λ i. omega (arith, c.type_inv.bytes i)) c.gates.invariant is_open read.0 read.1 below

pub gates-preserved : goal.gates-preserved
gates-preserved c =
    let is_open : number_at w8 c.args.bytes.now c.gates.gate ≡ Some 1 = c.is_open.ensures.0 c.gates-test.true in
    let read = c.in_ok-record.ensures.found in
    let above : c.gates.last < record_seq c.in_ok-record.record = omega (arith, c.seq-seq.ensures, c.if-seq-last.false) in
    let more = one_more c.args.bytes.now c.gates.records.items c.gates.last c.gates.gate c.in_ok-record.end c.in_ok-record.record (λ i. omega (arith, c.type_inv.bytes i)) c.gates.invariant is_open read.0 read.1 above in
    let pushed : c.push.new.self.items ≡ c.gates.records.items ++ c.in_ok-record.record ∷ [] = search rules in
    let last : c.seq-seq.result ≡ record_seq c.in_ok-record.record = search rules in
    rw (pushed, last) more
