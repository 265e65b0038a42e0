use Rattle.std.proofs.Common.{arith, ap, sym, ◌∙◌, length, Option, ℕ}
use Rattle.std.specs.Prelude.{ok_or}
use Rattle.lethe_segment.proofs.HeadLaws.{head_differs, read_found, read_short}
use Rattle.lethe_segment.proofs.head.read_head.Goals as goal

pub returns-in-Some-clause-fault : goal.returns-in-Some-clause-fault
returns-in-Some-clause-fault c = head_differs c.args.bytes.now c.in-Some.at (sym c.in-Some.ensures)

pub returns-in-None-clause-number : goal.returns-in-None-clause-number
returns-in-None-clause-number c =
    read_found c.args.bytes.now c.ok_or.result (λ i. omega (arith, c.type_inv.bytes i)) (sym c.in-None.ensures) (c.ok_or.ensures.value ∙ ap (λ (o : Option ℕ). ok_or o (length c.args.bytes.now)) c.take_u64.ensures)

pub returns-in-None-clause-fault : goal.returns-in-None-clause-fault
returns-in-None-clause-fault c =
    read_short c.args.bytes.now c.ok_or.result (λ i. omega (arith, c.type_inv.bytes i)) (sym c.in-None.ensures) (c.ok_or.ensures.value ∙ ap (λ (o : Option ℕ). ok_or o (length c.args.bytes.now)) c.take_u64.ensures)
