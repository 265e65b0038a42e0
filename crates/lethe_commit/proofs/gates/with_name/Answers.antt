use Rattle.std.proofs.Common.{None, subst, arith}
use Rattle.lethe_commit.specs.Gates.{IsGreatestOf, IsGreatestGate}
use Rattle.lethe_commit.proofs.Greatest.{other_added, smaller_added, greater_added}
use Rattle.lethe_commit.proofs.gates.with_name.Goals as goal

pub returns-then-not-is_gate : goal.returns-then-not-is_gate
returns-then-not-is_gate c = λ others is. other_added c.args.greatest others c.args.name (λ gate. let is_so = c.is_gate.ensures.1 gate in let is_not = c.if-not-is_gate.true in cc) is

pub returns-in-Some : goal.returns-in-Some
returns-in-Some c = λ others is. smaller_added c.in-Some.number others c.args.name (omega (arith, c.if-name-number.true)) (subst (IsGreatestOf others) c.in-Some.is is)

pub returns-in_default : goal.returns-in_default
returns-in_default c = λ others is.
    let before : IsGreatestGate others c.in-Some.number = subst (IsGreatestOf others) c.in-Some.is is in
    greater_added others c.args.name (c.is_gate.ensures.0 c.if-not-is_gate.false) (λ number there. omega (arith, before.last number there, c.if-name-number.false))

pub returns-in_default-2 : goal.returns-in_default-2
returns-in_default-2 c = λ others is.
    let none : IsGreatestOf others None = subst (IsGreatestOf others) c.in_default.is is in
    greater_added others c.args.name (c.is_gate.ensures.0 c.if-not-is_gate.false) (λ number there. absurd (none number there))
