use Rattle.std.proofs.Common.{refl}
use Rattle.lethe_agreement.proofs.Lines.{agrees_if, same_if}
use Rattle.lethe_agreement.proofs.page.keys_if_agrees.Goals as goal

pub returns-then-is_same-clause-agrees : goal.returns-then-is_same-clause-agrees
returns-then-is_same-clause-agrees c =
    let line = c.args.line.now in
    let of = c.in_ok-found.ensures in
    (λ e. agrees_if line c.in_ok-found.found c.args.entries.items c.args.bytes.now c.requires.spelled of.line of.number (c.if-is_same.ensures.0 refl), λ agrees. refl)

pub returns-clause-agrees : goal.returns-clause-agrees
returns-clause-agrees c =
    let line = c.args.line.now in
    let of = c.in_ok-found.ensures in
    (λ e. absurd cc, λ agrees. c.if-is_same.ensures.1 (same_if line c.in_ok-found.found c.args.entries.items c.args.bytes.now c.requires.spelled of.line of.number agrees))
