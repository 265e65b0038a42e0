use Rattle.std.proofs.Common.{◌≡◌, Some, arith, ap, sym, ◌∙◌}
use Rattle.std.specs.Int.{w8}
use Rattle.lethe_base.specs.Numbers.{number_at}
use Rattle.lethe_segment.proofs.Standing.{here, same_read, none_read, blind_at, no_blind}
use Rattle.lethe_segment.proofs.reading.read_blind.Goals as goal

pub returns-in_err-take_u8 : goal.returns-in_err-take_u8
returns-in_err-take_u8 c = rw c.from_residual.ensures (no_blind c.args.bytes.now c.args.at (none_read _ 3 c.in_err-take_u8.ensures))

pub returns-then-branch-ne-BLIND : goal.returns-then-branch-ne-BLIND
returns-then-branch-ne-BLIND c = no_blind c.args.bytes.now c.args.at (λ e. c.if-branch-ne-BLIND.true (same_read _ _ 3 c.in_ok-take_u8.ensures e))

pub returns : goal.returns
returns c =
    let three : number_at w8 c.args.bytes.now c.args.at ≡ Some 3 = sym c.in_ok-take_u8.ensures ∙ ap here c.if-branch-ne-BLIND.false in
    rw c.ok.ensures.value (blind_at c.args.bytes.now c.args.at c.read_place.result (λ i. omega (arith, c.type_inv.bytes i)) three c.read_place.ensures)
