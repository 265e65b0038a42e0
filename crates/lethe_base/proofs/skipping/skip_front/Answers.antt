use Rattle.std.proofs.Common.{sym, arith}
use Rattle.lethe_base.proofs.SkippingLaws.{key_passed, front_passed}
use Rattle.lethe_base.proofs.skipping.skip_front.Goals as goal

pub overflow_add-result : goal.overflow_add-result
overflow_add-result c =
    let key = key_passed c.args.bytes.now c.in_ok-at-2.at c.in_ok-end.end (sym c.in_ok-end.ensures) in
    omega (arith, key.2.ends, key.2.within)

pub returns : goal.returns
returns c = sym (front_passed c.args.bytes.now c.args.at (c.in_ok-kind.kind, c.in_ok-kind.at) (c.in_ok-at.field-0-0, c.in_ok-at.at) (_, c.in_ok-at-2.at) c.in_ok-end.end (sym c.in_ok-kind.ensures) (sym c.in_ok-at.ensures) (sym c.in_ok-at-2.ensures) (sym c.in_ok-end.ensures))
