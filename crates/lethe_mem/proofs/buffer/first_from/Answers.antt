use Rattle.std.proofs.Common.{arith, sym, ap, ◌∙◌}
use Rattle.std.specs.Option.{option_copied}
use Rattle.lethe_mem.proofs.Order.{below_stands, rest_stands, nothing_stands, count_below-le}
use Rattle.lethe_mem.proofs.buffer.first_from.Goals as goal

pub loop-from-init : goal.loop-from-init
loop-from-init g c = (omega arith, omega (arith, c.len-to.ensures, count_below-le c.args.lo.now (g.B.Buffer.entries c.args.buffer.now)))

pub loop-from-preserved-then-lt : goal.loop-from-preserved-then-lt
loop-from-preserved-then-lt g c =
    let entries = g.B.Buffer.entries c.args.buffer.now in
    let laws = g.met.B.Buffer g.world.𝓛 g.world.𝓜 g.world.𝓡 ((λ s x. x), (λ x. x), (λ x. x), λ x. x) in
    let behind = below_stands c.args.lo.now entries _ c.in-Some.entry.now (laws.ascending c.args.buffer.now) (sym c.in-Some.ensures) (sym c.lt.ensures ∙ c.if-lt.true) in
    (omega (arith, behind), c.loop-from.invariant.1)

pub loop-from-preserved-in_default : goal.loop-from-preserved-in_default
loop-from-preserved-in_default g c =
    let entries = g.B.Buffer.entries c.args.buffer.now in
    let laws = g.met.B.Buffer g.world.𝓛 g.world.𝓜 g.world.𝓡 ((λ s x. x), (λ x. x), (λ x. x), λ x. x) in (
      c.loop-from.invariant.0,
      rest_stands c.args.lo.now entries _ c.in-Some.entry.now (laws.ascending c.args.buffer.now) (sym c.in-Some.ensures) (sym c.lt.ensures ∙ c.if-lt.false),
    )

pub loop-from-preserved : goal.loop-from-preserved
loop-from-preserved g c =
    let entries = g.B.Buffer.entries c.args.buffer.now in
    (c.loop-from.invariant.0, nothing_stands c.args.lo.now entries _ (sym c.at.ensures ∙ ap option_copied c.in_default.is))
