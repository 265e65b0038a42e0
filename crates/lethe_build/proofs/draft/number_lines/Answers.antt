use Rattle.std.proofs.Common.{◌≡◌, ◌<◌, length, ap, ◌∙◌, arith}
use Rattle.lethe_build.proofs.Numbering.{lines_all, lines_length, lines_turn, written}
use Rattle.lethe_build.proofs.draft.number_lines.Goals as goal

pub loop-i-preserved : goal.loop-i-preserved
loop-i-preserved c =
    let below : c.loop-i.i < length c.loop-i.line-items = omega arith in
    lines_turn c.loop-i.i c.args.numbers.now c.args.lines c.loop-i.line-items c.line-item.result c.loop-i.invariant c.line-item.is c.requires below

pub returns : goal.returns
returns c =
    let i = c.loop-i.i in
    let all : i ≡ length c.args.lines = omega (arith, ap length c.loop-i.invariant, lines_length i c.args.numbers.now c.args.lines) in
    let long : c.into_vec-lines.result.len ≡ length c.loop-i.line-items = omega (arith, c.into_vec-lines.result.ok.0, ap length c.deref_mut-line-items.ensures.value) in
    written _ c.loop-i.line-items c.into_vec-lines.result.items c.into_vec-lines.result.len c.of.ensures long ∙ c.loop-i.invariant ∙ lines_all i c.args.numbers.now c.args.lines c.requires all
