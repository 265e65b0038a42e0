use Rattle.std.proofs.Common.{◌≡◌, Some, arith}
use Rattle.lethe_header.specs.declared.header.PageLine.{PageLine}
use Rattle.lethe_snapshot.proofs.Least.{least_all, least_more}
use Rattle.lethe_snapshot.proofs.limit.least_of_lines.Goals as goal

pub loop-line-preserved : goal.loop-line-preserved
loop-line-preserved c =
    least_more (λ (line : PageLine) time. line.oldest ≡ Some time) c.args.time c.args.lines.now c.loop-line.line-index c.line-item.result c.loop-line.least c.earlier-least.result
    c.loop-line-test.true c.line-item.is c.loop-line.invariant c.earlier-least.ensures

pub returns : goal.returns
returns c = least_all (λ (line : PageLine) time. line.oldest ≡ Some time) c.args.time c.args.lines.now c.loop-line.line-index c.loop-line.least (omega arith) c.loop-line.invariant
