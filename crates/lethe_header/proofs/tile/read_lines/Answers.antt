use Rattle.std.proofs.Common.{◌≡◌, ◌<◌, ◌++◌, ◌∷◌, [], length, arith, rules}
use Rattle.lethe_header.proofs.Lines.{line_more}
use Rattle.lethe_header.proofs.tile.read_lines.Goals as goal

pub lines-preserved : goal.lines-preserved
lines-preserved c =
    let fewer : length c.lines.lines.items < c.args.count = omega (arith, c.lines-test.true, c.len.ensures) in
    let pushed : c.push.new.self.items ≡ c.lines.lines.items ++ c.in_ok-line.line ∷ [] = search rules in
    let kept = c.with-before.ensures c.lines.lines.items c.lines.invariant.kept in
    rw pushed (line_more c.args.count c.args.bytes.now c.args.start c.lines.lines.items c.lines.before c.lines.at c.lines.invariant c.in_ok-line.line c.in_ok-line.end c.with-before.result fewer c.in_ok-line.ensures.line c.in_ok-line.ensures.entries kept)
