use Rattle.std.proofs.Common.{◌≡◌, ◌++◌, drop, filter, map, not}
use Rattle.lethe_sweep.specs.Fences.{is_kept}
use Rattle.lethe_sweep.proofs.numbers.add_tile.Given as goal

abbrev pub invariant-loop-line : goal.invariant-loop-line
invariant-loop-line l =
    (l.numbers.kept.items ++ map (λ line. line.no) (filter (is_kept l.alone l.range l.lines) (drop l.line-index l.lines)) ≡ l.fn.numbers.kept.items ++ map (λ line. line.no) (filter (is_kept l.alone l.range l.lines) l.lines))
    × (l.numbers.dropped.items ++ map (λ line. line.no) (filter (λ line. not (is_kept l.alone l.range l.lines line)) (drop l.line-index l.lines)) ≡ l.fn.numbers.dropped.items ++ map (λ line. line.no) (filter (λ line. not (is_kept l.alone l.range l.lines line)) l.lines))
