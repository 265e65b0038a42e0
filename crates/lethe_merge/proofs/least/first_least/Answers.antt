use Rattle.std.proofs.Common.{get_or, sym, ap, ◌∙◌}
use Rattle.std.proofs.lemmas.List.MinMax.{IsFirstBest-none, IsFirstBest-keeps, IsFirstBest-takes}
use Rattle.lethe_merge.specs.declared.source.Source.{Source}
use Rattle.lethe_merge.specs.Sources.{comes_before}
use Rattle.lethe_merge.proofs.Heads.{sources_ordered}
use Rattle.lethe_merge.proofs.least.first_least.Goals as goal
use Rattle.lethe_merge.proofs.least.first_least.Goals.{then-is_before, else-is_before}

pub loop-place-init : goal.loop-place-init
loop-place-init g c = IsFirstBest-none sources_ordered c.args.sources.now

pub loop-place-preserved : goal.loop-place-preserved
loop-place-preserved g c =
    let sources = c.args.sources.now in
    let x = c.index-sources-place.result in
    let y = c.index-sources-least.result in
    let tested = ap (λ (s : Source g.row.C.Denot). comes_before s.head y.head) c.index-sources-place.is
    ∙ ap (λ (s : Source g.row.C.Denot). comes_before (get_or sources c.loop-place.place x).head s.head) c.index-sources-least.is ∙ sym c.is_before.ensures in
    elim c.if-is_before.branch [
      | then-is_before w ↦ rw w.least-is
          (IsFirstBest-takes sources_ordered sources c.loop-place.place c.loop-place.least x y c.loop-place.invariant c.loop-place-test.true c.index-sources-place.is c.index-sources-least.is (tested ∙ w.if-is_before.true))
      | else-is_before w ↦ rw w.least-is
          (IsFirstBest-keeps sources_ordered sources c.loop-place.place c.loop-place.least x y c.loop-place.invariant c.loop-place-test.true c.index-sources-place.is c.index-sources-least.is (tested ∙ w.if-is_before.false))
    ]
