use Rattle.std.proofs.Common.{true, false, Some, sym, ap, ◌∙◌}
use Rattle.std.specs.Option.{option_map}
use Rattle.lethe_fade.specs.declared.rank.Rank.{Rank}
use Rattle.lethe_fade.specs.Candidates.{merge_plan}
use Rattle.lethe_fade.proofs.Chosen.{best_result, best_more}
use Rattle.lethe_fade.proofs.choice.best_file.Goals as goal
use Rattle.lethe_fade.proofs.choice.best_file.Goals.{then-is_free, else-is_free}

pub loop-file-preserved : goal.loop-file-preserved
loop-file-preserved c = elim c.if-is_free.branch [
  | then-is_free w ↦
      w.best-is ∙ ap Some w.better.ensures
      ∙ best_more c.args.order c.args.level c.args.claims.now c.args.files.now c.args.next.now c.loop-file.file-index c.file-item.result c.of.result c.merge_of-merge.result.keys c.merge_of-merge.result.below true c.loop-file.best
      c.loop-file-test.true c.file-item.is c.of.ensures c.merge_of-merge.ensures.keys c.merge_of-merge.ensures.below (sym w.if-is_free.true ∙ c.is_free.ensures) c.loop-file.invariant
  | else-is_free w ↦
      w.best-is
      ∙ best_more c.args.order c.args.level c.args.claims.now c.args.files.now c.args.next.now c.loop-file.file-index c.file-item.result c.of.result c.merge_of-merge.result.keys c.merge_of-merge.result.below false c.loop-file.best
      c.loop-file-test.true c.file-item.is c.of.ensures c.merge_of-merge.ensures.keys c.merge_of-merge.ensures.below (sym w.if-is_free.false ∙ c.is_free.ensures) c.loop-file.invariant
]

pub returns-in_err-rank : goal.returns-in_err-rank
returns-in_err-rank c =
    c.from_residual.ensures ∙ ap (option_map (λ (r : Rank). merge_plan r.no)) (sym c.in_err-rank.was)
    ∙ best_result c.args.order c.args.level c.args.claims.now c.args.files.now c.args.next.now c.loop-file.file-index c.loop-file.best c.loop-file-test.false c.loop-file.invariant

pub returns : goal.returns
returns c =
    ap (option_map (λ (r : Rank). merge_plan r.no)) (sym c.in_ok-rank.was)
    ∙ best_result c.args.order c.args.level c.args.claims.now c.args.files.now c.args.next.now c.loop-file.file-index c.loop-file.best c.loop-file-test.false c.loop-file.invariant
