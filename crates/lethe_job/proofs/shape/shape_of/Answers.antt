use Rattle.std.proofs.Common.{◌≡◌, ◌+◌, length, map, ap, ◌∙◌, arith}
use Rattle.std.proofs.lemmas.List.FromFn.{length-map-range_with_len}
use Rattle.lethe_job.specs.Shapes.{facts_at}
use Rattle.lethe_job.specs.Tasks.{plain_file}
use Rattle.lethe_job.proofs.Listed.{ranged_more}
use Rattle.lethe_job.proofs.shape.shape_of.Goals as goal

pub loop-level-preserved : goal.loop-level-preserved
loop-level-preserved g c =
    c.in_ok-push.ensures.items ∙ ranged_more (facts_at (map plain_file c.args.files.now)) c.loop-level.level c.loop-level.levels.items c.in_ok-facts_at.field-0 c.loop-level.invariant c.in_ok-facts_at.ensures

pub returns-clause-levels : goal.returns-clause-levels
returns-clause-levels g c =
    let end : c.loop-level.level ≡ c.args.deepest + 1 = omega arith in
    ap length (c.of.ensures ∙ c.loop-level.invariant) ∙ length-map-range_with_len (facts_at (map plain_file c.args.files.now)) 0 c.loop-level.level ∙ end
