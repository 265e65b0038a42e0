use Rattle.std.proofs.Common.{arith, ap, length, ◌∙◌}
use Rattle.lethe_flush.proofs.Results.{ok_both, ok_weaker}
use Rattle.lethe_state.proofs.FlushStep.{flush_from}
use Rattle.lethe_state.proofs.state.State.flush_frozen.Goals as goal

pub returns-clause-made : goal.returns-clause-made
returns-clause-made c = λ entries alone drafts.
    let made = c.in_ok-made.ensures.made c.args.self.now.manifest.config entries c.args.self.now.pending alone drafts in
    let next = c.in_ok-made.ensures.next in
    ok_weaker c.flush_step.result _ _ c.flush_step.ensures.is (λ step is. (c.in_ok-made.made, made.0, made.1, omega (arith, next), is))

pub returns-clause-step : goal.returns-clause-step
returns-clause-step c =
    let next = c.in_ok-made.ensures.next in
    let objects = c.in_ok-made.ensures.objects in
    let number = c.requires.number in
    let free = c.requires.free in
    ok_both c.flush_step.result _ _ _ c.flush_step.ensures.is c.flush_step.ensures.few
    (λ step is few. flush_from c.args.self.now c.in_ok-made.made step.0.items step.1 c.requires.writable c.requires.segments (omega (arith, next, number, free)) (omega (arith, next, objects))
    c.in_ok-made.ensures.cited c.in_ok-made.ensures.level c.in_ok-made.ensures.levels is few)

pub returns-clause-few : goal.returns-clause-few
returns-clause-few c = ok_weaker c.flush_step.result _ _ c.flush_step.ensures.is (λ step is. ap length is.objects ∙ c.in_ok-made.ensures.objects)
