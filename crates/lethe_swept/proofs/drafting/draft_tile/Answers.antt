use Rattle.lethe_swept.proofs.Loops.{parts_more}
use Rattle.lethe_swept.proofs.drafting.draft_tile.Goals as goal

pub loop-part-preserved : goal.loop-part-preserved
loop-part-preserved c =
    let so_far = rw (c.in-Some.ensures.steps.0) at c.loop-part.invariant in
    let drafted = c.in_ok-draft_part.ensures in
    rw (c.in_ok-push.ensures.items) (parts_more _ _ _ _ _ _ _ c.in-Some.part c.in_ok-draft_part.field-0 so_far drafted.line drafted.pages)
