use Rattle.std.proofs.Common.{◌≡◌, ap, arith, sum_by}
use Rattle.lethe_build.specs.Drafts.{numbers_for}
use Rattle.lethe_flush.proofs.Adding.{pages_few}
use Rattle.lethe_install.proofs.steps.installing_merge.Goals as goal

pub overflow_sub-objects : goal.overflow_sub-objects
overflow_sub-objects g c =
    let few = pages_few c.args.drafts.items in
    let same : sum_by numbers_for c.deref.result.now ≡ sum_by numbers_for c.args.drafts.items = ap (sum_by numbers_for) c.deref.ensures.value in
    omega (arith, few, same, c.requires.some, c.requires.few, c.numbers_for.ensures)
