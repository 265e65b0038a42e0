use Rattle.std.proofs.Common.{arith}
use Rattle.lethe_job.proofs.Pieces.{numbers_are}
use Rattle.lethe_job.proofs.made.draft_pages.Goals as goal

pub overflow_sub-result : goal.overflow_sub-result
overflow_sub-result c = omega (arith, numbers_are c.args.drafts.now)

pub returns : goal.returns
returns c = omega (arith, numbers_are c.args.drafts.now)
