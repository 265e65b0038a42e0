use Rattle.std.proofs.Common.{◌+◌, ◌<◌, ◌^◌, Option, None, Some, ℕ, length, arith}
use Rattle.std.specs.Prelude.{IfSome, IsSome}
use Rattle.lethe_job.specs.MadeOf.{pages_of}
use Rattle.lethe_job.specs.Works.{AreOutputs, PlainTask, plain_task}
use Rattle.lethe_job.specs.declared.made.Made.{Made}
use Rattle.lethe_job.proofs.Pieces.{numbers_few, pages_few}
use Rattle.lethe_job.proofs.job.Job.count_written.Goals as goal

-- of what is made, a page less than all can be counted with one more
one_fits : (Tells : Type 0) (task : PlainTask) (made : Option Made) (written : ℕ) → IfSome made (AreOutputs Tells task) → IsSome made → IfSome made (λ made. written < length (pages_of made)) → written + 1 < 2 ^ 64
one_fits Tells task None written outputs some left = absurd cc
one_fits Tells task (Some made) written outputs some left = let few = numbers_few Tells task made outputs in omega (arith, few, pages_few made, left)

pub overflow_add-self : goal.overflow_add-self
overflow_add-self g c = omega (arith, one_fits g.D.Disk.tells (plain_task c.args.self.now.task.value) c.args.self.now.made c.args.self.now.written c.requires.job.made c.requires.made c.requires.left)
