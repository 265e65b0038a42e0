use Rattle.std.proofs.Common.{sym, ◌∙◌}
use Rattle.lethe_job.specs.SweepTasks.{is_first_over}
use Rattle.lethe_job.specs.Tasks.{plain_file}
use Rattle.lethe_job.proofs.Listed.{any_here}
use Rattle.lethe_job.proofs.sweep.any_overlaps.Goals as goal

pub returns-then-is_first_over : goal.returns-then-is_first_over
returns-then-is_first_over g c =
    any_here plain_file (is_first_over c.args.reach.now) c.args.files.now c.loop-file.file-index c.file-item.result c.loop-file-test.true c.file-item.is (sym c.is_first_over.ensures ∙ c.if-is_first_over.true)
