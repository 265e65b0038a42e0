use Rattle.std.proofs.Common.{sym, ◌∙◌}
use Rattle.lethe_job.specs.Chosen.{is_below}
use Rattle.lethe_job.specs.Tasks.{plain_file}
use Rattle.lethe_job.proofs.Listed.{any_here}
use Rattle.lethe_job.proofs.inputs.lies_below.Goals as goal

pub returns-then-is_below : goal.returns-then-is_below
returns-then-is_below g c =
    any_here plain_file (is_below c.args.level c.args.reach.now) c.args.files.now c.loop-file.file-index c.file-item.result c.loop-file-test.true c.file-item.is (sym c.is_below.ensures ∙ c.if-is_below.true)
