use Rattle.std.proofs.Common.{refl, sym, ◌∙◌}
use Rattle.lethe_version.proofs.Levels.{found_at, not_found}
use Rattle.lethe_job.specs.SweepTasks.{is_filed}
use Rattle.lethe_job.specs.Tasks.{plain_file}
use Rattle.lethe_job.proofs.sweep.file_named.Goals as goal

pub returns-then-is_filed : goal.returns-then-is_filed
returns-then-is_filed g c =
    let files = c.args.files.now in
    sym (found_at plain_file (is_filed c.args.levels c.args.number) files files refl c.loop-file.file-index c.file-item.result c.loop-file-test.true c.file-item.is c.loop-file.invariant
    (sym c.is_filed.ensures ∙ c.if-is_filed.true))

pub loop-file-preserved : goal.loop-file-preserved
loop-file-preserved g c =
    let files = c.args.files.now in
    not_found plain_file (is_filed c.args.levels c.args.number) files files refl c.loop-file.file-index c.file-item.result c.loop-file-test.true c.file-item.is c.loop-file.invariant
    (sym c.is_filed.ensures ∙ c.if-is_filed.false)
