use Rattle.std.proofs.Common.{[], slice_index_or}
use Rattle.lethe_version.specs.Versions.{levels_of}
use Rattle.lethe_job.proofs.Listed.{held_here}
use Rattle.lethe_job.proofs.filed.cited_file.Goals as goal

pub returns-then-no-cited-clause-there : goal.returns-then-no-cited-clause-there
returns-then-no-cited-clause-there g c =
    held_here (λ shared. shared.file.value) c.files-file-items.result.now (slice_index_or (levels_of c.args.version.now) c.args.cited.now.level []) (c.files-file-items.ensures []) c.loop-file.file-index c.file-item.result c.loop-file-test.true c.file-item.is
    c.in_ok-file.file.file.value c.in_ok-file.ensures
