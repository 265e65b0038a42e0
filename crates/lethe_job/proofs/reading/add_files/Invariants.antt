use Rattle.std.proofs.Common.{map}
use Rattle.lethe_job.specs.Tasks.{plain_file}
use Rattle.lethe_job.proofs.Adding.{AreAdded}
use Rattle.lethe_job.proofs.reading.add_files.Given as goal

abbrev pub invariant-loop-filed : goal.invariant-loop-filed
invariant-loop-filed g l =
    AreAdded g.D.Disk.tells (map plain_file l.files) l.fn.entries.items l.entries.items l.filed-index (g.D.Disk.fetches l.fn.port) (g.D.Disk.fetches l.port) (g.D.Disk.port_faults l.fn.port) (g.D.Disk.port_faults l.port)
