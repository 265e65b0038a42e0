use Rattle.lethe_stored.specs.Files.{lines_in}
use Rattle.lethe_job.specs.Tasks.{plain_file}
use Rattle.lethe_job.proofs.Adding.{AreRead}
use Rattle.lethe_job.proofs.reading.add_file.Given as goal

abbrev pub invariant-loop-place : goal.invariant-loop-place
invariant-loop-place g l =
    AreRead g.D.Disk.tells (lines_in (plain_file l.filed)) (plain_file l.filed).pages l.fn.entries.items l.entries.items l.place (g.D.Disk.fetches l.fn.port) (g.D.Disk.fetches l.port) (g.D.Disk.port_faults l.fn.port) (g.D.Disk.port_faults l.port)
