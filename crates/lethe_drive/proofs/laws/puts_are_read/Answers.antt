use Rattle.lethe_drive.proofs.Runs.{puts_read}
use Rattle.lethe_drive.proofs.laws.puts_are_read.Goals as goal

pub returns : goal.returns
returns g c = λ config h k start finish first second asked dkey other value next replies is done few within steps calm quiet memory.
    puts_read g.D.Disk.ports_fail config h k start finish first second asked dkey other value next is done few calm quiet replies within steps memory
