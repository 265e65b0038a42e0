use Rattle.lethe_disk.proofs.Causes.{cause_as}
use Rattle.lethe_file.proofs.fetching.find_checked.Goals as goal

pub returns-in-Err-clause-cause : goal.returns-in-Err-clause-cause
returns-in-Err-clause-cause g c = cause_as _ _ c.in-Err.why c.in-Err.ensures.cause
