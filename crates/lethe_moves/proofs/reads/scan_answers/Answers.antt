use Rattle.std.proofs.Common.{ap}
use Rattle.lethe_base.specs.Read.{Listed}
use Rattle.lethe_moves.proofs.Scanning.{scanned}
use Rattle.lethe_moves.proofs.reads.scan_answers.Goals as goal

pub returns : goal.returns
returns c = λ threshold h l follows lo hi entries all. ap Listed (scanned threshold h l follows.covers lo hi entries all)
