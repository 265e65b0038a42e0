use Rattle.lethe_header.proofs.HeaderLaws.{same_header}
use Rattle.lethe_header.proofs.laws.one_header.Goals as goal

pub returns : goal.returns
returns c = same_header
