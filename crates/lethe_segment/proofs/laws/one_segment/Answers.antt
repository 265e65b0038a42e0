use Rattle.lethe_segment.proofs.Runs.{same_segment}
use Rattle.lethe_segment.proofs.laws.one_segment.Goals as goal

pub returns : goal.returns
returns c = same_segment
