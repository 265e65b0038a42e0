use Rattle.lethe_segment.proofs.Runs.{ascending}
use Rattle.lethe_segment.proofs.laws.ascending_places.Goals as goal

pub returns : goal.returns
returns c = ascending
