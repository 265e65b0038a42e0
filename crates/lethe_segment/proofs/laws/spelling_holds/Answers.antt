use Rattle.lethe_segment.proofs.Runs.{holds_spelling}
use Rattle.lethe_segment.proofs.laws.spelling_holds.Goals as goal

pub returns : goal.returns
returns c = holds_spelling
