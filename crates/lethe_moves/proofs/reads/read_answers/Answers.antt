use Rattle.lethe_cover.proofs.Reading.{reads}
use Rattle.lethe_moves.proofs.Once.{once_in_runs}
use Rattle.lethe_moves.proofs.reads.read_answers.Goals as goal

pub returns : goal.returns
returns c = λ threshold h l follows key. reads threshold h l follows.covers (once_in_runs l follows.ordered) key
