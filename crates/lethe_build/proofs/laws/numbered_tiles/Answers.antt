use Rattle.lethe_build.proofs.Numbering.{is_numbered_of}
use Rattle.lethe_build.proofs.laws.numbered_tiles.Goals as goal

pub returns : goal.returns
returns c = is_numbered_of
