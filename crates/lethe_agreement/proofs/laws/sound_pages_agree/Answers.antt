use Rattle.lethe_agreement.proofs.Tiles.{sound_file, sound_tile}
use Rattle.lethe_agreement.proofs.laws.sound_pages_agree.Goals as goal

pub returns-clause-tile : goal.returns-clause-tile
returns-clause-tile c = sound_tile

pub returns-clause-file : goal.returns-clause-file
returns-clause-file c = sound_file
