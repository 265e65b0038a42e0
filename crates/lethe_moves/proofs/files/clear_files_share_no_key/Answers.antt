use Rattle.lethe_moves.proofs.Apart.{clear_apart}
use Rattle.lethe_moves.proofs.files.clear_files_share_no_key.Goals as goal

pub returns : goal.returns
returns c = λ file other tiled other_tiled clear. clear_apart file other tiled other_tiled clear
