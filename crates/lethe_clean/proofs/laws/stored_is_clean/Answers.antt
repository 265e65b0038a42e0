use Rattle.lethe_clean.proofs.Spelled.{stored_clean}
use Rattle.lethe_clean.proofs.laws.stored_is_clean.Goals as goal

pub returns : goal.returns
returns c = λ h s loose d coherent encodes stands only untorn each. stored_clean h s coherent stands loose d encodes only untorn each
