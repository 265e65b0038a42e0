use Rattle.lethe_cert.proofs.Told.{text_tells}
use Rattle.lethe_cert.proofs.laws.what_a_text_tells.Goals as goal

pub returns : goal.returns
returns c = text_tells
