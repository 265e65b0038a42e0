use Rattle.lethe_install.proofs.Remembering.{install_remembered}
use Rattle.lethe_install.proofs.laws.install_is_remembered.Goals as goal

pub returns : goal.returns
returns c = λ company s t task state levels next is current outcome spelled. install_remembered company s t state levels next is current task outcome
