use Rattle.lethe_remade.proofs.Objects.{objects_from}
use Rattle.lethe_remade.proofs.laws.objects_are_own_or_new.Goals as goal

pub returns : goal.returns
returns c = λ file erase swept draft of numbers no count paged. objects_from file paged erase swept draft of numbers no count
