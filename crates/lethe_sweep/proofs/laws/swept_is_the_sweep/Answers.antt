use Rattle.lethe_sweep.proofs.Lawful.{is_sweep}
use Rattle.lethe_sweep.proofs.laws.swept_is_the_sweep.Goals as goal

pub returns : goal.returns
returns c = λ alone erase tiles bytes swept agrees behind is. is_sweep alone erase tiles bytes agrees swept is
