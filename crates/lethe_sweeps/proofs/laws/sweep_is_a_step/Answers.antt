use Rattle.lethe_sweeps.proofs.SweptStepping.{sweep_steps}
use Rattle.lethe_sweeps.proofs.laws.sweep_is_a_step.Goals as goal

pub returns : goal.returns
returns c = λ company s t coherent next w erase alone begun is loose left pages uncited headers step stepped taken among remains spare.
    sweep_steps s t coherent next w erase alone begun is loose left pages uncited headers step stepped taken among remains spare
