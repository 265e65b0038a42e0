use Rattle.std.proofs.Common.{◌⊎◌, inl, refl}
use Rattle.lethe_stored.specs.Kept.{IsKept}
use Rattle.lethe_stored.proofs.Numbers.{goes_from_weaker}
use Rattle.lethe_core.specs.View.{view_of}
use Rattle.lethe_core.proofs.Carried.{unmoved_moments}
use Rattle.lethe_core.proofs.Standing.{running_encoded}
use Rattle.lethe_core.proofs.holding.Core.carry_out.Goals as goal

pub returns-in_default-clause-moments : goal.returns-in_default-clause-moments
returns-in_default-clause-moments g c = λ told s t left running is h other stands next below above.
    let old = view_of c.args.self.now in
    let config = s.manifest.config in
    goes_from_weaker (λ d. IsKept config d h) (λ d. IsKept config d h ⊎ IsKept config d other) old.state.next old.disk old.disk (λ d kept. inl kept)
    (unmoved_moments h s old.state.next old.disk old.disk running.settled.coherent stands below (running_encoded old s running))

pub returns-in_default-clause-unmoved : goal.returns-in_default-clause-unmoved
returns-in_default-clause-unmoved g c = λ told s t left running is h stands below refused.
    let old = view_of c.args.self.now in
    unmoved_moments h s old.state.next old.disk old.disk running.settled.coherent stands below (running_encoded old s running)

pub returns-in_default-clause-stays : goal.returns-in_default-clause-stays
returns-in_default-clause-stays g c = λ told s t left running is name stays there. refl
