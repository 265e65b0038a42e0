use Rattle.lethe_follows.proofs.Ticking.{ticked_coherent, ticked_for}
use Rattle.lethe_follows.proofs.ticks.tick_follows.Goals as goal

pub returns : goal.returns
returns c = record {
  coherent = λ s coherent to number later spelled. ticked_coherent s to number coherent later spelled;
  stands = λ h s coherent stands few to forward due caller number. ticked_for s h coherent stands few to forward due caller number;
}
