use Rattle.lethe_clean.proofs.Stays.{beside_untorn, record_untorn, step_untorn}
use Rattle.lethe_clean.proofs.laws.untorn_stays.Goals as goal

pub returns : goal.returns
returns c = record {
  step = λ s t loose left headers step d e coherent is only untorn kept gate. step_untorn s t loose left headers step d e coherent is only untorn kept gate;
  written = λ s d next coherent untorn. record_untorn s d next coherent untorn;
  beside = λ s d e untorn kept. beside_untorn s d e untorn kept;
}
