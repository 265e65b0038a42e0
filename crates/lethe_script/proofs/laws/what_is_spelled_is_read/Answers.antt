use Rattle.lethe_script.proofs.Spelled.{key_again, value_again, marked_again}
use Rattle.lethe_script.proofs.SpelledLines.{script_again}
use Rattle.lethe_script.specs.Spelling.{marked}
use Rattle.lethe_script.proofs.laws.what_is_spelled_is_read.Goals as goal

pub returns : goal.returns
returns c = record {
  lines = script_again;
  keys = λ key w. key_again (marked key) key (marked_again key w.1) w.0;
  values = λ value w. value_again (marked value) value (marked_again value w.1) w.0;
}
