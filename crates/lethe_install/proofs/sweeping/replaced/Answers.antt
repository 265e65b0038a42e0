use Rattle.std.proofs.Common.{rules}
use Rattle.lethe_install.proofs.sweeping.replaced.Goals as goal

pub returns : goal.returns
returns c = λ level swept bytes. record {
  numbers = search rules;
  above = search rules;
  names = c.in_ok-names.ensures level swept bytes;
}
