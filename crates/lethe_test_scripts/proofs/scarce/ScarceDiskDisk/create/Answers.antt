use Rattle.std.proofs.Common.{refl, arith}
use Rattle.lethe_test_scripts.proofs.scarce.ScarceDiskDisk.create.Goals as goal

-- nothing was done
pub returns-then-self-eq0-clause-call : goal.returns-then-self-eq0-clause-call
returns-then-self-eq0-clause-call g c = λ told. record {
  later = omega arith;
  soon = omega arith;
  counted = tt;
  past = λ moment left before. (λ is. is, λ is. is);
  images = λ left is. (left, is, record { others = λ other unlike. refl });
  no_memory = λ is. (refl, refl);
}
