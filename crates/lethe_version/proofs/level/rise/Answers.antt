use Rattle.std.proofs.Common.{arith}
use Rattle.lethe_version.proofs.Rising.{rise_from_next}
use Rattle.lethe_version.proofs.level.rise.Goals as goal

pub returns : goal.returns
returns g c = λ _. rise_from_next (λ shared. shared.file.value.header) (λ shared. shared.file.value.spelled) c.args.files.now (λ k d lt. c.loop-place.invariant k d (omega (arith, lt, c.loop-place-test.false)))
