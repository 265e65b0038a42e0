use Rattle.std.proofs.Common.{◌≡◌, take}
use Rattle.std.specs.Prelude.{flat_map}
use Rattle.lethe_install.specs.Replaced.{pages_in}
use Rattle.lethe_install.proofs.sweeping.names_gone.Given as goal

abbrev pub invariant-loop-one : goal.invariant-loop-one
invariant-loop-one l = l.kept.items ≡ flat_map pages_in (take l.one-index l.made)
