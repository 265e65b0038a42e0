use Rattle.std.proofs.Common.{◌≡◌, ◌++◌}
use Rattle.lethe_recover.proofs.Sets.{Has}
use Rattle.lethe_recover.proofs.cited.set_of.Given as goal

abbrev pub invariant-loop-name : goal.invariant-loop-name
invariant-loop-name l = record { has : Has l.set l.yielded; rest : l.yielded ++ l.name-iterator.rest.items ≡ l.fn.names.items }
