use Rattle.std.specs.Prelude.{◌≡◌, not, filter, take}
use Rattle.std.specs.BTreeSet.{contains}
use Rattle.lethe_base.specs.Names.{name_cmp}
use Rattle.lethe_recover.proofs.tidying.uncited.Given as goal

abbrev pub invariant-loop-name : goal.invariant-loop-name
invariant-loop-name l = l.rest.items ≡ filter (λ name. not (contains name_cmp l.cited name)) (take l.name-index l.names)
