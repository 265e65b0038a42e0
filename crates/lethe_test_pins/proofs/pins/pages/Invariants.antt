use Rattle.std.proofs.Common.{◌≡◌, ◌<◌, All}
use Rattle.lethe_base.specs.declared.name.Name.{Name}
use Rattle.lethe_base.specs.declared.name.Kind.TheVariants.{Page}
use Rattle.lethe_pins.specs.Held.{Ascend}
use Rattle.lethe_test_pins.proofs.pins.pages.Given as goal

abbrev pub invariant-loop-no : goal.invariant-loop-no
invariant-loop-no l = Ascend l.names.items × All (λ (name : Name). (name.kind ≡ Page) × (name.no < l.no)) l.names.items
