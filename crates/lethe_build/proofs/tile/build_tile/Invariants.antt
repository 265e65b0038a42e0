use Rattle.lethe_build.proofs.Loops.{AreTold}
use Rattle.lethe_build.proofs.tile.build_tile.Given as goal

abbrev pub invariant-loop-entries : goal.invariant-loop-entries
invariant-loop-entries l = AreTold l.initial.pages.items l.initial.entries-iterator.rest.items l.entries-iterator.rest.items l.lines.items l.pages.items
