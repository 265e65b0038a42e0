use Rattle.std.proofs.Common.{map}
use Rattle.lethe_tile.specs.Woven.{IsTile, plain}
use Rattle.lethe_tile.proofs.Pages.{IsGoing}
use Rattle.lethe_tile.proofs.weaving.weave.Given as goal

abbrev pub invariant-loop-slice : goal.invariant-loop-slice
invariant-loop-slice l =
    IsGoing (IsTile l.page) (map (λ slice. slice.items) l.initial.slice-iterator.rest.items) (map (λ slice. slice.items) l.slice-iterator.rest.items) (map plain l.tiles.items)
