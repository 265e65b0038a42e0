use Rattle.std.proofs.Common.{map}
use Rattle.lethe_tile.proofs.Pages.{IsGoing, IsSortOf}
use Rattle.lethe_tile.proofs.weaving.pages_of_puts.Given as goal

abbrev pub invariant-loop-part : goal.invariant-loop-part
invariant-loop-part l =
    IsGoing IsSortOf (map (λ part. part.items) l.initial.part-iterator.rest.items) (map (λ part. part.items) l.part-iterator.rest.items) l.pages.items
