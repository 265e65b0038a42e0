use Rattle.std.proofs.Common.{map}
use Rattle.lethe_tile.specs.Woven.{plain}
use Rattle.lethe_tile.proofs.Pages.{IsGoing}
use Rattle.lethe_build.specs.Drafts.{IsDraftOf}
use Rattle.lethe_build.proofs.building.drafts_of.Given as goal

abbrev pub invariant-loop-group : goal.invariant-loop-group
invariant-loop-group l = IsGoing IsDraftOf (map (λ group. map plain group.items) l.initial.group-iterator.rest.items) (map (λ group. map plain group.items) l.group-iterator.rest.items) l.drafts.items
