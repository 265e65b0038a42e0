use Rattle.std.proofs.Common.{◌≡◌, false, take}
use Rattle.std.specs.List.{list_any}
use Rattle.lethe_fade.specs.Claims.{claim_over, meets}
use Rattle.lethe_fade.proofs.claim.is_free.Given as goal

abbrev pub invariant-loop-claim : goal.invariant-loop-claim
invariant-loop-claim l = list_any (meets (claim_over l.first l.last l.keys)) (take l.claim-index l.claims) ≡ false
