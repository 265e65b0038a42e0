use Rattle.std.proofs.Common.{inl, inr}
use Rattle.lethe_core.proofs.Outcomes.{ended_some, outcomes_few}
use Rattle.lethe_core.proofs.Waiting.{erases_counted}
use Rattle.lethe_core.proofs.laws.jobs_are_bounded.Goals as goal

pub returns : goal.returns
returns c = λ chosen h s t outcomes is coherent are.
    let counted = erases_counted h s is in
    elim are [
      | inl some ↦ outcomes_few chosen s outcomes t coherent counted some
      | inr all ↦ outcomes_few chosen s outcomes t coherent counted (ended_some chosen s outcomes t all)
    ]
