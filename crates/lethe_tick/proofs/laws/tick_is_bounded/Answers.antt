use Rattle.std.proofs.Common.{inl, inr}
use Rattle.lethe_core.proofs.Outcomes.{ended_some, outcomes_few}
use Rattle.lethe_core.proofs.Waiting.{erases_counted}
use Rattle.lethe_core.specs.Merges.{due_choice}
use Rattle.lethe_tick.proofs.Ripe.{ripened_for}
use Rattle.lethe_tick.proofs.laws.tick_is_bounded.Goals as goal

pub returns : goal.returns
returns c = λ h to s ripe t outcomes is coherent ripened are.
    let behind = ripened_for h to s ripe coherent is ripened in
    let counted = erases_counted h ripe behind.0 in
    let by = due_choice to in (
      behind.0,
      elim are [
        | inl some ↦ outcomes_few by ripe outcomes t behind.1 counted some
        | inr all ↦ outcomes_few by ripe outcomes t behind.1 counted (ended_some by ripe outcomes t all)
      ],
    )
