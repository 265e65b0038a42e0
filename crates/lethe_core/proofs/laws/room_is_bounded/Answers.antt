use Rattle.std.proofs.Common.{inr}
use Rattle.lethe_state.proofs.Stepping.{room_for}
use Rattle.lethe_core.specs.Merges.{room_choice}
use Rattle.lethe_core.proofs.Outcomes.{outcomes_few, uncrowded_few}
use Rattle.lethe_core.proofs.Waiting.{erases_counted}
use Rattle.lethe_core.proofs.laws.room_is_bounded.Goals as goal

pub returns-clause-made : goal.returns-clause-made
returns-clause-made c = λ h flight s t outcomes is coherent full room.
    let cleared = room_for h s room.cleared coherent is (inr (full, room.middle, room.unfrozen, room.frozen)) in
    (cleared, uncrowded_few flight room.cleared outcomes t room.coherent (erases_counted h room.cleared cleared) room.merges)

pub returns-clause-in_part : goal.returns-clause-in_part
returns-clause-in_part c = λ h s middle cleared t outcomes is coherent full unfrozen frozen coherent_cleared some.
    let for_it = room_for h s cleared coherent is (inr (full, middle, unfrozen, frozen)) in
    (for_it, outcomes_few room_choice cleared outcomes t coherent_cleared (erases_counted h cleared for_it) some)
