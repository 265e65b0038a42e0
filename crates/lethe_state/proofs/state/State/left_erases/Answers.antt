use Rattle.std.proofs.Common.{◌≡◌, ◌∙◌, rules}
use Rattle.lethe_state.specs.Left.{left_with}
use Rattle.lethe_state.proofs.Left.{left_remembered}
use Rattle.lethe_state.proofs.state.State.left_erases.Goals as goal

pub returns-clause-left : goal.returns-clause-left
returns-clause-left c = λ s levels is.
    let state = c.args.self.now in
    let above : c.erases_above.result.now ≡ left_with state = search rules in
    above ∙ left_remembered s state levels is
