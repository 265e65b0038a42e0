use Rattle.std.proofs.Common.{◌≡◌, ◌∙◌, ap, rules}
use Rattle.lethe_state.specs.Left.{kept_with}
use Rattle.lethe_state.proofs.Left.{kept_remembered}
use Rattle.lethe_state.proofs.state.State.kept_erases.Goals as goal

pub returns-clause-kept : goal.returns-clause-kept
returns-clause-kept c =
    let state = c.args.self.now in
    let kept : c.of.result ≡ kept_with state c.args.files.now = search rules in
    λ s t levels is others files. kept ∙ ap (kept_with state) files ∙ kept_remembered s t state levels is others
