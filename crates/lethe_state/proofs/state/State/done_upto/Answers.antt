use Rattle.std.proofs.Common.{◌≡◌, ◌∙◌, ap, rules}
use Rattle.lethe_state.specs.Left.{done_with}
use Rattle.lethe_state.proofs.Left.{done_remembered}
use Rattle.lethe_state.proofs.state.State.done_upto.Goals as goal

pub returns-clause-done : goal.returns-clause-done
returns-clause-done c = λ s t levels is others files.
    let told : c.earlier-2.result ≡ done_with c.args.self.now c.args.files.now = search rules in
    told ∙ ap (done_with c.args.self.now) files ∙ done_remembered s t c.args.self.now levels is others
