use Rattle.std.proofs.Common.{◌≡◌, rules, sym, refl, ap, ◌∙◌}
use Rattle.lethe_manifest.specs.declared.manifest.Manifest.{Manifest}
use Rattle.lethe_state.proofs.Stepping.{opened_remembered}
use Rattle.lethe_state.proofs.state.State.opened.Goals as goal

pub returns-clause-remembers : goal.returns-clause-remembers
returns-clause-remembers c = λ s levels coherent files is none empty erases.
    let copied : c.of-pending.result ≡ c.args.manifest.erases = search rules in
    let pending = copied ∙ sym (ap (λ (m : Manifest). m.erases) is) in
    let count = sym (ap (λ (m : Manifest). m.count) is) in
    opened_remembered s _ levels coherent files none empty erases (sym is) pending c.new.ensures.entries refl refl refl refl (search rules) (search rules) count refl
