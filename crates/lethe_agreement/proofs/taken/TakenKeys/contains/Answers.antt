use Rattle.std.proofs.Common.{subst, sym}
use Rattle.std.specs.Prelude.{Contains, IsTrue, ◌↔◌}
use Rattle.lethe_agreement.proofs.KeySets.{has}
use Rattle.lethe_agreement.proofs.taken.TakenKeys.contains.Goals as goal

pub returns : goal.returns
returns c =
    let keys = c.args.self.now.keys in
    let key = c.args.key.now in
    subst (λ there. IsTrue there ↔ Contains keys.keys key) (sym c.contains.ensures) (has keys key)
