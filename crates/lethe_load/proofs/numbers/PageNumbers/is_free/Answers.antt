use Rattle.std.proofs.Common.{◌≡◌, Bool, true, false, refl, sym, ap, ◌∙◌}
use Rattle.std.specs.Prelude.{not}
use Rattle.lethe_load.proofs.Sets.{has}
use Rattle.lethe_load.proofs.numbers.PageNumbers.is_free.Goals as goal

not_of : (b : Bool) → (b ≡ true → ⊥) → not b ≡ true
not_of true none = absurd (none refl)
not_of false none = refl

pub returns-then-no-self : goal.returns-then-no-self
returns-then-no-self c =
    let h = has c.args.self.now.taken c.args.no in (
      λ e. (c.if-no-self.true, λ there. let both : false ≡ true = ap not (sym (c.contains.ensures ∙ h.1 there)) ∙ e in cc),
      λ free. not_of c.contains.result (λ yes. free.1 (h.0 (sym c.contains.ensures ∙ yes))),
    )
