use Rattle.std.proofs.Common.{◌≡◌, Bool, true, false, refl, sym, ap, ◌∙◌}
use Rattle.std.specs.Prelude.{not}
use Rattle.lethe_state.proofs.TickStep.{young_by_least}
use Rattle.lethe_state.proofs.state.State.has_young_records.Goals as goal

is_false : (b : Bool) → not b ≡ true → b ≡ false
is_false true is = cc
is_false false is = refl

clash : (b : Bool) → b ≡ true → b ≡ false → ⊥
clash b is not = cc

pub returns-then-not-is_passed : goal.returns-then-not-is_passed
returns-then-not-is_passed c = λ s levels is.
    let fields = c.args.self.now.manifest.config in
    let least = young_by_least s c.args.self.now levels is c.args.to in
    let active = c.is_passed.ensures fields 0 c.cum-deadline.ensures in
    let older = c.is_passed-then-not-is_passed.ensures fields 0 c.cum-deadline.ensures in (
      λ young. least.1 (sym active ∙ c.if-not-is_passed.true, sym older ∙ is_false c.is_passed-then-not-is_passed.result young),
      λ young. ap not (older ∙ (least.0 young).1),
    )

pub returns-else-not-is_passed : goal.returns-else-not-is_passed
returns-else-not-is_passed c = λ s levels is.
    let fields = c.args.self.now.manifest.config in
    let least = young_by_least s c.args.self.now levels is c.args.to in
    let active = c.is_passed.ensures fields 0 c.cum-deadline.ensures in (
      λ young. absurd (clash c.is_passed.result c.if-not-is_passed.false (is_false c.is_passed.result young)),
      λ young. absurd (clash c.is_passed.result c.if-not-is_passed.false (active ∙ (least.0 young).0)),
    )
