use Rattle.std.proofs.Common.{rules, ◌≡◌, ◌<◌, ◌+◌, ℕ, min, Bool, true, false, Some, None, Ok, Err, if◌then◌else◌, nat_lt, refl, sym, ◌∙◌, arith}
use Rattle.std.specs.Prelude.{Result, OnOk, IfErr}
use Rattle.std.proofs.lemmas.Bool.{ltb-true}
use Rattle.lethe_base.specs.declared.refused.Refused.TheVariants.{Exhausted}
use Rattle.lethe_fade.specs.declared.plan.Plan as plan
use Rattle.lethe_settle.proofs.Chains.{settled_keeps, refused_keeps}
use Rattle.lethe_test_settle.proofs.countdown.count_down.Goals as goal

-- a job is due only where more is left
more_is_left : (to n : ℕ) (job : plan.Plan) → (if nat_lt to n then Some (record { file = n; erase = None }) else None) ≡ Some job → to < n
more_is_left to n job = by (nat_lt to n) refl
  where
    by : (more : Bool) → nat_lt to n ≡ more → (if more then Some (record { file = n; erase = None }) else None) ≡ Some job → to < n
    by true so is = ltb-true to n so
    by false so is = absurd (search rules)

at_ok : {T E P Q : Type 0} (r : Result T E) → OnOk r P → (P → Q) → OnOk r Q
at_ok (Ok x) is f = f is
at_ok (Err e) is f = tt

at_err : {T E : Type 0} {P Q : E → Type 0} (r : Result T E) → IfErr r P → ((e : E) → P e → Q e) → IfErr r Q
at_err (Ok x) is f = tt
at_err (Err e) is f = f e is

pub returns-clause-counted : goal.returns-clause-counted
returns-clause-counted c =
    let kept : OnOk c.settle.result (c.settle.new.tree.left.now + c.settle.new.tree.runs.now ≡ c.args.left.now + c.args.runs.now) =
    at_ok c.settle.result c.settle.ensures.ran (λ settled. settled_keeps settled (λ s t. t.left.now + t.runs.now ≡ s.left.now + s.runs.now) (λ s. refl) (λ r s t first second. second ∙ first)
    (λ s t job due ran. let more = ran.0 in let one = ran.1 in omega arith)) in
    search rules

pub returns-clause-settled : goal.returns-clause-settled
returns-clause-settled c =
    let kept : OnOk c.settle.result (min c.settle.new.tree.left.now c.args.to ≡ min c.args.left.now c.args.to) =
    at_ok c.settle.result c.settle.ensures.ran (λ settled. settled_keeps settled (λ s t. min t.left.now c.args.to ≡ min s.left.now c.args.to) (λ s. refl) (λ r s t first second. second ∙ first)
    (λ s t job due ran. let one = ran.1 in let more = more_is_left c.args.to s.left.now job due in omega arith)) in
    search rules

pub returns-clause-refused : goal.returns-clause-refused
returns-clause-refused c =
    let told : IfErr c.settle.result (λ why. (why ≡ Exhausted c.settle.new.tree.left.now) × (c.args.refused_at ≡ Some c.settle.new.tree.left.now) × (c.args.to < c.settle.new.tree.left.now)
    × (c.settle.new.tree.left.now + c.settle.new.tree.runs.now ≡ c.args.left.now + c.args.runs.now + 1)) =
    at_err c.settle.result c.settle.ensures.refused (λ why r.
    let last = r.refused.2 in let same = last.2 in let run = r.refused.0 in let there = more_is_left c.args.to r.last.left.now r.plan r.due_then in
    let kept = refused_keeps r (λ s t. t.left.now + t.runs.now ≡ s.left.now + s.runs.now) (λ s. refl) (λ r s t first second. second ∙ first) (λ s t job due ran. let more = ran.0 in let one = ran.1 in omega arith) in
    (last.0, sym c.settle.ensures.beside.2 ∙ last.1, omega arith, omega arith)) in
    search rules
