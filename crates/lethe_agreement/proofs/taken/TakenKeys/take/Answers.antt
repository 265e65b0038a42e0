use Rattle.std.proofs.Common.{◌≡◌, List, [], ◌∷◌, ◌++◌, rules, arith, ap, sym, subst, ◌∙◌, append_assoc, append-nil}
use Rattle.std.proofs.lemmas.List.{nil_from_length}
use Rattle.lethe_base.specs.Keys.{Bytes}
use Rattle.lethe_agreement.specs.Soundness.{IsTaken}
use Rattle.lethe_agreement.proofs.KeySets.{Has, one_more}
use Rattle.lethe_agreement.proofs.taken.TakenKeys.take.Goals as goal

pub loop-key-preserved : goal.loop-key-preserved
loop-key-preserved c =
    let key = c.in-Some.key in
    let step : c.loop-key.key-iterator.rest.items ≡ key ∷ c.next.new.self.rest.items = search rules in
    record {
      has = one_more (IsTaken c.args.self.now) c.loop-key.yielded c.loop-key.self.keys c.insert.new.self key c.loop-key.invariant.has c.in_ok-insert.ensures.updates;
      rest = append_assoc c.loop-key.yielded (key ∷ []) c.next.new.self.rest.items ∙ ap (λ (l : List Bytes). c.loop-key.yielded ++ l) (sym step) ∙ c.loop-key.invariant.rest;
    }

pub returns : goal.returns
returns c =
    let none : c.loop-key.key-iterator.rest.items ≡ [] = nil_from_length _ (omega (arith, c.in-None.ensures.steps.0)) in
    let all : c.loop-key.yielded ≡ c.args.keys.items =
    sym (append-nil c.loop-key.yielded) ∙ ap (λ (l : List Bytes). c.loop-key.yielded ++ l) (sym none) ∙ c.loop-key.invariant.rest in
    subst (Has c.loop-key.self.keys (IsTaken c.args.self.now)) all c.loop-key.invariant.has
