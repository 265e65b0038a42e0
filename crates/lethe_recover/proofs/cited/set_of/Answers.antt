use Rattle.std.proofs.Common.{◌≡◌, List, [], ◌∷◌, ◌++◌, rules, arith, ap, sym, subst, ◌∙◌, append_assoc, append-nil}
use Rattle.std.proofs.lemmas.List.{nil_from_length}
use Rattle.lethe_base.specs.declared.name.Name.{Name}
use Rattle.lethe_recover.proofs.Sets.{Has, one_more, none_has}
use Rattle.lethe_recover.proofs.cited.set_of.Goals as goal

pub loop-name-init : goal.loop-name-init
loop-name-init c = record { has = none_has c.new-set.result (nil_from_length _ c.new-set.ensures.len); rest = search rules }

pub loop-name-preserved : goal.loop-name-preserved
loop-name-preserved c =
    let name = c.in-Some.name in
    let step : c.loop-name.name-iterator.rest.items ≡ name ∷ c.next.new.self.rest.items = search rules in
    record {
      has = one_more c.loop-name.yielded c.loop-name.set c.insert.new.self name c.loop-name.invariant.has c.in_ok-insert.ensures.updates;
      rest = append_assoc c.loop-name.yielded (name ∷ []) c.next.new.self.rest.items ∙ ap (λ (l : List Name). c.loop-name.yielded ++ l) (sym step) ∙ c.loop-name.invariant.rest;
    }

pub returns : goal.returns
returns c =
    let none : c.loop-name.name-iterator.rest.items ≡ [] = nil_from_length _ (omega (arith, c.in-None.ensures.steps.0)) in
    let all : c.loop-name.yielded ≡ c.args.names.items =
    sym (append-nil c.loop-name.yielded) ∙ ap (λ (l : List Name). c.loop-name.yielded ++ l) (sym none) ∙ c.loop-name.invariant.rest in
    subst (Has c.loop-name.set) all c.loop-name.invariant.has
