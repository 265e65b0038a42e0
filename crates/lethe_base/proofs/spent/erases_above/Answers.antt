use Rattle.std.proofs.Common.{◌≡◌, ◌-◌, ◌∙◌, [], None, filter, length, take, drop, refl, rules, sym, subst}
use Rattle.std.proofs.lemmas.List.{take_rest}
use Rattle.std.proofs.lemmas.Fn.{always_returns_same}
use Rattle.lethe_base.specs.Spent.{is_above}
use Rattle.lethe_base.specs.declared.pending.Pending.{Pending}
use Rattle.lethe_base.proofs.Filters.{filter_none}
use Rattle.lethe_base.proofs.LeftErases.{above_are_last, is_upto, parted_by_place}
use Rattle.lethe_base.proofs.spent.erases_above.Goals as goal

pub returns-in_default : goal.returns-in_default
returns-in_default c =
    let erases = c.args.erases.now in
    let none = filter_none (λ (erase : Pending). is_above None erase.seq) erases (λ k d within. refl) in
    subst (λ done. [] ≡ filter (λ (erase : Pending). is_above done erase.seq) erases) (sym c.in_default.is) (sym none)

pub returns : goal.returns
returns c =
    let erases = c.args.erases.now in
    let done = c.in-Some.done in
    let first = c.partition_point-first.result in
    let point = c.partition_point-first.ensures.partitioned (is_upto done) (always_returns_same _ _ _ (λ a r f called. search rules)) (parted_by_place erases done c.requires) in
    subst (λ done. take (length erases - first) (drop first erases) ≡ filter (λ (erase : Pending). is_above done erase.seq) erases) (sym c.in-Some.is)
    (take_rest erases first ∙ sym (above_are_last erases done first point))
