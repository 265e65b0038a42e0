use Rattle.std.proofs.Common.{rules, ◌≡◌, ◌+◌, Some, length, sym, ap, ◌∙◌, subst}
use Rattle.std.specs.List.{range_with_len}
use Rattle.std.proofs.lemmas.List.FromFn.{length-range_with_len}
use Rattle.lethe_base.specs.declared.refused.Refused.TheVariants.{NoMemory}
use Rattle.lethe_core.specs.View.{view_of}
use Rattle.lethe_changes.specs.Changes.{AnswersAll, counts_of}
use Rattle.lethe_changes.proofs.Making.{none_placed}
use Rattle.lethe_changes.proofs.changes.change_all.Goals as goal

-- There was no memory for the places

pub returns-in_default-clause-answers : goal.returns-in_default-clause-answers
returns-in_default-clause-answers g c =
    let old = view_of c.args.engine.now.core in
    let before = counts_of (g.D.Disk.fetches c.args.port.now) (g.D.Disk.port_faults c.args.port.now) in
    subst (λ n. AnswersAll g.D.Disk.tells g.D.Disk.ports_fail c.args.asked.items n (Some NoMemory) before before old old) (sym (ap length c.new.ensures.items))
    (none_placed g.D.Disk.tells g.D.Disk.ports_fail old c.args.asked.items before c.requires (λ none. absurd (let empty : c.len.result ≡ 0 = search rules in let ok = c.with_capacity.ensures.succeeds empty in search rules)))

-- As many as were made

pub returns-clause-answers : goal.returns-clause-answers
returns-clause-answers g c =
    subst (λ n. AnswersAll g.D.Disk.tells g.D.Disk.ports_fail c.args.asked.items n c.make_all-done.result.refused
    (counts_of (g.D.Disk.fetches c.args.port.now) (g.D.Disk.port_faults c.args.port.now)) (counts_of (g.D.Disk.fetches c.make_all-done.new.port) (g.D.Disk.port_faults c.make_all-done.new.port))
    (view_of c.args.engine.now.core) (view_of c.make_all-done.new.engine.core)) (sym (ap length c.places_behind.ensures ∙ length-range_with_len (c.count-count.result + 1) c.make_all-done.result.done)) c.make_all-done.ensures.answers

pub returns-clause-places : goal.returns-clause-places
returns-clause-places g c =
    let many : length c.places_behind.result.items ≡ c.make_all-done.result.done = ap length c.places_behind.ensures ∙ length-range_with_len (c.count-count.result + 1) c.make_all-done.result.done in
    c.places_behind.ensures ∙ ap (λ n. range_with_len (n + 1) c.make_all-done.result.done) c.count-count.ensures ∙ ap (λ n. range_with_len (c.args.engine.now.core.state.count + 1) n) (sym many)
