use Rattle.std.proofs.Common.{◌∙◌, ap, sym, length, subst, arith}
use Rattle.std.specs.Option.{is_some}
use Rattle.slab.specs.Slab.{get}
use Rattle.lethe_due.specs.declared.stop.Stop.TheVariants as stop
use Rattle.lethe_due.specs.Due.{Due, AreInOrder, is_linked, without}
use Rattle.lethe_due.specs.Linked.{stops_at}
use Rattle.lethe_due.proofs.Relinked.{one_unlinked}
use Rattle.lethe_due.proofs.Walked.{any_found, count_seen, order_seen, seen}
use Rattle.lethe_due.proofs.Without.{none_goes}
use Rattle.lethe_due.proofs.due_list.DueList.unlink.Goals as goal

pub returns-in_default-clause-found : goal.returns-in_default-clause-found
returns-in_default-clause-found g c =
    let inside = c.self.inside in
    let linked = c.self.invariant in
    let parts = c.seek-behind.ensures.parted linked.cells linked.path linked.count in
    sym (ap is_some c.in_default.is) ∙ any_found (get inside.nodes) inside.first linked.cells (stops_at (stop.Number c.args.no)) c.seek-behind.result.0 c.seek-behind.result.1 parts
    ∙ ap (is_linked c.args.no) (sym (seen inside.nodes inside.first linked)) ∙ ap (λ (d : Due). is_linked c.args.no d.files) c.self.view_is

pub returns-in_default-clause-others : goal.returns-in_default-clause-others
returns-in_default-clause-others g c = sym (none_goes c.args.no c.args.self.now.files (sym (returns-in_default-clause-found g c)))

pub returns-in_default-clause-order : goal.returns-in_default-clause-order
returns-in_default-clause-order g c = subst (λ (d : Due). AreInOrder d.files) c.self.view_is (order_seen c.self.inside.nodes c.self.inside.first c.self.invariant)

pub returns-in_default-clause-few : goal.returns-in_default-clause-few
returns-in_default-clause-few g c = omega (arith, c.seek-behind.ensures.few, count_seen c.self.inside.nodes c.self.inside.first c.self.invariant, ap (λ (d : Due). length d.files) c.self.view_is)

pub invariant_of-self-2 : goal.invariant_of-self-2
invariant_of-self-2 g c =
    let inside = c.self.inside in
    let linked = c.self.invariant in
    let parts = c.seek-behind.ensures.parted linked.cells linked.path linked.count in
    (one_unlinked inside.nodes c.try_remove.new.self c.relink-self-inside.new.nodes inside.first c.relink-self-inside.result c.seek-behind.result.0 c.seek-behind.result.1 c.args.no c.in-Some.key
    c.in-Some-try_remove.node linked parts.front parts.back parts.whole parts.last parts.to parts.on parts.passed parts.stopped c.in-Some.is (sym c.in-Some-try_remove.ensures.value) c.try_remove.ensures.updates
    c.in-Some-try_remove.ensures.len c.relink-self-inside.ensures.linked c.relink-self-inside.ensures.len).0

pub returns-clause-found : goal.returns-clause-found
returns-clause-found g c =
    let inside = c.self.inside in
    let linked = c.self.invariant in
    let parts = c.seek-behind.ensures.parted linked.cells linked.path linked.count in
    sym (ap is_some c.in-Some.is) ∙ any_found (get inside.nodes) inside.first linked.cells (stops_at (stop.Number c.args.no)) c.seek-behind.result.0 c.seek-behind.result.1 parts
    ∙ ap (is_linked c.args.no) (sym (seen inside.nodes inside.first linked)) ∙ ap (λ (d : Due). is_linked c.args.no d.files) c.self.view_is

pub returns-clause-others : goal.returns-clause-others
returns-clause-others g c =
    let inside = c.self.inside in
    let linked = c.self.invariant in
    let parts = c.seek-behind.ensures.parted linked.cells linked.path linked.count in
    let after = one_unlinked inside.nodes c.try_remove.new.self c.relink-self-inside.new.nodes inside.first c.relink-self-inside.result c.seek-behind.result.0 c.seek-behind.result.1 c.args.no c.in-Some.key
    c.in-Some-try_remove.node linked parts.front parts.back parts.whole parts.last parts.to parts.on parts.passed parts.stopped c.in-Some.is (sym c.in-Some-try_remove.ensures.value) c.try_remove.ensures.updates
    c.in-Some-try_remove.ensures.len c.relink-self-inside.ensures.linked c.relink-self-inside.ensures.len in
    seen c.relink-self-inside.new.nodes c.relink-self-inside.result after.0 ∙ after.1 ∙ ap (without c.args.no) (sym (seen inside.nodes inside.first linked)) ∙ ap (λ (d : Due). without c.args.no d.files) c.self.view_is

pub returns-clause-order : goal.returns-clause-order
returns-clause-order g c = order_seen c.relink-self-inside.new.nodes c.relink-self-inside.result (invariant_of-self-2 g c)

pub returns-clause-few : goal.returns-clause-few
returns-clause-few g c =
    omega (arith, c.relink-self-inside.ensures.few, c.seek-behind.ensures.few, count_seen c.self.inside.nodes c.self.inside.first c.self.invariant, ap (λ (d : Due). length d.files) c.self.view_is)
