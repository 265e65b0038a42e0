use Rattle.std.proofs.Common.{◌≤◌, ◌+◌, ◌-◌, ◌∙◌, length, slice_get, ap, sym, subst}
use Rattle.std.specs.Prelude.{◌^◌, option_and_then}
use Rattle.lethe_base.specs.Entries.{entry_of}
use Rattle.lethe_mem.specs.Buffered.{Buffered}
use Rattle.lethe_tree.specs.Shape.{order}
use Rattle.lethe_tree.proofs.Seen.{may_look, seen}
use Rattle.lethe_tree.proofs.Found.{looked}
use Rattle.lethe_tree.proofs.Inserted.{many_entries}
use Rattle.lethe_tree.proofs.tree_buffer.TreeBuffer.look.Goals as goal

pub returns-in-Some-clause-found : goal.returns-in-Some-clause-found
returns-in-Some-clause-found g c =
    let inside = c.self.inside in
    let is = c.self.invariant in
    let may = may_look inside.entries.items inside.links.items inside.root inside.last is inside.ascending in
    let told = rw (c.deref.ensures.value, c.deref-2.ensures.value) at c.index_of.ensures.found in
    let gets = rw c.deref-in-Some.ensures.value at c.entry_at.ensures in
    gets ∙ (sym (ap (option_and_then (λ i. slice_get inside.entries.items i)) c.in-Some.is)
    ∙ (sym (looked inside.entries.items c.args.key.now (order is.tree) c.index_of.result is.known may.ascending (told is.tree may))
    ∙ (ap (entry_of c.args.key.now) (sym (seen inside.entries.items inside.links.items inside.root inside.last is))
    ∙ ap (λ (b : Buffered). entry_of c.args.key.now b.entries) c.self.view_is)))

pub returns-in-None-clause-found : goal.returns-in-None-clause-found
returns-in-None-clause-found g c =
    let inside = c.self.inside in
    let is = c.self.invariant in
    let may = may_look inside.entries.items inside.links.items inside.root inside.last is inside.ascending in
    let told = rw (c.deref.ensures.value, c.deref-2.ensures.value) at c.index_of.ensures.found in
    sym (ap (option_and_then (λ i. slice_get inside.entries.items i)) c.in-None.is)
    ∙ (sym (looked inside.entries.items c.args.key.now (order is.tree) c.index_of.result is.known may.ascending (told is.tree may))
    ∙ (ap (entry_of c.args.key.now) (sym (seen inside.entries.items inside.links.items inside.root inside.last is))
    ∙ ap (λ (b : Buffered). entry_of c.args.key.now b.entries) c.self.view_is))

pub returns-in-Some-clause-few : goal.returns-in-Some-clause-few
returns-in-Some-clause-few g c =
    let inside = c.self.inside in
    let is = c.self.invariant in
    let may = may_look inside.entries.items inside.links.items inside.root inside.last is inside.ascending in
    let told = rw (c.deref.ensures.value, c.deref-2.ensures.value) at c.index_of.ensures.few in
    subst (λ n. 2 ^ (c.index_of.new.steps - c.args.steps.now) ≤ (n + 1) ^ 2)
    (is.count ∙ (sym (many_entries inside.entries.items inside.links.items inside.root inside.last is) ∙ ap (λ (b : Buffered). length b.entries) c.self.view_is)) (told is.tree may)

pub returns-in-None-clause-few : goal.returns-in-None-clause-few
returns-in-None-clause-few g c =
    let inside = c.self.inside in
    let is = c.self.invariant in
    let may = may_look inside.entries.items inside.links.items inside.root inside.last is inside.ascending in
    let told = rw (c.deref.ensures.value, c.deref-2.ensures.value) at c.index_of.ensures.few in
    subst (λ n. 2 ^ (c.index_of.new.steps - c.args.steps.now) ≤ (n + 1) ^ 2)
    (is.count ∙ (sym (many_entries inside.entries.items inside.links.items inside.root inside.last is) ∙ ap (λ (b : Buffered). length b.entries) c.self.view_is)) (told is.tree may)
