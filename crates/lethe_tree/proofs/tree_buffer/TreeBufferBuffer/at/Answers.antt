use Rattle.std.proofs.Common.{◌∙◌, slice_get, ap, sym}
use Rattle.std.specs.Prelude.{option_and_then}
use Rattle.lethe_mem.specs.Buffered.{Buffered}
use Rattle.lethe_tree.proofs.Looked.{low_enough}
use Rattle.lethe_tree.proofs.Seen.{may_look}
use Rattle.lethe_tree.proofs.Inserted.{at_place}
use Rattle.lethe_tree.proofs.tree_buffer.TreeBufferBuffer.at.Goals as goal

pub returns-in-Some : goal.returns-in-Some
returns-in-Some c =
    let inside = c.self.inside in
    let is = c.self.invariant in
    let may = may_look inside.entries.items inside.links.items inside.root inside.last is inside.ascending in
    let told = rw c.deref.ensures.value at c.index_at.ensures in
    let gets = rw c.deref-in-Some.ensures.value at c.entry_at.ensures in
    let place = told is.tree is.lies is.root_is (low_enough is.tree is.balanced may.few) in
    gets ∙ (sym (ap (option_and_then (λ i. slice_get inside.entries.items i)) c.in-Some.is)
    ∙ (ap (option_and_then (λ i. slice_get inside.entries.items i)) place
    ∙ (sym (at_place inside.entries.items inside.links.items inside.root inside.last is c.args.place) ∙ ap (λ (b : Buffered). slice_get b.entries c.args.place) c.self.view_is)))

pub returns-in-None : goal.returns-in-None
returns-in-None c =
    let inside = c.self.inside in
    let is = c.self.invariant in
    let may = may_look inside.entries.items inside.links.items inside.root inside.last is inside.ascending in
    let told = rw c.deref.ensures.value at c.index_at.ensures in
    let place = told is.tree is.lies is.root_is (low_enough is.tree is.balanced may.few) in
    sym (ap (option_and_then (λ i. slice_get inside.entries.items i)) c.in-None.is)
    ∙ (ap (option_and_then (λ i. slice_get inside.entries.items i)) place
    ∙ (sym (at_place inside.entries.items inside.links.items inside.root inside.last is c.args.place) ∙ ap (λ (b : Buffered). slice_get b.entries c.args.place) c.self.view_is))
