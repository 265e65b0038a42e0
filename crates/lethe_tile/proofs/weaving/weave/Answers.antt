use Rattle.std.proofs.Common.{rules, ◌≡◌, ◌<◌, ◌*◌, List, map, length, sym, subst}
use Rattle.std.proofs.lemmas.List.{map-append}
use Rattle.lethe_base.specs.Entries.{IsAscending}
use Rattle.lethe_base.specs.declared.entry.Entry.{Entry}
use Rattle.lethe_tile.specs.Woven.{IsTile, plain}
use Rattle.lethe_tile.proofs.Pages.{going_next, going_more, cut_some, slices_ascend}
use Rattle.lethe_tile.proofs.weaving.weave.Goals as goal

pub weave_tile-requires-clause-some : goal.weave_tile-requires-clause-some
weave_tile-requires-clause-some c =
    let slices : List (List Entry) = map (λ slice. slice.items) c.in_ok-slices.slices.items in
    let all : c.into_iter-slice-iterator.result.rest.items ≡ c.in_ok-slices.slices.items = search rules in
    let start = rw (c.in-Some.ensures.steps.0, all) at c.loop-slice.invariant in
    let some : 0 < c.fields-fields.result.now.page * c.fields-fields.result.now.tile = search rules in
    going_next (IsTile c.fields-fields.result.now.page) (λ slice. 0 < length slice) slices _ _ c.in-Some.slice.items start (cut_some _ slices some c.in_ok-slices.ensures.lengths)

pub weave_tile-requires-clause-ascending : goal.weave_tile-requires-clause-ascending
weave_tile-requires-clause-ascending c =
    let slices : List (List Entry) = map (λ slice. slice.items) c.in_ok-slices.slices.items in
    let all : c.into_iter-slice-iterator.result.rest.items ≡ c.in_ok-slices.slices.items = search rules in
    let start = rw (c.in-Some.ensures.steps.0, all) at c.loop-slice.invariant in
    going_next (IsTile c.fields-fields.result.now.page) IsAscending slices _ _ c.in-Some.slice.items start (slices_ascend slices (subst IsAscending (sym c.in_ok-slices.ensures.joined) c.requires))

pub loop-slice-preserved : goal.loop-slice-preserved
loop-slice-preserved c =
    let start = rw (c.in-Some.ensures.steps.0) at c.loop-slice.invariant in
    rw (c.in_ok-push.ensures.items, map-append plain c.loop-slice.tiles.items) (going_more (IsTile c.fields-fields.result.now.page) _ _ _ c.in-Some.slice.items (plain c.in_ok-weave_tile.field-0) start c.in_ok-weave_tile.ensures)
