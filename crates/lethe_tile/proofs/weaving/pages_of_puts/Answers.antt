use Rattle.std.proofs.Common.{rules, ◌≡◌, List, map, length, All, sym, subst, arith}
use Rattle.lethe_base.specs.declared.entry.Entry.{Entry}
use Rattle.lethe_tile.specs.Woven.{HaveDistinctKeys}
use Rattle.lethe_tile.proofs.Orders.{other_permuted}
use Rattle.lethe_tile.proofs.Parts.{empty_is}
use Rattle.lethe_tile.proofs.Pages.{IsSortOf, going_next, going_more, going_all, parts_have_distinct_keys, paged}
use Rattle.lethe_tile.proofs.weaving.pages_of_puts.Goals as goal

pub sort_by_key-requires : goal.sort_by_key-requires
sort_by_key-requires c =
    let parts : List (List Entry) = map (λ part. part.items) c.in_ok-parts.parts.items in
    let ordered = other_permuted _ _ c.sort_by_delete_key.ensures.same c.requires.keys in
    let other : All HaveDistinctKeys parts = parts_have_distinct_keys parts (subst HaveDistinctKeys (sym c.in_ok-parts.ensures.joined) ordered) in
    let all : c.into_iter-part-iterator.result.rest.items ≡ c.in_ok-parts.parts.items = search rules in
    let start = rw (c.in-Some.ensures.steps.0, all) at c.loop-part.invariant in
    going_next IsSortOf HaveDistinctKeys parts _ _ c.in-Some.part.items start other

pub loop-part-preserved : goal.loop-part-preserved
loop-part-preserved c =
    let start = rw (c.in-Some.ensures.steps.0) at c.loop-part.invariant in
    rw (c.in_ok-push.ensures.items, c.of.ensures) (going_more IsSortOf _ _ _ c.in-Some.part.items c.sort_by_key.new.entries.items start (record { same = c.sort_by_key.ensures.same; ascending = c.sort_by_key.ensures.order }))

pub returns : goal.returns
returns c =
    let none : length c.loop-part.part-iterator.rest.items ≡ 0 = omega (arith, c.in-None.ensures.steps.0) in
    let all : c.into_iter-part-iterator.result.rest.items ≡ c.in_ok-parts.parts.items = search rules in
    let going = rw (empty_is _ none, all) at c.loop-part.invariant in
    paged c.args.page _ _ _ _ c.sort_by_delete_key.ensures.same c.sort_by_delete_key.ensures.order c.in_ok-parts.ensures.joined c.in_ok-parts.ensures.lengths (going_all IsSortOf _ _ going)
