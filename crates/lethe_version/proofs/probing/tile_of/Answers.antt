use Rattle.std.proofs.Common.{◌≡◌, ◌<◌, ◌∙◌, true, false, arith, rules, length, sym, ap, subst}
use Rattle.std.specs.Ordering.{is_lt, is_le}
use Rattle.std.proofs.lemmas.Fn.{always_returns_same}
use Rattle.std.proofs.lemmas.List.{get_or_default}
use Rattle.lethe_base.specs.Keys.{key_cmp}
use Rattle.lethe_header.specs.declared.header.TileLine.{TileLine}
use Rattle.lethe_file.specs.Finding.{allowed_in}
use Rattle.lethe_file.proofs.Orders.{are_parted, there, nowhere}
use Rattle.lethe_version.proofs.Probed.{none_there, only_there}
use Rattle.lethe_version.proofs.probing.tile_of.Goals as goal

pub returns-then-begins_by-clause-some : goal.returns-then-begins_by-clause-some
returns-then-begins_by-clause-some c =
    let key = c.args.key.now in
    let tiles = c.args.tiles.now in
    let place = c.partition_point-place.result in
    let point = c.partition_point-place.ensures.partitioned (λ tile. is_lt (key_cmp tile.hi key)) (always_returns_same _ _ _ (λ a r g called. search rules)) (are_parted tiles c.requires key) in
    let inside : place < length tiles = omega arith in
    let is_place = there tiles c.requires key place point inside
    (λ d. let is = c.index-tiles-place.is ∙ get_or_default tiles place c.index-tiles-place.result d inside in
    subst (λ (t : TileLine). is_le (key_cmp t.lo key) ≡ true) is (sym c.begins_by.ensures ∙ c.if-begins_by.true)) in
    only_there key tiles place c.index-tiles-place.result is_place inside ∙ ap (λ (t : TileLine). allowed_in key t.pages) (sym c.index-tiles-place.is)

pub returns-else-begins_by-clause-none : goal.returns-else-begins_by-clause-none
returns-else-begins_by-clause-none c =
    let key = c.args.key.now in
    let tiles = c.args.tiles.now in
    let place = c.partition_point-place.result in
    let point = c.partition_point-place.ensures.partitioned (λ tile. is_lt (key_cmp tile.hi key)) (always_returns_same _ _ _ (λ a r g called. search rules)) (are_parted tiles c.requires key) in
    let inside : place < length tiles = omega arith in
    none_there key tiles (nowhere tiles c.requires key place point
    (λ in_tiles d. let is = c.index-tiles-place.is ∙ get_or_default tiles place c.index-tiles-place.result d inside in
    subst (λ (t : TileLine). is_le (key_cmp t.lo key) ≡ false) is (sym c.begins_by.ensures ∙ c.if-begins_by.false)))

pub returns-then-place-tiles-clause-none : goal.returns-then-place-tiles-clause-none
returns-then-place-tiles-clause-none c =
    let key = c.args.key.now in
    let tiles = c.args.tiles.now in
    let place = c.partition_point-place.result in
    let point = c.partition_point-place.ensures.partitioned (λ tile. is_lt (key_cmp tile.hi key)) (always_returns_same _ _ _ (λ a r g called. search rules)) (are_parted tiles c.requires key) in
    let past : place ≡ length tiles = omega arith in
    none_there key tiles (nowhere tiles c.requires key place point (λ inside d. absurd (omega (arith, inside, past))))
