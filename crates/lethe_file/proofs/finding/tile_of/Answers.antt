use Rattle.std.proofs.Common.{◌≡◌, ◌<◌, ℕ, ◌∙◌, true, false, arith, rules, length, sym, subst}
use Rattle.std.specs.Ordering.{is_lt, is_le}
use Rattle.std.proofs.lemmas.Fn.{always_returns_same}
use Rattle.std.proofs.lemmas.List.{get_or_default}
use Rattle.lethe_base.specs.Keys.{key_cmp}
use Rattle.lethe_header.specs.declared.header.TileLine.{TileLine}
use Rattle.lethe_file.specs.Finding.{IsTileOf}
use Rattle.lethe_file.proofs.Orders.{are_parted, there, nowhere}
use Rattle.lethe_file.proofs.finding.tile_of.Goals as goal

pub returns-then-begins_by : goal.returns-then-begins_by
returns-then-begins_by c =
    let facts = c.partition_point-place.ensures in
    let key = c.args.key.now in
    let tiles = c.args.tiles.now in
    let place = c.partition_point-place.result in
    let point = facts.partitioned (λ tile. is_lt (key_cmp tile.hi key)) (always_returns_same _ _ _ (λ a r g called. search rules)) (are_parted tiles c.requires key) in
    let inside : place < length tiles = omega arith in
    there tiles c.requires key place point inside
    (λ d. let is = c.index-tiles-place.is ∙ get_or_default tiles place c.index-tiles-place.result d inside in
    subst (λ (t : TileLine). is_le (key_cmp t.lo key) ≡ true) is (sym c.begins_by.ensures ∙ c.if-begins_by.true))

pub returns-else-begins_by : goal.returns-else-begins_by
returns-else-begins_by c =
    let facts = c.partition_point-place.ensures in
    let key = c.args.key.now in
    let tiles = c.args.tiles.now in
    let place = c.partition_point-place.result in
    let point = facts.partitioned (λ tile. is_lt (key_cmp tile.hi key)) (always_returns_same _ _ _ (λ a r g called. search rules)) (are_parted tiles c.requires key) in
    let inside : place < length tiles = omega arith in
    nowhere tiles c.requires key place point
    (λ in_tiles d. let is = c.index-tiles-place.is ∙ get_or_default tiles place c.index-tiles-place.result d inside in
    subst (λ (t : TileLine). is_le (key_cmp t.lo key) ≡ false) is (sym c.begins_by.ensures ∙ c.if-begins_by.false))

pub returns-then-place-tiles : goal.returns-then-place-tiles
returns-then-place-tiles c =
    let facts = c.partition_point-place.ensures in
    let key = c.args.key.now in
    let tiles = c.args.tiles.now in
    let place = c.partition_point-place.result in
    let point = facts.partitioned (λ tile. is_lt (key_cmp tile.hi key)) (always_returns_same _ _ _ (λ a r g called. search rules)) (are_parted tiles c.requires key) in
    let past : place ≡ length tiles = omega arith in
    subst (λ (n : ℕ). IsTileOf key tiles n) (sym past) (nowhere tiles c.requires key place point (λ inside d. absurd (omega (arith, inside, past))))
