use Rattle.std.proofs.Common.{◌≡◌, ◌-◌, ◌+◌, ◌<◌, List, length, get_or, take, rules, arith, ap, ◌∙◌}
use Rattle.std.specs.Prelude.{nat_le, slice_index}
use Rattle.std.proofs.lemmas.List.Sorted.{IsPartitionPoint-from_clause}
use Rattle.lethe_header.specs.Facts.{lines_of}
use Rattle.lethe_header.specs.declared.header.PageLine.{PageLine}
use Rattle.lethe_file.proofs.Starts.{has_line, parted, some_before}
use Rattle.lethe_file.proofs.Tiles.{line_there}
use Rattle.lethe_file.proofs.finding.line_at.Goals as goal

pub overflow_sub-tile : goal.overflow_sub-tile
overflow_sub-tile c =
    let starts = c.args.starts.now in
    let point = c.partition_point-tile.result in
    let is_point = IsPartitionPoint-from_clause (λ y. nat_le y c.args.place) starts point c.partition_point-tile.ensures.partitioned (parted c.args.tiles.now starts c.requires.starts c.args.place) (λ a r f called. search rules) in
    some_before c.args.tiles.now starts c.requires.starts c.args.place point c.requires.place c.partition_point-tile.ensures.bound is_point

pub overflow_sub-result : goal.overflow_sub-result
overflow_sub-result c =
    let starts = c.args.starts.now in
    let point = c.partition_point-tile.result in
    let is_point = IsPartitionPoint-from_clause (λ y. nat_le y c.args.place) starts point c.partition_point-tile.ensures.partitioned (parted c.args.tiles.now starts c.requires.starts c.args.place) (λ a r f called. search rules) in
    (has_line c.args.tiles.now starts c.requires.starts c.args.place point c.requires.place c.partition_point-tile.ensures.bound is_point).after

pub bounds-lines-place : goal.bounds-lines-place
bounds-lines-place c =
    let starts = c.args.starts.now in
    let tiles = c.args.tiles.now in
    let point = c.partition_point-tile.result in
    let tile = c.index-tiles-tile.result in
    let is_point = IsPartitionPoint-from_clause (λ y. nat_le y c.args.place) starts point c.partition_point-tile.ensures.partitioned (parted tiles starts c.requires.starts c.args.place) (λ a r f called. search rules) in
    let has = has_line tiles starts c.requires.starts c.args.place point c.requires.place c.partition_point-tile.ensures.bound is_point in
    omega (arith, has.after, has.before tile, ap length c.items-lines.ensures)

pub offset_bounds-lines-place : goal.offset_bounds-lines-place
offset_bounds-lines-place c =
    let starts = c.args.starts.now in
    let tiles = c.args.tiles.now in
    let point = c.partition_point-tile.result in
    let tile = c.index-tiles-tile.result in
    let is_point = IsPartitionPoint-from_clause (λ y. nat_le y c.args.place) starts point c.partition_point-tile.ensures.partitioned (parted tiles starts c.requires.starts c.args.place) (λ a r f called. search rules) in
    let has = has_line tiles starts c.requires.starts c.args.place point c.requires.place c.partition_point-tile.ensures.bound is_point in
    let inside : c.args.place - slice_index starts (point - 1) < length c.items-lines.result.now =
    omega (arith, has.after, has.before tile, ap length c.items-lines.ensures) in
    search rules

pub returns : goal.returns
returns c =
    let starts = c.args.starts.now in
    let tiles = c.args.tiles.now in
    let point = c.partition_point-tile.result in
    let tile = c.index-tiles-tile.result in
    let line = c.index-lines-place.result in
    let is_point = IsPartitionPoint-from_clause (λ y. nat_le y c.args.place) starts point c.partition_point-tile.ensures.partitioned (parted tiles starts c.requires.starts c.args.place) (λ a r f called. search rules) in
    let has = has_line tiles starts c.requires.starts c.args.place point c.requires.place c.partition_point-tile.ensures.bound is_point in
    let at = c.args.place - slice_index starts (point - 1) in
    let pages : c.items-lines.result.now ≡ (get_or tiles (point - 1) tile).pages = c.items-lines.ensures in
    let inside : at < length (get_or tiles (point - 1) tile).pages = omega (arith, has.after, has.before tile) in
    let place_is : length (lines_of (take (point - 1) tiles)) + at ≡ c.args.place = omega (arith, has.after, has.start) in
    line_there tiles (point - 1) tile at c.args.place line has.tile inside place_is (c.index-lines-place.is ∙ ap (λ (l : List PageLine). get_or l at line) pages)
