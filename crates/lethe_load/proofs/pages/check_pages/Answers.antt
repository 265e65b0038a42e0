use Rattle.std.proofs.Common.{List, [], ◌++◌, All, map, take, refl, sym, ap, subst, ◌∙◌, arith}
use Rattle.std.specs.Prelude.{IsSome}
use Rattle.std.specs.FinMap.{keys}
use Rattle.std.proofs.lemmas.List.{take_all}
use Rattle.std.proofs.lemmas.List.Elements.{All-nil, All-append}
use Rattle.lethe_disk.specs.Directory.{object}
use Rattle.lethe_disk.proofs.Quieting.{quiet_itself, quiet_then}
use Rattle.lethe_file.specs.Agreement.{page_name}
use Rattle.lethe_header.specs.Facts.{lines_of}
use Rattle.lethe_header.specs.Headers.{EachFollows, IsTile, TileFollows}
use Rattle.lethe_header.specs.declared.header.PageLine.{PageLine}
use Rattle.lethe_header.proofs.Follows.{follows_at}
use Rattle.lethe_version.proofs.Opened.{lines_more}
use Rattle.lethe_manifest.specs.declared.manifest.Cited.{Cited}
use Rattle.lethe_load.specs.Damaged.{placed_in}
use Rattle.lethe_load.specs.Progress.{ArePages, IsBadPage, IsBadInTile}
use Rattle.lethe_load.specs.Refused.{MayFail}
use Rattle.lethe_load.proofs.PagesInOrder.{tiles_more, tiles_below, bad_page_of}
use Rattle.lethe_load.proofs.Refusals.{err_moved, fails_so}
use Rattle.lethe_load.proofs.pages.check_pages.Goals as goal

pub loop-tile-init : goal.loop-tile-init
loop-tile-init g c =
    let d = (g.D.Disk.seen c.args.disk.now).directory in
    record {
      there = λ told. All-nil (λ (line : PageLine). IsSome (object d (page_name line.no)));
      pages = λ told before are. are;
      next = refl;
      quiet = λ told. quiet_itself (g.D.Disk.seen c.args.disk.now);
      faults = omega arith;
    }

pub check_tile-requires-clause-listed : goal.check_tile-requires-clause-listed
check_tile-requires-clause-listed g c κs within = λ told. c.requires.listed told ∙ ap keys (sym (c.loop-tile.invariant.quiet told).directory)

pub check_tile-requires-clause-tile : goal.check_tile-requires-clause-tile
check_tile-requires-clause-tile g c κs within =
    let tiles = c.items-tile-items.result.now in
    let each = subst (EachFollows TileFollows) (sym c.items-tile-items.ensures) c.requires.spelled.tiles in
    subst IsTile (sym c.tile-item.is) (follows_at TileFollows tiles c.loop-tile.tile-index c.tile-item.result each c.loop-tile-test.true).itself

pub loop-tile-preserved : goal.loop-tile-preserved
loop-tile-preserved g c =
    let d = (g.D.Disk.seen c.args.disk.now).directory in
    let tiles = c.items-tile-items.result.now in
    let i = c.loop-tile.tile-index in
    let tile = c.tile-item.result in
    let lt = c.loop-tile-test.true in
    let is = c.tile-item.is in
    record {
      there = λ told.
          subst (All (λ (l : PageLine). IsSome (object d (page_name l.no)))) (sym (lines_more tiles i tile lt is))
          (All-append (λ (l : PageLine). IsSome (object d (page_name l.no))) (lines_of (take i tiles)) tile.pages (c.loop-tile.invariant.there told)
          (subst (λ e. All (λ (l : PageLine). IsSome (object e (page_name l.no))) tile.pages) (c.loop-tile.invariant.quiet told).directory (c.in_ok-check_tile.ensures.there told)));
      pages = λ told before are.
          let below = tiles_below tiles i tile (subst (EachFollows TileFollows) (sym c.items-tile-items.ensures) c.requires.spelled.tiles) lt is in
          let so_far = subst (λ e. ArePages e before (placed_in (take i tiles)) c.loop-tile.numbers) (sym (c.loop-tile.invariant.quiet told).directory) (c.loop-tile.invariant.pages told before are) in
          subst (λ l. ArePages d before l c.check_tile.new.numbers) (sym (tiles_more tiles i tile lt is))
          (subst (λ e. ArePages e before (placed_in (take i tiles) ++ map (λ l. (tile, l)) tile.pages) c.check_tile.new.numbers) (c.loop-tile.invariant.quiet told).directory
          (c.in_ok-check_tile.ensures.found told before (placed_in (take i tiles)) so_far below));
      next = c.check_tile.ensures.next ∙ c.loop-tile.invariant.next;
      quiet = λ told. quiet_then (g.D.Disk.seen c.args.disk.now) (g.D.Disk.seen c.loop-tile.disk) (g.D.Disk.seen c.check_tile.new.disk) (c.loop-tile.invariant.quiet told) (c.check_tile.ensures.quiet told);
      faults = omega (arith, c.loop-tile.invariant.faults, c.check_tile.ensures.faults);
    }

pub returns-in_err-check_tile-clause-refused : goal.returns-in_err-check_tile-clause-refused
returns-in_err-check_tile-clause-refused g c =
    let d = (g.D.Disk.seen c.args.disk.now).directory in
    let mid = (g.D.Disk.seen c.loop-tile.disk).directory in
    let now = g.D.Disk.faults c.check_tile.new.disk in
    let tiles = c.items-tile-items.result.now in
    let i = c.loop-tile.tile-index in
    let tile = c.tile-item.result in
    err_moved c.from_residual.result c.in_err-check_tile.field-0.0
    (MayFail g.D.Disk.tells (λ name. (before : List Cited) → ArePages d before [] c.args.numbers.now → IsBadPage d c.args.numbers.now.next before (placed_in c.args.header.now.tiles) name) c.args.listing.now.faults now) c.from_residual.ensures.1
    (fails_so g.D.Disk.tells (IsBadInTile mid c.loop-tile.numbers tile) (λ name. (before : List Cited) → ArePages d before [] c.args.numbers.now → IsBadPage d c.args.numbers.now.next before (placed_in c.args.header.now.tiles) name)
    c.args.listing.now.faults now c.in_err-check_tile.field-0.0
    (λ told name bad before are.
    let below = tiles_below tiles i tile (subst (EachFollows TileFollows) (sym c.items-tile-items.ensures) c.requires.spelled.tiles) c.loop-tile-test.true c.tile-item.is in
    let here = subst (λ e. IsBadInTile e c.loop-tile.numbers tile name) (c.loop-tile.invariant.quiet told).directory bad in
    bad_page_of d c.args.numbers.now.next before c.args.header.now.tiles tiles i tile name c.items-tile-items.ensures c.loop-tile-test.true c.tile-item.is
    (subst (λ n. IsBadPage d n before (placed_in (take i tiles) ++ map (λ l. (tile, l)) tile.pages) name) c.loop-tile.invariant.next (here before (placed_in (take i tiles)) (c.loop-tile.invariant.pages told before are) below)))
    c.in_err-check_tile.ensures.refused)

pub returns-in_err-check_tile-clause-quiet : goal.returns-in_err-check_tile-clause-quiet
returns-in_err-check_tile-clause-quiet g c = λ told. quiet_then (g.D.Disk.seen c.args.disk.now) (g.D.Disk.seen c.loop-tile.disk) (g.D.Disk.seen c.check_tile.new.disk) (c.loop-tile.invariant.quiet told) (c.check_tile.ensures.quiet told)

pub returns-clause-there : goal.returns-clause-there
returns-clause-there g c = λ told.
    let d = (g.D.Disk.seen c.args.disk.now).directory in
    subst (λ ts. All (λ (l : PageLine). IsSome (object d (page_name l.no))) (lines_of ts)) (take_all c.loop-tile.tile-index c.items-tile-items.result.now (omega (arith, c.loop-tile-test.false)) ∙ c.items-tile-items.ensures) (c.loop-tile.invariant.there told)

pub returns-clause-found : goal.returns-clause-found
returns-clause-found g c = λ told before are.
    let d = (g.D.Disk.seen c.args.disk.now).directory in
    subst (λ ts. ArePages d before (placed_in ts) c.loop-tile.numbers) (take_all c.loop-tile.tile-index c.items-tile-items.result.now (omega (arith, c.loop-tile-test.false)) ∙ c.items-tile-items.ensures) (c.loop-tile.invariant.pages told before are)
