use Rattle.std.proofs.Common.{◌≡◌, ◌+◌, ◌++◌, Some, length, map, take, sym, ap, subst, ◌∙◌, arith, length-append}
use Rattle.std.specs.Prelude.{IsSome, All}
use Rattle.std.proofs.lemmas.List.{take_all}
use Rattle.std.proofs.lemmas.Simd.{map-map}
use Rattle.lethe_disk.specs.Directory.{object}
use Rattle.lethe_disk.proofs.Quieting.{quiet_itself, quiet_then}
use Rattle.lethe_file.specs.Agreement.{page_name}
use Rattle.lethe_header.specs.Facts.{lines_of}
use Rattle.lethe_header.specs.declared.header.PageLine.{PageLine}
use Rattle.lethe_version.proofs.Opened.{lines_more, calls_more, calls_within, tile_opened, all_of_tile}
use Rattle.lethe_version.proofs.opening.open_file.Goals as goal

pub loop-tile-init : goal.loop-tile-init
loop-tile-init g c = record {
  quiet = λ told. quiet_itself (g.D.Disk.seen c.args.disk.now);
  faults = omega arith;
  soon = λ told. omega arith;
  count = ap length c.new-pages.ensures.items;
  pages = λ told. ap (map (λ page. Some (g.D.Disk.page_bytes page.value))) c.new-pages.ensures.items;
}

pub open_pages-requires-after_bounds : goal.open_pages-requires-after_bounds
open_pages-requires-after_bounds g c κs within = λ told.
    let d = (g.D.Disk.seen c.args.disk.now).directory in
    let all = all_of_tile (λ (line : PageLine). IsSome (object d (page_name line.no))) c.args.header.tiles c.items-tile-items.result.now c.loop-tile.tile-index c.tile-item.result c.items.result.now
    c.items-tile-items.ensures c.loop-tile-test.true c.tile-item.is c.items.ensures (c.requires.present told) in
    subst (λ e. All (λ (line : PageLine). IsSome (object e (page_name line.no))) c.items.result.now) (sym (c.loop-tile.invariant.quiet told).directory) all

pub returns-in_err-open_pages-clause-quiet : goal.returns-in_err-open_pages-clause-quiet
returns-in_err-open_pages-clause-quiet g c = λ told. quiet_then (g.D.Disk.seen c.args.disk.now) (g.D.Disk.seen c.loop-tile.disk) (g.D.Disk.seen c.open_pages.new.disk) (c.loop-tile.invariant.quiet told) (c.open_pages.ensures.quiet told)

pub loop-tile-preserved : goal.loop-tile-preserved
loop-tile-preserved g c =
    let i = c.loop-tile.tile-index in
    let tiles = c.items-tile-items.result.now in
    let more = lines_more tiles i c.tile-item.result c.loop-tile-test.true c.tile-item.is in
    record {
      quiet = λ told. quiet_then (g.D.Disk.seen c.args.disk.now) (g.D.Disk.seen c.loop-tile.disk) (g.D.Disk.seen c.open_pages.new.disk) (c.loop-tile.invariant.quiet told) (c.open_pages.ensures.quiet told);
      faults = omega (arith, c.loop-tile.invariant.faults, c.open_pages.ensures.cause.later);
      soon = λ told. calls_more tiles i c.tile-item.result c.items.result.now c.loop-tile-test.true c.tile-item.is c.items.ensures (g.D.Disk.seen c.args.disk.now).moment
          (g.D.Disk.seen c.loop-tile.disk).moment (g.D.Disk.seen c.open_pages.new.disk).moment (c.loop-tile.invariant.soon told) (c.open_pages.ensures.soon told);
      count = c.in_ok-open_pages.ensures.count ∙ (λ k. c.loop-tile.invariant.count k + length (c.items.ensures k)) ∙ sym (length-append (lines_of (take i tiles)) c.tile-item.result.pages) ∙ ap length (sym more);
      pages = λ told.
          let d = (g.D.Disk.seen c.args.disk.now).directory in
          let f = (g.D.Disk.seen c.loop-tile.disk).directory in
          let same : map (λ (line : PageLine). object f (page_name line.no)) c.items.result.now ≡ map (λ (line : PageLine). object d (page_name line.no)) c.items.result.now =
          ap (λ e. map (λ (line : PageLine). object e (page_name line.no)) c.items.result.now) (c.loop-tile.invariant.quiet told).directory in
          tile_opened (λ (line : PageLine). object d (page_name line.no)) (map (λ page. Some (g.D.Disk.page_bytes page.value)) c.loop-tile.pages.items) (map (λ page. Some (g.D.Disk.page_bytes page.value)) c.open_pages.new.pages.items) tiles i c.tile-item.result c.items.result.now
          c.loop-tile-test.true c.tile-item.is c.items.ensures (c.in_ok-open_pages.ensures.pages told ∙ ap (λ l. map (λ page. Some (g.D.Disk.page_bytes page.value)) c.loop-tile.pages.items ++ l) same) (c.loop-tile.invariant.pages told);
    }

pub new-requires-clause-paged : goal.new-requires-clause-paged
new-requires-clause-paged g c κs within =
    c.loop-tile.invariant.count ∙ ap (λ tiles. length (lines_of tiles)) (take_all c.loop-tile.tile-index c.items-tile-items.result.now (omega (arith, c.loop-tile-test.false)) ∙ c.items-tile-items.ensures)

pub returns-clause-pages : goal.returns-clause-pages
returns-clause-pages g c = λ told.
    let d = (g.D.Disk.seen c.args.disk.now).directory in
    ap (λ pages. map Some (map (λ page. g.D.Disk.page_bytes page.value) pages.items)) c.in_ok-new.ensures.pages
    ∙ map-map Some (λ page. g.D.Disk.page_bytes page.value) c.loop-tile.pages.items ∙ c.loop-tile.invariant.pages told
    ∙ ap (λ tiles. map (λ (line : PageLine). object d (page_name line.no)) (lines_of tiles)) (take_all c.loop-tile.tile-index c.items-tile-items.result.now (omega (arith, c.loop-tile-test.false)) ∙ c.items-tile-items.ensures)

pub returns-clause-quiet : goal.returns-clause-quiet
returns-clause-quiet g c = c.loop-tile.invariant.quiet

pub returns-in_err-open_pages-clause-soon : goal.returns-in_err-open_pages-clause-soon
returns-in_err-open_pages-clause-soon g c = λ told.
    let i = c.loop-tile.tile-index in
    let tiles = c.items-tile-items.result.now in
    let s0 = g.D.Disk.seen c.args.disk.now in
    let s2 = g.D.Disk.seen c.open_pages.new.disk in
    calls_within tiles c.args.header.tiles (i + 1) s0.moment s2.moment c.items-tile-items.ensures
    (calls_more tiles i c.tile-item.result c.items.result.now c.loop-tile-test.true c.tile-item.is c.items.ensures s0.moment (g.D.Disk.seen c.loop-tile.disk).moment s2.moment (c.loop-tile.invariant.soon told) (c.open_pages.ensures.soon told))

pub returns-clause-soon : goal.returns-clause-soon
returns-clause-soon g c = λ told.
    calls_within c.items-tile-items.result.now c.args.header.tiles c.loop-tile.tile-index (g.D.Disk.seen c.args.disk.now).moment (g.D.Disk.seen c.loop-tile.disk).moment c.items-tile-items.ensures (c.loop-tile.invariant.soon told)

pub returns-in_err-new-clause-soon : goal.returns-in_err-new-clause-soon
returns-in_err-new-clause-soon g c = λ told.
    calls_within c.items-tile-items.result.now c.args.header.tiles c.loop-tile.tile-index (g.D.Disk.seen c.args.disk.now).moment (g.D.Disk.seen c.loop-tile.disk).moment c.items-tile-items.ensures (c.loop-tile.invariant.soon told)
