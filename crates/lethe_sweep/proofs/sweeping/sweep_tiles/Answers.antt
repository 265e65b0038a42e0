use Rattle.std.proofs.Common.{◌≡◌, ◌+◌, ◌<◌, All, ◌≤◌, [], ℕ, List, Vec, Result, Err, filter_map, flat_map, get_or, length, map, take, ap, sym, subst, arith, ◌∙◌}
use Rattle.std.proofs.lemmas.List.{length-map, take_all}
use Rattle.std.proofs.lemmas.List.Elements.{All-take}
use Rattle.std.specs.declared.alloc.Global.{Global}
use Rattle.lethe_build.specs.Parts.{IsPage}
use Rattle.lethe_disk.specs.Reads.{HasReadCause, IsFault, refused_since}
use Rattle.lethe_disk.specs.declared.cursor.ReadRefused.{ReadRefused}
use Rattle.lethe_disk.proofs.Causes.{cause_since, damage_since, fault_since}
use Rattle.lethe_file.specs.Agreement.{entries_in}
use Rattle.lethe_header.proofs.Lines.{have_few_entries}
use Rattle.lethe_header.specs.Headers.{HasFewEntries}
use Rattle.lethe_header.specs.declared.header.Header.{Header}
use Rattle.lethe_header.specs.declared.header.TileLine.{TileLine}
use Rattle.lethe_sweep.proofs.Agreed.{file_swept}
use Rattle.lethe_sweep.proofs.Fitting.{file_fits}
use Rattle.lethe_sweep.proofs.Keeping.{all_places}
use Rattle.lethe_sweep.proofs.Paging.{pages_spelled}
use Rattle.lethe_sweep.proofs.Tiling.{all_left, damaged_for, left_more, lines_more, lines_within, own_lines, tile_at_most, tile_more}
use Rattle.lethe_sweep.specs.Fences.{fetches_of}
use Rattle.lethe_sweep.specs.Steps.{AreTilesLeft, NoTile}
use Rattle.lethe_sweep.specs.Sweeping.{kept_places}
use Rattle.lethe_swept.specs.Left.{fresh_of, place_of}
use Rattle.lethe_swept.specs.declared.part.Part.{Part}
use Rattle.lethe_swept.specs.declared.part.SweptFile.{SweptFile}
use Rattle.lethe_swept.specs.declared.part.SweptTile.{SweptTile}
use Rattle.lethe_sweep.proofs.sweeping.sweep_tiles.Goals as goal

abbrev refused : ReadRefused → Result SweptFile ReadRefused
refused why = Err why

pub loop-tile-init : goal.loop-tile-init
loop-tile-init g c =
    let pages = map entries_in (map (λ page. g.D.Disk.page_bytes page.value) c.args.file.now.pages.items) in (
      record { counted = omega arith; risen = omega arith },
      omega arith,
      subst (λ (tiles : List SweptTile). AreTilesLeft g.D.Disk.tells c.args.alone c.args.erase.now pages [] tiles) (sym c.new-tiles.ensures.items) NoTile,
    )

pub sweep_tile-requires-clause-within : goal.sweep_tile-requires-clause-within
sweep_tile-requires-clause-within g c =
    let file = c.args.file.now in
    let tiles = file.header.tiles in
    let k = c.loop-tile.tile-index in
    let tile = c.tile-item.result in
    let are : c.items-tile-items.result.now ≡ tiles = c.items-tile-items.ensures ∙ ap (λ (h : Header). h.tiles) c.header.ensures in
    let inside : k < length tiles = omega (arith, c.loop-tile-test.true, ap length are) in
    let is : tile ≡ get_or tiles k tile = c.tile-item.is ∙ ap (λ (ts : List TileLine). get_or ts k tile) are in
    omega (arith, lines_within tiles k tile c.items-lines.result.now c.loop-tile.first inside is c.items-lines.ensures c.loop-tile.invariant.1, file.paged)

pub sweep_tile-requires-clause-lines : goal.sweep_tile-requires-clause-lines
sweep_tile-requires-clause-lines g c =
    let tiles = c.args.file.now.header.tiles in
    let k = c.loop-tile.tile-index in
    let tile = c.tile-item.result in
    let are : c.items-tile-items.result.now ≡ tiles = c.items-tile-items.ensures ∙ ap (λ (h : Header). h.tiles) c.header.ensures in
    let inside : k < length tiles = omega (arith, c.loop-tile-test.true, ap length are) in
    let is : tile ≡ get_or tiles k tile = c.tile-item.is ∙ ap (λ (ts : List TileLine). get_or ts k tile) are in
    let there = own_lines tiles k tile c.items-lines.result.now c.loop-tile.first inside is c.items-lines.ensures c.loop-tile.invariant.1 in
    search there

pub overflow_add-first : goal.overflow_add-first
overflow_add-first g c =
    let file = c.args.file.now in
    let tiles = file.header.tiles in
    let k = c.loop-tile.tile-index in
    let tile = c.tile-item.result in
    let are : c.items-tile-items.result.now ≡ tiles = c.items-tile-items.ensures ∙ ap (λ (h : Header). h.tiles) c.header.ensures in
    let inside : k < length tiles = omega (arith, c.loop-tile-test.true, ap length are) in
    let is : tile ≡ get_or tiles k tile = c.tile-item.is ∙ ap (λ (ts : List TileLine). get_or ts k tile) are in
    omega (arith, lines_within tiles k tile c.items-lines.result.now c.loop-tile.first inside is c.items-lines.ensures c.loop-tile.invariant.1, file.paged, file.pages.ok.0, file.pages.ok.1, file.pages.small)

pub loop-tile-preserved : goal.loop-tile-preserved
loop-tile-preserved g c =
    let tiles = c.args.file.now.header.tiles in
    let k = c.loop-tile.tile-index in
    let tile = c.tile-item.result in
    let lines = c.items-lines.result.now in
    let first = c.loop-tile.first in
    let pages = map entries_in (map (λ page. g.D.Disk.page_bytes page.value) c.args.file.now.pages.items) in
    let are : c.items-tile-items.result.now ≡ tiles = c.items-tile-items.ensures ∙ ap (λ (h : Header). h.tiles) c.header.ensures in
    let inside : k < length tiles = omega (arith, c.loop-tile-test.true, ap length are) in
    let is : tile ≡ get_or tiles k tile = c.tile-item.is ∙ ap (λ (ts : List TileLine). get_or ts k tile) are in (
      tile_more c.args.alone c.args.erase.now.range tiles k (g.D.Disk.fetches c.args.port.now) (g.D.Disk.fetches c.loop-tile.port) (g.D.Disk.port_faults c.args.port.now) (g.D.Disk.port_faults c.loop-tile.port) c.loop-tile.invariant.0
          tile lines (g.D.Disk.fetches c.sweep_tile.new.port) (g.D.Disk.port_faults c.sweep_tile.new.port) inside is c.items-lines.ensures c.in-Ok.ensures.fetches c.sweep_tile.ensures.cause.later,
      omega (arith, lines_more tiles k tile lines first inside is c.items-lines.ensures c.loop-tile.invariant.1),
      left_more g.D.Disk.tells c.args.alone c.args.erase.now pages tiles k c.loop-tile.tiles.items c.add_tile.new.tiles.items tile lines first c.in-Ok.parts.items inside is c.items-lines.ensures c.loop-tile.invariant.1 c.loop-tile.invariant.2
          c.in-Ok.ensures.left c.in_ok-add_tile-in-Ok.ensures,
    )

pub returns-in-Err-clause-damaged : goal.returns-in-Err-clause-damaged
returns-in-Err-clause-damaged g c = λ name e.
    let file = c.args.file.now in
    let tiles = file.header.tiles in
    let k = c.loop-tile.tile-index in
    let tile = c.tile-item.result in
    let bytes = map (λ page. g.D.Disk.page_bytes page.value) file.pages.items in
    let are : c.items-tile-items.result.now ≡ tiles = c.items-tile-items.ensures ∙ ap (λ (h : Header). h.tiles) c.header.ensures in
    let inside : k < length tiles = omega (arith, c.loop-tile-test.true, ap length are) in
    let is : tile ≡ get_or tiles k tile = c.tile-item.is ∙ ap (λ (ts : List TileLine). get_or ts k tile) are in
    let told = c.in-Err.ensures.damaged name (damage_since {T = Vec Part Global} {U = SweptFile} c.port_faults-before.result c.in-Err.why name (ap refused (sym c.since.ensures) ∙ e)) in (
      damaged_for g.D.Disk.tells c.args.alone c.args.erase.now.range tiles bytes name k tile c.items-lines.result.now c.loop-tile.first inside is c.items-lines.ensures c.loop-tile.invariant.1
          (length-map file.pages.items (λ page. g.D.Disk.page_bytes page.value) ∙ file.paged) told.0,
      omega (arith, c.loop-tile.invariant.0.counted, told.1),
    )

pub returns-in-Err-clause-at_most : goal.returns-in-Err-clause-at_most
returns-in-Err-clause-at_most g c =
    let tiles = c.args.file.now.header.tiles in
    let k = c.loop-tile.tile-index in
    let tile = c.tile-item.result in
    let are : c.items-tile-items.result.now ≡ tiles = c.items-tile-items.ensures ∙ ap (λ (h : Header). h.tiles) c.header.ensures in
    let inside : k < length tiles = omega (arith, c.loop-tile-test.true, ap length are) in
    let is : tile ≡ get_or tiles k tile = c.tile-item.is ∙ ap (λ (ts : List TileLine). get_or ts k tile) are in
    tile_at_most c.args.alone c.args.erase.now.range tiles k (g.D.Disk.fetches c.args.port.now) (g.D.Disk.fetches c.loop-tile.port) (g.D.Disk.port_faults c.args.port.now) (g.D.Disk.port_faults c.loop-tile.port)
    c.loop-tile.invariant.0 tile c.items-lines.result.now (g.D.Disk.fetches c.sweep_tile.new.port) inside is c.items-lines.ensures c.sweep_tile.ensures.at_most

pub returns-in_err-add_tile-in-Ok-clause-at_most : goal.returns-in_err-add_tile-in-Ok-clause-at_most
returns-in_err-add_tile-in-Ok-clause-at_most g c =
    let tiles = c.args.file.now.header.tiles in
    let k = c.loop-tile.tile-index in
    let tile = c.tile-item.result in
    let are : c.items-tile-items.result.now ≡ tiles = c.items-tile-items.ensures ∙ ap (λ (h : Header). h.tiles) c.header.ensures in
    let inside : k < length tiles = omega (arith, c.loop-tile-test.true, ap length are) in
    let is : tile ≡ get_or tiles k tile = c.tile-item.is ∙ ap (λ (ts : List TileLine). get_or ts k tile) are in
    tile_at_most c.args.alone c.args.erase.now.range tiles k (g.D.Disk.fetches c.args.port.now) (g.D.Disk.fetches c.loop-tile.port) (g.D.Disk.port_faults c.args.port.now) (g.D.Disk.port_faults c.loop-tile.port)
    c.loop-tile.invariant.0 tile c.items-lines.result.now (g.D.Disk.fetches c.sweep_tile.new.port) inside is c.items-lines.ensures c.sweep_tile.ensures.at_most

pub returns-in-Err-clause-cause : goal.returns-in-Err-clause-cause
returns-in-Err-clause-cause g c =
    let cause = cause_since {T = Vec Part Global} {U = SweptFile} (g.D.Disk.port_faults c.args.port.now) (g.D.Disk.port_faults c.loop-tile.port) (g.D.Disk.port_faults c.sweep_tile.new.port) c.in-Err.why c.loop-tile.invariant.0.risen c.in-Err.ensures.cause in
    subst (λ (why : ReadRefused). HasReadCause {T = SweptFile} (g.D.Disk.port_faults c.args.port.now) (g.D.Disk.port_faults c.sweep_tile.new.port) (Err why))
    (ap (λ (n : ℕ). refused_since n c.in-Err.why) (sym c.port_faults-before.ensures) ∙ sym c.since.ensures) cause

pub returns-in-Err-clause-can_fail : goal.returns-in-Err-clause-can_fail
returns-in-Err-clause-can_fail g c = λ fault.
    c.in-Err.ensures.can_fail (fault_since {T = Vec Part Global} {U = SweptFile} c.port_faults-before.result c.in-Err.why (subst (λ (why : ReadRefused). IsFault {T = SweptFile} (Err why)) c.since.ensures fault))

pub returns-clause-kept : goal.returns-clause-kept
returns-clause-kept g c =
    let tiles = c.args.file.now.header.tiles in
    let k = c.loop-tile.tile-index in
    let pages = map entries_in (map (λ page. g.D.Disk.page_bytes page.value) c.args.file.now.pages.items) in
    let are : c.items-tile-items.result.now ≡ tiles = c.items-tile-items.ensures ∙ ap (λ (h : Header). h.tiles) c.header.ensures in
    let past : length tiles ≤ k = omega (arith, c.loop-tile-test.false, ap length are) in
    ap (λ (ts : List SweptTile). filter_map place_of (flat_map (λ tile. tile.parts) ts)) c.of.ensures
    ∙ all_places g.D.Disk.tells c.args.alone c.args.erase.now pages (take k tiles) c.loop-tile.tiles.items c.loop-tile.invariant.2
    ∙ ap (kept_places c.args.alone c.args.erase.now.range 0) (take_all k tiles past)

pub returns-clause-fetches : goal.returns-clause-fetches
returns-clause-fetches g c =
    let tiles = c.args.file.now.header.tiles in
    let k = c.loop-tile.tile-index in
    let are : c.items-tile-items.result.now ≡ tiles = c.items-tile-items.ensures ∙ ap (λ (h : Header). h.tiles) c.header.ensures in
    let past : length tiles ≤ k = omega (arith, c.loop-tile-test.false, ap length are) in
    c.loop-tile.invariant.0.counted ∙ ap (λ (ts : List TileLine). g.D.Disk.fetches c.args.port.now + fetches_of c.args.alone c.args.erase.now.range ts) (take_all k tiles past)

pub returns-clause-at_most : goal.returns-clause-at_most
returns-clause-at_most g c =
    let tiles = c.args.file.now.header.tiles in
    let k = c.loop-tile.tile-index in
    let are : c.items-tile-items.result.now ≡ tiles = c.items-tile-items.ensures ∙ ap (λ (h : Header). h.tiles) c.header.ensures in
    let past : length tiles ≤ k = omega (arith, c.loop-tile-test.false, ap length are) in
    let same = ap (fetches_of c.args.alone c.args.erase.now.range) (take_all k tiles past) in
    omega (arith, c.loop-tile.invariant.0.counted, same)

pub returns-clause-pages : goal.returns-clause-pages
returns-clause-pages g c = λ time.
    let file = c.args.file.now in
    let tiles = file.header.tiles in
    let k = c.loop-tile.tile-index in
    let pages = map entries_in (map (λ page. g.D.Disk.page_bytes page.value) file.pages.items) in
    subst (λ (ts : List SweptTile). All IsPage (filter_map fresh_of (flat_map (λ tile. tile.parts) ts))) (sym c.of.ensures)
    (pages_spelled g.D.Disk.tells c.args.erase.now pages time c.args.alone (take k tiles) c.loop-tile.tiles.items c.loop-tile.invariant.2 (All-take HasFewEntries k tiles (have_few_entries tiles file.spelled.tiles)))

pub returns-clause-fits : goal.returns-clause-fits
returns-clause-fits g c = λ time.
    let file = c.args.file.now in
    let tiles = file.header.tiles in
    let k = c.loop-tile.tile-index in
    let pages = map entries_in (map (λ page. g.D.Disk.page_bytes page.value) file.pages.items) in
    let are : c.items-tile-items.result.now ≡ tiles = c.items-tile-items.ensures ∙ ap (λ (h : Header). h.tiles) c.header.ensures in
    let past : length tiles ≤ k = omega (arith, c.loop-tile-test.false, ap length are) in
    let left = all_left g.D.Disk.tells c.args.alone c.args.erase.now pages tiles k c.loop-tile.tiles.items c.of.result past c.of.ensures c.loop-tile.invariant.2 in
    file_fits g.D.Disk.tells c.args.erase.now pages time c.args.alone tiles (record { tiles = c.of.result }) file.spelled.tiles left

pub returns-clause-swept : goal.returns-clause-swept
returns-clause-swept g c = λ tells agrees.
    let tiles = c.args.file.now.header.tiles in
    let k = c.loop-tile.tile-index in
    let bytes = map (λ page. g.D.Disk.page_bytes page.value) c.args.file.now.pages.items in
    let pages = map entries_in bytes in
    let are : c.items-tile-items.result.now ≡ tiles = c.items-tile-items.ensures ∙ ap (λ (h : Header). h.tiles) c.header.ensures in
    let past : length tiles ≤ k = omega (arith, c.loop-tile-test.false, ap length are) in
    let left = all_left g.D.Disk.tells c.args.alone c.args.erase.now pages tiles k c.loop-tile.tiles.items c.of.result past c.of.ensures c.loop-tile.invariant.2 in
    file_swept g.D.Disk.tells tells c.args.alone c.args.erase.now tiles bytes agrees c.requires (record { tiles = c.of.result }) left
