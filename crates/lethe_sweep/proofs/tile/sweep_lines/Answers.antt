use Rattle.std.proofs.Common.{◌≡◌, ◌+◌, ◌++◌, ◌∷◌, [], ℕ, List, Result, Err, map, take, ap, sym, subst, arith, ◌∙◌}
use Rattle.lethe_base.specs.declared.entry.Entry.{Entry}
use Rattle.lethe_disk.specs.Reads.{HasReadCause, IsFault, refused_since}
use Rattle.lethe_disk.specs.declared.cursor.ReadRefused.{ReadRefused}
use Rattle.lethe_disk.proofs.Causes.{cause_since, damage_since, fault_since}
use Rattle.lethe_file.specs.Agreement.{entries_in}
use Rattle.lethe_header.specs.Facts.{lines_of}
use Rattle.lethe_sweep.proofs.Stepping.{at_most, line_there, one_more, placed_any, placed_more}
use Rattle.lethe_sweep.specs.Modes.{is_fetched_in}
use Rattle.lethe_sweep.specs.Steps.{Begun, IsDamagedPage, IsLeft}
use Rattle.lethe_swept.specs.Left.{Placed, placed}
use Rattle.lethe_swept.specs.declared.part.Part.{Part}
use Rattle.lethe_sweep.specs.declared.tile.Left.{Left}
use Rattle.lethe_sweep.proofs.tile.sweep_lines.Goals as goal

abbrev refused : ReadRefused → Result Left ReadRefused
refused why = Err why

pub loop-line-init : goal.loop-line-init
loop-line-init g c =
    let pages = map entries_in (map (λ page. g.D.Disk.page_bytes page.value) c.args.file.now.pages.items) in (
      record { counted = omega arith; risen = omega arith },
      omega arith,
      subst (λ (tombs : List Entry). IsLeft g.D.Disk.tells c.args.mode c.args.erase.now pages [] tombs c.new-2.result.items) (sym c.new.ensures.items)
          (subst (λ (parts : List Part). IsLeft g.D.Disk.tells c.args.mode c.args.erase.now pages [] [] parts) (sym c.new-2.ensures.items) Begun),
    )

pub sweep_line-requires-clause-line : goal.sweep_line-requires-clause-line
sweep_line-requires-clause-line g c =
    let file = c.args.file.now in
    let there = line_there (lines_of file.header.tiles) c.args.lines.now c.args.first c.loop-line.line-index c.loop-line.place c.line-item.result c.requires.lines (omega (arith, c.requires.within, file.paged)) c.loop-line-test.true c.line-item.is c.loop-line.invariant.1 in
    search there

pub loop-line-preserved : goal.loop-line-preserved
loop-line-preserved g c =
    let k = c.loop-line.line-index in
    let lines = c.args.lines.now in
    let line = c.line-item.result in
    let pages = map entries_in (map (λ page. g.D.Disk.page_bytes page.value) c.args.file.now.pages.items) in
    let at = c.loop-line.invariant.1 in
    let page : Placed = record { place = c.loop-line.place; line = line } in
    let own = c.in-Ok.ensures.left (placed c.args.first (take k lines)) c.loop-line.invariant.2 in
    let tiles : placed c.args.first (take k lines) ++ page ∷ [] ≡ placed c.args.first (take (k + 1) lines) =
    ap (λ (n : ℕ). let last : Placed = record { place = n; line = line } in placed c.args.first (take k lines) ++ last ∷ []) at ∙ sym (placed_more c.args.first lines k line c.loop-line-test.true c.line-item.is) in (
      one_more (is_fetched_in c.args.mode c.args.erase.now.range) lines k (g.D.Disk.fetches c.args.port.now) (g.D.Disk.fetches c.loop-line.port) (g.D.Disk.port_faults c.args.port.now) (g.D.Disk.port_faults c.loop-line.port) c.loop-line.invariant.0
          line (g.D.Disk.fetches c.sweep_line.new.port) (g.D.Disk.port_faults c.sweep_line.new.port) c.loop-line-test.true c.line-item.is c.in-Ok.ensures.fetches c.sweep_line.ensures.cause.later,
      omega (arith, at),
      subst (λ (tile : List Placed). IsLeft g.D.Disk.tells c.args.mode c.args.erase.now pages tile c.sweep_line.new.left.tombs.items c.sweep_line.new.left.parts.items) tiles own,
    )

pub returns-in-Err-clause-damaged : goal.returns-in-Err-clause-damaged
returns-in-Err-clause-damaged g c = λ name e.
    let bytes = map (λ page. g.D.Disk.page_bytes page.value) c.args.file.now.pages.items in
    let told = c.in-Err.ensures.damaged name (damage_since {T = Unit {0}} {U = Left} c.port_faults-before.result c.in-Err.why name (ap refused (sym c.since.ensures) ∙ e)) in (
      placed_any c.args.first c.args.lines.now (IsDamagedPage g.D.Disk.tells c.args.mode c.args.erase.now.range bytes name) c.loop-line.line-index c.loop-line.place c.line-item.result c.loop-line-test.true c.line-item.is c.loop-line.invariant.1 told.0,
      omega (arith, c.loop-line.invariant.0.counted, told.1),
    )

pub returns-in-Err-clause-at_most : goal.returns-in-Err-clause-at_most
returns-in-Err-clause-at_most g c =
    at_most (is_fetched_in c.args.mode c.args.erase.now.range) c.args.lines.now c.loop-line.line-index (g.D.Disk.fetches c.args.port.now) (g.D.Disk.fetches c.loop-line.port) (g.D.Disk.port_faults c.args.port.now) (g.D.Disk.port_faults c.loop-line.port)
    c.loop-line.invariant.0 c.line-item.result (g.D.Disk.fetches c.sweep_line.new.port) c.loop-line-test.true c.line-item.is c.sweep_line.ensures.at_most

pub returns-in-Err-clause-cause : goal.returns-in-Err-clause-cause
returns-in-Err-clause-cause g c =
    let cause = cause_since {T = Unit {0}} {U = Left} (g.D.Disk.port_faults c.args.port.now) (g.D.Disk.port_faults c.loop-line.port) (g.D.Disk.port_faults c.sweep_line.new.port) c.in-Err.why c.loop-line.invariant.0.risen c.in-Err.ensures.cause in
    subst (λ (why : ReadRefused). HasReadCause {T = Left} (g.D.Disk.port_faults c.args.port.now) (g.D.Disk.port_faults c.sweep_line.new.port) (Err why))
    (ap (λ (n : ℕ). refused_since n c.in-Err.why) (sym c.port_faults-before.ensures) ∙ sym c.since.ensures) cause

pub returns-in-Err-clause-can_fail : goal.returns-in-Err-clause-can_fail
returns-in-Err-clause-can_fail g c = λ fault.
    c.in-Err.ensures.can_fail (fault_since {T = Unit {0}} {U = Left} c.port_faults-before.result c.in-Err.why (subst (λ (why : ReadRefused). IsFault {T = Left} (Err why)) c.since.ensures fault))
