use Rattle.std.proofs.Common.{Any, Vec, ap, arith, count_by, map, subst}
use Rattle.std.specs.declared.alloc.Global.{Global}
use Rattle.lethe_disk.proofs.Causes.{cause_as, damage_as}
use Rattle.lethe_file.specs.Agreement.{entries_in}
use Rattle.lethe_sweep.proofs.Tiling.{left_in_mode}
use Rattle.lethe_sweep.specs.Modes.{is_fetched_in}
use Rattle.lethe_sweep.specs.Steps.{IsDamagedPage}
use Rattle.lethe_swept.specs.Left.{placed}
use Rattle.lethe_sweep.specs.declared.fence.Mode.{Mode}
use Rattle.lethe_swept.specs.declared.part.Part.{Part}
use Rattle.lethe_sweep.specs.declared.tile.Left.{Left}
use Rattle.lethe_sweep.proofs.tile.sweep_tile.Goals as goal

pub returns-in_ok-parts_of-in-Ok-clause-left : goal.returns-in_ok-parts_of-in-Ok-clause-left
returns-in_ok-parts_of-in-Ok-clause-left g c =
    let pages = map entries_in (map (λ page. g.D.Disk.page_bytes page.value) c.args.file.now.pages.items) in
    record {
      tombs = c.in-Ok.left.tombs.items;
      own = c.in-Ok.left.parts.items;
      left = left_in_mode g.D.Disk.tells c.args.alone c.args.erase.now pages c.args.first c.args.lines.now c.of-mode.result c.in-Ok.left.tombs.items c.in-Ok.left.parts.items c.of-mode.ensures c.in-Ok.ensures.left;
      parts_are = c.in_ok-parts_of-in-Ok.ensures;
    }

pub returns-in-Err-clause-at_most : goal.returns-in-Err-clause-at_most
returns-in-Err-clause-at_most g c =
    let own = ap (λ (m : Mode). count_by (is_fetched_in m c.args.erase.now.range) c.args.lines.now) c.of-mode.ensures in
    omega (arith, c.sweep_lines.ensures.at_most, own)

pub returns-in-Err-clause-damaged : goal.returns-in-Err-clause-damaged
returns-in-Err-clause-damaged g c = λ name e.
    let bytes = map (λ page. g.D.Disk.page_bytes page.value) c.args.file.now.pages.items in
    let told = c.in-Err.ensures.damaged name (damage_as {T = Left} {U = Vec Part Global} c.in-Err.why name e) in (
      subst (λ (m : Mode). Any (IsDamagedPage g.D.Disk.tells m c.args.erase.now.range bytes name) (placed c.args.first c.args.lines.now)) c.of-mode.ensures told.0,
      told.1,
    )

pub returns-in-Err-clause-cause : goal.returns-in-Err-clause-cause
returns-in-Err-clause-cause g c = cause_as {T = Left} {U = Vec Part Global} (g.D.Disk.port_faults c.args.port.now) (g.D.Disk.port_faults c.sweep_lines.new.port) c.in-Err.why c.in-Err.ensures.cause
