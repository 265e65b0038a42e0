use Rattle.std.proofs.Common.{◌++◌, ◌∙◌, Bool, List, Vec, ap}
use Rattle.std.specs.declared.alloc.Global.{Global}
use Rattle.lethe_base.specs.declared.entry.Entry.{Entry}
use Rattle.lethe_disk.proofs.Causes.{cause_as, damage_as}
use Rattle.lethe_tile.specs.Woven.{puts_of, tombs_of}
use Rattle.lethe_sweep.specs.Steps.{fenced}
use Rattle.lethe_sweep.specs.Sweeping.{left_in}
use Rattle.lethe_swept.specs.Left.{fresh}
use Rattle.lethe_sweep.proofs.tile.fetch_left.Goals as goal

pub returns-in-Err-clause-damaged : goal.returns-in-Err-clause-damaged
returns-in-Err-clause-damaged g c = λ bytes there name e.
    c.in-Err.ensures.damaged c.args.line.now bytes c.requires.line there name (damage_as {T = Vec Entry Global} {U = Unit {0}} c.in-Err.why name e)

pub returns-in-Err-clause-cause : goal.returns-in-Err-clause-cause
returns-in-Err-clause-cause g c = cause_as {T = Vec Entry Global} {U = Unit {0}} (g.D.Disk.port_faults c.args.port.now) (g.D.Disk.port_faults c.fetch_page.new.port) c.in-Err.why c.in-Err.ensures.cause

pub returns-clause-left : goal.returns-clause-left
returns-clause-left g c =
    let erase = c.args.erase.now in
    let entries = c.in-Ok.entries.items in
    let own = fenced c.args.line.now.fence entries in
    let tombs = c.in_ok-tombs.ensures.tombs ∙ ap (λ (alone : Bool). tombs_of (left_in alone erase own)) c.is_alone.ensures in
    let puts = c.in_ok-tombs.ensures.puts ∙ ap (λ (alone : Bool). puts_of (left_in alone erase own)) c.is_alone.ensures in (
      entries,
      record { is_page = c.in-Ok.ensures.page c.args.line.now c.requires.line; told = c.in-Ok.ensures.told },
      c.in_ok-append.ensures.items ∙ ap (λ (ts : List Entry). c.args.left.now.tombs.items ++ ts) tombs,
      c.in_ok-add_page.ensures ∙ ap (λ (ps : List Entry). c.args.left.now.parts.items ++ fresh ps) puts,
    )
