use Rattle.std.proofs.Common.{All, List, ap, sym, subst, ◌∙◌}
use Rattle.lethe_base.specs.declared.entry.Entry.{Entry}
use Rattle.lethe_build.specs.Parts.{IsPage}
use Rattle.lethe_disk.proofs.Causes.{cause_as, damage_as}
use Rattle.lethe_header.specs.declared.header.Header.{Header}
use Rattle.lethe_sweep.specs.Fences.{dropped_numbers, kept_numbers}
use Rattle.lethe_sweep.specs.declared.file.Swept.{Swept}
use Rattle.lethe_swept.specs.declared.part.SweptFile.{SweptFile}
use Rattle.lethe_sweep.proofs.file.sweep_file.Goals as goal

pub returns-in-Err-clause-damaged : goal.returns-in-Err-clause-damaged
returns-in-Err-clause-damaged g c = λ name e. c.in-Err.ensures.damaged name (damage_as {T = SweptFile} {U = Swept} c.in-Err.why name e)

pub returns-in-Err-clause-cause : goal.returns-in-Err-clause-cause
returns-in-Err-clause-cause g c = cause_as {T = SweptFile} {U = Swept} (g.D.Disk.port_faults c.args.port.now) (g.D.Disk.port_faults c.sweep_tiles.new.port) c.in-Err.why c.in-Err.ensures.cause

pub returns-clause-swept : goal.returns-clause-swept
returns-clause-swept g c = λ tells agrees. (c.in-Ok.swept, c.in-Ok.ensures.swept tells agrees, c.of-3.ensures ∙ c.in_ok-fresh.ensures)

pub returns-clause-kept : goal.returns-clause-kept
returns-clause-kept g c =
    c.of.ensures ∙ c.in_ok-numbers.ensures.kept ∙ ap (kept_numbers c.args.alone c.args.erase.now.range) (c.items.ensures ∙ ap (λ (h : Header). h.tiles) c.header.ensures)

pub returns-clause-dropped : goal.returns-clause-dropped
returns-clause-dropped g c =
    c.of-2.ensures ∙ c.in_ok-numbers.ensures.dropped ∙ ap (dropped_numbers c.args.alone c.args.erase.now.range) (c.items.ensures ∙ ap (λ (h : Header). h.tiles) c.header.ensures)

pub returns-clause-pages : goal.returns-clause-pages
returns-clause-pages g c = λ time. subst (λ (pages : List (List Entry)). All IsPage pages) (sym (c.of-3.ensures ∙ c.in_ok-fresh.ensures)) (c.in-Ok.ensures.pages time)
