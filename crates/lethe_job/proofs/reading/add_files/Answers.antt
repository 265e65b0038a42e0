use Rattle.std.proofs.Common.{ℕ, Result, Err, map, arith, ap, sym, subst, ◌∙◌}
use Rattle.lethe_disk.specs.Reads.{HasReadCause, IsFault, refused_since}
use Rattle.lethe_disk.specs.declared.cursor.ReadRefused.{ReadRefused}
use Rattle.lethe_disk.proofs.Causes.{cause_since, damage_since, fault_since}
use Rattle.lethe_file.specs.Agreement.{FileAgrees}
use Rattle.lethe_stored.specs.Files.{StoredFile}
use Rattle.lethe_job.specs.Tasks.{plain_file}
use Rattle.lethe_job.proofs.Adding.{file_added, pages_with, at_place}
use Rattle.lethe_job.proofs.reading.add_files.Goals as goal

abbrev refused : ReadRefused → Result (Unit {0}) ReadRefused
refused why = Err why

pub loop-filed-preserved : goal.loop-filed-preserved
loop-filed-preserved g c =
    let at = at_place c.args.files.now c.loop-filed.filed-index c.filed-item.result c.loop-filed-test.true c.filed-item.is in
    file_added g.D.Disk.tells (map plain_file c.args.files.now) c.args.entries.now.items c.loop-filed.entries.items c.add_file.new.entries.items (plain_file c.filed-item.result) c.loop-filed.filed-index
    (g.D.Disk.fetches c.args.port.now) (g.D.Disk.fetches c.loop-filed.port) (g.D.Disk.fetches c.add_file.new.port)
    (g.D.Disk.port_faults c.args.port.now) (g.D.Disk.port_faults c.loop-filed.port) (g.D.Disk.port_faults c.add_file.new.port)
    c.loop-filed.invariant at.0 at.1 c.in-Ok.ensures.given c.in-Ok.ensures.fetches c.add_file.ensures.cause.later c.in-Ok.ensures.spelled c.in-Ok.ensures.counted

pub returns-in-Err-clause-at_most : goal.returns-in-Err-clause-at_most
returns-in-Err-clause-at_most g c =
    let at = at_place c.args.files.now c.loop-filed.filed-index c.filed-item.result c.loop-filed-test.true c.filed-item.is in
    let with_it = pages_with (map plain_file c.args.files.now) c.loop-filed.filed-index (plain_file c.filed-item.result) at.0 at.1 in
    omega (arith, c.add_file.ensures.at_most, c.loop-filed.invariant.counted, with_it)

pub returns-in-Err-clause-damaged : goal.returns-in-Err-clause-damaged
returns-in-Err-clause-damaged g c = λ name e.
    let at = at_place c.args.files.now c.loop-filed.filed-index c.filed-item.result c.loop-filed-test.true c.filed-item.is in
    let named = c.in-Err.ensures.damaged name (damage_since {T = Unit {0}} {U = Unit {0}} c.port_faults-before.result c.in-Err.why name (ap refused (sym c.since.ensures) ∙ e)) in
    ((c.loop-filed.filed-index, plain_file c.filed-item.result, at.0, sym at.1, named.0), omega (arith, named.1, c.loop-filed.invariant.counted))

pub returns-in-Err-clause-undamaged : goal.returns-in-Err-clause-undamaged
returns-in-Err-clause-undamaged g c = λ told sound name e.
    let at = at_place c.args.files.now c.loop-filed.filed-index c.filed-item.result c.loop-filed-test.true c.filed-item.is in
    let file : StoredFile = plain_file c.filed-item.result in
    let agrees : FileAgrees file.header.tiles file.pages = subst (λ (f : StoredFile). FileAgrees f.header.tiles f.pages) (sym at.1) (sound c.loop-filed.filed-index file at.0) in
    c.in-Err.ensures.undamaged told agrees name (damage_since {T = Unit {0}} {U = Unit {0}} c.port_faults-before.result c.in-Err.why name (ap refused (sym c.since.ensures) ∙ e))

pub returns-in-Err-clause-cause : goal.returns-in-Err-clause-cause
returns-in-Err-clause-cause g c =
    let cause = cause_since {T = Unit {0}} {U = Unit {0}} (g.D.Disk.port_faults c.args.port.now) (g.D.Disk.port_faults c.loop-filed.port) (g.D.Disk.port_faults c.add_file.new.port) c.in-Err.why c.loop-filed.invariant.risen c.in-Err.ensures.cause in
    subst (λ (why : ReadRefused). HasReadCause {T = Unit {0}} (g.D.Disk.port_faults c.args.port.now) (g.D.Disk.port_faults c.add_file.new.port) (Err why))
    (ap (λ (n : ℕ). refused_since n c.in-Err.why) (sym c.port_faults-before.ensures) ∙ sym c.since.ensures) cause

pub returns-in-Err-clause-can_fail : goal.returns-in-Err-clause-can_fail
returns-in-Err-clause-can_fail g c = λ fault.
    c.in-Err.ensures.can_fail (fault_since {T = Unit {0}} {U = Unit {0}} c.port_faults-before.result c.in-Err.why (subst (λ (why : ReadRefused). IsFault {T = Unit {0}} (Err why)) c.since.ensures fault))
