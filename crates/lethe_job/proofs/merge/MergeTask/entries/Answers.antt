use Rattle.std.proofs.Common.{◌≡◌, ℕ, List, [], ◌++◌, Vec, Result, Err, map, ap, sym, subst, ◌∙◌, arith}
use Rattle.std.specs.Prelude.{Any}
use Rattle.std.proofs.lemmas.List.{append-nil}
use Rattle.std.specs.declared.alloc.Global.{Global}
use Rattle.lethe_base.specs.declared.entry.Entry.{Entry}
use Rattle.lethe_disk.specs.Reads.{HasReadCause, IsFault, refused_since}
use Rattle.lethe_disk.specs.declared.cursor.ReadRefused.{ReadRefused}
use Rattle.lethe_disk.proofs.Causes.{cause_as, cause_since, damage_as, damage_since, fault_since}
use Rattle.lethe_file.specs.Agreement.{FileAgrees}
use Rattle.lethe_stored.specs.Files.{StoredFile}
use Rattle.lethe_stored.proofs.Lists.{all_left, all_right}
use Rattle.lethe_job.specs.Tasks.{AreSound, HasDamaged, plain_file}
use Rattle.lethe_job.proofs.Adding.{any_within}
use Rattle.lethe_job.proofs.merge.MergeTask.entries.Goals as goal

abbrev refused : ReadRefused → Result (Vec Entry Global) ReadRefused
refused why = Err why

abbrev Agrees : StoredFile → Type 0
Agrees file = FileAgrees file.header.tiles file.pages

pub returns-in-Err-clause-damaged : goal.returns-in-Err-clause-damaged
returns-in-Err-clause-damaged g c = λ name e.
    let same : map plain_file c.deref.result.now ≡ map plain_file c.args.self.now.sources.items = ap (map plain_file) c.deref.ensures.value in
    let named = c.in-Err.ensures.damaged name (damage_as {T = Unit {0}} {U = Vec Entry Global} c.in-Err.why name e) in
    (any_within (HasDamaged g.D.Disk.tells name) [] (map plain_file c.args.self.now.sources.items) (map plain_file c.args.self.now.met.items) (subst (Any (HasDamaged g.D.Disk.tells name)) same named.0), named.1)

pub returns-in-Err-clause-undamaged : goal.returns-in-Err-clause-undamaged
returns-in-Err-clause-undamaged g c = λ told sound name e.
    let same : map plain_file c.deref.result.now ≡ map plain_file c.args.self.now.sources.items = ap (map plain_file) c.deref.ensures.value in
    c.in-Err.ensures.undamaged told (subst AreSound (sym same) (all_left Agrees (map plain_file c.args.self.now.sources.items) (map plain_file c.args.self.now.met.items) sound)) name
    (damage_as {T = Unit {0}} {U = Vec Entry Global} c.in-Err.why name e)

pub returns-in-Err-clause-cause : goal.returns-in-Err-clause-cause
returns-in-Err-clause-cause g c =
    cause_as {T = Unit {0}} {U = Vec Entry Global} (g.D.Disk.port_faults c.args.port.now) (g.D.Disk.port_faults c.add_files.new.port) c.in-Err.why c.in-Err.ensures.cause

pub returns-in-Err-add_files-clause-damaged : goal.returns-in-Err-add_files-clause-damaged
returns-in-Err-add_files-clause-damaged g c = λ name e.
    let met : List StoredFile = map plain_file c.args.self.now.met.items in
    let same : map plain_file c.deref-2.result.now ≡ met = ap (map plain_file) c.deref-2.ensures.value in
    let named = c.in-Err-add_files.ensures.damaged name (damage_since {T = Unit {0}} {U = Vec Entry Global} c.port_faults-before.result c.in-Err-add_files.why name (ap refused (sym c.since.ensures) ∙ e)) in (
      subst (λ (files : List StoredFile). Any (HasDamaged g.D.Disk.tells name) (map plain_file c.args.self.now.sources.items ++ files)) (append-nil met)
          (any_within (HasDamaged g.D.Disk.tells name) (map plain_file c.args.self.now.sources.items) met [] (subst (Any (HasDamaged g.D.Disk.tells name)) same named.0)),
      omega (arith, named.1, c.add_files.ensures.later),
    )

pub returns-in-Err-add_files-clause-undamaged : goal.returns-in-Err-add_files-clause-undamaged
returns-in-Err-add_files-clause-undamaged g c = λ told sound name e.
    let same : map plain_file c.deref-2.result.now ≡ map plain_file c.args.self.now.met.items = ap (map plain_file) c.deref-2.ensures.value in
    c.in-Err-add_files.ensures.undamaged told (subst AreSound (sym same) (all_right Agrees (map plain_file c.args.self.now.sources.items) (map plain_file c.args.self.now.met.items) sound)) name
    (damage_since {T = Unit {0}} {U = Vec Entry Global} c.port_faults-before.result c.in-Err-add_files.why name (ap refused (sym c.since.ensures) ∙ e))

pub returns-in-Err-add_files-clause-cause : goal.returns-in-Err-add_files-clause-cause
returns-in-Err-add_files-clause-cause g c =
    let cause = cause_since {T = Unit {0}} {U = Vec Entry Global} (g.D.Disk.port_faults c.args.port.now) (g.D.Disk.port_faults c.add_files.new.port) (g.D.Disk.port_faults c.add_files-2.new.port) c.in-Err-add_files.why c.add_files.ensures.cause.later c.in-Err-add_files.ensures.cause in
    subst (λ (why : ReadRefused). HasReadCause {T = Vec Entry Global} (g.D.Disk.port_faults c.args.port.now) (g.D.Disk.port_faults c.add_files-2.new.port) (Err why))
    (ap (λ (n : ℕ). refused_since n c.in-Err-add_files.why) (sym c.port_faults-before.ensures) ∙ sym c.since.ensures) cause

pub returns-in-Err-add_files-clause-can_fail : goal.returns-in-Err-add_files-clause-can_fail
returns-in-Err-add_files-clause-can_fail g c = λ fault.
    c.in-Err-add_files.ensures.can_fail (fault_since {T = Unit {0}} {U = Vec Entry Global} c.port_faults-before.result c.in-Err-add_files.why (subst (λ (why : ReadRefused). IsFault {T = Vec Entry Global} (Err why)) c.since.ensures fault))
