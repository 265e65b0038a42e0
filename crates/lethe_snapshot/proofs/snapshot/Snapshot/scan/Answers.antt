use Rattle.std.proofs.Common.{Option, Err, ap, sym, ◌∙◌, subst}
use Rattle.std.specs.Option.{option_copied}
use Rattle.lethe_mem.specs.Buffered.{Buffered}
use Rattle.lethe_read.specs.Found.{IsBacked, frozen_entries}
use Rattle.lethe_read.specs.Refusals.{IsReadRefusal}
use Rattle.lethe_read.proofs.Refusals.{damage_told, err_told, fault_told, told_reads}
use Rattle.lethe_version.specs.Versions.{IsVouchedBy}
use Rattle.lethe_snapshot.proofs.Answering.{files_sound, listed_between}
use Rattle.lethe_snapshot.proofs.snapshot.Snapshot.scan.Goals as goal

pub returns-in-Ok-clause-answer : goal.returns-in-Ok-clause-answer
returns-in-Ok-clause-answer g c = λ told h is.
    let snapshot = c.args.self.now in
    listed_between snapshot h is (option_copied c.as_ref-frozen.result) c.items.result.now c.as_ref-frozen.ensures.value c.items.ensures c.args.lo.now c.args.hi.now c.in-Ok.pairs.items
    (c.in-Ok.ensures.listed told (files_sound snapshot h is))

pub returns-in-Ok-clause-backed : goal.returns-in-Ok-clause-backed
returns-in-Ok-clause-backed g c = λ pair there.
    let snapshot = c.args.self.now in
    subst (λ (frozen : Option Buffered). IsBacked pair.0 snapshot.active.entries (frozen_entries (λ (buffer : Buffered). buffer.entries) frozen) (IsVouchedBy snapshot.version) (pair.1, pair.2))
    c.as_ref-frozen.ensures.value (c.in-Ok.ensures.backed pair there)

pub returns-in-Err-clause-undamaged : goal.returns-in-Err-clause-undamaged
returns-in-Err-clause-undamaged g c = λ told h is name damaged.
    c.in-Err.ensures.undamaged told (files_sound c.args.self.now h is) name (ap Err (damage_told c.in-Err.why name (sym c.told_as.ensures ∙ err_told damaged)))

pub returns-in-Err-clause-damaged : goal.returns-in-Err-clause-damaged
returns-in-Err-clause-damaged g c = λ name damaged. c.in-Err.ensures.damaged name (ap Err (damage_told c.in-Err.why name (sym c.told_as.ensures ∙ err_told damaged)))

pub returns-in-Err-clause-fault : goal.returns-in-Err-clause-fault
returns-in-Err-clause-fault g c = λ before after is.
    c.in-Err.ensures.cause.fault before after (ap Err (fault_told c.in-Err.why before after (sym c.told_as.ensures ∙ err_told is)))

pub returns-in-Err-clause-can_fail : goal.returns-in-Err-clause-can_fail
returns-in-Err-clause-can_fail g c = λ before after is.
    c.in-Err.ensures.can_fail (before, after, ap Err (fault_told c.in-Err.why before after (sym c.told_as.ensures ∙ err_told is)))

pub returns-in-Err-clause-why : goal.returns-in-Err-clause-why
returns-in-Err-clause-why g c = subst IsReadRefusal (sym c.told_as.ensures) (told_reads c.in-Err.why)
