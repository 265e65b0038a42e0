use Rattle.std.proofs.Common.{◌≡◌, List, Option, Err, ap, sym, ◌∙◌, subst}
use Rattle.std.specs.Prelude.{IfSome}
use Rattle.std.specs.Option.{option_copied}
use Rattle.lethe_base.specs.Matching.{answer_under}
use Rattle.lethe_base.specs.declared.pending.Pending.{Pending}
use Rattle.lethe_mem.specs.Buffered.{Buffered}
use Rattle.lethe_read.specs.Found.{IsBacked, buffered_entry, frozen_entries}
use Rattle.lethe_read.specs.Refusals.{IsReadRefusal}
use Rattle.lethe_read.proofs.Refusals.{damage_told, err_told, fault_told, told_reads}
use Rattle.lethe_version.specs.Versions.{IsVouchedBy}
use Rattle.lethe_snapshot.proofs.Answering.{files_sound, found}
use Rattle.lethe_snapshot.proofs.snapshot.Snapshot.get.Goals as goal

pub returns-in-Ok-clause-answer : goal.returns-in-Ok-clause-answer
returns-in-Ok-clause-answer g c = λ told h is.
    let snapshot = c.args.self.now in
    found snapshot h is (option_copied c.as_ref.result) c.items-erases.result.now c.as_ref.ensures.value c.items-erases.ensures c.args.key.now c.in-Ok.held (c.in-Ok.ensures.answer told (files_sound snapshot h is))

pub returns-in-Ok-clause-backed : goal.returns-in-Ok-clause-backed
returns-in-Ok-clause-backed g c =
    let snapshot = c.args.self.now in
    subst (λ (frozen : Option Buffered). IfSome c.in-Ok.held (IsBacked c.args.key.now snapshot.active.entries (frozen_entries (λ (buffer : Buffered). buffer.entries) frozen) (IsVouchedBy snapshot.version)))
    c.as_ref.ensures.value c.in-Ok.ensures.backed

pub returns-in-Ok-clause-buffered : goal.returns-in-Ok-clause-buffered
returns-in-Ok-clause-buffered g c =
    let snapshot = c.args.self.now in
    let first = λ (frozen : Option Buffered). buffered_entry c.args.key.now snapshot.active.entries (frozen_entries (λ (buffer : Buffered). buffer.entries) frozen) in
    subst (λ (erases : List Pending). IfSome (first snapshot.frozen) (λ entry. c.in-Ok.held ≡ answer_under erases entry)) c.items-erases.ensures
    (subst (λ (frozen : Option Buffered). IfSome (first frozen) (λ entry. c.in-Ok.held ≡ answer_under c.items-erases.result.now entry)) c.as_ref.ensures.value c.in-Ok.ensures.buffered)

pub returns-in-Err-clause-undamaged : goal.returns-in-Err-clause-undamaged
returns-in-Err-clause-undamaged g c = λ told h is name damaged.
    c.in-Err.ensures.undamaged told (files_sound c.args.self.now h is) name (ap Err (damage_told c.in-Err.why name (sym c.told_as.ensures ∙ err_told damaged)))

pub returns-in-Err-clause-damaged : goal.returns-in-Err-clause-damaged
returns-in-Err-clause-damaged g c = λ name damaged. c.in-Err.ensures.damaged name (ap Err (damage_told c.in-Err.why name (sym c.told_as.ensures ∙ err_told damaged)))

pub returns-in-Err-clause-fault : goal.returns-in-Err-clause-fault
returns-in-Err-clause-fault g c = λ before after is.
    c.in-Err.ensures.cause.fault before after (ap Err (fault_told c.in-Err.why before after (sym c.told_as.ensures ∙ err_told is)))

pub returns-in-Err-clause-can_fail : goal.returns-in-Err-clause-can_fail
returns-in-Err-clause-can_fail g c = λ before after is.
    c.in-Err.ensures.can_fail (before, after, ap Err (fault_told c.in-Err.why before after (sym c.told_as.ensures ∙ err_told is)))

pub returns-in-Err-clause-why : goal.returns-in-Err-clause-why
returns-in-Err-clause-why g c = subst IsReadRefusal (sym c.told_as.ensures) (told_reads c.in-Err.why)
