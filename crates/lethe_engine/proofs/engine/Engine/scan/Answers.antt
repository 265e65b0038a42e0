use Rattle.std.proofs.Common.{Option, Some, None, Err, ap, sym, ◌∙◌, subst}
use Rattle.std.specs.Option.{option_copied}
use Rattle.lethe_base.specs.declared.call.Call.TheVariants.{Work}
use Rattle.lethe_core.specs.Asked.{Serves, failure_of}
use Rattle.lethe_core.specs.View.{view_of}
use Rattle.lethe_mem.specs.Buffered.{Buffered}
use Rattle.lethe_read.specs.Found.{IsBacked, frozen_entries}
use Rattle.lethe_read.proofs.Refusals.{damage_told, err_told, fault_told}
use Rattle.lethe_version.specs.Versions.{IsVouchedBy}
use Rattle.lethe_engine.proofs.Answering.{files_sound, listed_between, stored_sound}
use Rattle.lethe_engine.proofs.Calls.{itself_answers, refused_is_none, served_is_none}
use Rattle.lethe_engine.proofs.Reasons.{no_failure_of_read}
use Rattle.lethe_engine.proofs.engine.Engine.scan.Goals as goal

pub returns-in-Ok-clause-answer : goal.returns-in-Ok-clause-answer
returns-in-Ok-clause-answer g c = λ told config h stands.
    let core = c.args.self.now.core in
    listed_between core config h stands (option_copied c.frozen.result) c.pending.result.now c.frozen.ensures c.pending.ensures c.args.lo.now c.args.hi.now c.in-Ok.pairs.items
    (rw c.active.ensures at (c.in-Ok.ensures.listed told (stored_sound core config h stands)))

pub returns-in-Ok-clause-backed : goal.returns-in-Ok-clause-backed
returns-in-Ok-clause-backed g c = λ pair there.
    let core = c.args.self.now.core in
    let frozen = option_copied c.frozen.result in
    subst (λ (frozen : Option Buffered). IsBacked pair.0 core.state.active.entries (frozen_entries (λ (buffer : Buffered). buffer.entries) frozen) (IsVouchedBy core.version) (pair.1, pair.2))
    c.frozen.ensures
    (subst (λ (active : Buffered). IsBacked pair.0 active.entries (frozen_entries (λ (buffer : Buffered). buffer.entries) frozen) (IsVouchedBy core.version) (pair.1, pair.2)) c.active.ensures
    (c.in-Ok.ensures.backed pair there))

pub returns-in-Err-clause-undamaged : goal.returns-in-Err-clause-undamaged
returns-in-Err-clause-undamaged g c = λ told sound name is.
    let held = sound.held told in
    c.in-Err.ensures.undamaged told (files_sound c.args.self.now.core.version held.0 c.args.self.now.core.state held.1) name
    (ap Err (damage_told c.in-Err.why name (sym c.told_as.ensures ∙ err_told is)))

pub returns-in-Err-clause-damaged : goal.returns-in-Err-clause-damaged
returns-in-Err-clause-damaged g c = λ name is. c.in-Err.ensures.damaged name (ap Err (damage_told c.in-Err.why name (sym c.told_as.ensures ∙ err_told is)))

pub returns-in-Err-clause-fault : goal.returns-in-Err-clause-fault
returns-in-Err-clause-fault g c = λ before after is.
    c.in-Err.ensures.cause.fault before after (ap Err (fault_told c.in-Err.why before after (sym c.told_as.ensures ∙ err_told is)))

pub returns-in-Ok-clause-answers : goal.returns-in-Ok-clause-answers
returns-in-Ok-clause-answers g c = λ sound. itself_answers g.D.Disk.tells (Serves Work) None (view_of c.args.self.now.core) sound (served_is_none Work)

pub returns-in-Err-clause-answers : goal.returns-in-Err-clause-answers
returns-in-Err-clause-answers g c = λ sound.
    itself_answers g.D.Disk.tells (Serves Work) (Some c.told_as.result) (view_of c.args.self.now.core) sound
    (refused_is_none (Serves Work) c.told_as.result (ap failure_of c.told_as.ensures ∙ no_failure_of_read c.in-Err.why))
