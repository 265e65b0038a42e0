use Rattle.std.proofs.Common.{rules, ◌≡◌, ◌<◌, ◌+◌, ◌⊎◌, ℕ, Some, Result, Err, refl, sym, ap, ◌∙◌, subst}
use Rattle.std.specs.Prelude.{IfErr, false, true}
use Rattle.std.specs.Result.{result_err}
use Rattle.lethe_base.specs.Limits.{max_place}
use Rattle.lethe_base.specs.declared.call.Call.TheVariants as call
use Rattle.lethe_base.specs.declared.refused.Refused.{Refused}
use Rattle.lethe_disk.proofs.Quieting.{on_ok, on_ok_both}
use Rattle.lethe_stored.specs.Stored.{appended}
use Rattle.lethe_state.specs.Records.{HasEntered, put_record}
use Rattle.lethe_state.specs.Clock.{clock_of}
use Rattle.lethe_core.specs.Asked.{Makes}
use Rattle.lethe_core.specs.Changes.{with_record}
use Rattle.lethe_core.specs.Merges.{AreRetiredBehind}
use Rattle.lethe_core.specs.Reasons.{HasReason, IsShortOfRoom, IsUnreadable}
use Rattle.lethe_core.specs.Running.{Holds}
use Rattle.lethe_core.specs.Steps.{IsUndone}
use Rattle.lethe_core.specs.View.{View, face_of, view_of}
use Rattle.lethe_core.proofs.Roomed.{sees_room}
use Rattle.lethe_core.proofs.Likes.{jobs_same}
use Rattle.lethe_engine.specs.Answers.{Answers}
use Rattle.lethe_engine.specs.Refusals.{HasReasonOfChange}
use Rattle.lethe_engine.proofs.Calls.{if_refused, itself_answers, recorded_answers, refused_is_none, unroomed_answers}
use Rattle.lethe_engine.proofs.Onward.{put_works}
use Rattle.lethe_row.proofs.Overs.{put_for, put_same}
use Rattle.lethe_engine.proofs.Reasons.{not_begun, reason_of_room}
use Rattle.lethe_engine.proofs.engine.Engine.put.Goals as goal

pub returns-in_err-may_change-clause-answers : goal.returns-in_err-may_change-clause-answers
returns-in_err-may_change-clause-answers g c =
    let old = view_of c.args.self.now.core in
    let why = c.in_err-may_change.field-0.0 in
    let refusal : c.from_residual.result ≡ Err why = search rules in
    let Asks = Makes (call.Put c.args.key c.args.dkey c.args.value) in
    subst (λ (r : Result ℕ Refused). Answers g.D.Disk.tells Asks (result_err r) (face_of old) old old) (sym refusal)
    (itself_answers g.D.Disk.tells Asks (Some why) old c.requires (refused_is_none Asks why (not_begun old.state why c.in_err-may_change.ensures.refused)))

pub returns-in_err-make_room-clause-answers : goal.returns-in_err-make_room-clause-answers
returns-in_err-make_room-clause-answers g c =
    let core = c.args.self.now.core in
    let old = view_of core in
    let new : View = view_of c.make_room.new.self in
    let why = c.in_err-make_room.field-0.0 in
    let refusal : c.from_residual-in_err-make_room.result ≡ Err why = search rules in
    let Asks = call.Put c.args.key c.args.dkey c.args.value in
    let first = g.D.Disk.port_faults c.args.port.now in
    let last = g.D.Disk.port_faults c.make_room.new.port in
    let full : old.state.records < old.state.manifest.config.buffer → ⊥ = λ room. absurd (let ok : false ≡ true = (c.in_err-make_room.ensures.room room).0 in cc) in
    let cause : HasReason (IsShortOfRoom g.D.Disk.tells old.state new) old.state old.faults new.faults why ⊎ IsUnreadable g.D.Disk.tells g.D.Disk.ports_fail first last why = search rules in
    let reason = reason_of_room g.D.Disk.tells g.D.Disk.ports_fail old new first last why full c.in_ok-may_change.ensures.fits.0 cause in
    subst (λ (r : Result ℕ Refused). Answers g.D.Disk.tells (Makes Asks) (result_err r) (face_of old) old new) (sym refusal)
    (subst (λ face. Answers g.D.Disk.tells (Makes Asks) (Some why) face old new) (jobs_same core c.make_room.new.self c.make_room.ensures.begun c.make_room.ensures.flights c.in_err-make_room.ensures.keeps.pins)
    (unroomed_answers g.D.Disk.tells Asks (put_works c.args.key c.args.dkey c.args.value) old c.in_ok-may_change.ensures.fits.0 g.D.Disk.ports_fail first last new why c.in_err-make_room.ensures.keeps reason
    full c.in_err-make_room.ensures.partly))

pub returns-in_err-make_room-clause-why : goal.returns-in_err-make_room-clause-why
returns-in_err-make_room-clause-why g c =
    let old = view_of c.args.self.now.core in
    let new : View = view_of c.make_room.new.self in
    let why = c.in_err-make_room.field-0.0 in
    let refusal : c.from_residual-in_err-make_room.result ≡ Err why = search rules in
    let first = g.D.Disk.port_faults c.args.port.now in
    let last = g.D.Disk.port_faults c.make_room.new.port in
    let full : old.state.records < old.state.manifest.config.buffer → ⊥ = λ room. absurd (let ok : false ≡ true = (c.in_err-make_room.ensures.room room).0 in cc) in
    let cause : HasReason (IsShortOfRoom g.D.Disk.tells old.state new) old.state old.faults new.faults why ⊎ IsUnreadable g.D.Disk.tells g.D.Disk.ports_fail first last why = search rules in
    subst (λ (r : Result ℕ Refused). IfErr r (HasReasonOfChange g.D.Disk.tells g.D.Disk.ports_fail old new first last)) (sym refusal)
    (reason_of_room g.D.Disk.tells g.D.Disk.ports_fail old new first last why full c.in_ok-may_change.ensures.fits.0 cause)

pub returns-clause-answers : goal.returns-clause-answers
returns-clause-answers g c =
    let Asks = call.Put c.args.key c.args.dkey c.args.value in
    let core = c.args.self.now.core in
    let old = view_of core in
    let mid : View = view_of c.make_room.new.self in
    let new : View = view_of c.record.new.self in
    let why = result_err c.record.result in
    let ready = c.in_ok-make_room.ensures.ready in
    let fits = c.in_ok-may_change.ensures.fits in
    let reason = if_refused c.record.result (HasReason ⊥ mid.state old.faults new.faults) (subst (λ n. IfErr c.record.result (HasReason ⊥ mid.state n new.faults)) c.faults-before.ensures c.record.ensures.why) in
    subst (λ face. Answers g.D.Disk.tells (Makes Asks) why face old new)
    (jobs_same core c.make_room.new.self c.make_room.ensures.begun c.make_room.ensures.flights c.in_ok-make_room.ensures.keeps.pins)
    (recorded_answers g.D.Disk.tells Asks (put_works c.args.key c.args.dkey c.args.value) old fits.0 mid new why c.in_ok-make_room.ensures.keeps
    (λ told s holds. let done = c.in_ok-make_room.ensures.done told s holds in (done.0, done.1, done.2, done.3)) (λ s t is. is) (λ room. ap view_of (c.in_ok-make_room.ensures.room room).1)
    (jobs_same c.make_room.new.self c.record.new.self c.record.ensures.begun c.record.ensures.flights c.record.ensures.pins) c.record.ensures.sound (c.record.ensures.count Asks) c.record.ensures.stopped (ap clock_of c.record.ensures.manifest) reason
    (if_refused c.record.result (IsUndone g.D.Disk.tells mid new) c.record.ensures.undone) c.record.ensures.numbers c.record.ensures.drawn c.record.ensures.faults
    (ap (λ names. names.items) c.record.ensures.retired) c.record.ensures.pins c.record.ensures.pinned
    (λ told config h caller still. c.record.ensures.stands told config h caller Asks refl still
    (put_for config h mid still (ready.stopped ∙ fits.0) (subst (λ n. n < max_place) (sym ready.count) fits.1) caller c.args.key (search rules) c.args.dkey c.args.value c.ranges.dkey.fits (search rules) c.put_record-next.result c.put_record-next.ensures.is))
    (λ told config h caller still. c.record.ensures.any_moment told config h caller Asks still
    (put_for config h mid still (ready.stopped ∙ fits.0) (subst (λ n. n < max_place) (sym ready.count) fits.1) caller c.args.key (search rules) c.args.dkey c.args.value c.ranges.dkey.fits (search rules) c.put_record-next.result c.put_record-next.ensures.is)))

pub returns-clause-written : goal.returns-clause-written
returns-clause-written g c = λ told s holds.
    let old = view_of c.args.self.now.core in
    let room = c.in_ok-make_room.ensures.done told s holds in
    let t = room.0 in
    let mid : View = view_of c.make_room.new.self in
    let new : View = view_of c.record.new.self in
    let is = put_same mid t room.3 c.args.key c.args.dkey c.args.value c.put_record-next.result c.put_record-next.ensures.is in
    on_ok c.record.result _ _ (c.record.ensures.written told t room.3) (λ done. (t, room.1, room.2, subst (λ next. Holds new (appended t next)) is done.0, room.4, subst (λ names. AreRetiredBehind room.1 old.pins.pins old.retired names) (ap (λ names. names.items) (sym c.record.ensures.retired)) room.5))

pub returns-clause-room : goal.returns-clause-room
returns-clause-room g c = λ told s holds has.
    let old : View = view_of c.args.self.now.core in
    let room = c.in_ok-make_room.ensures.room (sees_room old s holds has) in
    let same = room.1 in
    let still = subst (λ core. Holds (view_of core) s) (sym same) holds in
    let is = put_same (view_of c.make_room.new.self) s still c.args.key c.args.dkey c.args.value c.put_record-next.result c.put_record-next.ensures.is in
    on_ok_both c.record.result _ _ _ (c.record.ensures.written told s still) (c.record.ensures.calls told) (λ done calls. (
      done.1 ∙ ap (λ core. with_record (g.D.Disk.seen core.disk).directory s c.put_record-next.result) same ∙ ap (with_record old.disk.directory s) is,
      calls ∙ ap (λ core. (g.D.Disk.seen core.disk).moment + 4) same,
      room.2,
    ))

pub returns-clause-entered : goal.returns-clause-entered
returns-clause-entered g c = λ has.
    let same = (c.in_ok-make_room.ensures.room has).1 in
    let mid = c.make_room.new.self.state in
    let new = c.record.new.self.state in
    on_ok c.record.result _ _ c.record.ensures.entered
    (λ entered. subst (λ core. HasEntered (put_record core.state c.args.key c.args.dkey c.args.value) core.state new) same (subst (λ next. HasEntered next mid new) c.put_record-next.ensures.is entered))

pub returns-in_err-make_room-clause-pins : goal.returns-in_err-make_room-clause-pins
returns-in_err-make_room-clause-pins g c = c.in_err-make_room.ensures.keeps.pins

pub returns-clause-pins : goal.returns-clause-pins
returns-clause-pins g c = c.record.ensures.pins ∙ c.in_ok-make_room.ensures.keeps.pins
