use Rattle.std.proofs.Common.{rules, ◌≡◌, ◌+◌, Some, None, Result, Err, refl, sym, ap, ◌∙◌, subst}
use Rattle.std.specs.Prelude.{IfErr}
use Rattle.std.specs.Result.{result_err}
use Rattle.lethe_base.specs.declared.call.Call.TheVariants as call
use Rattle.lethe_base.specs.declared.refused.Refused.{Refused}
use Rattle.lethe_core.specs.Asked.{Makes}
use Rattle.lethe_core.specs.View.{View, view_of}
use Rattle.lethe_tick.specs.Ripened.{IsTickedInPart}
use Rattle.lethe_engine.specs.Answers.{Answers}
use Rattle.lethe_engine.specs.Ticks.{HasReasonOfTick, ticked_face}
use Rattle.lethe_engine.specs.declared.ticking.Ticked.{Ticked}
use Rattle.lethe_engine.proofs.Certified.{answer_true, call_certified, refused_certified, with_answer}
use Rattle.lethe_engine.proofs.Calls.{itself_answers, made_answers, refused_is_none}
use Rattle.lethe_engine.proofs.Onward.{sound_pages}
use Rattle.lethe_engine.proofs.Ticks.{barred_not, barred_why, holds_in_round, may_in_round, may_refuse_none, may_refuse_reason, partly_in_round, passes_all, reason_of_tick, stands_in_round, still_runs, tick_told, tick_works, ticked_gone, ticked_not, ticked_now}
use Rattle.lethe_engine.proofs.engine.Engine.tick.Goals as goal

-- No tick was begun

pub returns-in_err-may_tick-clause-answers : goal.returns-in_err-may_tick-clause-answers
returns-in_err-may_tick-clause-answers g c =
    let old = view_of c.args.self.now.core in
    let to = c.args.to in
    let why = c.in_err-may_tick.field-0.0 in
    let refusal : c.from_residual.result ≡ Err why = search rules in
    let may = c.in_err-may_tick.ensures.refused in
    let Asks = Makes (call.Tick to) in
    subst (λ (r : Result Ticked Refused). Answers g.D.Disk.tells Asks (result_err r) (ticked_face old to) old old) (sym refusal)
    (subst (λ face. Answers g.D.Disk.tells Asks (Some why) face old old) (sym (ticked_not old to why may))
    (itself_answers g.D.Disk.tells Asks (Some why) old c.requires.sound (refused_is_none Asks why (may_refuse_none old to why may))))

pub returns-in_err-may_tick-clause-why : goal.returns-in_err-may_tick-clause-why
returns-in_err-may_tick-clause-why g c =
    let old = view_of c.args.self.now.core in
    let to = c.args.to in
    let why = c.in_err-may_tick.field-0.0 in
    let refusal : c.from_residual.result ≡ Err why = search rules in
    let count = g.D.Disk.port_faults c.args.port.now in
    subst (λ (r : Result Ticked Refused). IfErr r (HasReasonOfTick g.D.Disk.tells g.D.Disk.ports_fail to old old count count)) (sym refusal)
    (may_refuse_reason old to g.D.Disk.tells g.D.Disk.ports_fail old count count why c.in_err-may_tick.ensures.refused)

pub returns-in_err-may_tick-clause-pinned : goal.returns-in_err-may_tick-clause-pinned
returns-in_err-may_tick-clause-pinned g c = λ may pin limit first reached.
    let old = view_of c.args.self.now.core in
    let why = c.in_err-may_tick.field-0.0 in
    let refusal : c.from_residual.result ≡ Err why = search rules in
    (refusal ∙ ap (λ (e : Refused). Err e) (barred_why old c.args.to pin limit may first why c.in_err-may_tick.ensures.refused), refl)

-- A tick was begun

pub returns-in_err-certificate-clause-pinned : goal.returns-in_err-certificate-clause-pinned
returns-in_err-certificate-clause-pinned g c = λ may pin limit first reached. absurd (barred_not c.args.self.now.core.pins.pins c.args.to pin limit first reached c.in_ok-may_tick.ensures.may.1)

pub returns-clause-pinned : goal.returns-clause-pinned
returns-clause-pinned g c = λ may pin limit first reached. absurd (barred_not c.args.self.now.core.pins.pins c.args.to pin limit first reached c.in_ok-may_tick.ensures.may.1)

pub tick-requires-clause-passes : goal.tick-requires-clause-passes
tick-requires-clause-passes g c κs within = c.in_ok-may_tick.ensures.may.1

pub tick-requires-clause-may : goal.tick-requires-clause-may
tick-requires-clause-may g c κs within =
    let old = view_of c.args.self.now.core in
    let may = c.in_ok-may_tick.ensures.may in
    may_in_round old (old.rounds + 1) g.D.Disk.tells c.faults-before.result c.requires.sound may.0.runs may.0.place c.faults-before.ensures

pub returns-in_err-certificate-clause-answers : goal.returns-in_err-certificate-clause-answers
returns-in_err-certificate-clause-answers g c =
    let old = view_of c.args.self.now.core in
    let new : View = view_of c.tick.new.core in
    let to = c.args.to in
    let tells = g.D.Disk.tells in
    let why = c.in_err-certificate.field-0.0 in
    let refusal : c.from_residual-in_err-certificate.result ≡ Err why = search rules in
    let may = c.in_ok-may_tick.ensures.may in
    let first = g.D.Disk.port_faults c.args.port.now in
    let last = g.D.Disk.port_faults c.tick.new.port in
    let is = c.in_err-certificate.ensures in
    let all = c.tick.ensures in
    let face = ticked_now old to new (passes_all old to may.0 may.1) (λ i. (all.begun i).jobs) (λ i. (all.begun i).rounds) all.free all.pins in
    let told = tick_told tells g.D.Disk.ports_fail to old new c.faults-before.result first last may.0.runs c.faults-before.ensures why is.why in
    subst (λ (r : Result Ticked Refused). Answers tells (Makes (call.Tick to)) (result_err r) (ticked_face old to) old new) (sym refusal)
    (subst (λ face. Answers tells (Makes (call.Tick to)) (Some why) face old new) face
    (made_answers tells (call.Tick to) (tick_works to) old may.0.runs new (Some why) all.sound is.count is.stopped is.clock
    (λ told config h caller before. is.stands told config h (stands_in_round old (old.rounds + 1) config h before) caller)
    (λ told config h caller before. is.any_moment told config h (stands_in_round old (old.rounds + 1) config h before) caller)
    all.numbers all.drawn all.faults told
    ((λ ready. absurd ready), partly_in_round old (old.rounds + 1) tells (IsTickedInPart to) new why is.partly) all.retired all.pinned))

pub returns-in_err-certificate-clause-why : goal.returns-in_err-certificate-clause-why
returns-in_err-certificate-clause-why g c =
    let old = view_of c.args.self.now.core in
    let new : View = view_of c.tick.new.core in
    let to = c.args.to in
    let why = c.in_err-certificate.field-0.0 in
    let refusal : c.from_residual-in_err-certificate.result ≡ Err why = search rules in
    let may = c.in_ok-may_tick.ensures.may in
    let first = g.D.Disk.port_faults c.args.port.now in
    let last = g.D.Disk.port_faults c.tick.new.port in
    subst (λ (r : Result Ticked Refused). IfErr r (HasReasonOfTick g.D.Disk.tells g.D.Disk.ports_fail to old new first last)) (sym refusal)
    (reason_of_tick g.D.Disk.tells g.D.Disk.ports_fail to old new c.faults-before.result first last may.0.runs c.faults-before.ensures why c.in_err-certificate.ensures.why)

-- A tick was carried out

pub returns-clause-answers : goal.returns-clause-answers
returns-clause-answers g c =
    let old = view_of c.args.self.now.core in
    let new : View = view_of c.tick.new.core in
    let to = c.args.to in
    let tells = g.D.Disk.tells in
    let may = c.in_ok-may_tick.ensures.may in
    let is = c.in_ok-certificate.ensures in
    let all = c.tick.ensures in
    let face = ticked_now old to new (passes_all old to may.0 may.1) (λ i. (all.begun i).jobs) (λ i. (all.begun i).rounds) all.free all.pins in
    subst (λ face. Answers tells (Makes (call.Tick to)) None face old new) face
    (made_answers tells (call.Tick to) (tick_works to) old may.0.runs new None all.sound is.count is.stopped is.clock
    (λ told config h caller before. is.stands told config h (stands_in_round old (old.rounds + 1) config h before) caller)
    (λ told config h caller before. is.any_moment told config h (stands_in_round old (old.rounds + 1) config h before) caller)
    all.numbers all.drawn all.faults tt tt all.retired all.pinned)

pub returns-clause-gone : goal.returns-clause-gone
returns-clause-gone g c = λ told config opened h stands caller.
    let old = view_of c.args.self.now.core in
    let may = c.in_ok-may_tick.ensures.may in
    let is = c.in_ok-certificate.ensures in
    let new : View = view_of c.tick.new.core in
    ticked_gone config h caller c.args.to new (sound_pages g.D.Disk.tells new c.tick.ensures.sound told) (is.stands told config h (stands_in_round old (old.rounds + 1) config h stands.now) caller) (still_runs old new is.stopped may.0.runs)

pub returns-clause-one_image : goal.returns-clause-one_image
returns-clause-one_image g c = λ told.
    let old = view_of c.args.self.now.core in
    let new : View = view_of c.tick.new.core in
    let may = c.in_ok-may_tick.ensures.may in
    let is = c.in_ok-certificate.ensures in
    let held = c.tick.ensures.sound.held told in
    (held.2 (still_runs old new is.stopped may.0.runs)).settled.synced

pub returns-clause-done : goal.returns-clause-done
returns-clause-done g c = λ told s holds.
    let old = view_of c.args.self.now.core in
    c.in_ok-certificate.ensures.done told s (holds_in_round old (old.rounds + 1) s holds)

pub returns-clause-last_step : goal.returns-clause-last_step
returns-clause-last_step g c = λ told config h stands.
    let old = view_of c.args.self.now.core in
    c.in_ok-certificate.ensures.last_step told config h (stands_in_round old (old.rounds + 1) config h stands)

-- Certificates

pub returns-clause-is_true : goal.returns-clause-is_true
returns-clause-is_true g c = λ told config opened h stands caller.
    let old = view_of c.args.self.now.core in
    let new : View = view_of c.tick.new.core in
    let may = c.in_ok-may_tick.ensures.may in
    let is = c.in_ok-certificate.ensures in
    let runs = still_runs old new is.stopped may.0.runs in
    let answers = returns-clause-answers g c in
    answer_true config opened h caller c.args.to new (answers.stands told config opened h stands caller) runs c.tick.ensures.sound.writable ((c.tick.ensures.sound.held told).2 runs).settled.synced
    is.manifest.0 is.manifest.1 c.in_ok-certificate.certificate is.certificate is.due

pub returns-clause-certified : goal.returns-clause-certified
returns-clause-certified g c = λ told config opened h answered stands caller.
    let old = view_of c.args.self.now.core in
    let new : View = view_of c.tick.new.core in
    let may = c.in_ok-may_tick.ensures.may in
    let is = c.in_ok-certificate.ensures in
    let runs = still_runs old new is.stopped may.0.runs in
    let answers = returns-clause-answers g c in
    let stood = call_certified g.D.Disk.tells (Makes (call.Tick c.args.to)) None (ticked_face old c.args.to) old new answers told config opened h caller answered stands in
    with_answer config opened h caller c.args.to new stood.since runs c.tick.ensures.sound.writable ((c.tick.ensures.sound.held told).2 runs).settled.synced is.manifest.0 is.manifest.1 stands.since.begins
    c.in_ok-certificate.certificate is.certificate is.due answered stood

pub returns-in_err-certificate-clause-certified : goal.returns-in_err-certificate-clause-certified
returns-in_err-certificate-clause-certified g c = λ told config opened h answered stands caller.
    let old = view_of c.args.self.now.core in
    let new : View = view_of c.tick.new.core in
    let Asks = Makes (call.Tick c.args.to) in
    let result = c.from_residual-in_err-certificate.result in
    let refusal : result ≡ Err c.in_err-certificate.field-0.0 = search rules in
    refused_certified config opened h caller Asks new result c.in_err-certificate.field-0.0 refusal answered
    (call_certified g.D.Disk.tells Asks (result_err result) (ticked_face old c.args.to) old new (returns-in_err-certificate-clause-answers g c) told config opened h caller answered stands)

pub returns-in_err-may_tick-clause-certified : goal.returns-in_err-may_tick-clause-certified
returns-in_err-may_tick-clause-certified g c = λ told config opened h answered stands caller.
    let old = view_of c.args.self.now.core in
    let Asks = Makes (call.Tick c.args.to) in
    let result = c.from_residual.result in
    let refusal : result ≡ Err c.in_err-may_tick.field-0.0 = search rules in
    refused_certified config opened h caller Asks old result c.in_err-may_tick.field-0.0 refusal answered
    (call_certified g.D.Disk.tells Asks (result_err result) (ticked_face old c.args.to) old old (returns-in_err-may_tick-clause-answers g c) told config opened h caller answered stands)
