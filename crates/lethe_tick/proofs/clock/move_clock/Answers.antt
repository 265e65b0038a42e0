use Rattle.std.proofs.Common.{rules, ◌≡◌, None, Option, Result, Err, sym, ap, ◌∙◌, subst, arith}
use Rattle.std.specs.Prelude.{IfErr}
use Rattle.std.specs.Result.{result_err}
use Rattle.lethe_base.specs.declared.call.Call.TheVariants.{Tick}
use Rattle.lethe_base.specs.declared.refused.Refused.{Refused}
use Rattle.lethe_cert.specs.declared.certificate.Certificate.{Certificate}
use Rattle.lethe_state.specs.Clock.{clock_at, clock_of}
use Rattle.lethe_state.specs.Room.{IsStepFrom}
use Rattle.lethe_state.specs.Ticking.{moved}
use Rattle.lethe_state.specs.Writable.{segments_for}
use Rattle.lethe_state.specs.declared.state.State.{State}
use Rattle.lethe_stored.specs.Left.{IsKeptOr}
use Rattle.lethe_stored.specs.Numbers.{GoesFrom}
use Rattle.lethe_core.specs.Asked.{Makes, behind, clock_behind, counted, stopped_by, written_by}
use Rattle.lethe_core.specs.StandsNow.{StandsNow}
use Rattle.lethe_core.specs.Steps.{IsUndone}
use Rattle.lethe_core.specs.View.{view_of}
use Rattle.lethe_core.proofs.Asked.{behind_none, counted_none, not_failed, stopped_none, written_none}
use Rattle.lethe_core.proofs.Carried.{IsCarried}
use Rattle.lethe_core.proofs.Hindered.{as_itself, hindered_clock, hindered_count, hindered_next, hindered_sound, hindered_stopped, hindered_undone}
use Rattle.lethe_core.proofs.Standing.{moments_or, stands_moments}
use Rattle.lethe_tick.proofs.Moving.{hindered_moments, hindered_stands, tick_moments, tick_step, tick_unmoved, ticked_holds, ticked_kept, ticked_sound, ticked_stands}
use Rattle.lethe_tick.proofs.clock.move_clock.Goals as goal

-- There was no number or no memory for the step

pub returns-in_err-step-clause-count : goal.returns-in_err-step-clause-count
returns-in_err-step-clause-count g c =
    let why = c.in_err-step.field-0.0 in
    let refusal : c.from_residual.result ≡ Err why = search rules in
    let count = c.args.core.now.state.count in
    sym (ap (λ (r : Result (Option Certificate) Refused). counted (Makes (Tick c.args.to)) (result_err r) count) refusal ∙ counted_none (Makes (Tick c.args.to)) why count (not_failed why c.in_err-step.ensures.refused))

pub returns-in_err-step-clause-stopped : goal.returns-in_err-step-clause-stopped
returns-in_err-step-clause-stopped g c =
    let why = c.in_err-step.field-0.0 in
    let refusal : c.from_residual.result ≡ Err why = search rules in
    let stopped = c.args.core.now.state.stopped in
    sym (ap (λ (r : Result (Option Certificate) Refused). stopped_by (result_err r) stopped) refusal ∙ stopped_none why stopped (not_failed why c.in_err-step.ensures.refused))

pub returns-in_err-step-clause-clock : goal.returns-in_err-step-clause-clock
returns-in_err-step-clause-clock g c =
    let why = c.in_err-step.field-0.0 in
    let refusal : c.from_residual.result ≡ Err why = search rules in
    let clock = clock_of c.args.core.now.state.manifest in
    sym (ap (λ (r : Result (Option Certificate) Refused). clock_behind (Makes (Tick c.args.to)) (result_err r) clock) refusal)

pub returns-in_err-step-clause-undone : goal.returns-in_err-step-clause-undone
returns-in_err-step-clause-undone g c =
    let why = c.in_err-step.field-0.0 in
    let refusal : c.from_residual.result ≡ Err why = search rules in
    let old = view_of c.args.core.now in
    subst (λ (r : Result (Option Certificate) Refused). IfErr r (IsUndone g.D.Disk.tells old old)) (sym refusal) (λ none. as_itself g.D.Disk.tells old)

pub returns-in_err-step-clause-stands : goal.returns-in_err-step-clause-stands
returns-in_err-step-clause-stands g c = λ told config h stands forward due caller.
    let why = c.in_err-step.field-0.0 in
    let refusal : c.from_residual.result ≡ Err why = search rules in
    subst (λ h. StandsNow config h (view_of c.args.core.now))
    (sym (ap (λ (r : Result (Option Certificate) Refused). behind h caller (Makes (Tick c.args.to)) (result_err r)) refusal ∙ behind_none h caller (Makes (Tick c.args.to)) why (not_failed why c.in_err-step.ensures.refused))) stands

pub returns-in_err-step-clause-any_moment : goal.returns-in_err-step-clause-any_moment
returns-in_err-step-clause-any_moment g c = λ told config h stands forward due caller.
    let why = c.in_err-step.field-0.0 in
    let refusal : c.from_residual.result ≡ Err why = search rules in
    let old = view_of c.args.core.now in
    subst (λ change. GoesFrom old.state.next (IsKeptOr config h change) old.disk old.disk)
    (sym (ap (λ (r : Result (Option Certificate) Refused). written_by caller (Makes (Tick c.args.to)) (result_err r)) refusal ∙ written_none caller (Makes (Tick c.args.to)) why (not_failed why c.in_err-step.ensures.refused)))
    (moments_or config h None old.state.next old.disk old.disk (stands_moments config h old stands c.requires.may.runs c.requires.may.sound.writable))

-- There was no memory for the manifest or for the certificate

pub returns-in_default-clause-any_moment : goal.returns-in_default-clause-any_moment
returns-in_default-clause-any_moment g c = λ told config h stands forward due caller.
    let old = view_of c.args.core.now in
    moments_or config h None old.state.next old.disk old.disk (stands_moments config h old stands c.requires.may.runs c.requires.may.sound.writable)

-- The step

pub carry_out_spelled-requires-clause-step : goal.carry_out_spelled-requires-clause-step
carry_out_spelled-requires-clause-step g c κs within =
    let old = view_of c.args.core.now in
    let step = c.in_ok-step.step in
    let from = subst (λ headers. IsStepFrom (segments_for old.state.frozen) (clock_at (clock_of old.state.manifest) c.args.to) old.state headers step) (sym c.new.ensures.items) c.in_ok-step.ensures.step in
    tick_step g.D.Disk.tells old c.args.before c.args.to c.requires.may c.new.result.items step c.new.ensures.items from c.in_ok-step.ensures.ticks

-- It was hindered

pub returns-in_err-carry_out_spelled-clause-sound : goal.returns-in_err-carry_out_spelled-clause-sound
returns-in_err-carry_out_spelled-clause-sound g c =
    hindered_sound g.D.Disk.tells (view_of c.args.core.now) (view_of c.carry_out_spelled.new.self) c.args.before c.requires.may.fits c.requires.may.sound c.in_err-carry_out_spelled.field-0.0 c.in_err-carry_out_spelled.ensures.refused

pub returns-in_err-carry_out_spelled-clause-count : goal.returns-in_err-carry_out_spelled-clause-count
returns-in_err-carry_out_spelled-clause-count g c =
    let old = view_of c.args.core.now in
    let new = view_of c.carry_out_spelled.new.self in
    let why = c.in_err-carry_out_spelled.field-0.0 in
    let refusal : c.from_residual-in_err-carry_out_spelled.result ≡ Err why = search rules in
    subst (λ (r : Result (Option Certificate) Refused). new.state.count ≡ counted (Makes (Tick c.args.to)) (result_err r) old.state.count) (sym refusal)
    (hindered_count g.D.Disk.tells old new c.args.before why c.in_err-carry_out_spelled.ensures.refused)

pub returns-in_err-carry_out_spelled-clause-stopped : goal.returns-in_err-carry_out_spelled-clause-stopped
returns-in_err-carry_out_spelled-clause-stopped g c =
    let old = view_of c.args.core.now in
    let new = view_of c.carry_out_spelled.new.self in
    let why = c.in_err-carry_out_spelled.field-0.0 in
    let refusal : c.from_residual-in_err-carry_out_spelled.result ≡ Err why = search rules in
    subst (λ (r : Result (Option Certificate) Refused). new.state.stopped ≡ stopped_by (result_err r) old.state.stopped) (sym refusal)
    (hindered_stopped g.D.Disk.tells old new c.args.before why c.in_err-carry_out_spelled.ensures.refused)

pub returns-in_err-carry_out_spelled-clause-clock : goal.returns-in_err-carry_out_spelled-clause-clock
returns-in_err-carry_out_spelled-clause-clock g c =
    let old = view_of c.args.core.now in
    let new = view_of c.carry_out_spelled.new.self in
    let why = c.in_err-carry_out_spelled.field-0.0 in
    let refusal : c.from_residual-in_err-carry_out_spelled.result ≡ Err why = search rules in
    subst (λ (r : Result (Option Certificate) Refused). clock_of new.state.manifest ≡ clock_behind (Makes (Tick c.args.to)) (result_err r) (clock_of old.state.manifest)) (sym refusal)
    (hindered_clock g.D.Disk.tells old new c.args.before why c.in_err-carry_out_spelled.ensures.refused)

pub returns-in_err-carry_out_spelled-clause-undone : goal.returns-in_err-carry_out_spelled-clause-undone
returns-in_err-carry_out_spelled-clause-undone g c =
    let old = view_of c.args.core.now in
    let new = view_of c.carry_out_spelled.new.self in
    let why = c.in_err-carry_out_spelled.field-0.0 in
    let refusal : c.from_residual-in_err-carry_out_spelled.result ≡ Err why = search rules in
    subst (λ (r : Result (Option Certificate) Refused). IfErr r (IsUndone g.D.Disk.tells old new)) (sym refusal) (hindered_undone g.D.Disk.tells old new c.args.before why c.in_err-carry_out_spelled.ensures.refused)

pub returns-in_err-carry_out_spelled-clause-any_moment : goal.returns-in_err-carry_out_spelled-clause-any_moment
returns-in_err-carry_out_spelled-clause-any_moment g c = λ told config h stands forward due caller.
    let old = view_of c.args.core.now in
    let new = view_of c.carry_out_spelled.new.self in
    let headers = c.new.result.items in
    let step = c.in_ok-step.step in
    let why = c.in_err-carry_out_spelled.field-0.0 in
    let refusal : c.from_residual-in_err-carry_out_spelled.result ≡ Err why = search rules in
    let from = subst (λ headers. IsStepFrom (segments_for old.state.frozen) (clock_at (clock_of old.state.manifest) c.args.to) old.state headers step) (sym c.new.ensures.items) c.in_ok-step.ensures.step in
    let ticks = c.in_ok-step.ensures.ticks in
    let tells = g.D.Disk.tells in
    let goes = tick_moments tells old c.args.before c.args.to c.requires.may headers step c.new.ensures.items from ticks config h stands forward due caller new c.carry_out_spelled.ensures.moments told in
    subst (λ (r : Result (Option Certificate) Refused). GoesFrom old.state.next (IsKeptOr config h (written_by caller (Makes (Tick c.args.to)) (result_err r))) old.disk new.disk) (sym refusal)
    (hindered_moments tells old c.args.before c.args.to c.requires.may headers step c.new.ensures.items from ticks config h stands forward due caller new why c.in_err-carry_out_spelled.ensures.refused goes
    (λ memory. tick_unmoved tells old c.args.before c.args.to c.requires.may headers step c.new.ensures.items from ticks config h stands forward due caller new
    (λ told s t left running is h for below. c.carry_out_spelled.ensures.unmoved told s t left running is h for below (c.in_err-carry_out_spelled.was ∙ ap (λ (e : Refused). Err e) memory)) told))

pub returns-in_err-carry_out_spelled-clause-stands : goal.returns-in_err-carry_out_spelled-clause-stands
returns-in_err-carry_out_spelled-clause-stands g c = λ told config h stands forward due caller.
    let old = view_of c.args.core.now in
    let new = view_of c.carry_out_spelled.new.self in
    let headers = c.new.result.items in
    let step = c.in_ok-step.step in
    let why = c.in_err-carry_out_spelled.field-0.0 in
    let refusal : c.from_residual-in_err-carry_out_spelled.result ≡ Err why = search rules in
    let from = subst (λ headers. IsStepFrom (segments_for old.state.frozen) (clock_at (clock_of old.state.manifest) c.args.to) old.state headers step) (sym c.new.ensures.items) c.in_ok-step.ensures.step in
    let ticks = c.in_ok-step.ensures.ticks in
    let tells = g.D.Disk.tells in
    let laws = g.met.D.Disk g.world.𝓛 g.world.𝓜 g.world.𝓡 ((λ s x. x), (λ x. x), (λ x. x), λ x. x) in
    let goes = tick_moments tells old c.args.before c.args.to c.requires.may headers step c.new.ensures.items from ticks config h stands forward due caller new c.carry_out_spelled.ensures.moments told in
    subst (λ (r : Result (Option Certificate) Refused). StandsNow config (behind h caller (Makes (Tick c.args.to)) (result_err r)) new) (sym refusal)
    (hindered_stands tells old c.args.before c.args.to c.requires.may headers step c.new.ensures.items from ticks config h stands forward due caller new why c.in_err-carry_out_spelled.ensures.refused goes told
    (laws.itself told c.carry_out_spelled.new.self.disk))

pub returns-in_err-carry_out_spelled-clause-numbers : goal.returns-in_err-carry_out_spelled-clause-numbers
returns-in_err-carry_out_spelled-clause-numbers g c = λ told.
    let old = view_of c.args.core.now in
    let new = view_of c.carry_out_spelled.new.self in
    let same = hindered_next g.D.Disk.tells old new c.args.before c.in_err-carry_out_spelled.field-0.0 c.in_err-carry_out_spelled.ensures.refused in
    let on = c.carry_out_spelled.ensures.later told in
    omega (arith, same, on)

pub returns-in_err-carry_out_spelled-clause-drawn : goal.returns-in_err-carry_out_spelled-clause-drawn
returns-in_err-carry_out_spelled-clause-drawn g c =
    let same = hindered_next g.D.Disk.tells (view_of c.args.core.now) (view_of c.carry_out_spelled.new.self) c.args.before c.in_err-carry_out_spelled.field-0.0 c.in_err-carry_out_spelled.ensures.refused in
    omega (arith, same)

pub returns-in_err-carry_out_spelled-clause-pinned : goal.returns-in_err-carry_out_spelled-clause-pinned
returns-in_err-carry_out_spelled-clause-pinned g c =
    let old = view_of c.args.core.now in
    let new = view_of c.carry_out_spelled.new.self in
    let from = subst (λ headers. IsStepFrom (segments_for old.state.frozen) (clock_at (clock_of old.state.manifest) c.args.to) old.state headers c.in_ok-step.step) (sym c.new.ensures.items) c.in_ok-step.ensures.step in
    ticked_kept g.D.Disk.tells old c.args.before c.args.to c.requires.may c.new.result.items c.in_ok-step.step c.new.ensures.items from c.in_ok-step.ensures.ticks new c.carry_out_spelled.ensures.stays

-- It was carried out

pub returns-clause-done : goal.returns-clause-done
returns-clause-done g c = λ told s holds.
    let old = view_of c.args.core.now in
    let new = view_of (record c.carry_out_spelled.new.self { state = c.tick.new.self }) in
    let headers = c.new.result.items in
    let step = c.in_ok-step.step in
    let laws = g.met.D.Disk g.world.𝓛 g.world.𝓜 g.world.𝓡 ((λ s x. x), (λ x. x), (λ x. x), λ x. x) in
    let new_is : new.state ≡ moved step.manifest old.state = c.tick.ensures.is ∙ ap (moved step.manifest) c.in_ok-carry_out_spelled.ensures.state in
    let carried : IsCarried g.D.Disk.tells old new headers step = record {
      moments = c.carry_out_spelled.ensures.moments;
      done = c.in_ok-carry_out_spelled.ensures.done;
      kept = c.in_ok-carry_out_spelled.ensures.kept;
      stays = c.carry_out_spelled.ensures.stays;
      gate = c.in_ok-carry_out_spelled.ensures.gate;
      files = c.in_ok-carry_out_spelled.ensures.files;
      levels = c.carry_out_spelled.ensures.levels;
      retired = λ i. (c.carry_out_spelled.ensures.retired i).items;
      flights = c.carry_out_spelled.ensures.flights;
      pins = c.carry_out_spelled.ensures.pins;
      calls = c.in_ok-carry_out_spelled.ensures.calls;
      faults = c.carry_out_spelled.ensures.faults;
    } in
    let from = subst (λ headers. IsStepFrom (segments_for old.state.frozen) (clock_at (clock_of old.state.manifest) c.args.to) old.state headers step) (sym c.new.ensures.items) c.in_ok-step.ensures.step in
    ticked_holds g.D.Disk.tells old c.args.before c.args.to c.requires.may headers step c.new.ensures.items from c.in_ok-step.ensures.ticks new carried new_is c.requires.free
    (λ told. laws.itself told c.args.core.now.disk) told s holds

pub returns-clause-pinned : goal.returns-clause-pinned
returns-clause-pinned g c =
    let old = view_of c.args.core.now in
    let new = view_of (record c.carry_out_spelled.new.self { state = c.tick.new.self }) in
    let from = subst (λ headers. IsStepFrom (segments_for old.state.frozen) (clock_at (clock_of old.state.manifest) c.args.to) old.state headers c.in_ok-step.step) (sym c.new.ensures.items) c.in_ok-step.ensures.step in
    ticked_kept g.D.Disk.tells old c.args.before c.args.to c.requires.may c.new.result.items c.in_ok-step.step c.new.ensures.items from c.in_ok-step.ensures.ticks new c.carry_out_spelled.ensures.stays

pub returns-clause-sound : goal.returns-clause-sound
returns-clause-sound g c =
    let old = view_of c.args.core.now in
    let new = view_of (record c.carry_out_spelled.new.self { state = c.tick.new.self }) in
    let step = c.in_ok-step.step in
    let new_is : new.state ≡ moved step.manifest old.state = c.tick.ensures.is ∙ ap (moved step.manifest) c.in_ok-carry_out_spelled.ensures.state in
    let from = subst (λ headers. IsStepFrom (segments_for old.state.frozen) (clock_at (clock_of old.state.manifest) c.args.to) old.state headers step) (sym c.new.ensures.items) c.in_ok-step.ensures.step in
    ticked_sound g.D.Disk.tells old c.args.before c.args.to c.requires.may c.new.result.items step c.new.ensures.items from c.in_ok-step.ensures.ticks new new_is (λ i. (c.carry_out_spelled.ensures.retired i).items)
    c.carry_out_spelled.ensures.flights c.carry_out_spelled.ensures.pins (returns-clause-done g c) c.carry_out_spelled.ensures.levels c.tick.ensures.writable

pub returns-clause-clock : goal.returns-clause-clock
returns-clause-clock g c =
    let old = view_of c.args.core.now in
    let step = c.in_ok-step.step in
    let new_is : c.tick.new.self ≡ moved step.manifest old.state = c.tick.ensures.is ∙ ap (moved step.manifest) c.in_ok-carry_out_spelled.ensures.state in
    ap (λ (state : State). clock_of state.manifest) new_is ∙ c.in_ok-step.ensures.step.clock_is

pub returns-clause-stands : goal.returns-clause-stands
returns-clause-stands g c = λ told config h stands forward due caller.
    let old = view_of c.args.core.now in
    let new = view_of (record c.carry_out_spelled.new.self { state = c.tick.new.self }) in
    let step = c.in_ok-step.step in
    let new_is : new.state ≡ moved step.manifest old.state = c.tick.ensures.is ∙ ap (moved step.manifest) c.in_ok-carry_out_spelled.ensures.state in
    let from = subst (λ headers. IsStepFrom (segments_for old.state.frozen) (clock_at (clock_of old.state.manifest) c.args.to) old.state headers step) (sym c.new.ensures.items) c.in_ok-step.ensures.step in
    ticked_stands g.D.Disk.tells old c.args.before c.args.to c.requires.may c.new.result.items step c.new.ensures.items from c.in_ok-step.ensures.ticks new new_is (λ i. (c.carry_out_spelled.ensures.retired i).items)
    c.carry_out_spelled.ensures.flights c.carry_out_spelled.ensures.pins (returns-clause-done g c) c.requires.passes c.requires.named
    (returns-clause-pinned g c) told config h stands forward due caller

pub returns-clause-any_moment : goal.returns-clause-any_moment
returns-clause-any_moment g c = λ told config h stands forward due caller.
    let old = view_of c.args.core.now in
    let new = view_of (record c.carry_out_spelled.new.self { state = c.tick.new.self }) in
    let headers = c.new.result.items in
    let step = c.in_ok-step.step in
    let from = subst (λ headers. IsStepFrom (segments_for old.state.frozen) (clock_at (clock_of old.state.manifest) c.args.to) old.state headers step) (sym c.new.ensures.items) c.in_ok-step.ensures.step in
    tick_moments g.D.Disk.tells old c.args.before c.args.to c.requires.may headers step c.new.ensures.items from c.in_ok-step.ensures.ticks config h stands forward due caller new c.carry_out_spelled.ensures.moments told

pub returns-clause-drawn : goal.returns-clause-drawn
returns-clause-drawn g c =
    let next = ap (λ (state : State). state.next) c.tick.ensures.is in
    let number = c.in_ok-step.ensures.step.numbers in
    let above = c.in_ok-step.ensures.step.next in
    omega (arith, next, number, above)

pub returns-clause-numbers : goal.returns-clause-numbers
returns-clause-numbers g c = λ told.
    let next = ap (λ (state : State). state.next) c.tick.ensures.is in
    let number = c.in_ok-step.ensures.step.numbers in
    let above = c.in_ok-step.ensures.step.next in
    let calls = c.in_ok-carry_out_spelled.ensures.calls told in
    omega (arith, next, number, above, calls)
