use Rattle.std.proofs.Common.{rules, ◌≡◌, ◌⊎◌, ◌+◌, inl, inr, List, Some, None, Result, Err, refl, sym, ◌∙◌, subst}
use Rattle.std.specs.Prelude.{IfErr, filter}
use Rattle.std.specs.Result.{result_err}
use Rattle.std.proofs.lemmas.Result.{IfErr-weaker}
use Rattle.lethe_base.specs.declared.refused.Refused.{Refused}
use Rattle.lethe_disk.proofs.Quieting.{on_ok}
use Rattle.lethe_stored.specs.Stored.{Stored}
use Rattle.lethe_state.specs.Room.{IsShortToFlush, IsShortToFreeze}
use Rattle.lethe_pins.specs.Held.{Held, is_named}
use Rattle.lethe_core.specs.Keeps.{Keeps}
use Rattle.lethe_core.specs.Merges.{AreOutcomesBy, AreRetiredBehind, AreSomeOutcomesBy, IsShortToMergeBy, Outcome, due_choice, pages_of}
use Rattle.lethe_core.specs.Pinned.{AreNamed}
use Rattle.lethe_core.specs.Reasons.{HasReason, IsUnreadable}
use Rattle.lethe_core.specs.Running.{Holds}
use Rattle.lethe_core.specs.Steps.{IsDoneInPart}
use Rattle.lethe_core.specs.View.{view_of}
use Rattle.lethe_core.proofs.Behind.{next_may, reason_behind}
use Rattle.lethe_core.proofs.Damaged.{not_damaged}
use Rattle.lethe_core.proofs.Hindered.{keeps_then}
use Rattle.lethe_core.proofs.Timely.{named_still}
use Rattle.lethe_tick.specs.Ripened.{IsRipened, IsShortToTick, IsTickedInPart}
use Rattle.lethe_tick.proofs.Buffers.{if_ok, reason_then, reason_told}
use Rattle.lethe_tick.proofs.Ripe.{named_left}
use Rattle.lethe_tick.proofs.ticking.ripen_store.Goals as goal

-- The calls

pub ripen_buffers-requires-after_bounds : goal.ripen_buffers-requires-after_bounds
ripen_buffers-requires-after_bounds g c κs within =
    next_may g.D.Disk.tells (view_of c.args.core.now) (view_of c.clear_now.new.self) c.args.before c.requires c.in_ok-clear_now.ensures.keeps

pub ripen-requires-clause-may : goal.ripen-requires-clause-may
ripen-requires-clause-may g c κs within =
    let free = view_of c.clear_now.new.self in
    let may = next_may g.D.Disk.tells (view_of c.args.core.now) free c.args.before c.requires c.in_ok-clear_now.ensures.keeps in
    next_may g.D.Disk.tells free (view_of c.ripen_buffers.new.core) c.args.before may c.in_ok-ripen_buffers.ensures.keeps

-- The jobs in flight could not be given up, or pages that nothing needs not removed

pub returns-in_err-clear_now-clause-keeps : goal.returns-in_err-clear_now-clause-keeps
returns-in_err-clear_now-clause-keeps g c =
    let why = c.in_err-clear_now.field-0.0 in
    let refusal : c.from_residual.result ≡ Err why = search rules in
    subst (λ (r : Result (Unit {0}) Refused). Keeps g.D.Disk.tells (view_of c.args.core.now) (view_of c.clear_now.new.self) (result_err r)) (sym refusal) c.in_err-clear_now.ensures.keeps

pub returns-in_err-clear_now-clause-partly : goal.returns-in_err-clear_now-clause-partly
returns-in_err-clear_now-clause-partly g c =
    let old = view_of c.args.core.now in
    let new = view_of c.clear_now.new.self in
    let why = c.in_err-clear_now.field-0.0 in
    let refusal : c.from_residual.result ≡ Err why = search rules in
    subst (λ (r : Result (Unit {0}) Refused). IfErr r (IsDoneInPart g.D.Disk.tells (IsTickedInPart c.args.to) old new)) (sym refusal)
    (λ none told s holds. let same = c.in_err-clear_now.ensures.partly none told s holds in (same.0, inl (inl same.1), same.2))

pub returns-in_err-clear_now-clause-why : goal.returns-in_err-clear_now-clause-why
returns-in_err-clear_now-clause-why g c =
    let old = c.args.core.now.state in
    let new = view_of c.clear_now.new.self in
    let why = c.in_err-clear_now.field-0.0 in
    let refusal : c.from_residual.result ≡ Err why = search rules in
    let Short = IsShortToTick g.D.Disk.tells c.args.to new in
    let faults = g.D.Disk.port_faults c.args.port.now in
    subst (λ (r : Result (Unit {0}) Refused). IfErr r (λ why. HasReason Short old c.args.before new.faults why ⊎ IsUnreadable g.D.Disk.tells g.D.Disk.ports_fail faults faults why)) (sym refusal)
    (inl (reason_behind ⊥ Short old old c.args.before new.faults refl refl (λ short. absurd short) why c.in_err-clear_now.ensures.why))

pub returns-in_err-clear_now-clause-damaged : goal.returns-in_err-clear_now-clause-damaged
returns-in_err-clear_now-clause-damaged g c = λ name e.
    let old = c.args.core.now.state in
    let now = g.D.Disk.faults c.clear_now.new.self.disk in
    let why = c.in_err-clear_now.field-0.0 in
    let refusal : c.from_residual.result ≡ Err why = search rules in
    absurd (not_damaged ⊥ old c.args.before now c.from_residual.result
    (subst (λ (r : Result (Unit {0}) Refused). IfErr r (HasReason ⊥ old c.args.before now)) (sym refusal) c.in_err-clear_now.ensures.why) name e)

-- The buffers could not be flushed

pub returns-in_err-ripen_buffers-clause-keeps : goal.returns-in_err-ripen_buffers-clause-keeps
returns-in_err-ripen_buffers-clause-keeps g c =
    let old = view_of c.args.core.now in
    let free = view_of c.clear_now.new.self in
    let new = view_of c.ripen_buffers.new.core in
    let why = c.in_err-ripen_buffers.field-0.0 in
    let refusal : c.from_residual-in_err-ripen_buffers.result ≡ Err why = search rules in
    subst (λ (r : Result (Unit {0}) Refused). Keeps g.D.Disk.tells old new (result_err r)) (sym refusal)
    (keeps_then g.D.Disk.tells old free new c.in_ok-clear_now.ensures.keeps (Some why) c.in_err-ripen_buffers.ensures.keeps)

pub returns-in_err-ripen_buffers-clause-partly : goal.returns-in_err-ripen_buffers-clause-partly
returns-in_err-ripen_buffers-clause-partly g c =
    let old = view_of c.args.core.now in
    let new = view_of c.ripen_buffers.new.core in
    let why = c.in_err-ripen_buffers.field-0.0 in
    let refusal : c.from_residual-in_err-ripen_buffers.result ≡ Err why = search rules in
    subst (λ (r : Result (Unit {0}) Refused). IfErr r (IsDoneInPart g.D.Disk.tells (IsTickedInPart c.args.to) old new)) (sym refusal)
    (λ none told s holds. let some = c.in_err-ripen_buffers.ensures.partly none told s (c.in_ok-clear_now.ensures.held told s holds) in (some.0, inl some.1, some.2))

pub returns-in_err-ripen_buffers-clause-why : goal.returns-in_err-ripen_buffers-clause-why
returns-in_err-ripen_buffers-clause-why g c =
    let old = c.args.core.now.state in
    let free = c.clear_now.new.self.state in
    let new = view_of c.ripen_buffers.new.core in
    let why = c.in_err-ripen_buffers.field-0.0 in
    let refusal : c.from_residual-in_err-ripen_buffers.result ≡ Err why = search rules in
    let Short = IsShortToTick g.D.Disk.tells c.args.to new in
    let Buffers = IsShortToFlush new.state ⊎ IsShortToFreeze new.state in
    let faults = g.D.Disk.port_faults c.args.port.now in
    let first = c.in_ok-clear_now.ensures.keeps in
    let wider : Buffers → Short = λ short. elim short [ inl flush ↦ inl flush | inr freeze ↦ inr (inl freeze) ] in
    subst (λ (r : Result (Unit {0}) Refused). IfErr r (λ why. HasReason Short old c.args.before new.faults why ⊎ IsUnreadable g.D.Disk.tells g.D.Disk.ports_fail faults faults why)) (sym refusal)
    (inl (reason_behind Buffers Short old free c.args.before new.faults first.stopped first.count wider why c.in_err-ripen_buffers.ensures.why))

pub returns-in_err-ripen_buffers-clause-damaged : goal.returns-in_err-ripen_buffers-clause-damaged
returns-in_err-ripen_buffers-clause-damaged g c = λ name e.
    let old = c.clear_now.new.self.state in
    let new = c.ripen_buffers.new.core in
    let now = g.D.Disk.faults new.disk in
    let why = c.in_err-ripen_buffers.field-0.0 in
    let refusal : c.from_residual-in_err-ripen_buffers.result ≡ Err why = search rules in
    let Short = IsShortToFlush new.state ⊎ IsShortToFreeze new.state in
    absurd (not_damaged Short old c.args.before now c.from_residual-in_err-ripen_buffers.result
    (subst (λ (r : Result (Unit {0}) Refused). IfErr r (HasReason Short old c.args.before now)) (sym refusal) c.in_err-ripen_buffers.ensures.why) name e)

-- The merges and sweeps

pub returns-clause-keeps : goal.returns-clause-keeps
returns-clause-keeps g c =
    let old = view_of c.args.core.now in
    let free = view_of c.clear_now.new.self in
    let ripe = view_of c.ripen_buffers.new.core in
    let new = view_of c.ripen.new.self in
    keeps_then g.D.Disk.tells old ripe new (keeps_then g.D.Disk.tells old free ripe c.in_ok-clear_now.ensures.keeps None c.in_ok-ripen_buffers.ensures.keeps) (result_err c.ripen.result) c.ripen.ensures.keeps

pub returns-clause-partly : goal.returns-clause-partly
returns-clause-partly g c =
    let old = view_of c.args.core.now in
    let ripe = view_of c.ripen_buffers.new.core in
    let new = view_of c.ripen.new.self in
    IfErr-weaker c.ripen.result (IsDoneInPart g.D.Disk.tells (λ s t. (outcomes : List Outcome) × AreSomeOutcomesBy (due_choice c.args.to) s outcomes t) ripe new) (IsDoneInPart g.D.Disk.tells (IsTickedInPart c.args.to) old new)
    (λ why done none told s holds.
    let first = c.in_ok-ripen_buffers.ensures.done told s (c.in_ok-clear_now.ensures.held told s holds) in
    let some = done none told first.0 first.2 in
    (some.0, inr (first.0, some.1.0, first.1, some.1.1), some.2)) c.ripen.ensures.partly

pub returns-clause-done : goal.returns-clause-done
returns-clause-done g c = λ told s holds.
    let new = view_of c.ripen.new.self in
    let start = g.D.Disk.fetches c.args.port.now in
    let now = g.D.Disk.fetches c.ripen.new.port in
    let first = c.in_ok-ripen_buffers.ensures.done told s (c.in_ok-clear_now.ensures.held told s holds) in
    let mid = view_of c.ripen_buffers.new.core in
    on_ok c.ripen.result
    ((t : Stored) × (outcomes : List Outcome) × AreOutcomesBy (due_choice c.args.to) first.0 outcomes t × Holds new t × (now ≡ start + pages_of outcomes) × AreRetiredBehind outcomes mid.pins.pins mid.retired new.retired)
    ((ripe t : Stored) × (outcomes : List Outcome) × IsRipened c.args.to s ripe × AreOutcomesBy (due_choice c.args.to) ripe outcomes t × Holds new t × (now ≡ start + pages_of outcomes))
    (c.ripen.ensures.done told first.0 first.2)
    (λ done. (first.0, done.0, done.1, first.1, done.2, done.3, done.4))

pub returns-clause-named : goal.returns-clause-named
returns-clause-named g c =
    let old = view_of c.args.core.now in
    let mid = view_of c.ripen_buffers.new.core in
    let new = view_of c.ripen.new.self in
    let pins : mid.pins ≡ old.pins = c.in_ok-ripen_buffers.ensures.keeps.pins ∙ c.in_ok-clear_now.ensures.keeps.pins in
    let retired : mid.retired ≡ filter (is_named old.pins.pins) old.retired = (λ i. (c.ripen_buffers.ensures.retired i).items) ∙ c.in_ok-clear_now.ensures.retired in
    let before : AreNamed mid.pins.pins mid.retired = subst (λ names. AreNamed mid.pins.pins names) (sym retired) (subst (λ (held : Held). AreNamed held.pins (filter (is_named old.pins.pins) old.retired)) (sym pins) (named_left old.pins.pins old.retired)) in
    if_ok c.ripen.result (AreNamed new.pins.pins new.retired)
    (subst (λ (held : Held). AreNamed held.pins new.retired) (sym c.ripen.ensures.keeps.pins) (named_still mid.pins.pins mid.retired new.retired before c.ripen.ensures.keeps.retired))

pub returns-clause-why : goal.returns-clause-why
returns-clause-why g c =
    let tells = g.D.Disk.tells in
    let old = view_of c.args.core.now in
    let free = view_of c.clear_now.new.self in
    let mid = view_of c.ripen_buffers.new.core in
    let new = view_of c.ripen.new.self in
    let Short = IsShortToTick g.D.Disk.tells c.args.to new in
    let Merging = IsShortToMergeBy (due_choice c.args.to) g.D.Disk.tells new in
    let Unread = IsUnreadable g.D.Disk.tells g.D.Disk.ports_fail (g.D.Disk.port_faults c.args.port.now) (g.D.Disk.port_faults c.ripen.new.port) in
    IfErr-weaker c.ripen.result (λ why. HasReason Merging mid.state c.args.before new.faults why ⊎ Unread why) (λ why. HasReason Short old.state c.args.before new.faults why ⊎ Unread why)
    (λ why either. elim either as (λ _. HasReason Short old.state c.args.before new.faults why ⊎ Unread why) [
      | inl is ↦ inl (reason_then tells Short old free c.args.before new.faults c.in_ok-clear_now.ensures.keeps why (reason_then tells Short free mid c.args.before new.faults c.in_ok-ripen_buffers.ensures.keeps why
          (reason_told Merging Short mid.state c.args.before new.faults why (λ none short. inr (inr short)) is)))
      | inr is ↦ inr is
    ]) c.ripen.ensures.why
