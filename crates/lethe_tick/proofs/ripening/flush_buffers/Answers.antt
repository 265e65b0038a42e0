use Rattle.std.proofs.Common.{rules, ◌≡◌, ◌⊎◌, inl, inr, Some, None, Result, Err, refl, sym, subst}
use Rattle.std.specs.Prelude.{IfErr}
use Rattle.std.specs.Result.{result_err}
use Rattle.std.proofs.lemmas.Result.{IfErr-weaker}
use Rattle.lethe_base.specs.declared.refused.Refused.{Refused}
use Rattle.lethe_disk.proofs.Quieting.{on_ok}
use Rattle.lethe_stored.specs.Stored.{Stored}
use Rattle.lethe_state.specs.Room.{IsShortToFlush, IsShortToFreeze, IsUnfrozen}
use Rattle.lethe_core.specs.Keeps.{Keeps}
use Rattle.lethe_core.specs.Reasons.{HasReason}
use Rattle.lethe_core.specs.Running.{Holds}
use Rattle.lethe_core.specs.Steps.{IsDoneInPart, IsUndone}
use Rattle.lethe_core.specs.View.{view_of}
use Rattle.lethe_core.proofs.Behind.{next_may}
use Rattle.lethe_core.proofs.Hindered.{keeps_then}
use Rattle.lethe_core.proofs.Likes.{before_holds, jobs_same}
use Rattle.lethe_tick.specs.Ripened.{AreBuffersFlushed, AreFlushedInPart}
use Rattle.lethe_tick.proofs.Buffers.{if_both, like_short_flush, like_short_freeze, reason_then, reason_told}
use Rattle.lethe_tick.proofs.ripening.flush_buffers.Goals as goal

-- The calls

pub freeze_if_any-requires-clause-may : goal.freeze_if_any-requires-clause-may
freeze_if_any-requires-clause-may g c κs within =
    next_may g.D.Disk.tells (view_of c.args.core.now) (view_of c.flush_frozen.new.core) c.args.before c.requires c.in_ok-flush_frozen.ensures.keeps

pub flush_frozen-requires-2-after_bounds : goal.flush_frozen-requires-2-after_bounds
flush_frozen-requires-2-after_bounds g c κs within =
    let middle = view_of c.flush_frozen.new.core in
    let may = next_may g.D.Disk.tells (view_of c.args.core.now) middle c.args.before c.requires c.in_ok-flush_frozen.ensures.keeps in
    next_may g.D.Disk.tells middle (view_of c.freeze_if_any.new.core) c.args.before may c.in_ok-freeze_if_any.ensures.keeps

-- The frozen buffer could not be flushed

pub returns-in_err-flush_frozen-clause-keeps : goal.returns-in_err-flush_frozen-clause-keeps
returns-in_err-flush_frozen-clause-keeps g c =
    let why = c.in_err-flush_frozen.field-0.0 in
    let refusal : c.from_residual.result ≡ Err why = search rules in
    subst (λ (r : Result (Unit {0}) Refused). Keeps g.D.Disk.tells (view_of c.args.core.now) (view_of c.flush_frozen.new.core) (result_err r)) (sym refusal) c.in_err-flush_frozen.ensures.keeps

pub returns-in_err-flush_frozen-clause-partly : goal.returns-in_err-flush_frozen-clause-partly
returns-in_err-flush_frozen-clause-partly g c =
    let old = c.args.core.now in
    let new = c.flush_frozen.new.core in
    let why = c.in_err-flush_frozen.field-0.0 in
    let refusal : c.from_residual.result ≡ Err why = search rules in
    subst (λ (r : Result (Unit {0}) Refused). IfErr r (IsDoneInPart g.D.Disk.tells (λ s t. (t ≡ s) ⊎ AreFlushedInPart s t) (view_of old) (view_of new))) (sym refusal)
    (λ none told s holds.
    (s, inl refl, before_holds g.D.Disk.tells told (view_of old) (view_of new) s (jobs_same old new c.flush_frozen.ensures.begun c.flush_frozen.ensures.flights c.in_err-flush_frozen.ensures.keeps.pins) c.in_err-flush_frozen.ensures.keeps.pins (c.in_err-flush_frozen.ensures.undone none) holds))

pub returns-in_err-flush_frozen-clause-why : goal.returns-in_err-flush_frozen-clause-why
returns-in_err-flush_frozen-clause-why g c =
    let old = c.args.core.now.state in
    let new = c.flush_frozen.new.core in
    let why = c.in_err-flush_frozen.field-0.0 in
    let refusal : c.from_residual.result ≡ Err why = search rules in
    let Short = IsShortToFlush new.state ⊎ IsShortToFreeze new.state in
    let now = g.D.Disk.faults new.disk in
    subst (λ (r : Result (Unit {0}) Refused). IfErr r (HasReason Short old c.args.before now)) (sym refusal)
    (reason_told (IsShortToFlush old) Short old c.args.before now why (λ none short. inl (like_short_flush old new.state (c.in_err-flush_frozen.ensures.undone none).state short)) c.in_err-flush_frozen.ensures.why)

-- The active buffer could not be frozen

pub returns-in_err-freeze_if_any-clause-keeps : goal.returns-in_err-freeze_if_any-clause-keeps
returns-in_err-freeze_if_any-clause-keeps g c =
    let old = view_of c.args.core.now in
    let middle = view_of c.flush_frozen.new.core in
    let new = view_of c.freeze_if_any.new.core in
    let why = c.in_err-freeze_if_any.field-0.0 in
    let refusal : c.from_residual-in_err-freeze_if_any.result ≡ Err why = search rules in
    subst (λ (r : Result (Unit {0}) Refused). Keeps g.D.Disk.tells old new (result_err r)) (sym refusal)
    (keeps_then g.D.Disk.tells old middle new c.in_ok-flush_frozen.ensures.keeps (Some why) c.in_err-freeze_if_any.ensures.keeps)

pub returns-in_err-freeze_if_any-clause-partly : goal.returns-in_err-freeze_if_any-clause-partly
returns-in_err-freeze_if_any-clause-partly g c =
    let old = view_of c.args.core.now in
    let mid = c.flush_frozen.new.core in
    let new = c.freeze_if_any.new.core in
    let why = c.in_err-freeze_if_any.field-0.0 in
    let refusal : c.from_residual-in_err-freeze_if_any.result ≡ Err why = search rules in
    subst (λ (r : Result (Unit {0}) Refused). IfErr r (IsDoneInPart g.D.Disk.tells (λ s t. (t ≡ s) ⊎ AreFlushedInPart s t) old (view_of new))) (sym refusal) (λ none told s holds.
    let middle = c.in_ok-flush_frozen.ensures.done told s holds in
    let same = jobs_same mid new c.freeze_if_any.ensures.begun c.freeze_if_any.ensures.flights c.in_err-freeze_if_any.ensures.keeps.pins in
    (middle.0, inr (middle.0, middle.1, inl refl), before_holds g.D.Disk.tells told (view_of mid) (view_of new) middle.0 same c.in_err-freeze_if_any.ensures.keeps.pins (c.in_err-freeze_if_any.ensures.undone none) middle.2))

pub returns-in_err-freeze_if_any-clause-why : goal.returns-in_err-freeze_if_any-clause-why
returns-in_err-freeze_if_any-clause-why g c =
    let old = view_of c.args.core.now in
    let mid = view_of c.flush_frozen.new.core in
    let new = c.freeze_if_any.new.core in
    let why = c.in_err-freeze_if_any.field-0.0 in
    let refusal : c.from_residual-in_err-freeze_if_any.result ≡ Err why = search rules in
    let Short = IsShortToFlush new.state ⊎ IsShortToFreeze new.state in
    let now = g.D.Disk.faults new.disk in
    subst (λ (r : Result (Unit {0}) Refused). IfErr r (HasReason Short old.state c.args.before now)) (sym refusal)
    (reason_then g.D.Disk.tells Short old mid c.args.before now c.in_ok-flush_frozen.ensures.keeps why
    (reason_told (IsShortToFreeze mid.state) Short mid.state c.args.before now why (λ none short. inr (like_short_freeze mid.state new.state (c.in_err-freeze_if_any.ensures.undone none).state short)) c.in_err-freeze_if_any.ensures.why))

-- The last step

pub returns-clause-keeps : goal.returns-clause-keeps
returns-clause-keeps g c =
    let old = view_of c.args.core.now in
    let middle = view_of c.flush_frozen.new.core in
    let frozen = view_of c.freeze_if_any.new.core in
    let new = view_of c.flush_frozen-2.new.core in
    keeps_then g.D.Disk.tells old frozen new (keeps_then g.D.Disk.tells old middle frozen c.in_ok-flush_frozen.ensures.keeps None c.in_ok-freeze_if_any.ensures.keeps) (result_err c.flush_frozen-2.result) c.flush_frozen-2.ensures.keeps

pub returns-clause-partly : goal.returns-clause-partly
returns-clause-partly g c =
    let old = view_of c.args.core.now in
    let frozen = c.freeze_if_any.new.core in
    let new = c.flush_frozen-2.new.core in
    let same = jobs_same frozen new c.flush_frozen-2.ensures.begun c.flush_frozen-2.ensures.flights c.flush_frozen-2.ensures.keeps.pins in
    IfErr-weaker c.flush_frozen-2.result (IsUndone g.D.Disk.tells (view_of frozen) (view_of new)) (IsDoneInPart g.D.Disk.tells (λ s t. (t ≡ s) ⊎ AreFlushedInPart s t) old (view_of new))
    (λ why undone none told s holds.
    let middle = c.in_ok-flush_frozen.ensures.done told s holds in
    let froze = c.in_ok-freeze_if_any.ensures.done told middle.0 middle.2 in
    (froze.0, inr (middle.0, middle.1, inr froze.1), before_holds g.D.Disk.tells told (view_of frozen) (view_of new) froze.0 same c.flush_frozen-2.ensures.keeps.pins (undone none) froze.2)) c.flush_frozen-2.ensures.undone

pub returns-clause-done : goal.returns-clause-done
returns-clause-done g c = λ told s holds.
    let new = view_of c.flush_frozen-2.new.core in
    let middle = c.in_ok-flush_frozen.ensures.done told s holds in
    let froze = c.in_ok-freeze_if_any.ensures.done told middle.0 middle.2 in
    on_ok c.flush_frozen-2.result ((t : Stored) × IsUnfrozen froze.0 t × Holds new t) ((t : Stored) × AreBuffersFlushed s t × Holds new t) (c.flush_frozen-2.ensures.done told froze.0 froze.2)
    (λ done. (
      done.0,
      record {
        unfrozen = middle.0;
        first = middle.1;
        unfrozen_coherent = middle.2.remembers.coherent;
        frozen = froze.0;
        second = froze.1;
        frozen_coherent = froze.2.remembers.coherent;
        last = done.1;
        coherent = done.2.remembers.coherent;
      },
      done.2,
    ))

pub returns-clause-why : goal.returns-clause-why
returns-clause-why g c =
    let tells = g.D.Disk.tells in
    let old = view_of c.args.core.now in
    let middle = view_of c.flush_frozen.new.core in
    let frozen = view_of c.freeze_if_any.new.core in
    let new = view_of c.flush_frozen-2.new.core in
    let Short = IsShortToFlush new.state ⊎ IsShortToFreeze new.state in
    if_both c.flush_frozen-2.result (IsUndone tells frozen new) (HasReason (IsShortToFlush frozen.state) frozen.state c.args.before new.faults) (HasReason Short old.state c.args.before new.faults)
    (λ why undone reason. reason_then tells Short old middle c.args.before new.faults c.in_ok-flush_frozen.ensures.keeps why
    (reason_then tells Short middle frozen c.args.before new.faults c.in_ok-freeze_if_any.ensures.keeps why
    (reason_told (IsShortToFlush frozen.state) Short frozen.state c.args.before new.faults why (λ none short. inl (like_short_flush frozen.state new.state (undone none).state short)) reason)))
    c.flush_frozen-2.ensures.undone c.flush_frozen-2.ensures.why
