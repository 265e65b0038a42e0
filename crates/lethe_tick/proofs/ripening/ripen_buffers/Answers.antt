use Rattle.std.proofs.Common.{◌≡◌, ◌⊎◌, inl, inr, None, refl}
use Rattle.std.proofs.lemmas.Result.{IfErr-weaker}
use Rattle.lethe_disk.proofs.Quieting.{on_ok}
use Rattle.lethe_follows.specs.Young.{AreYoung}
use Rattle.lethe_stored.specs.Stored.{Stored}
use Rattle.lethe_core.specs.Running.{Holds}
use Rattle.lethe_core.specs.Steps.{IsDoneInPart}
use Rattle.lethe_core.specs.View.{view_of}
use Rattle.lethe_core.proofs.Hindered.{keeps_itself}
use Rattle.lethe_core.proofs.Roomed.{clash}
use Rattle.lethe_tick.specs.Ripened.{AreBuffersFlushed, AreFlushedInPart, IsRipened, IsRipenedInPart}
use Rattle.lethe_tick.proofs.ripening.ripen_buffers.Goals as goal

pub returns-then-has_young_records-clause-keeps : goal.returns-then-has_young_records-clause-keeps
returns-then-has_young_records-clause-keeps g c = keeps_itself g.D.Disk.tells (view_of c.args.core.now) c.requires.sound c.requires.runs None tt

pub returns-then-has_young_records-clause-done : goal.returns-then-has_young_records-clause-done
returns-then-has_young_records-clause-done g c = λ told s holds.
    let young = (c.has_young_records.ensures s (view_of c.args.core.now).levels holds.remembers).0 c.if-has_young_records.true in
    (s, inl (young, refl), holds)

pub returns-clause-partly : goal.returns-clause-partly
returns-clause-partly g c =
    let old = view_of c.args.core.now in
    let new = view_of c.flush_buffers.new.core in
    IfErr-weaker c.flush_buffers.result (IsDoneInPart g.D.Disk.tells (λ s t. (t ≡ s) ⊎ AreFlushedInPart s t) old new) (IsDoneInPart g.D.Disk.tells (IsRipenedInPart c.args.to) old new)
    (λ why done none told s holds.
    let aged : AreYoung s c.args.to → ⊥ = λ young. clash c.has_young_records.result ((c.has_young_records.ensures s old.levels holds.remembers).1 young) c.if-has_young_records.false in
    let some = done none told s holds in
    let part : IsRipenedInPart c.args.to s some.0 = elim some.1 [ inl same ↦ inl same | inr flushed ↦ inr (aged, flushed) ] in
    (some.0, part, some.2)) c.flush_buffers.ensures.partly

pub returns-clause-done : goal.returns-clause-done
returns-clause-done g c = λ told s holds.
    let old = view_of c.args.core.now in
    let new = view_of c.flush_buffers.new.core in
    let aged : AreYoung s c.args.to → ⊥ = λ young. clash c.has_young_records.result ((c.has_young_records.ensures s old.levels holds.remembers).1 young) c.if-has_young_records.false in
    on_ok c.flush_buffers.result ((t : Stored) × AreBuffersFlushed s t × Holds new t) ((t : Stored) × IsRipened c.args.to s t × Holds new t) (c.flush_buffers.ensures.done told s holds)
    (λ done. (done.0, inr (aged, done.1), done.2))
