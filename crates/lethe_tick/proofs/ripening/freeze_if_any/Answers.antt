use Rattle.std.proofs.Common.{◌≡◌, ◌<◌, inl, inr, None, length, refl, arith}
use Rattle.lethe_disk.proofs.Quieting.{on_ok}
use Rattle.lethe_stored.specs.Stored.{Stored}
use Rattle.lethe_state.specs.Room.{IsFrozen}
use Rattle.lethe_core.specs.Running.{Holds}
use Rattle.lethe_core.specs.View.{view_of}
use Rattle.lethe_core.proofs.Hindered.{keeps_itself}
use Rattle.lethe_tick.specs.Ripened.{IsFrozenIfAny}
use Rattle.lethe_tick.proofs.Buffers.{none_of, some_of}
use Rattle.lethe_tick.proofs.ripening.freeze_if_any.Goals as goal

pub returns-then-records-eq0-clause-keeps : goal.returns-then-records-eq0-clause-keeps
returns-then-records-eq0-clause-keeps g c = keeps_itself g.D.Disk.tells (view_of c.args.core.now) c.requires.may.sound c.requires.may.runs None tt

pub returns-then-records-eq0-clause-done : goal.returns-then-records-eq0-clause-done
returns-then-records-eq0-clause-done g c = λ told s holds.
    let records = holds.remembers.records in
    let none : length s.active.records ≡ 0 = omega (arith, records, c.records.ensures, c.if-records-eq0.true) in
    (s, inl (none_of s.active.records none, refl), holds)

pub returns-clause-done : goal.returns-clause-done
returns-clause-done g c = λ told s holds.
    let records = holds.remembers.records in
    let some : 0 < length s.active.records = omega (arith, records, c.records.ensures, c.if-records-eq0.false) in
    let new = view_of c.freeze_now.new.self in
    on_ok c.freeze_now.result ((t : Stored) × IsFrozen s t × Holds new t) ((t : Stored) × IsFrozenIfAny s t × Holds new t) (c.freeze_now.ensures.done told s holds)
    (λ done. (done.0, inr (some_of s.active.records some, done.1), done.2))
