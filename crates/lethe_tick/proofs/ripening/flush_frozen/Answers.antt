use Rattle.std.proofs.Common.{rules, ◌≡◌, inl, inr, None, refl}
use Rattle.std.specs.Prelude.{IsSome}
use Rattle.lethe_disk.proofs.Quieting.{on_ok}
use Rattle.lethe_stored.specs.Stored.{Stored}
use Rattle.lethe_state.specs.Room.{IsFlushed, IsUnfrozen}
use Rattle.lethe_core.specs.Running.{Holds}
use Rattle.lethe_core.specs.View.{view_of}
use Rattle.lethe_core.proofs.Hindered.{keeps_itself}
use Rattle.lethe_core.proofs.Stepped.{frozen_there, not_frozen}
use Rattle.lethe_tick.proofs.ripening.flush_frozen.Goals as goal

pub returns-then-is_none-clause-keeps : goal.returns-then-is_none-clause-keeps
returns-then-is_none-clause-keeps g c = keeps_itself g.D.Disk.tells (view_of c.args.core.now) c.requires.sound c.requires.runs None tt

pub returns-then-is_none-clause-done : goal.returns-then-is_none-clause-done
returns-then-is_none-clause-done g c = λ told s holds.
    let none : c.args.core.now.state.frozen ≡ None = search rules in
    (s, inl (not_frozen s (view_of c.args.core.now).state (view_of c.args.core.now).levels holds.remembers none, refl), holds)

pub returns-clause-done : goal.returns-clause-done
returns-clause-done g c = λ told s holds.
    let some : IsSome c.args.core.now.state.frozen = search rules in
    let old = view_of c.args.core.now in
    let new = view_of c.flush_now.new.self in
    on_ok c.flush_now.result ((t : Stored) × IsFlushed s t × Holds new t) ((t : Stored) × IsUnfrozen s t × Holds new t)
    (c.flush_now.ensures.done told s holds)
    (λ done. (done.0, inr (frozen_there s old.state old.levels holds.remembers some, done.1), done.2))
