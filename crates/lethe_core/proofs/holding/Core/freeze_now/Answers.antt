use Rattle.std.proofs.Common.{rules, ◌≡◌, Some, Result, Err, sym, ap, ◌∙◌, subst, arith}
use Rattle.std.specs.Prelude.{IfErr}
use Rattle.std.specs.Result.{result_err}
use Rattle.lethe_base.specs.declared.refused.Refused.{Refused}
use Rattle.lethe_advance.specs.Calls.{most_calls}
use Rattle.lethe_state.specs.Clock.{clock_of}
use Rattle.lethe_state.specs.Room.{IsFrozen, IsFrozenWith, IsStepFrom}
use Rattle.lethe_state.specs.declared.state.State.{State}
use Rattle.lethe_core.specs.Keeps.{Keeps}
use Rattle.lethe_core.specs.Steps.{IsUndone}
use Rattle.lethe_core.specs.View.{view_of}
use Rattle.lethe_core.proofs.Carried.{IsCarried}
use Rattle.lethe_core.proofs.Asked.{not_failed}
use Rattle.lethe_core.proofs.Hindered.{as_itself, hindered_keeps, hindered_undone, keeps_itself}
use Rattle.lethe_core.proofs.Next.{frozen_for, frozen_next, frozen_recorded, next_done, next_keeps, next_kept, next_moments, next_step}
use Rattle.lethe_core.proofs.Stepped.{frozen_holds, frozen_stay, not_frozen, small_frozen}
use Rattle.lethe_core.proofs.holding.Core.freeze_now.Goals as goal

pub returns-in_err-step-clause-keeps : goal.returns-in_err-step-clause-keeps
returns-in_err-step-clause-keeps g c =
    let why = c.in_err-step.field-0.0 in
    let refusal : c.from_residual.result ≡ Err why = search rules in
    let old = view_of c.args.self.now in
    subst (λ (r : Result (Unit {0}) Refused). Keeps g.D.Disk.tells old old (result_err r)) (sym refusal) (keeps_itself g.D.Disk.tells old c.requires.may.sound c.requires.may.runs (Some why) (not_failed why c.in_err-step.ensures.refused))

pub returns-in_err-step-clause-undone : goal.returns-in_err-step-clause-undone
returns-in_err-step-clause-undone g c =
    let why = c.in_err-step.field-0.0 in
    let refusal : c.from_residual.result ≡ Err why = search rules in
    let old = view_of c.args.self.now in
    subst (λ (r : Result (Unit {0}) Refused). IfErr r (IsUndone g.D.Disk.tells old old)) (sym refusal) (λ none. as_itself g.D.Disk.tells old)

pub carry_out-requires-clause-step : goal.carry_out-requires-clause-step
carry_out-requires-clause-step g c κs within =
    let old = view_of c.args.self.now in
    let headers = c.new.result.items in
    let step = c.in_ok-step.step in
    next_step IsFrozen g.D.Disk.tells old headers step c.args.before c.requires.may (frozen_next g.D.Disk.tells old c.requires.may.sound.drawn headers step c.requires.may.sound.writable c.new.ensures.items c.in_ok-step.ensures.freezes)

pub returns-in_err-carry_out-clause-keeps : goal.returns-in_err-carry_out-clause-keeps
returns-in_err-carry_out-clause-keeps g c =
    let old = view_of c.args.self.now in
    let new = view_of c.carry_out.new.self in
    let headers = c.new.result.items in
    let step = c.in_ok-step.step in
    let why = c.in_err-carry_out.field-0.0 in
    let laws = g.met.D.Disk g.world.𝓛 g.world.𝓜 g.world.𝓡 ((λ s x. x), (λ x. x), (λ x. x), λ x. x) in
    let refusal : c.from_residual-in_err-carry_out.result ≡ Err why = search rules in
    let from = subst (λ headers. IsStepFrom 2 (clock_of old.state.manifest) old.state headers step) (sym c.new.ensures.items) c.in_ok-step.ensures.step in
    let goes = next_moments IsFrozen g.D.Disk.tells old headers step c.args.before c.requires.may (frozen_next g.D.Disk.tells old c.requires.may.sound.drawn headers step c.requires.may.sound.writable c.new.ensures.items c.in_ok-step.ensures.freezes)
    new (λ h s t holds for is. frozen_for h s t old.state old.levels holds.remembers (not_frozen s old.state old.levels holds.remembers c.requires.unfrozen) for is) 2 from c.carry_out.ensures.moments in
    subst (λ (r : Result (Unit {0}) Refused). Keeps g.D.Disk.tells old new (result_err r)) (sym refusal)
    (hindered_keeps g.D.Disk.tells old new c.args.before c.requires.may why c.in_err-carry_out.ensures.refused goes (λ told. laws.itself told c.carry_out.new.self.disk) c.carry_out.ensures.later c.carry_out.ensures.faults
    (next_kept IsFrozen g.D.Disk.tells old headers step c.args.before c.requires.may (frozen_next g.D.Disk.tells old c.requires.may.sound.drawn headers step c.requires.may.sound.writable c.new.ensures.items c.in_ok-step.ensures.freezes) frozen_stay new.disk.directory c.carry_out.ensures.stays))

pub returns-in_err-carry_out-clause-undone : goal.returns-in_err-carry_out-clause-undone
returns-in_err-carry_out-clause-undone g c =
    let old = view_of c.args.self.now in
    let new = view_of c.carry_out.new.self in
    let why = c.in_err-carry_out.field-0.0 in
    let refusal : c.from_residual-in_err-carry_out.result ≡ Err why = search rules in
    subst (λ (r : Result (Unit {0}) Refused). IfErr r (IsUndone g.D.Disk.tells old new)) (sym refusal) (hindered_undone g.D.Disk.tells old new c.args.before why c.in_err-carry_out.ensures.refused)

pub returns-clause-keeps : goal.returns-clause-keeps
returns-clause-keeps g c =
    let old = view_of c.args.self.now in
    let new = view_of (record c.carry_out.new.self { state = c.freeze.new.self }) in
    let headers = c.new.result.items in
    let step = c.in_ok-step.step in
    let with = subst (λ (state : State). IsFrozenWith step.manifest state new.state) c.in_ok-carry_out.ensures.state c.freeze.ensures.is in
    let carried : IsCarried g.D.Disk.tells old new headers step = record {
      moments = c.carry_out.ensures.moments;
      done = c.in_ok-carry_out.ensures.done;
      kept = c.in_ok-carry_out.ensures.kept;
      stays = c.carry_out.ensures.stays;
      gate = c.in_ok-carry_out.ensures.gate;
      files = c.in_ok-carry_out.ensures.files;
      levels = c.carry_out.ensures.levels;
      retired = λ i. (c.carry_out.ensures.retired i).items;
      flights = c.carry_out.ensures.flights;
      pins = c.carry_out.ensures.pins;
      calls = c.in_ok-carry_out.ensures.calls;
      faults = c.carry_out.ensures.faults;
    } in
    let from = subst (λ headers. IsStepFrom 2 (clock_of old.state.manifest) old.state headers step) (sym c.new.ensures.items) c.in_ok-step.ensures.step in
    next_keeps IsFrozen g.D.Disk.tells old headers step c.args.before c.requires.may (frozen_next g.D.Disk.tells old c.requires.may.sound.drawn headers step c.requires.may.sound.writable c.new.ensures.items c.in_ok-step.ensures.freezes)
    new (λ h s t holds for is. frozen_for h s t old.state old.levels holds.remembers (not_frozen s old.state old.levels holds.remembers c.requires.unfrozen) for is) carried
    (λ told s t holds made is. frozen_holds g.D.Disk.tells s t old new headers step carried told holds is made c.requires.unfrozen with)
    (λ h s t holds for recorded is. frozen_recorded s t (not_frozen s old.state old.levels holds.remembers c.requires.unfrozen) recorded is)
    2 from with.manifest_is with.next (c.freeze.ensures.is.count ∙ ap (λ (state : State). state.count) c.in_ok-carry_out.ensures.state) (c.freeze.ensures.is.stopped ∙ ap (λ (state : State). state.stopped) c.in_ok-carry_out.ensures.state) c.freeze.ensures.writable
    (small_frozen step.manifest old.state new.state with from.config c.requires.may.sound.small)

pub returns-clause-done : goal.returns-clause-done
returns-clause-done g c =
    let old = view_of c.args.self.now in
    let new = view_of (record c.carry_out.new.self { state = c.freeze.new.self }) in
    let headers = c.new.result.items in
    let step = c.in_ok-step.step in
    let with = subst (λ (state : State). IsFrozenWith step.manifest state new.state) c.in_ok-carry_out.ensures.state c.freeze.ensures.is in
    let carried : IsCarried g.D.Disk.tells old new headers step = record {
      moments = c.carry_out.ensures.moments;
      done = c.in_ok-carry_out.ensures.done;
      kept = c.in_ok-carry_out.ensures.kept;
      stays = c.carry_out.ensures.stays;
      gate = c.in_ok-carry_out.ensures.gate;
      files = c.in_ok-carry_out.ensures.files;
      levels = c.carry_out.ensures.levels;
      retired = λ i. (c.carry_out.ensures.retired i).items;
      flights = c.carry_out.ensures.flights;
      pins = c.carry_out.ensures.pins;
      calls = c.in_ok-carry_out.ensures.calls;
      faults = c.carry_out.ensures.faults;
    } in
    next_done IsFrozen g.D.Disk.tells old headers step c.args.before c.requires.may (frozen_next g.D.Disk.tells old c.requires.may.sound.drawn headers step c.requires.may.sound.writable c.new.ensures.items c.in_ok-step.ensures.freezes)
    new (λ h s t holds for is. frozen_for h s t old.state old.levels holds.remembers (not_frozen s old.state old.levels holds.remembers c.requires.unfrozen) for is) carried
    (λ told s t holds made is. frozen_holds g.D.Disk.tells s t old new headers step carried told holds is made c.requires.unfrozen with)

pub returns-clause-most : goal.returns-clause-most
returns-clause-most g c = λ told.
    let step = c.in_ok-step.step in
    let same = ap (λ headers. most_calls headers step) c.new.ensures.items in
    omega (arith, c.in_ok-carry_out.ensures.most told, same, c.in_ok-step.ensures.calls.0)

pub returns-in_err-carry_out-clause-soon : goal.returns-in_err-carry_out-clause-soon
returns-in_err-carry_out-clause-soon g c = λ told.
    let step = c.in_ok-step.step in
    let same = ap (λ headers. most_calls headers step) c.new.ensures.items in
    omega (arith, c.carry_out.ensures.soon told, same, c.in_ok-step.ensures.calls.0, c.in_ok-step.ensures.calls.1)

pub returns-clause-soon : goal.returns-clause-soon
returns-clause-soon g c = λ told.
    let step = c.in_ok-step.step in
    let same = ap (λ headers. most_calls headers step) c.new.ensures.items in
    omega (arith, c.carry_out.ensures.soon told, same, c.in_ok-step.ensures.calls.0, c.in_ok-step.ensures.calls.1)
