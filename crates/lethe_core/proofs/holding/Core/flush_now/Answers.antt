use Rattle.std.proofs.Common.{rules, ◌≡◌, Some, Result, Err, sym, ap, ◌∙◌, subst, arith}
use Rattle.std.specs.Prelude.{IfErr}
use Rattle.std.specs.Result.{result_err}
use Rattle.lethe_base.specs.declared.refused.Refused.{Refused}
use Rattle.lethe_state.specs.Room.{IsFlushed, unfrozen}
use Rattle.lethe_state.specs.declared.state.State.{State}
use Rattle.lethe_state.proofs.Stepping.{flush_for}
use Rattle.lethe_core.specs.Keeps.{Keeps}
use Rattle.lethe_core.specs.Running.{IsSmall}
use Rattle.lethe_core.specs.Steps.{IsUndone}
use Rattle.lethe_core.specs.View.{view_of}
use Rattle.lethe_core.proofs.Carried.{IsCarried}
use Rattle.lethe_core.proofs.Asked.{not_failed}
use Rattle.lethe_core.proofs.Hindered.{as_itself, hindered_keeps, hindered_undone, keeps_itself}
use Rattle.lethe_core.proofs.Next.{flushed_next, flushed_recorded, next_done, next_keeps, next_kept, next_moments, next_step}
use Rattle.lethe_core.proofs.Stepped.{flushed_holds, flushed_stay, small_unfrozen}
use Rattle.lethe_core.proofs.holding.Core.flush_now.Goals as goal

pub returns-in_err-headers-clause-keeps : goal.returns-in_err-headers-clause-keeps
returns-in_err-headers-clause-keeps g c =
    let why = c.in_err-headers.field-0.0 in
    let refusal : c.from_residual.result ≡ Err why = search rules in
    let old = view_of c.args.self.now in
    subst (λ (r : Result (Unit {0}) Refused). Keeps g.D.Disk.tells old old (result_err r)) (sym refusal) (keeps_itself g.D.Disk.tells old c.requires.may.sound c.requires.may.runs (Some why) (not_failed why c.in_err-headers.ensures.refused))

pub returns-in_err-headers-clause-undone : goal.returns-in_err-headers-clause-undone
returns-in_err-headers-clause-undone g c =
    let why = c.in_err-headers.field-0.0 in
    let refusal : c.from_residual.result ≡ Err why = search rules in
    let old = view_of c.args.self.now in
    subst (λ (r : Result (Unit {0}) Refused). IfErr r (IsUndone g.D.Disk.tells old old)) (sym refusal) (λ none. as_itself g.D.Disk.tells old)

pub carry_out-requires-clause-step : goal.carry_out-requires-clause-step
carry_out-requires-clause-step g c κs within =
    let old = view_of c.args.self.now in
    let headers = c.in_ok-headers.headers.items in
    let step = c.in_ok-headers.step in
    next_step IsFlushed g.D.Disk.tells old headers step c.args.before c.requires.may (flushed_next g.D.Disk.tells old c.requires.may.sound.drawn headers step c.in_ok-headers.ensures.flushes)

pub returns-in_err-carry_out-clause-keeps : goal.returns-in_err-carry_out-clause-keeps
returns-in_err-carry_out-clause-keeps g c =
    let old = view_of c.args.self.now in
    let new = view_of c.carry_out.new.self in
    let headers = c.in_ok-headers.headers.items in
    let step = c.in_ok-headers.step in
    let why = c.in_err-carry_out.field-0.0 in
    let laws = g.met.D.Disk g.world.𝓛 g.world.𝓜 g.world.𝓡 ((λ s x. x), (λ x. x), (λ x. x), λ x. x) in
    let refusal : c.from_residual-in_err-carry_out.result ≡ Err why = search rules in
    let goes = next_moments IsFlushed g.D.Disk.tells old headers step c.args.before c.requires.may (flushed_next g.D.Disk.tells old c.requires.may.sound.drawn headers step c.in_ok-headers.ensures.flushes)
    new (λ h s t holds for is. flush_for h s t holds.remembers.coherent for is) 1 c.in_ok-headers.ensures.step c.carry_out.ensures.moments in
    subst (λ (r : Result (Unit {0}) Refused). Keeps g.D.Disk.tells old new (result_err r)) (sym refusal)
    (hindered_keeps g.D.Disk.tells old new c.args.before c.requires.may why c.in_err-carry_out.ensures.refused goes (λ told. laws.itself told c.carry_out.new.self.disk) c.carry_out.ensures.later c.carry_out.ensures.faults
    (next_kept IsFlushed g.D.Disk.tells old headers step c.args.before c.requires.may (flushed_next g.D.Disk.tells old c.requires.may.sound.drawn headers step c.in_ok-headers.ensures.flushes) flushed_stay new.disk.directory c.carry_out.ensures.stays))

pub returns-in_err-carry_out-clause-undone : goal.returns-in_err-carry_out-clause-undone
returns-in_err-carry_out-clause-undone g c =
    let old = view_of c.args.self.now in
    let new = view_of c.carry_out.new.self in
    let why = c.in_err-carry_out.field-0.0 in
    let refusal : c.from_residual-in_err-carry_out.result ≡ Err why = search rules in
    subst (λ (r : Result (Unit {0}) Refused). IfErr r (IsUndone g.D.Disk.tells old new)) (sym refusal) (hindered_undone g.D.Disk.tells old new c.args.before why c.in_err-carry_out.ensures.refused)

pub returns-clause-keeps : goal.returns-clause-keeps
returns-clause-keeps g c =
    let old = view_of c.args.self.now in
    let new = view_of (record c.carry_out.new.self { state = c.flush.new.self }) in
    let headers = c.in_ok-headers.headers.items in
    let step = c.in_ok-headers.step in
    let laws = g.met.D.Disk g.world.𝓛 g.world.𝓜 g.world.𝓡 ((λ s x. x), (λ x. x), (λ x. x), λ x. x) in
    let new_is : new.state ≡ unfrozen step.manifest old.state = c.flush.ensures.is ∙ ap (unfrozen step.manifest) c.in_ok-carry_out.ensures.state in
    let carried : IsCarried g.D.Disk.tells old new headers step = record {
      moments = c.carry_out.ensures.moments;
      done = c.in_ok-carry_out.ensures.done;
      kept = c.in_ok-carry_out.ensures.kept;
      stays = c.carry_out.ensures.stays;
      gate = c.in_ok-carry_out.ensures.gate;
      files = c.in_ok-carry_out.ensures.files;
      levels = c.carry_out.ensures.levels;
      retired = λ i. (c.carry_out.ensures.retired i).items;
      flights = c.carry_out.ensures.flights;
      pins = c.carry_out.ensures.pins;
      calls = c.in_ok-carry_out.ensures.calls;
      faults = c.carry_out.ensures.faults;
    } in
    let from = c.in_ok-headers.ensures.step in
    next_keeps IsFlushed g.D.Disk.tells old headers step c.args.before c.requires.may (flushed_next g.D.Disk.tells old c.requires.may.sound.drawn headers step c.in_ok-headers.ensures.flushes)
    new (λ h s t holds for is. flush_for h s t holds.remembers.coherent for is) carried
    (λ told s t holds made is. flushed_holds g.D.Disk.tells s t old new headers step carried told holds is made new_is (laws.itself told c.args.self.now.disk))
    (λ h s t holds for recorded is. flushed_recorded h s t for recorded is)
    1 from (ap (λ (state : State). state.manifest) new_is) (ap (λ (state : State). state.next) new_is) (ap (λ (state : State). state.count) new_is) (ap (λ (state : State). state.stopped) new_is) c.flush.ensures.writable
    (subst IsSmall (sym new_is) (small_unfrozen step.manifest old.state from.config c.requires.may.sound.small))

pub returns-clause-done : goal.returns-clause-done
returns-clause-done g c =
    let old = view_of c.args.self.now in
    let new = view_of (record c.carry_out.new.self { state = c.flush.new.self }) in
    let headers = c.in_ok-headers.headers.items in
    let step = c.in_ok-headers.step in
    let laws = g.met.D.Disk g.world.𝓛 g.world.𝓜 g.world.𝓡 ((λ s x. x), (λ x. x), (λ x. x), λ x. x) in
    let new_is : new.state ≡ unfrozen step.manifest old.state = c.flush.ensures.is ∙ ap (unfrozen step.manifest) c.in_ok-carry_out.ensures.state in
    let carried : IsCarried g.D.Disk.tells old new headers step = record {
      moments = c.carry_out.ensures.moments;
      done = c.in_ok-carry_out.ensures.done;
      kept = c.in_ok-carry_out.ensures.kept;
      stays = c.carry_out.ensures.stays;
      gate = c.in_ok-carry_out.ensures.gate;
      files = c.in_ok-carry_out.ensures.files;
      levels = c.carry_out.ensures.levels;
      retired = λ i. (c.carry_out.ensures.retired i).items;
      flights = c.carry_out.ensures.flights;
      pins = c.carry_out.ensures.pins;
      calls = c.in_ok-carry_out.ensures.calls;
      faults = c.carry_out.ensures.faults;
    } in
    next_done IsFlushed g.D.Disk.tells old headers step c.args.before c.requires.may (flushed_next g.D.Disk.tells old c.requires.may.sound.drawn headers step c.in_ok-headers.ensures.flushes)
    new (λ h s t holds for is. flush_for h s t holds.remembers.coherent for is) carried
    (λ told s t holds made is. flushed_holds g.D.Disk.tells s t old new headers step carried told holds is made new_is (laws.itself told c.args.self.now.disk))

pub returns-clause-most : goal.returns-clause-most
returns-clause-most g c = λ told.
    let step = c.in_ok-headers.step in
    let from = c.in_ok-headers.ensures.step in
    let new_is : c.flush.new.self ≡ unfrozen step.manifest c.args.self.now.state = c.flush.ensures.is ∙ ap (unfrozen step.manifest) c.in_ok-carry_out.ensures.state in
    omega (arith, c.in_ok-carry_out.ensures.most told, c.in_ok-headers.ensures.calls, from.numbers, from.next, ap (λ (state : State). state.next) new_is)

pub returns-in_err-carry_out-clause-soon : goal.returns-in_err-carry_out-clause-soon
returns-in_err-carry_out-clause-soon g c = λ told.
    let drafted = c.in_ok-headers.ensures.drafted in
    omega (arith, c.carry_out.ensures.soon told, c.in_ok-headers.ensures.calls, drafted.1.few, drafted.2)

pub returns-clause-soon : goal.returns-clause-soon
returns-clause-soon g c = λ told.
    let drafted = c.in_ok-headers.ensures.drafted in
    omega (arith, c.carry_out.ensures.soon told, c.in_ok-headers.ensures.calls, drafted.1.few, drafted.2)
