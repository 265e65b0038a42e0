use Rattle.std.proofs.Common.{rules, ◌≡◌, ◌≤◌, ◌⊎◌, inl, Some, None, Result, Err, refl, sym, ap, ◌∙◌, subst, arith}
use Rattle.std.specs.Prelude.{All, Bool, IfErr, IfSome}
use Rattle.std.specs.Result.{result_err}
use Rattle.lethe_base.specs.Limits.{max_time}
use Rattle.lethe_base.specs.declared.refused.Refused.{Refused}
use Rattle.lethe_base.specs.declared.refused.Refused.TheVariants.{Damaged, NoMemory}
use Rattle.lethe_stored.specs.Stored.{Stored}
use Rattle.lethe_job.specs.Works.{erases_of, inputs_in, plain_task}
use Rattle.lethe_job.proofs.Told.{damaged_as}
use Rattle.lethe_core.specs.Asked.{failure_of}
use Rattle.lethe_core.specs.Flights.{company_of}
use Rattle.lethe_core.specs.Keeps.{Keeps}
use Rattle.lethe_core.specs.Merges.{IsBegunBy, IsInstalledWith, IsShortToMergeBy, IsTaskOf, MayMerge, chosen_by}
use Rattle.lethe_core.specs.Reasons.{HasReason, IsUnreadable}
use Rattle.lethe_core.specs.Running.{Holds}
use Rattle.lethe_core.specs.Steps.{IsUndone}
use Rattle.lethe_core.specs.View.{view_of}
use Rattle.lethe_core.proofs.Asked.{not_failed}
use Rattle.lethe_core.proofs.Damaged.{damaged_in, not_damaged, not_short}
use Rattle.lethe_core.proofs.Hindered.{as_itself, keeps_itself}
use Rattle.lethe_core.proofs.Installing.{chosen_counted, chosen_sound, next_outcome, outputs_bounded}
use Rattle.lethe_core.proofs.Unread.{not_failed_read, short_reason, told_reason}
use Rattle.lethe_core.proofs.holding.Core.merge_next.Given.{Over}
use Rattle.lethe_core.proofs.holding.Core.merge_next.Goals.{In-Ok-Some, In_ok-made}
use Rattle.lethe_core.proofs.holding.Core.merge_next.Goals as goal

-- the task is that of the plan that is chosen
begins : (g : Over) (c : In-Ok-Some g) (s : Stored) → Holds (view_of c.args.self.now) s → IsBegunBy (chosen_by c.args.choice) s (plain_task c.in-Ok-Some.task)
begins g c s holds =
    let found : c.in-Ok-Some.field-0 ≡ Some c.in-Ok-Some.task = cc in
    subst (λ found. IfSome found (λ task. IsBegunBy (chosen_by c.args.choice) s (plain_task task))) found (c.in-Ok-Some.ensures.some s holds)

pub returns-in-Ok-None-clause-keeps : goal.returns-in-Ok-None-clause-keeps
returns-in-Ok-None-clause-keeps g c = keeps_itself g.D.Disk.tells (view_of c.args.self.now) c.requires.may.sound c.requires.may.runs None tt

pub returns-in-Err-clause-keeps : goal.returns-in-Err-clause-keeps
returns-in-Err-clause-keeps g c = keeps_itself g.D.Disk.tells (view_of c.args.self.now) c.requires.may.sound c.requires.may.runs (Some NoMemory) refl

pub returns-in-Err-clause-undone : goal.returns-in-Err-clause-undone
returns-in-Err-clause-undone g c = λ none. as_itself g.D.Disk.tells (view_of c.args.self.now)

pub outcome-requires-after_bounds : goal.outcome-requires-after_bounds
outcome-requires-after_bounds g c κs within =
    let found : c.in-Ok-Some.field-0 ≡ Some c.in-Ok-Some.task = cc in
    subst (λ found. IfSome found (λ task. All (λ erase. erase.time ≤ max_time) (erases_of (plain_task task)))) found c.in-Ok-Some.ensures.times

pub returns-in-Err-outcome-clause-keeps : goal.returns-in-Err-outcome-clause-keeps
returns-in-Err-outcome-clause-keeps g c =
    keeps_itself g.D.Disk.tells (view_of c.args.self.now) c.requires.may.sound c.requires.may.runs (Some c.told_as.result) (ap failure_of c.told_as.ensures ∙ not_failed_read c.in-Err-outcome.why)

pub returns-in-Err-outcome-clause-undone : goal.returns-in-Err-outcome-clause-undone
returns-in-Err-outcome-clause-undone g c = λ none. as_itself g.D.Disk.tells (view_of c.args.self.now)

pub returns-in-Err-outcome-clause-why : goal.returns-in-Err-outcome-clause-why
returns-in-Err-outcome-clause-why g c =
    let core = c.args.self.now in
    let view = view_of core in
    let Short = IsShortToMergeBy (chosen_by c.args.choice) g.D.Disk.tells view in
    let earlier = g.D.Disk.port_faults c.args.port.now in
    let later = g.D.Disk.port_faults c.outcome.new.port in
    let task = plain_task c.in-Ok-Some.task in
    let path = (goal.at.returns-in-Err-outcome-clause-why g c).In-Ok-Some in
    subst (λ (why : Refused). HasReason Short view.state c.args.before view.faults why ⊎ IsUnreadable g.D.Disk.tells g.D.Disk.ports_fail earlier later why) (sym c.told_as.ensures)
    (told_reason Short g.D.Disk.tells g.D.Disk.ports_fail view.state c.args.before view.faults earlier later c.in-Err-outcome.why c.in-Err-outcome.ensures.cause c.in-Err-outcome.ensures.can_fail (λ told name is.
    let held = c.requires.may.sound.held told in
    let holds : Holds view held.0 = record { remembers = held.1; running = held.2 c.requires.may.runs } in
    c.in-Err-outcome.ensures.undamaged told (chosen_sound view task (λ s holds. (begins g path s holds).planned) held.0 holds) name (ap Err is)))

pub returns-in-Err-outcome-clause-damaged : goal.returns-in-Err-outcome-clause-damaged
returns-in-Err-outcome-clause-damaged g c = λ name e.
    let told : c.told_as.result ≡ Damaged name = cc in
    let read = damaged_as c.in-Err-outcome.why name (sym c.told_as.ensures ∙ told) in
    let damaged = c.in-Err-outcome.ensures.damaged name (ap Err read) in
    let task = plain_task c.in-Ok-Some.task in
    let found : c.in-Ok-Some.field-0 ≡ Some c.in-Ok-Some.task = cc in
    let of = subst (λ found. IfSome found (λ task. IsTaskOf (view_of c.args.self.now) (plain_task task))) found c.in-Ok-Some.ensures.of in
    (damaged_in c.args.self.now.version name c.args.self.now.state.manifest.files of.files of.cited (inputs_in task) of.inputs damaged.0, damaged.1)

pub returns-in_err-made-clause-damaged : goal.returns-in_err-made-clause-damaged
returns-in_err-made-clause-damaged g c = λ name e.
    let why = c.in_err-made.field-0.0 in
    let refusal : c.from_residual.result ≡ Err why = search rules in
    let told : why ≡ Damaged name = cc in
    absurd (not_short why c.in_err-made.ensures.refused name told)

pub returns-in_err-merge_now-clause-damaged : goal.returns-in_err-merge_now-clause-damaged
returns-in_err-merge_now-clause-damaged g c = λ name e.
    let old = c.args.self.now.state in
    let now = g.D.Disk.faults c.merge_now.new.self.disk in
    let why = c.in_err-merge_now.field-0.0 in
    let refusal : c.from_residual-in_err-merge_now.result ≡ Err why = search rules in
    absurd (not_damaged ⊥ old c.args.before now c.from_residual-in_err-merge_now.result
    (subst (λ (r : Result Bool Refused). IfErr r (HasReason ⊥ old c.args.before now)) (sym refusal) c.in_err-merge_now.ensures.why) name e)

pub returns-in_err-made-clause-keeps : goal.returns-in_err-made-clause-keeps
returns-in_err-made-clause-keeps g c =
    let view = view_of c.args.self.now in
    let why = c.in_err-made.field-0.0 in
    let refusal : c.from_residual.result ≡ Err why = search rules in
    subst (λ (r : Result Bool Refused). Keeps g.D.Disk.tells view view (result_err r)) (sym refusal)
    (keeps_itself g.D.Disk.tells view c.requires.may.sound c.requires.may.runs (Some why) (not_failed why c.in_err-made.ensures.refused))

pub returns-in_err-made-clause-undone : goal.returns-in_err-made-clause-undone
returns-in_err-made-clause-undone g c =
    let view = view_of c.args.self.now in
    let why = c.in_err-made.field-0.0 in
    let refusal : c.from_residual.result ≡ Err why = search rules in
    subst (λ (r : Result Bool Refused). IfErr r (IsUndone g.D.Disk.tells view view)) (sym refusal) (λ none. as_itself g.D.Disk.tells view)

pub returns-in_err-made-clause-why : goal.returns-in_err-made-clause-why
returns-in_err-made-clause-why g c =
    let view = view_of c.args.self.now in
    let Short = IsShortToMergeBy (chosen_by c.args.choice) g.D.Disk.tells view in
    let task = plain_task c.in-Ok-Some.task in
    let found : c.in-Ok-Some.field-0 ≡ Some c.in-Ok-Some.task = cc in
    let why = c.in_err-made.field-0.0 in
    let refusal : c.from_residual.result ≡ Err why = search rules in
    let earlier = g.D.Disk.port_faults c.args.port.now in
    let later = g.D.Disk.port_faults c.outcome.new.port in
    subst (λ result. IfErr result (λ why. HasReason Short view.state c.args.before view.faults why ⊎ IsUnreadable g.D.Disk.tells g.D.Disk.ports_fail earlier later why)) (sym refusal)
    (inl (short_reason Short view.state c.args.before view.faults c.requires.may.runs why c.in_err-made.ensures.refused (λ is. record {
      task = task;
      of = subst (λ found. IfSome found (λ task. IsTaskOf view (plain_task task))) found c.in-Ok-Some.ensures.of;
      made = c.in-Ok.outcome;
      bounded = outputs_bounded g.D.Disk.tells task c.in-Ok.outcome c.in-Ok.ensures.outputs;
      short = let short = c.in_err-made.ensures.exhausted (ap Err is) in omega (arith, short);
      outputs = c.in-Ok.ensures.outputs;
      begun = λ told s holds. begins g (goal.at.returns-in_err-made-clause-why g c).In-Ok-Some s holds;
    })))

-- the step that may be carried out
merges : (g : Over) (c : In_ok-made g) → ((s : Stored) → Holds (view_of c.args.self.now) s → IsBegunBy (chosen_by c.args.choice) s (plain_task c.in-Ok-Some.task)) → g.D.Disk.tells → (s : Stored) → Holds (view_of c.args.self.now) s
    → (let view = view_of c.args.self.now in (t : Stored) × MayMerge view view.flights s (plain_task c.in-Ok-Some.task) t c.in_ok-made.made)
merges g c begins told s holds =
    let from = c.in_ok-made.ensures.step in
    next_outcome (view_of c.args.self.now) (plain_task c.in-Ok-Some.task) (λ s holds. (begins s holds).planned) c.requires.free g.D.Disk.tells c.requires.may.sound.drawn
    c.in-Ok.outcome c.deref.result.now c.in_ok-made.made c.in_ok-made.ensures.installs (record {
      named = c.in_ok-made.ensures.named;
      gone = c.in_ok-made.ensures.gone;
      fresh = c.in_ok-made.ensures.fresh;
      later = let number = from.numbers in let next = from.next in omega (arith, number, next);
    }) (sym c.deref.ensures.value) told s holds

pub merge_now-requires-clause-merges : goal.merge_now-requires-clause-merges
merge_now-requires-clause-merges g c κs within = λ told s holds.
    let path = goal.at.merge_now-requires-clause-merges g c in
    let task = plain_task c.in-Ok-Some.task in
    let next = merges g path.In_ok-made (begins g path.In-Ok-Some) told s holds in
    (task, next.0, next.1, chosen_counted (view_of c.args.self.now) task (λ s holds. (begins g path.In-Ok-Some s holds).planned) c.requires.may.runs)

pub returns-in_err-merge_now-clause-keeps : goal.returns-in_err-merge_now-clause-keeps
returns-in_err-merge_now-clause-keeps g c =
    let old = view_of c.args.self.now in
    let new = view_of c.merge_now.new.self in
    let why = c.in_err-merge_now.field-0.0 in
    let refusal : c.from_residual-in_err-merge_now.result ≡ Err why = search rules in
    subst (λ (r : Result Bool Refused). Keeps g.D.Disk.tells old new (result_err r)) (sym refusal) c.in_err-merge_now.ensures.keeps

pub returns-in_err-merge_now-clause-undone : goal.returns-in_err-merge_now-clause-undone
returns-in_err-merge_now-clause-undone g c =
    let why = c.in_err-merge_now.field-0.0 in
    let refusal : c.from_residual-in_err-merge_now.result ≡ Err why = search rules in
    subst (λ (r : Result Bool Refused). IfErr r (IsUndone g.D.Disk.tells (view_of c.args.self.now) (view_of c.merge_now.new.self))) (sym refusal) c.in_err-merge_now.ensures.undone

pub returns-clause-done : goal.returns-clause-done
returns-clause-done g c = λ told s holds is.
    let path = goal.at.returns-clause-done g c in
    let task = plain_task c.in-Ok-Some.task in
    let next = merges g path.In_ok-made (begins g path.In-Ok-Some) told s holds in
    let installed = subst (λ flights. IsInstalledWith (company_of flights) s task next.0) c.requires.free next.1.installed in
    let then = c.in_ok-merge_now.ensures.done told s task next.0 holds next.1 in (
      record { task = task; to = next.0 },
      record { begun = begins g path.In-Ok-Some s holds; installed = installed; coherent = then.remembers.coherent },
      then,
      c.in-Ok.ensures.fetches,
    )
