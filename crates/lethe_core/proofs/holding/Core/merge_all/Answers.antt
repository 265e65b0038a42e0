use Rattle.std.proofs.Common.{rules, ◌≡◌, ◌⊎◌, inr, List, [], Some, None, Result, Ok, Err, refl, sym, ap, ◌∙◌, subst, arith}
use Rattle.std.specs.Prelude.{Bool, IfErr, true}
use Rattle.std.specs.Result.{result_err}
use Rattle.lethe_base.specs.declared.refused.Refused.{Refused}
use Rattle.lethe_base.specs.declared.refused.Refused.TheVariants.{Damaged}
use Rattle.lethe_core.specs.Asked.{failure_of}
use Rattle.lethe_core.specs.Keeps.{Keeps}
use Rattle.lethe_core.specs.Merges.{AreRetiredBehind, AreSomeOutcomesBy, IsShortToMergeBy, Outcome, chosen_by}
use Rattle.lethe_core.specs.Reasons.{HasReason, IsUnreadable, told_since}
use Rattle.lethe_core.specs.Running.{Holds}
use Rattle.lethe_core.specs.Steps.{IsDoneInPart}
use Rattle.lethe_core.specs.View.{view_of}
use Rattle.lethe_core.proofs.Asked.{not_failed}
use Rattle.lethe_core.proofs.Damaged.{damaged_since, not_short}
use Rattle.lethe_core.proofs.Hindered.{keeps_itself}
use Rattle.lethe_core.proofs.Outcomes.{merged_may, no_more, none_merged, once_more, some_merged, too_many}
use Rattle.lethe_core.proofs.Behind.{either_since, keeps_since, since_failed}
use Rattle.lethe_core.proofs.Likes.{before_holds, jobs_same}
use Rattle.lethe_core.proofs.holding.Core.merge_all.Goals as goal

pub returns-in_err-most_jobs-clause-keeps : goal.returns-in_err-most_jobs-clause-keeps
returns-in_err-most_jobs-clause-keeps g c =
    let why = c.in_err-most_jobs.field-0.0 in
    let refusal : c.from_residual.result ≡ Err why = search rules in
    let old = view_of c.args.self.now in
    subst (λ (r : Result (Unit {0}) Refused). Keeps g.D.Disk.tells old old (result_err r)) (sym refusal)
    (keeps_itself g.D.Disk.tells old c.requires.may.sound c.requires.may.runs (Some why) (not_failed why (inr c.in_err-most_jobs.ensures.refused)))

pub returns-in_err-most_jobs-clause-partly : goal.returns-in_err-most_jobs-clause-partly
returns-in_err-most_jobs-clause-partly g c =
    let why = c.in_err-most_jobs.field-0.0 in
    let refusal : c.from_residual.result ≡ Err why = search rules in
    let old = view_of c.args.self.now in
    subst (λ (r : Result (Unit {0}) Refused). IfErr r (IsDoneInPart g.D.Disk.tells (λ s t. (outcomes : List Outcome) × AreSomeOutcomesBy (chosen_by c.args.choice) s outcomes t) old old)) (sym refusal)
    (λ none told s holds. (s, ([], refl), holds))

pub loop-init : goal.loop-init
loop-init g c = record {
  merged = none_merged (chosen_by c.args.choice) g.D.Disk.tells (view_of c.args.self.now) c.args.before (g.D.Disk.fetches c.args.port.now) (g.D.Disk.port_faults c.args.port.now) c.requires.may;
  free = c.requires.free;
  begun = refl;
  fetches = omega arith;
}

pub loop-preserved : goal.loop-preserved
loop-preserved g c =
    let ok : c.merge_next.result ≡ Ok true = c.in-Ok-true.is ∙ ap Ok c.in-Ok-true.field-0-test in
    record {
      merged = once_more (chosen_by c.args.choice) g.D.Disk.tells (view_of c.args.self.now) (view_of c.loop.self) c.args.before c.loop.counter (g.D.Disk.fetches c.args.port.now) (g.D.Disk.fetches c.loop.port)
          (g.D.Disk.port_faults c.args.port.now) (g.D.Disk.port_faults c.loop.port) c.loop.invariant.merged
          (view_of c.merge_next.new.self) (g.D.Disk.fetches c.merge_next.new.port) (g.D.Disk.port_faults c.merge_next.new.port)
          (subst (λ (r : Result Bool Refused). Keeps g.D.Disk.tells (view_of c.loop.self) (view_of c.merge_next.new.self) (result_err r)) ok c.merge_next.ensures.keeps) c.in-Ok-true.ensures.steady
          (λ told t holds. c.merge_next.ensures.done told t holds ok) (c.merge_next.ensures.retired ok) c.merge_next.ensures.port_faults;
      free = c.merge_next.ensures.free;
      begun = c.merge_next.ensures.begun ∙ c.loop.invariant.begun;
      fetches = omega (arith, c.loop.invariant.fetches, c.merge_next.ensures.fetches);
    }

pub merge_next-requires-clause-may : goal.merge_next-requires-clause-may
merge_next-requires-clause-may g c κs within = merged_may (chosen_by c.args.choice) g.D.Disk.tells _ _ c.args.before _ _ _ _ _ c.loop.invariant.merged c.requires.may

pub returns-in-Ok-false-clause-keeps : goal.returns-in-Ok-false-clause-keeps
returns-in-Ok-false-clause-keeps g c =
    let same = (c.merge_next.ensures.ended (c.in-Ok-false.is ∙ ap Ok c.in-Ok-false.field-0-test)).0 in
    subst (λ core. Keeps g.D.Disk.tells (view_of c.args.self.now) (view_of core) None) (sym same) c.loop.invariant.merged.keeps

pub returns-in-Ok-false-clause-done : goal.returns-in-Ok-false-clause-done
returns-in-Ok-false-clause-done g c = λ told s holds.
    let ended = c.merge_next.ensures.ended (c.in-Ok-false.is ∙ ap Ok c.in-Ok-false.field-0-test) in
    let done = no_more (chosen_by c.args.choice) g.D.Disk.tells (view_of c.args.self.now) (view_of c.loop.self) c.args.before c.loop.counter (g.D.Disk.fetches c.args.port.now) (g.D.Disk.fetches c.loop.port)
    (g.D.Disk.port_faults c.args.port.now) (g.D.Disk.port_faults c.loop.port) c.loop.invariant.merged told s holds ended.2 in
    (done.0, done.1, done.2, subst (λ core. Holds (view_of core) done.0) (sym ended.0) done.3, ended.1 ∙ done.4, subst (λ core. AreRetiredBehind done.1 (view_of c.args.self.now).pins.pins (view_of c.args.self.now).retired (view_of core).retired) (sym ended.0) done.5)

pub returns-in-Err-clause-keeps : goal.returns-in-Err-clause-keeps
returns-in-Err-clause-keeps g c =
    let old = view_of c.args.self.now in
    let mid = view_of c.loop.self in
    let new = view_of c.merge_next.new.self in
    subst (λ (why : Refused). Keeps g.D.Disk.tells old new (Some why)) (sym c.told_since.ensures)
    (keeps_since g.D.Disk.tells old mid new c.loop.invariant.merged.keeps c.in-Err.why c.port_faults-earlier.result
    (subst (λ (r : Result Bool Refused). Keeps g.D.Disk.tells mid new (result_err r)) c.in-Err.is c.merge_next.ensures.keeps))

pub returns-in-Err-clause-partly : goal.returns-in-Err-clause-partly
returns-in-Err-clause-partly g c = λ none told s holds.
    let old = view_of c.args.self.now in
    let mid = view_of c.loop.self in
    let new = view_of c.merge_next.new.self in
    let some = some_merged (chosen_by c.args.choice) g.D.Disk.tells old mid c.args.before c.loop.counter (g.D.Disk.fetches c.args.port.now) (g.D.Disk.fetches c.loop.port)
    (g.D.Disk.port_faults c.args.port.now) (g.D.Disk.port_faults c.loop.port) c.loop.invariant.merged told s holds in
    let why = c.in-Err.why in
    let earlier = c.port_faults-earlier.result in
    let not : failure_of why ≡ None = since_failed earlier why (ap failure_of (sym c.told_since.ensures) ∙ none) in
    let same = jobs_same c.loop.self c.merge_next.new.self c.merge_next.ensures.begun (c.merge_next.ensures.free ∙ sym c.loop.invariant.free) c.merge_next.ensures.keeps.pins in
    (some.0, some.1, before_holds g.D.Disk.tells told mid new some.0 same c.merge_next.ensures.keeps.pins (c.in-Err.ensures.undone not) some.2)

pub returns-in-Err-clause-why : goal.returns-in-Err-clause-why
returns-in-Err-clause-why g c =
    let new = c.merge_next.new.self in
    let Short = IsShortToMergeBy (chosen_by c.args.choice) g.D.Disk.tells (view_of new) in
    let now = g.D.Disk.faults new.disk in
    let later = g.D.Disk.port_faults c.merge_next.new.port in
    let either = either_since Short g.D.Disk.tells g.D.Disk.ports_fail c.args.self.now.state c.loop.self.state c.args.before now (g.D.Disk.port_faults c.args.port.now) (g.D.Disk.port_faults c.loop.port) later
    c.loop.invariant.merged.steady c.loop.invariant.merged.port_faults c.in-Err.why c.in-Err.ensures.why in
    subst (λ (why : Refused). HasReason Short c.args.self.now.state c.args.before now why ⊎ IsUnreadable g.D.Disk.tells g.D.Disk.ports_fail (g.D.Disk.port_faults c.args.port.now) later why)
    (sym (c.told_since.ensures ∙ ap (λ earlier. told_since earlier c.in-Err.why) c.port_faults-earlier.ensures)) either

pub returns-in-Err-clause-damaged : goal.returns-in-Err-clause-damaged
returns-in-Err-clause-damaged g c = λ name e.
    let told : c.told_since.result ≡ Damaged name = cc in
    let last : c.in-Err.why ≡ Damaged name = damaged_since c.port_faults-earlier.result c.in-Err.why name (sym c.told_since.ensures ∙ told) in
    let damaged = c.in-Err.ensures.damaged name (ap (λ (why : Refused). let r : Result Bool Refused = Err why in r) last) in
    let fetched = damaged.1 in
    (damaged.0, omega (arith, fetched, c.loop.invariant.fetches))

pub returns-in_err-most_jobs-clause-damaged : goal.returns-in_err-most_jobs-clause-damaged
returns-in_err-most_jobs-clause-damaged g c = λ name e.
    let why = c.in_err-most_jobs.field-0.0 in
    let refusal : c.from_residual.result ≡ Err why = search rules in
    let told : why ≡ Damaged name = cc in
    absurd (not_short why (inr c.in_err-most_jobs.ensures.refused) name told)

pub returns-clause-done : goal.returns-clause-done
returns-clause-done g c = λ told s holds.
    absurd (too_many (chosen_by c.args.choice) g.D.Disk.tells (view_of c.args.self.now) (view_of c.loop.self) c.args.before c.loop.counter (g.D.Disk.fetches c.args.port.now) (g.D.Disk.fetches c.loop.port)
    (g.D.Disk.port_faults c.args.port.now) (g.D.Disk.port_faults c.loop.port) c.loop.invariant.merged c.requires.may told s holds
    c.in_ok-most_jobs.field-0 (c.in_ok-most_jobs.ensures.most s holds)
    (let over = c.loop-test.false in let end = c.saturating_add-rounds.ensures in omega (arith, over, end)))
