use Rattle.std.proofs.Common.{rules, ◌≡◌, ◌∙◌, ℕ, ◌++◌, Option, Some, None, Result, Err, refl, ap, sym, subst}
use Rattle.std.specs.Prelude.{IfErr, OnErr}
use Rattle.std.specs.Result.{result_err}
use Rattle.lethe_base.specs.declared.refused.Refused.{Refused}
use Rattle.lethe_stored.specs.Stored.{Stored}
use Rattle.lethe_state.specs.Left.{installed}
use Rattle.lethe_job.specs.Works.{PlainTask}
use Rattle.lethe_clean.proofs.Stays.{step_untorn}
use Rattle.lethe_core.specs.Flights.{company_of}
use Rattle.lethe_core.specs.Keeps.{Keeps}
use Rattle.lethe_core.specs.Merges.{MayMerge, flights_behind}
use Rattle.lethe_core.specs.Pinned.{AreKept}
use Rattle.lethe_core.specs.Running.{Holds}
use Rattle.lethe_core.specs.Steps.{IsUndone}
use Rattle.lethe_core.specs.View.{View, beside_in, loose_in, view_of}
use Rattle.lethe_core.proofs.Carried.{active_ends}
use Rattle.lethe_core.proofs.Hindered.{hindered_keeps, hindered_next, hindered_undone}
use Rattle.lethe_core.proofs.Merged.{merge_keeps, merge_moments, merged_holds, merged_same, merged_view, same_active}
use Rattle.lethe_core.proofs.holding.Core.merge_now.Goals.{After-install, in-Some+in-Some-1, in-Some+in-None-1, in_default}
use Rattle.lethe_core.proofs.holding.Core.merge_now.Given.{Over}
use Rattle.lethe_core.proofs.holding.Core.merge_now.Goals as goal

pub carry_out-requires-clause-step : goal.carry_out-requires-clause-step
carry_out-requires-clause-step g c κs within = λ told.
    let held = c.requires.may.sound.held told in
    let running = held.2 c.requires.may.runs in
    let next = c.requires.merges told held.0 (record { remembers = held.1; running = running }) in
    (held.0, next.1, next.2.left ++ loose_in (flights_behind c.args.ends c.args.self.now.flights), running, next.2.step_is)

pub returns-in_err-carry_out-clause-keeps : goal.returns-in_err-carry_out-clause-keeps
returns-in_err-carry_out-clause-keeps g c =
    let old = view_of c.args.self.now in
    let new = view_of c.carry_out.new.self in
    let laws = g.met.D.Disk g.world.𝓛 g.world.𝓜 g.world.𝓡 ((λ s x. x), (λ x. x), (λ x. x), λ x. x) in
    let why = c.in_err-carry_out.field-0.0 in
    let refusal : c.from_residual.result ≡ Err why = search rules in
    subst (λ (r : Result (Unit {0}) Refused). Keeps g.D.Disk.tells old new (result_err r)) (sym refusal) (hindered_keeps g.D.Disk.tells old new c.args.before c.requires.may why c.in_err-carry_out.ensures.refused
    (merge_moments old new.disk new.faults new.levels new.begun new.rounds c.args.ends c.args.made g.D.Disk.tells c.args.before c.requires.may c.requires.from c.requires.merges c.carry_out.ensures.moments)
    (λ told. laws.itself told c.carry_out.new.self.disk) c.carry_out.ensures.later c.carry_out.ensures.faults (λ told.
    let held = c.requires.may.sound.held told in
    let holds : Holds old held.0 = record { remembers = held.1; running = held.2 c.requires.may.runs } in
    let next = c.requires.merges told held.0 holds in
    merged_same old new.disk new.faults new.levels new.begun new.rounds c.args.ends c.args.made held.0 next.1 next.0 holds next.2
    (c.carry_out.ensures.stays told held.0 next.1 (next.2.left ++ loose_in (flights_behind c.args.ends old.flights)) holds.running next.2.step_is)))

pub returns-in_err-carry_out-clause-undone : goal.returns-in_err-carry_out-clause-undone
returns-in_err-carry_out-clause-undone g c =
    let old = view_of c.args.self.now in
    let new = view_of c.carry_out.new.self in
    let why = c.in_err-carry_out.field-0.0 in
    let refusal : c.from_residual.result ≡ Err why = search rules in
    subst (λ (r : Result (Unit {0}) Refused). IfErr r (IsUndone g.D.Disk.tells old new)) (sym refusal) (hindered_undone g.D.Disk.tells old new c.args.before why c.in_err-carry_out.ensures.refused)

pub returns-in_err-carry_out-clause-drawn : goal.returns-in_err-carry_out-clause-drawn
returns-in_err-carry_out-clause-drawn g c =
    let old = view_of c.args.self.now in
    let new = view_of c.carry_out.new.self in
    let why = c.in_err-carry_out.field-0.0 in
    let refusal : c.from_residual.result ≡ Err why = search rules in
    subst (λ result. OnErr result (new.state.next ≡ old.state.next)) (sym refusal) (hindered_next g.D.Disk.tells old new c.args.before why c.in_err-carry_out.ensures.refused)

-- The store behind the step

none_ends : (ends : Option ℕ) → ((number : ℕ) → ends ≡ Some number → ⊥) → ends ≡ None
none_ends None other = refl
none_ends (Some number) other = absurd (other number refl)

-- what is left is retired, and the job that it ends is let go
joined : (g : Over) (c : After-install g) → c.match-ends.self ≡ record c.carry_out.new.self { retired = c.args.made.left; flights = flights_behind c.args.ends c.args.self.now.flights }
joined g c =
    let kept : (ends : Option ℕ) → ends ≡ c.args.ends → flights_behind ends c.carry_out.new.self.flights ≡ flights_behind c.args.ends c.args.self.now.flights = λ ends is i. flights_behind (is i) (c.carry_out.ensures.flights i) in
    elim c.match-ends.branch [
      | in-Some+in-Some-1 w ↦ w.self-is ∙ λ i. record c.carry_out.new.self { retired = c.args.made.left; flights = (w.end.ensures.ended ∙ kept (Some w.in-Some.number) (sym w.in-Some.is)) i }
      | in-Some+in-None-1 w ↦ w.self-is ∙ λ i. record c.carry_out.new.self { retired = c.args.made.left; flights = (w.end.ensures.ended ∙ kept (Some w.in-Some.number) (sym w.in-Some.is)) i }
      | in_default w ↦ w.self-is ∙ λ i. record c.carry_out.new.self { retired = c.args.made.left; flights = kept None (sym (none_ends c.args.ends w.in_default.not-Some)) i }
    ]

-- and it is as it should be
behind_is : (g : Over) (c : After-install g) → view_of (record c.match-ends.self { state = c.install.new.self })
    ≡ (let mid = view_of c.carry_out.new.self in merged_view (view_of c.args.self.now) mid.disk mid.faults mid.levels mid.begun mid.rounds c.args.ends c.args.made)
behind_is g c =
    let old = view_of c.args.self.now in
    let mid = view_of c.carry_out.new.self in
    let made = c.args.made in
    let manifest = made.step.manifest in
    let state = c.install.ensures.is ∙ ap (λ company. installed company manifest c.match-ends.self.state) c.company-company.ensures in
    let rest = flights_behind c.args.ends old.flights in
    (λ i. view_of (record c.match-ends.self { state = state i }))
    ∙ (λ i. let core = joined g c i in view_of (record core { state = installed (company_of core.flights) manifest core.state }))
    ∙ (λ i. record (merged_view old mid.disk mid.faults mid.levels mid.begun mid.rounds c.args.ends made) { state = installed (company_of rest) manifest (c.in_ok-carry_out.ensures.state i); pins = c.carry_out.ensures.pins i })

pub returns-clause-ended : goal.returns-clause-ended
returns-clause-ended g c = λ i. (joined g c i).flights

pub returns-clause-done : goal.returns-clause-done
returns-clause-done g c = λ told s task t holds may.
    let old = view_of c.args.self.now in
    let mid = view_of c.carry_out.new.self in
    let made = c.args.made in
    let laws = g.met.D.Disk g.world.𝓛 g.world.𝓜 g.world.𝓡 ((λ s x. x), (λ x. x), (λ x. x), λ x. x) in
    let rest = flights_behind c.args.ends old.flights in
    let left = may.left ++ loose_in rest in
    let running = holds.running in
    let is = may.step_is in
    let done = c.in_ok-carry_out.ensures.done told s t left running is in
    let kept = c.in_ok-carry_out.ensures.kept told s t left running is in
    let files = c.in_ok-carry_out.ensures.files told s t left running is holds.remembers.files in
    let gate = c.in_ok-carry_out.ensures.gate told s t left running is in
    let untorn = step_untorn s t (beside_in old) left made.headers.items made.step old.disk.directory mid.disk.directory holds.remembers.coherent is running.only running.untorn kept gate in
    let ends = active_ends s t (beside_in old) left made.headers.items made.step is holds.remembers.coherent old.disk mid.disk done.0 kept old.state.end (same_active (company_of rest) s task t may.installed) (laws.itself told c.args.self.now.disk) running.ends in
    subst (λ (view : View). Holds view t) (sym (behind_is g c))
    (merged_holds old mid.disk mid.faults mid.levels mid.begun mid.rounds c.args.ends made s t task holds may files (c.requires.may.sound.drawn told) done.0 done.1 untorn ends)

pub returns-clause-keeps : goal.returns-clause-keeps
returns-clause-keeps g c =
    let old = view_of c.args.self.now in
    let mid = view_of c.carry_out.new.self in
    let made = c.args.made in
    let rest = flights_behind c.args.ends old.flights in
    let moments = merge_moments old mid.disk mid.faults mid.levels mid.begun mid.rounds c.args.ends made g.D.Disk.tells c.args.before c.requires.may c.requires.from c.requires.merges c.carry_out.ensures.moments in
    let P : View → Type 0 = λ view. (g.D.Disk.tells → (s : Stored) (task : PlainTask) (t : Stored) → Holds old s → MayMerge old rest s task t made → Holds view t) → Keeps g.D.Disk.tells old view None in
    let same : g.D.Disk.tells → (s : Stored) (task : PlainTask) (t : Stored) → Holds old s → MayMerge old rest s task t made → AreKept old.pins.pins old.disk.directory mid.disk.directory = λ told s task t holds may.
    merged_same old mid.disk mid.faults mid.levels mid.begun mid.rounds c.args.ends made s t task holds may (c.carry_out.ensures.stays told s t (may.left ++ loose_in rest) holds.running may.step_is) in
    subst P (sym (behind_is g c))
    (λ behind. merge_keeps old mid.disk mid.faults mid.levels mid.begun mid.rounds c.args.ends made g.D.Disk.tells c.args.before c.requires.may c.requires.from c.requires.merges behind same c.requires.named c.carry_out.ensures.levels moments
    c.in_ok-carry_out.ensures.calls c.carry_out.ensures.faults)
    (returns-clause-done g c)
