use Rattle.std.proofs.Common.{rules, ◌≡◌, ◌≤◌, ◌+◌, ◌-◌, ℕ, inl, Option, Result, Ok, Err, Some, length, refl, sym, ap, ◌∙◌, subst}
use Rattle.std.specs.Prelude.{IfErr, IfSome, IsSome, OnOk}
use Rattle.std.specs.Result.{result_err}
use Rattle.lethe_advance.specs.Settled.{names_in}
use Rattle.lethe_base.specs.Limits.{max_place}
use Rattle.lethe_base.specs.declared.call.Call.TheVariants.{Work}
use Rattle.lethe_base.specs.declared.refused.Refused.{Refused}
use Rattle.lethe_core.specs.Asked.{Serves, failure_of}
use Rattle.lethe_core.specs.Pinned.{AreNamed}
use Rattle.lethe_core.specs.Reasons.{HasReason}
use Rattle.lethe_core.specs.Steps.{IsUndone}
use Rattle.lethe_core.specs.View.{View, face_of, view_of}
use Rattle.lethe_core.specs.Flights.{Flying, company_of, flying_by, without}
use Rattle.lethe_core.specs.Jobs.{AreOutputsOf, IsAtWork}
use Rattle.lethe_core.specs.Running.{Holds}
use Rattle.lethe_core.proofs.Behind.{reason_behind}
use Rattle.lethe_disk.proofs.Quieting.{on_ok}
use Rattle.lethe_disk.specs.declared.disk.Disk.{Ghosts}
use Rattle.lethe_stored.specs.Stored.{Stored}
use Rattle.lethe_core.specs.Merges.{AreFirst, IsInstalledWith}
use Rattle.lethe_job.specs.MadeOf.{numbers_in}
use Rattle.lethe_job.specs.Works.{plain_task}
use Rattle.lethe_job.specs.declared.job.Job.{Job}
use Rattle.lethe_engine.specs.Refusals.{HasReasonOfJob}
use Rattle.lethe_engine.specs.Answers.{Answers}
use Rattle.lethe_engine.specs.Jobs.{IsShortToInstall, ended_face}
use Rattle.lethe_engine.proofs.Calls.{if_refused, itself_answers, refused_is_none, step_answers}
use Rattle.lethe_engine.proofs.Faces.{ended_by}
use Rattle.lethe_engine.proofs.AtWork.{outcome_of, outputs_flying, short_flying}
use Rattle.lethe_engine.proofs.Reasons.{not_begun}
use Rattle.lethe_engine.proofs.Rounds.{at_work}
use Rattle.lethe_engine.proofs.engine.Engine.install_whole.Goals as goal

pub returns-in_err-check_round-clause-answers : goal.returns-in_err-check_round-clause-answers
returns-in_err-check_round-clause-answers g c =
    let old = view_of c.args.self.now.core in
    let why = c.in_err-check_round.field-0.0 in
    let refusal : c.from_residual.result ≡ Err why = search rules in
    subst (λ (r : Result (Unit {0}) Refused). Answers g.D.Disk.tells (Serves Work) (result_err r) (ended_face c.args.job.now.number (face_of old) r) old old) (sym refusal)
    (itself_answers g.D.Disk.tells (Serves Work) (Some why) old c.requires.sound (refused_is_none (Serves Work) why (ap failure_of c.in_err-check_round.ensures.refused.0)))

pub returns-in_err-may_change-clause-answers : goal.returns-in_err-may_change-clause-answers
returns-in_err-may_change-clause-answers g c =
    let old = view_of c.args.self.now.core in
    let why = c.in_err-may_change.field-0.0 in
    let refusal : c.from_residual-in_err-may_change.result ≡ Err why = search rules in
    subst (λ (r : Result (Unit {0}) Refused). Answers g.D.Disk.tells (Serves Work) (result_err r) (ended_face c.args.job.now.number (face_of old) r) old old) (sym refusal)
    (itself_answers g.D.Disk.tells (Serves Work) (Some why) old c.requires.sound (refused_is_none (Serves Work) why (not_begun old.state why c.in_err-may_change.ensures.refused)))

pub install_now-requires-clause-flies : goal.install_now-requires-clause-flies
install_now-requires-clause-flies g c κs within =
    let old = view_of c.args.self.now.core in
    let works = at_work old c.args.job.now g.D.Disk.tells c.requires.works (c.in_ok-check_round.ensures.present c.in_ok-may_change.ensures.fits.0) in
    subst (λ number. IsSome (flying_by number old.flights)) (sym (c.number.ensures ∙ ap (λ job. job.number) c.take_made.ensures.lacks)) (subst (λ (found : Option Flying). IsSome found) (sym works.flies.is) refl)

pub install_now-requires-clause-outputs : goal.install_now-requires-clause-outputs
install_now-requires-clause-outputs g c κs within =
    let old = view_of c.args.self.now.core in
    let job = c.args.job.now in
    let works = at_work old job g.D.Disk.tells c.requires.works (c.in_ok-check_round.ensures.present c.in_ok-may_change.ensures.fits.0) in
    subst (λ number. IfSome (flying_by number old.flights) (λ flying. AreOutputsOf g.D.Disk.tells flying c.unwrap-made.result)) (sym (c.number.ensures ∙ ap (λ job. job.number) c.take_made.ensures.lacks))
    (outputs_flying g.D.Disk.tells old job works c.unwrap-made.result (sym c.take_made.ensures.given ∙ c.unwrap-made.ensures))

-- a reason of the step is one of the job's
reason_of_install : {D Page Port : Type 0} {kind : Ghosts D Page Port} (Short : Type 0) (old new : View) (job : Job D Page Port kind) (result : Result (Unit {0}) Refused) → (Short → IsShortToInstall old job)
    → IfErr result (HasReason Short old.state old.faults new.faults) → IfErr result (HasReasonOfJob (IsShortToInstall old job) job old new)
reason_of_install Short old new job (Ok done) wider is = tt
reason_of_install Short old new job (Err why) wider is = inl (reason_behind Short (IsShortToInstall old job) old.state old.state old.faults new.faults refl refl wider why is)

pub returns-clause-why : goal.returns-clause-why
returns-clause-why g c =
    let old = view_of c.args.self.now.core in
    let new = view_of c.install_now.new.self in
    let job = c.args.job.now in
    let made = c.unwrap-made.result in
    let works = at_work old job g.D.Disk.tells c.requires.works (c.in_ok-check_round.ensures.present c.in_ok-may_change.ensures.fits.0) in
    let is = sym c.take_made.ensures.given ∙ c.unwrap-made.ensures in
    let Short : ℕ → Type 0 = λ number. IfSome (flying_by number old.flights) (λ flying. max_place ≤ old.state.next + (numbers_in made - length flying.written)) in
    reason_of_install (Short job.number) old new job c.install_now.result (short_flying g.D.Disk.tells old job works made is)
    (subst (λ number. IfErr c.install_now.result (HasReason (Short number) old.state old.faults new.faults)) (c.number.ensures ∙ ap (λ job. job.number) c.take_made.ensures.lacks)
    (subst (λ before. IfErr c.install_now.result (HasReason (Short c.number.result) old.state before new.faults)) c.faults-before.ensures c.install_now.ensures.why))

outcome_in : {D Page Port : Type 0} {kind : Ghosts D Page Port} (Tells : Type 0) (old new : View) (job : Job D Page Port kind) (s : Stored) (result : Result (Unit {0}) Refused) → IsAtWork Tells old job
    → IfSome (flying_by job.number old.flights) (λ flying. OnOk result ((t : Stored) × IsInstalledWith (company_of (without job.number old.flights)) s flying.task t × Holds new t × AreFirst (names_in flying.written) s t))
    → OnOk result ((t : Stored) × IsInstalledWith (company_of (without job.number old.flights)) s (plain_task job.task.value) t × Holds new t
    × IfSome (flying_by job.number old.flights) (λ flying. AreFirst (names_in flying.written) s t))
outcome_in Tells old new job s (Ok done) works is = outcome_of Tells old job works s new is
outcome_in Tells old new job s (Err why) works is = tt

pub returns-clause-done : goal.returns-clause-done
returns-clause-done g c = λ told s holds.
    let old = view_of c.args.self.now.core in
    let new = view_of c.install_now.new.self in
    let job = c.args.job.now in
    let result = c.install_now.result in
    let works = at_work old job g.D.Disk.tells c.requires.works (c.in_ok-check_round.ensures.present c.in_ok-may_change.ensures.fits.0) in
    outcome_in g.D.Disk.tells old new job s result works
    (subst (λ number. IfSome (flying_by number old.flights) (λ flying. OnOk result ((t : Stored) × IsInstalledWith (company_of (without number old.flights)) s flying.task t × Holds new t × AreFirst (names_in flying.written) s t)))
    (c.number.ensures ∙ ap (λ job. job.number) c.take_made.ensures.lacks) (c.install_now.ensures.done told s holds))

pub returns-clause-answers : goal.returns-clause-answers
returns-clause-answers g c =
    let core = c.args.self.now.core in
    let old = view_of core in
    let new = view_of c.install_now.new.self in
    let result = c.install_now.result in
    let Short = IfSome (flying_by c.number.result old.flights) (λ flying. max_place ≤ old.state.next + (numbers_in c.unwrap-made.result - length flying.written)) in
    let ended = subst (λ number. OnOk result ((new.flights ≡ without number old.flights) × AreNamed new.pins.pins new.retired)) (c.number.ensures ∙ ap (λ job. job.number) c.take_made.ensures.lacks) c.install_now.ensures.ended in
    subst (λ face. Answers g.D.Disk.tells (Serves Work) (result_err result) face old new)
    (ended_by c.args.job.now.number core c.install_now.new.self result c.install_now.ensures.begun c.install_now.ensures.keeps.pins ended c.install_now.ensures.kept)
    (step_answers g.D.Disk.tells Short (result_err result) old new c.faults-before.result c.in_ok-may_change.ensures.fits.0 c.faults-before.ensures c.install_now.ensures.keeps
    (if_refused result (HasReason Short old.state c.faults-before.result new.faults) c.install_now.ensures.why) (if_refused result (IsUndone g.D.Disk.tells old new) c.install_now.ensures.undone))

pub returns-clause-named : goal.returns-clause-named
returns-clause-named g c =
    let new = view_of c.install_now.new.self in
    on_ok c.install_now.result ((new.flights ≡ without c.number.result (view_of c.args.self.now.core).flights) × AreNamed new.pins.pins new.retired) (AreNamed new.pins.pins new.retired) c.install_now.ensures.ended (λ ended. ended.1)

pub returns-clause-pins : goal.returns-clause-pins
returns-clause-pins g c = c.install_now.ensures.keeps.pins
