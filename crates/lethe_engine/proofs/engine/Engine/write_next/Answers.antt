use Rattle.std.proofs.Common.{rules, ◌≡◌, ◌∙◌, ◌≤◌, ◌<◌, Option, Some, Result, Err, List, [], ℕ, length, map, get_or, refl, sym, ap, subst}
use Rattle.std.specs.Prelude.{IfSome, IsSome, OnOk}
use Rattle.std.specs.Option.{option_map_or}
use Rattle.std.specs.Result.{result_err}
use Rattle.lethe_base.specs.Limits.{max_place}
use Rattle.lethe_base.specs.declared.call.Call.TheVariants.{Work}
use Rattle.lethe_base.specs.declared.name.Name.{Name}
use Rattle.lethe_base.specs.declared.refused.Refused.{Refused}
use Rattle.lethe_clean.specs.Copied.{IsCopiedOf}
use Rattle.lethe_file.specs.Agreement.{page_name}
use Rattle.lethe_job.specs.Jobs.{next_bytes}
use Rattle.lethe_job.specs.MadeOf.{pages_of}
use Rattle.lethe_job.specs.Works.{PlainTask, inputs_in, plain_task}
use Rattle.lethe_job.specs.declared.made.Made.{Made}
use Rattle.lethe_stored.specs.Files.{file_of}
use Rattle.lethe_core.specs.Asked.{Serves, failure_of}
use Rattle.lethe_core.specs.Flights.{Flying, flying_by, with_page_of}
use Rattle.lethe_core.specs.Reasons.{HasReason}
use Rattle.lethe_core.specs.Steps.{IsUndone}
use Rattle.lethe_core.specs.View.{face_of, view_of}
use Rattle.lethe_engine.specs.Answers.{Answers}
use Rattle.lethe_engine.specs.Jobs.{written_face}
use Rattle.lethe_engine.proofs.AtWork.{some_there}
use Rattle.lethe_engine.proofs.Copying.{next_copied}
use Rattle.lethe_engine.proofs.Calls.{if_refused, itself_answers, refused_is_none, step_answers}
use Rattle.lethe_engine.proofs.Faces.{written_by}
use Rattle.lethe_engine.proofs.Reasons.{not_begun}
use Rattle.lethe_engine.proofs.Rounds.{at_work}
use Rattle.lethe_engine.proofs.engine.Engine.write_next.Goals as goal

pub returns-in_err-check_round-clause-answers : goal.returns-in_err-check_round-clause-answers
returns-in_err-check_round-clause-answers g c =
    let old = view_of c.args.self.now.core in
    let page : Name × List ℕ = (page_name old.state.next, next_bytes c.args.job.now) in
    let why = c.in_err-check_round.field-0.0 in
    let refusal : c.from_residual.result ≡ Err why = search rules in
    subst (λ (r : Result (Unit {0}) Refused). Answers g.D.Disk.tells (Serves Work) (result_err r) (written_face c.args.job.now.number (face_of old) page r) old old) (sym refusal)
    (itself_answers g.D.Disk.tells (Serves Work) (Some why) old c.requires.sound (refused_is_none (Serves Work) why (ap failure_of c.in_err-check_round.ensures.refused.0)))

pub returns-in_err-may_change-clause-answers : goal.returns-in_err-may_change-clause-answers
returns-in_err-may_change-clause-answers g c =
    let old = view_of c.args.self.now.core in
    let page : Name × List ℕ = (page_name old.state.next, next_bytes c.args.job.now) in
    let why = c.in_err-may_change.field-0.0 in
    let refusal : c.from_residual-in_err-may_change.result ≡ Err why = search rules in
    subst (λ (r : Result (Unit {0}) Refused). Answers g.D.Disk.tells (Serves Work) (result_err r) (written_face c.args.job.now.number (face_of old) page r) old old) (sym refusal)
    (itself_answers g.D.Disk.tells (Serves Work) (Some why) old c.requires.sound (refused_is_none (Serves Work) why (not_begun old.state why c.in_err-may_change.ensures.refused)))

pub returns-clause-answers : goal.returns-clause-answers
returns-clause-answers g c =
    let old = view_of c.args.self.now.core in
    let new = view_of c.write_now.new.self in
    let result = c.write_now.result in
    let bytes = c.next_page.ensures in
    let number = c.number.ensures in
    let written = subst (λ number. OnOk result (new.flights ≡ with_page_of number (page_name old.state.next, next_bytes c.args.job.now) old.flights)) number
    (subst (λ bytes. OnOk result (new.flights ≡ with_page_of c.number.result (page_name old.state.next, bytes) old.flights)) bytes c.write_now.ensures.written) in
    subst (λ face. Answers g.D.Disk.tells (Serves Work) (result_err result) face old new)
    (written_by c.args.job.now.number old new (page_name old.state.next, next_bytes c.args.job.now) result (ap (λ begun. begun.jobs) c.write_now.ensures.begun) (ap (λ begun. begun.rounds) c.write_now.ensures.begun)
    c.write_now.ensures.keeps.pins written c.write_now.ensures.kept)
    (step_answers g.D.Disk.tells (max_place ≤ old.state.next) (result_err result) old new c.faults-before.result c.in_ok-may_change.ensures.fits.0 c.faults-before.ensures c.write_now.ensures.keeps
    (if_refused result (HasReason (max_place ≤ old.state.next) old.state c.faults-before.result new.faults) c.write_now.ensures.why) (if_refused result (IsUndone g.D.Disk.tells old new) c.write_now.ensures.undone))

pub write_now-requires-clause-flies : goal.write_now-requires-clause-flies
write_now-requires-clause-flies g c κs within =
    let old = view_of c.args.self.now.core in
    let works = at_work old c.args.job.now g.D.Disk.tells c.requires.works (c.in_ok-check_round.ensures.present c.in_ok-may_change.ensures.fits.0) in
    subst (λ number. IsSome (flying_by number old.flights)) (sym c.number.ensures) (subst (λ (found : Option Flying). IsSome found) (sym works.flies.is) refl)

pub write_now-requires-clause-copied : goal.write_now-requires-clause-copied
write_now-requires-clause-copied g c κs within = λ told s holds.
    let view = view_of c.args.self.now.core in
    let job = c.args.job.now in
    let works = at_work view job g.D.Disk.tells c.requires.works (c.in_ok-check_round.ensures.present c.in_ok-may_change.ensures.fits.0) in
    let there = some_there (λ (made : Made). job.written < length (pages_of made)) job.made c.requires.made c.requires.left in
    let bytes : c.next_page.result.now ≡ get_or (pages_of there.0) job.written [] = c.next_page.ensures ∙ ap (λ (o : Option Made). option_map_or (λ made. get_or (pages_of made) job.written []) o []) there.1 in
    let copied = subst (λ (bytes : List ℕ). IsCopiedOf (map file_of (inputs_in (plain_task job.task.value))) (page_name view.state.next, bytes)) (sym bytes)
    (next_copied g.D.Disk.tells view job works s holds told view.state.next there.0 there.1 there.2) in
    let of = subst (λ (task : PlainTask). IsCopiedOf (map file_of (inputs_in task)) (page_name view.state.next, c.next_page.result.now)) works.flies.task copied in
    subst (λ number. IfSome (flying_by number view.flights) (λ flying. IsCopiedOf (map file_of (inputs_in flying.task)) (page_name view.state.next, c.next_page.result.now))) (sym c.number.ensures)
    (subst (λ (found : Option Flying). IfSome found (λ flying. IsCopiedOf (map file_of (inputs_in flying.task)) (page_name view.state.next, c.next_page.result.now))) (sym works.flies.is) of)

pub returns-clause-pins : goal.returns-clause-pins
returns-clause-pins g c = c.write_now.ensures.keeps.pins
