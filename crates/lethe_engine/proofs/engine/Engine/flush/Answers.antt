use Rattle.std.proofs.Common.{rules, ◌≡◌, Some, None, Result, Err, refl, sym, subst}
use Rattle.std.specs.Prelude.{Bool}
use Rattle.std.specs.Result.{result_err}
use Rattle.lethe_base.specs.declared.call.Call.TheVariants.{Work}
use Rattle.lethe_base.specs.declared.refused.Refused.{Refused}
use Rattle.lethe_base.specs.declared.refused.Refused.TheVariants.{Stopped}
use Rattle.lethe_state.specs.Room.{IsShortToFlush}
use Rattle.lethe_core.specs.Asked.{Serves}
use Rattle.lethe_core.specs.View.{face_of, view_of}
use Rattle.lethe_core.proofs.Likes.{jobs_same}
use Rattle.lethe_engine.specs.Answers.{Answers}
use Rattle.lethe_engine.proofs.Calls.{itself_answers, refused_is_none, served_is_none, step_answers}
use Rattle.lethe_engine.proofs.Reasons.{not_begun}
use Rattle.lethe_engine.proofs.engine.Engine.flush.Goals as goal

pub returns-in-Some-clause-answers : goal.returns-in-Some-clause-answers
returns-in-Some-clause-answers g c = itself_answers g.D.Disk.tells (Serves Work) (Some (Stopped c.in-Some.at)) (view_of c.args.self.now.core) c.requires (refused_is_none (Serves Work) (Stopped c.in-Some.at) refl)

pub returns-then-is_none-clause-answers : goal.returns-then-is_none-clause-answers
returns-then-is_none-clause-answers g c = itself_answers g.D.Disk.tells (Serves Work) None (view_of c.args.self.now.core) c.requires (served_is_none Work)

pub returns-in_err-may_change-clause-answers : goal.returns-in_err-may_change-clause-answers
returns-in_err-may_change-clause-answers g c =
    let old = view_of c.args.self.now.core in
    let why = c.in_err-may_change.field-0.0 in
    let refusal : c.from_residual.result ≡ Err why = search rules in
    subst (λ (r : Result Bool Refused). Answers g.D.Disk.tells (Serves Work) (result_err r) (face_of old) old old) (sym refusal)
    (itself_answers g.D.Disk.tells (Serves Work) (Some why) old c.requires (refused_is_none (Serves Work) why (not_begun old.state why c.in_err-may_change.ensures.refused)))

pub returns-in-Ok-clause-answers : goal.returns-in-Ok-clause-answers
returns-in-Ok-clause-answers g c =
    let core = c.args.self.now.core in
    let old = view_of core in
    let new = view_of c.flush_now.new.self in
    subst (λ face. Answers g.D.Disk.tells (Serves Work) None face old new) (jobs_same core c.flush_now.new.self c.flush_now.ensures.begun c.flush_now.ensures.flights c.in-Ok.ensures.keeps.pins)
    (step_answers g.D.Disk.tells (IsShortToFlush old.state) None old new c.faults-before.result c.in_ok-may_change.ensures.fits.0 c.faults-before.ensures c.in-Ok.ensures.keeps tt tt)

pub returns-in-Err-clause-answers : goal.returns-in-Err-clause-answers
returns-in-Err-clause-answers g c =
    let core = c.args.self.now.core in
    let old = view_of core in
    let new = view_of c.flush_now.new.self in
    subst (λ face. Answers g.D.Disk.tells (Serves Work) (Some c.in-Err.why) face old new) (jobs_same core c.flush_now.new.self c.flush_now.ensures.begun c.flush_now.ensures.flights c.in-Err.ensures.keeps.pins)
    (step_answers g.D.Disk.tells (IsShortToFlush old.state) (Some c.in-Err.why) old new c.faults-before.result c.in_ok-may_change.ensures.fits.0 c.faults-before.ensures c.in-Err.ensures.keeps c.in-Err.ensures.why c.in-Err.ensures.undone)

pub returns-in-Ok-clause-done : goal.returns-in-Ok-clause-done
returns-in-Ok-clause-done g c = λ told s holds done. c.in-Ok.ensures.done told s holds

pub returns-in-Ok-clause-pins : goal.returns-in-Ok-clause-pins
returns-in-Ok-clause-pins g c = c.in-Ok.ensures.keeps.pins

pub returns-in-Err-clause-pins : goal.returns-in-Err-clause-pins
returns-in-Err-clause-pins g c = c.in-Err.ensures.keeps.pins
