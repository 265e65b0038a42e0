use Rattle.std.proofs.Common.{◌≡◌, Some, None, Ok, refl, ap, subst}
use Rattle.std.specs.Prelude.{IfSome}
use Rattle.lethe_base.specs.declared.call.Call.TheVariants.{Work}
use Rattle.lethe_base.specs.declared.refused.Refused.TheVariants.{NothingDue, NoMemory, Stopped}
use Rattle.lethe_advance.specs.Shown.{parts_by_level}
use Rattle.lethe_job.specs.Works.{IsBegunIn, plain_task, plan_of}
use Rattle.lethe_core.specs.Asked.{Serves}
use Rattle.lethe_core.specs.Jobs.{with_begun}
use Rattle.lethe_core.specs.Merges.{IsNextPlan}
use Rattle.lethe_core.specs.View.{face_of, view_of}
use Rattle.lethe_engine.specs.Answers.{Answers}
use Rattle.lethe_engine.proofs.Calls.{idle_answers, itself_answers, refused_is_none, served_is_none}
use Rattle.lethe_engine.proofs.engine.Engine.begin.Goals as goal

pub returns-in-Some-clause-answers : goal.returns-in-Some-clause-answers
returns-in-Some-clause-answers g c = itself_answers g.D.Disk.tells (Serves Work) (Some (Stopped c.in-Some.at)) (view_of c.args.self.now.core) c.requires (refused_is_none (Serves Work) (Stopped c.in-Some.at) refl)

pub returns-then-not-is_empty-clause-answers : goal.returns-then-not-is_empty-clause-answers
returns-then-not-is_empty-clause-answers g c = itself_answers g.D.Disk.tells (Serves Work) (Some NothingDue) (view_of c.args.self.now.core) c.requires (refused_is_none (Serves Work) NothingDue refl)

pub returns-in-Ok-Some-clause-answers : goal.returns-in-Ok-Some-clause-answers
returns-in-Ok-Some-clause-answers g c =
    let old = view_of c.args.self.now.core in
    let new = view_of c.begin_now.new.self in
    let is = c.begin_now.ensures in
    let found : c.in-Ok-Some.field-0 ≡ Some c.in-Ok-Some.job = cc in
    let face = subst (λ found. IfSome found (λ job. face_of new ≡ with_begun (face_of old) (plain_task job.task.value))) found c.in-Ok-Some.ensures.face in
    subst (λ face. Answers g.D.Disk.tells (Serves Work) None face old new) face
    (idle_answers g.D.Disk.tells None old new is.sound is.state (ap parts_by_level is.version) (ap (λ names. names.items) is.retired) is.faults is.idle is.stands (served_is_none Work))

pub returns-in-Ok-None-clause-answers : goal.returns-in-Ok-None-clause-answers
returns-in-Ok-None-clause-answers g c =
    let old = view_of c.args.self.now.core in
    let new = view_of c.begin_now.new.self in
    let is = c.begin_now.ensures in
    let none : c.in-Ok-None.field-0 ≡ None = cc in
    subst (λ face. Answers g.D.Disk.tells (Serves Work) (Some NothingDue) face old new) (c.in-Ok-None.ensures.none_begun (ap Ok none))
    (idle_answers g.D.Disk.tells (Some NothingDue) old new is.sound is.state (ap parts_by_level is.version) (ap (λ names. names.items) is.retired) is.faults is.idle is.stands (refused_is_none (Serves Work) NothingDue refl))

pub returns-in-Err-clause-answers : goal.returns-in-Err-clause-answers
returns-in-Err-clause-answers g c =
    let old = view_of c.args.self.now.core in
    let new = view_of c.begin_now.new.self in
    let is = c.begin_now.ensures in
    subst (λ face. Answers g.D.Disk.tells (Serves Work) (Some NoMemory) face old new) c.in-Err.ensures.kept
    (idle_answers g.D.Disk.tells (Some NoMemory) old new is.sound is.state (ap parts_by_level is.version) (ap (λ names. names.items) is.retired) is.faults is.idle is.stands (refused_is_none (Serves Work) NoMemory refl))

pub returns-in-Ok-Some-clause-begun : goal.returns-in-Ok-Some-clause-begun
returns-in-Ok-Some-clause-begun g c = λ told s holds. (subst (λ found. IfSome found (λ job. IsBegunIn s (plain_task job.task.value))) c.in-Ok-Some.field-0-is (c.in-Ok-Some.ensures.begun s holds), c.in-Ok-Some.ensures.held told s holds)

pub returns-in-Ok-Some-clause-picked : goal.returns-in-Ok-Some-clause-picked
returns-in-Ok-Some-clause-picked g c =
    subst (λ found. IfSome found (λ job. IsNextPlan (view_of c.args.self.now.core) (Some (plan_of (plain_task job.task.value))))) c.in-Ok-Some.field-0-is c.in-Ok-Some.ensures.picked

pub returns-in-Ok-None-clause-unpicked : goal.returns-in-Ok-None-clause-unpicked
returns-in-Ok-None-clause-unpicked g c = λ free nothing.
    let none : c.in-Ok-None.field-0 ≡ None = cc in
    c.in-Ok-None.ensures.unpicked (ap Ok none)
