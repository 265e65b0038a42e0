use Rattle.std.proofs.Common.{◌≡◌, None, sym, ap, ◌∙◌, subst}
use Rattle.lethe_base.specs.declared.call.Call.TheVariants.{Work}
use Rattle.lethe_core.specs.Asked.{Serves}
use Rattle.lethe_core.specs.View.{view_of}
use Rattle.lethe_core.proofs.Pinned.{released_face_is}
use Rattle.lethe_engine.specs.Answers.{Answers}
use Rattle.lethe_engine.proofs.Calls.{served_is_none}
use Rattle.lethe_engine.proofs.Repinned.{repinned_answers}
use Rattle.lethe_engine.proofs.engine.Engine.release.Goals as goal

pub returns-clause-answers : goal.returns-clause-answers
returns-clause-answers g c =
    let core = c.args.self.now.core in
    let new = c.release_now.new.self in
    let is = c.release_now.ensures.same in
    let same : new ≡ record core { pins = new.pins } = is ∙ ap (λ pins. record core { pins = pins }) (sym (ap (λ core. core.pins) is)) in
    subst (λ face. Answers g.D.Disk.tells (Serves Work) None face (view_of core) (view_of new)) (released_face_is (view_of core) (view_of new) c.args.snapshot.pin.number (ap view_of is))
    (repinned_answers g.D.Disk.tells None (view_of core) (view_of new) c.release_now.ensures.sound (ap view_of same) c.release_now.ensures.stands (served_is_none Work))

pub returns-clause-same : goal.returns-clause-same
returns-clause-same g c = ap (λ core. record c.args.self.now { core = core }) c.release_now.ensures.same
