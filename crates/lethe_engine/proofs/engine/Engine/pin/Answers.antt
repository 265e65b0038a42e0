use Rattle.std.proofs.Common.{◌<◌, ◌≤◌, ◌+◌, ap, subst}
use Rattle.std.specs.Result.{result_err}
use Rattle.std.proofs.lemmas.Result.{IfOk-weaker}
use Rattle.lethe_base.specs.declared.call.Call.TheVariants.{Work}
use Rattle.lethe_bound.specs.Limits.{IsLimit}
use Rattle.lethe_stored.specs.Left.{without_failed}
use Rattle.lethe_stored.specs.Stored.{layout_of}
use Rattle.lethe_core.specs.Asked.{Serves}
use Rattle.lethe_core.specs.View.{view_of}
use Rattle.lethe_engine.specs.Answers.{Answers}
use Rattle.lethe_engine.proofs.Repinned.{limit_near, pin_is_none, pinned_by, repinned_answers}
use Rattle.lethe_engine.proofs.engine.Engine.pin.Goals as goal

pub returns-clause-answers : goal.returns-clause-answers
returns-clause-answers g c =
    let core = c.args.self.now.core in
    let new = c.pin_now.new.self in
    let result = c.pin_now.result in
    let is = c.pin_now.ensures in
    subst (λ face. Answers g.D.Disk.tells (Serves Work) (result_err result) face (view_of core) (view_of new)) (pinned_by core new result is.same is.number is.pinned is.unchanged)
    (repinned_answers g.D.Disk.tells (result_err result) (view_of core) (view_of new) is.sound (ap view_of is.same) is.stands (pin_is_none result is.why))

pub returns-clause-of : goal.returns-clause-of
returns-clause-of g c = λ told config opened h stands. c.pin_now.ensures.of stands.now.stored (without_failed h) stands.now.remembers stands.now.stands

pub returns-clause-near : goal.returns-clause-near
returns-clause-near g c = λ told config opened h stands.
    let old = view_of c.args.self.now.core in
    let s = stands.now.stored in
    IfOk-weaker c.pin_now.result (λ snapshot. IsLimit s.manifest.config.threshold (layout_of s) snapshot.pin.limit)
    (λ snapshot. (old.state.manifest.clock < snapshot.pin.limit) × (snapshot.pin.limit ≤ config.threshold + old.state.manifest.clock))
    (λ snapshot is. limit_near config h old stands.now snapshot.pin.limit is) (c.pin_now.ensures.limit s stands.now.remembers)

pub returns-clause-same : goal.returns-clause-same
returns-clause-same g c = ap (λ core. record c.args.self.now { core = core }) c.pin_now.ensures.same
