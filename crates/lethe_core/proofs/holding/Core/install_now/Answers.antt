use Rattle.std.proofs.Common.{rules, ◌≡◌, ◌≤◌, Some, Result, Ok, Err, sym, ap, subst, arith}
use Rattle.std.specs.Result.{result_err}
use Rattle.lethe_base.specs.Limits.{max_place}
use Rattle.lethe_base.specs.declared.refused.Refused.{Refused}
use Rattle.std.specs.Prelude.{IfErr, IfSome, OnOk}
use Rattle.std.proofs.lemmas.List.Elements.{All-contains}
use Rattle.lethe_advance.specs.Settled.{AreDrawn, names_in}
use Rattle.std.proofs.lemmas.Result.{IfOk-weaker}
use Rattle.lethe_stored.specs.Stored.{Stored}
use Rattle.lethe_install.specs.Outcomes.{AreFirst, IsInstalledWith}
use Rattle.lethe_job.specs.Works.{IsInLevels, PlainTask, applied_upto, plain_task}
use Rattle.lethe_pins.specs.Held.{Held}
use Rattle.lethe_core.specs.Flights.{company_of, without}
use Rattle.lethe_core.specs.Jobs.{AreOutputsOf}
use Rattle.lethe_core.specs.Keeps.{Keeps}
use Rattle.lethe_core.specs.Merges.{MayMerge}
use Rattle.lethe_core.specs.Pinned.{AreNamed}
use Rattle.lethe_core.specs.Running.{Holds, IsFlying}
use Rattle.lethe_core.specs.StandsNow.{IsCounted}
use Rattle.lethe_core.specs.Steps.{IsUndone}
use Rattle.lethe_core.specs.View.{Flying, flying_of, view_of}
use Rattle.lethe_core.proofs.Asked.{not_failed}
use Rattle.lethe_core.proofs.Flying.{flying_there}
use Rattle.lethe_core.proofs.Hindered.{as_itself, keeps_itself}
use Rattle.lethe_core.proofs.Installing.{next_install, own_drawn}
use Rattle.lethe_core.proofs.holding.Core.install_now.Given.{Over}
use Rattle.lethe_core.proofs.holding.Core.install_now.Goals.{In_ok-made}
use Rattle.lethe_core.proofs.holding.Core.install_now.Goals as goal

pub installing-requires-clause-levels : goal.installing-requires-clause-levels
installing-requires-clause-levels g c κs within =
    let view = view_of c.args.self.now in
    let flying = flying_of c.in-Some.flight.now in
    let there = (flying_there c.args.number view.flights flying c.in-Some.ensures.some).0 in
    subst (IsInLevels view.state.manifest.config.levels) (sym (ap plain_task c.deref.ensures)) (All-contains (IsFlying view.state) view.flights flying c.requires.may.sound.flies there).levels

pub installing-requires-clause-upto : goal.installing-requires-clause-upto
installing-requires-clause-upto g c κs within =
    let view = view_of c.args.self.now in
    let flying = flying_of c.in-Some.flight.now in
    let there = (flying_there c.args.number view.flights flying c.in-Some.ensures.some).0 in
    subst (λ (task : PlainTask). applied_upto task ≤ max_place) (sym (ap plain_task c.deref.ensures)) (All-contains (IsFlying view.state) view.flights flying c.requires.may.sound.flies there).upto

pub installing-requires-clause-drawn : goal.installing-requires-clause-drawn
installing-requires-clause-drawn g c κs within =
    let view = view_of c.args.self.now in
    let sound = c.requires.may.sound in
    subst (AreDrawn view.state.next) (sym c.names.ensures) (own_drawn view.state.next c.args.number view.flights (flying_of c.in-Some.flight.now) sound.flights c.in-Some.ensures.some sound.loose)

pub returns-in_err-made-clause-keeps : goal.returns-in_err-made-clause-keeps
returns-in_err-made-clause-keeps g c =
    let view = view_of c.args.self.now in
    let why = c.in_err-made.field-0.0 in
    let refusal : c.from_residual.result ≡ Err why = search rules in
    subst (λ (r : Result (Unit {0}) Refused). Keeps g.D.Disk.tells view view (result_err r)) (sym refusal)
    (keeps_itself g.D.Disk.tells view c.requires.may.sound c.requires.may.runs (Some why) (not_failed why c.in_err-made.ensures.refused))

pub returns-in_err-made-clause-undone : goal.returns-in_err-made-clause-undone
returns-in_err-made-clause-undone g c =
    let view = view_of c.args.self.now in
    let why = c.in_err-made.field-0.0 in
    let refusal : c.from_residual.result ≡ Err why = search rules in
    subst (λ (r : Result (Unit {0}) Refused). IfErr r (IsUndone g.D.Disk.tells view view)) (sym refusal) (λ none. as_itself g.D.Disk.tells view)

-- the step that may be carried out
merges : (g : Over) (c : In_ok-made g) → g.D.Disk.tells → (s : Stored) → Holds (view_of c.args.self.now) s
    → (let flying = flying_of c.in-Some.flight.now in (t : Stored) × MayMerge (view_of c.args.self.now) (without c.args.number c.args.self.now.flights) s flying.task t c.in_ok-made.made × AreFirst (names_in flying.written) s t)
merges g c told s holds =
    let view = view_of c.args.self.now in
    let sound = c.requires.may.sound in
    let flying = flying_of c.in-Some.flight.now in
    let flies = c.in-Some.ensures.some in
    let outputs = subst (λ found. IfSome found (λ flying. AreOutputsOf g.D.Disk.tells flying c.args.made)) flies c.requires.outputs in
    let from = c.in_ok-made.ensures.step in
    next_install g.D.Disk.tells view sound.drawn sound.flights c.args.number flying flies c.args.made outputs c.in_ok-made.made c.company_for-company.result (plain_task c.deref.result.now) c.names.result.now
    c.deref-2.result.now c.in_ok-made.ensures.installs c.company_for-company.ensures (ap plain_task c.deref.ensures) c.names.ensures (record {
      named = c.in_ok-made.ensures.named;
      gone = c.in_ok-made.ensures.gone;
      fresh = c.in_ok-made.ensures.fresh;
      later = let number = from.numbers in let next = from.next in omega (arith, number, next);
    }) (sym c.deref-2.ensures.value) told s holds

pub merge_now-requires-clause-merges : goal.merge_now-requires-clause-merges
merge_now-requires-clause-merges g c κs within = λ told s holds.
    let view = view_of c.args.self.now in
    let flying = flying_of c.in-Some.flight.now in
    let next = merges g (goal.at.merge_now-requires-clause-merges g c).In_ok-made told s holds in
    (flying.task, next.0, next.1, λ config h stands. All-contains (λ (flying : Flying). IsCounted flying.task) view.flights flying stands.counted (flying_there c.args.number view.flights flying c.in-Some.ensures.some).0)

pub returns-clause-done : goal.returns-clause-done
returns-clause-done g c = λ told s holds.
    let view = view_of c.args.self.now in
    let after = view_of c.merge_now.new.self in
    let flying = flying_of c.in-Some.flight.now in
    let next = merges g (goal.at.returns-clause-done g c).In_ok-made told s holds in
    subst (λ found. IfSome found (λ flying. OnOk c.merge_now.result ((t : Stored) × IsInstalledWith (company_of (without c.args.number view.flights)) s flying.task t × Holds after t × AreFirst (names_in flying.written) s t)))
    (sym c.in-Some.ensures.some) (IfOk-weaker c.merge_now.result _ _ (λ done holds. (next.0, next.1.installed, holds, next.2)) (c.merge_now.ensures.done told s flying.task next.0 holds next.1))

on_both : {T E : Type 0} (result : Result T E) (P Q R : Type 0) → (P → Q → R) → OnOk result P → OnOk result Q → OnOk result R
on_both (Ok x) P Q R goes one two = goes one two
on_both (Err why) P Q R goes one two = tt

pub returns-clause-ended : goal.returns-clause-ended
returns-clause-ended g c =
    let pins = c.merge_now.ensures.keeps.pins in
    on_both c.merge_now.result _ _ _ (λ ended left. (
      ended,
      subst (λ (held : Held). AreNamed held.pins c.merge_now.new.self.retired.items) (sym pins)
          (subst (AreNamed c.args.self.now.pins.pins) (ap (λ left. left.items) (sym left)) c.in_ok-made.ensures.named),
    )) c.merge_now.ensures.ended c.merge_now.ensures.retired
