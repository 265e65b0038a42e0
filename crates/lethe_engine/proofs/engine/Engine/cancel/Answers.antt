use Rattle.std.proofs.Common.{◌≡◌, ◌≤◌, map, Some, None, refl, sym, ap, ◌∙◌, subst, arith}
use Rattle.std.specs.Result.{result_err}
use Rattle.lethe_base.specs.declared.call.Call.TheVariants.{Work}
use Rattle.lethe_base.specs.declared.refused.Refused.TheVariants.{Stopped}
use Rattle.lethe_core.specs.Asked.{Serves}
use Rattle.lethe_core.specs.Reasons.{HasReason}
use Rattle.lethe_core.specs.Steps.{IsUndone}
use Rattle.lethe_core.specs.Flights.{without}
use Rattle.lethe_core.specs.View.{face_of, limited_of, view_of}
use Rattle.lethe_engine.specs.Answers.{Answers}
use Rattle.lethe_engine.specs.Jobs.{IsPast, cancelled_face}
use Rattle.lethe_engine.proofs.AtWork.{forgets_now, forgets_sound}
use Rattle.lethe_engine.proofs.Calls.{idle_answers, if_refused, itself_answers, idle_itself, refused_is_none, served_is_none, step_answers}
use Rattle.lethe_engine.proofs.Faces.{given_up_never, given_up_now, given_up_stopped}
use Rattle.lethe_engine.proofs.Rounds.{cancelled_now, cancelled_past}
use Rattle.lethe_engine.proofs.engine.Engine.cancel.Goals as goal

-- a job of an earlier round

pub returns-in-Some-clause-answers : goal.returns-in-Some-clause-answers
returns-in-Some-clause-answers g c =
    let old = view_of c.args.self.now.core in
    let why = Stopped c.in-Some.at in
    let past : IsPast old c.args.job = let at = c.round.ensures in let now = c.rounds.ensures in let below = c.if-round-rounds.true in omega (arith, at, now, below) in
    subst (λ face. Answers g.D.Disk.tells (Serves Work) (Some why) face old old) (sym (cancelled_past old c.args.job past)) (itself_answers g.D.Disk.tells (Serves Work) (Some why) old c.requires.sound (refused_is_none (Serves Work) why refl))

pub returns-then-round-rounds-clause-answers : goal.returns-then-round-rounds-clause-answers
returns-then-round-rounds-clause-answers g c =
    let old = view_of c.args.self.now.core in
    let past : IsPast old c.args.job = let at = c.round.ensures in let now = c.rounds.ensures in let below = c.if-round-rounds.true in omega (arith, at, now, below) in
    subst (λ face. Answers g.D.Disk.tells (Serves Work) None face old old) (sym (cancelled_past old c.args.job past)) (itself_answers g.D.Disk.tells (Serves Work) None old c.requires.sound (served_is_none Work))

-- a job in flight

pub returns-in-Some-stopped-clause-answers : goal.returns-in-Some-stopped-clause-answers
returns-in-Some-stopped-clause-answers g c =
    let old = view_of c.args.self.now.core in
    let number = c.number-number.ensures in
    let new = record old { flights = without c.args.job.number old.flights } in
    let present : old.rounds ≤ c.args.job.round = let at = c.round.ensures in let now = c.rounds.ensures in let not = c.if-round-rounds.false in omega (arith, at, now, not) in
    let at = c.in-Some-stopped.at in
    let is = sym c.stopped-2.ensures ∙ c.in-Some-stopped.is in
    let ended : c.end.new.self ≡ new.flights = c.end.ensures.ended ∙ ap (λ n. without n old.flights) number in
    subst (λ flights. Answers g.D.Disk.tells (Serves Work) (Some (Stopped at)) (cancelled_face old c.args.job) old (record old { flights = flights })) (sym ended)
    (subst (λ face. Answers g.D.Disk.tells (Serves Work) (Some (Stopped at)) face old new) (sym (cancelled_now old c.args.job present ∙ given_up_stopped c.args.job.number (face_of old) old.state at is))
    (idle_answers g.D.Disk.tells (Some (Stopped at)) old new (forgets_sound old c.args.job.number at is g.D.Disk.tells c.requires.sound) refl refl refl refl (λ told. idle_itself old)
    (λ told config h stands. forgets_now old c.args.job.number at is config h stands) (refused_is_none (Serves Work) (Stopped at) refl)))

pub returns-then-count-ge-MAX_PLACE-clause-answers : goal.returns-then-count-ge-MAX_PLACE-clause-answers
returns-then-count-ge-MAX_PLACE-clause-answers g c =
    let old = view_of c.args.self.now.core in
    let present : old.rounds ≤ c.args.job.round = let at = c.round.ensures in let now = c.rounds.ensures in let not = c.if-round-rounds.false in omega (arith, at, now, not) in
    let full = c.if-count-ge-MAX_PLACE.true in
    let count = c.count.ensures in
    let runs = sym c.stopped-2.ensures ∙ c.in_default-stopped.is in
    subst (λ face. Answers g.D.Disk.tells (Serves Work) None face old old) (sym (cancelled_now old c.args.job present ∙ given_up_never c.args.job.number (face_of old) old.state runs (omega (arith, full, count))))
    (itself_answers g.D.Disk.tells (Serves Work) None old c.requires.sound (served_is_none Work))

pub returns-clause-answers : goal.returns-clause-answers
returns-clause-answers g c =
    let old = view_of c.args.self.now.core in
    let new = view_of c.cancel_now.new.self in
    let result = c.cancel_now.result in
    let present : old.rounds ≤ c.args.job.round = let at = c.round.ensures in let now = c.rounds.ensures in let not = c.if-round-rounds.false in omega (arith, at, now, not) in
    let left = c.if-count-ge-MAX_PLACE.false in
    let count = c.count.ensures in
    let runs = sym c.stopped-2.ensures ∙ c.in_default-stopped.is in
    let begun = c.cancel_now.ensures.begun in
    let ended = subst (λ number. new.flights ≡ without number old.flights) c.number-number.ensures c.cancel_now.ensures.ended in
    let pins = c.cancel_now.ensures.keeps.pins in
    let now : face_of new ≡ record (face_of old) { flights = without c.args.job.number old.flights } = λ i. record { begun = (begun i).jobs; rounds = (begun i).rounds; flights = ended i; made = (pins i).made; held = map limited_of (pins i).pins } in
    subst (λ face. Answers g.D.Disk.tells (Serves Work) (result_err result) face old new) (now ∙ sym (cancelled_now old c.args.job present ∙ given_up_now c.args.job.number (face_of old) old.state runs (omega (arith, left, count))))
    (step_answers g.D.Disk.tells ⊥ (result_err result) old new c.faults-before.result runs c.faults-before.ensures c.cancel_now.ensures.keeps
    (if_refused result (HasReason ⊥ old.state c.faults-before.result new.faults) c.cancel_now.ensures.why) (if_refused result (IsUndone g.D.Disk.tells old new) c.cancel_now.ensures.undone))

pub returns-clause-pins : goal.returns-clause-pins
returns-clause-pins g c = c.cancel_now.ensures.keeps.pins
