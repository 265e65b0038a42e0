use Rattle.std.proofs.Common.{rules, ◌≡◌, ◌⊎◌, inl, inr, ℕ, ◌<◌, ◌+◌, List, [], ◌∷◌, ◌++◌, true, Some, None, refl, sym, ap, ◌∙◌, subst, arith}
use Rattle.std.proofs.lemmas.Option.{none-some, same_Some}
use Rattle.lethe_stored.specs.Stored.{Stored}
use Rattle.lethe_core.specs.View.{view_of}
use Rattle.lethe_drive.specs.Certificates.{certificates_of}
use Rattle.lethe_drive.specs.Moments.{there_of}
use Rattle.lethe_drive.specs.Past.{AreEarlier, IsNoneOf, IsTickAsked, Run, named_by}
use Rattle.lethe_drive.specs.Runs.{run_of}
use Rattle.lethe_drive.specs.declared.past.Past.{Past}
use Rattle.lethe_drive.proofs.Among.{none_named, number_at}
use Rattle.lethe_drive.proofs.Certificates.{listed_none, none_given, none_refused, stands_none}
use Rattle.lethe_drive.proofs.Events.{cancel_event, ended_event, kept_event, left_none, left_some, one_earlier, present_event, refused_event, still_earlier}
use Rattle.lethe_drive.proofs.Left.{all_but, all_with}
use Rattle.lethe_drive.proofs.Naming.{there_none}
use Rattle.lethe_drive.proofs.Kept.{kept_itself}
use Rattle.lethe_drive.proofs.rounds.answer_any.Goals as goal
use Rattle.lethe_drive.proofs.rounds.answer_any.Goals.{After-answer-reply, in-Cancel, in_default, in_default-event, in-Some+in_default-place_of}

-- A job of an earlier round

pub returns-in-Some-place_of-clause-event : goal.returns-in-Some-place_of-clause-event
returns-in-Some-place_of-clause-event g c = λ told config opened h answered stands s known.
    let number = c.in-Some.number in
    let place = c.in-Some-place_of.place in
    let past = c.args.past.now.items in
    let view = view_of c.args.engine.now.core in
    let fetches = g.D.Disk.fetches c.args.port.now in
    let faults = g.D.Disk.port_faults c.args.port.now in
    let old = run_of view s fetches faults c.args.jobs.now c.args.snapshots.now.items past in
    let new = run_of view s fetches faults c.args.jobs.now c.args.snapshots.now.items c.match-event.past.items in
    let reply = c.match-event.result in
    let named : named_by c.args.event ≡ Some number = sym c.job.ensures ∙ c.in-Some.is in
    elim c.match-event.branch [
      | in-Cancel w ↦
          let gone = w.give_up.ensures.gone in (
            h,
            s,
            known,
            stands_none config opened h view answered reply (ap certificates_of (w.result-is ∙ w.give_up.ensures.reply) ∙ none_given view.state.stopped) stands,
            cancel_event g.D.Disk.ports_fail h old reply h new number c.args.event w.in-Cancel.job w.in-Cancel.is named (record {
              front = gone.0;
              job = gone.2;
              back = gone.1;
              among = gone.4;
              number_is = number_at (λ (job : Past). job.number) number past c.deref.result.now c.deref.ensures.value c.place_of.result c.place_of.ensures.first place c.in-Some-place_of.is gone.0 gone.1 gone.2 gone.3 gone.4;
              answer_is = w.result-is ∙ w.give_up.ensures.reply;
              history = refl;
              now = refl;
              past = (λ i. (w.past-is i).items) ∙ gone.5;
            }),
          )
      | in_default-event w ↦
          let refused = w.refuse.ensures.refused in (
            h,
            s,
            known,
            stands_none config opened h view answered reply (ap certificates_of (w.result-is ∙ refused.6) ∙ none_refused view.state.stopped view.rounds refused.2) stands,
            refused_event g.D.Disk.ports_fail h old reply h new number c.args.event w.in_default-event.not-Cancel named (record {
              front = refused.0;
              job = refused.2;
              back = refused.1;
              among = refused.4;
              number_is = number_at (λ (job : Past). job.number) number past c.deref.result.now c.deref.ensures.value c.place_of.result c.place_of.ensures.first place c.in-Some-place_of.is refused.0 refused.1 refused.2 refused.3 refused.4;
              answer_is = w.result-is ∙ refused.6;
              history = refl;
              now = refl;
              past = (λ i. (w.past-is i).items) ∙ refused.5;
            }),
          )
    ]

pub returns-in-Some-place_of-clause-earlier : goal.returns-in-Some-place_of-clause-earlier
returns-in-Some-place_of-clause-earlier g c =
    let rounds = c.args.engine.now.core.begun.rounds in
    let Earlier = λ (job : Past). job.round < rounds in
    elim c.match-event.branch [
      | in-Cancel w ↦
          let gone = w.give_up.ensures.gone in
          subst (AreEarlier rounds) (sym ((λ i. (w.past-is i).items) ∙ gone.5)) (all_but Earlier gone.0 gone.1 gone.2 (subst (AreEarlier rounds) gone.4 c.requires.earlier))
      | in_default-event w ↦
          let refused = w.refuse.ensures.refused in
          subst (AreEarlier rounds) (sym ((λ i. (w.past-is i).items) ∙ refused.5))
          (all_with Earlier refused.0 refused.1 refused.2 (record refused.2 { refused = true }) (λ earlier. earlier) (subst (AreEarlier rounds) refused.4 c.requires.earlier))
    ]

-- The present round

-- no job of an earlier round is named
absent : (g : _) (c : After-answer-reply g) (number : ℕ) → named_by c.args.event ≡ Some number → IsNoneOf number c.args.past.now.items
absent g c = elim c.match-job.branch [
  | in-Some+in_default-place_of w ↦ λ number named.
      let same : w.in-Some.number ≡ number = same_Some w.in-Some.number number (sym w.in-Some.is ∙ c.job.ensures ∙ named) in
      subst (λ (number : ℕ). IsNoneOf number c.args.past.now.items) same
      (none_named (λ (job : Past). job.number) w.in-Some.number c.args.past.now.items w.deref.result.now w.deref.ensures.value w.place_of.result w.place_of.ensures.first w.in_default-place_of.is)
  | in_default w ↦ λ number named. absurd (none-some number (sym (sym c.job.ensures ∙ w.in_default.is) ∙ named))
]

abbrev before : (g : _) → After-answer-reply g → Stored → Run
before g c s = run_of (view_of c.args.engine.now.core) s (g.D.Disk.fetches c.args.port.now) (g.D.Disk.port_faults c.args.port.now) c.args.jobs.now c.args.snapshots.now.items c.args.past.now.items

abbrev behind : (g : _) → After-answer-reply g → Stored → List Past → Run
behind g c t past = run_of (view_of c.answer-reply.new.engine.core) t (g.D.Disk.fetches c.answer-reply.new.port) (g.D.Disk.port_faults c.answer-reply.new.port) c.answer-reply.new.jobs c.answer-reply.new.snapshots.items past

-- what it says of the round
rounds : (g : _) (c : After-answer-reply g) → (c.answer-reply.new.engine.core.begun.rounds ≡ c.args.engine.now.core.begun.rounds)
    ⊎ (IsTickAsked c.args.event × (c.answer-reply.new.engine.core.begun.rounds ≡ c.args.engine.now.core.begun.rounds + 1) × (there_of c.answer-reply.new.jobs ≡ None))
rounds g c = elim c.answer-reply.ensures.rounds [ inl kept ↦ inl kept | inr ended ↦ inr (ended.0, ended.1, there_none c.answer-reply.new.jobs ended.2) ]

pub returns-else-rounds-clause-event : goal.returns-else-rounds-clause-event
returns-else-rounds-clause-event g c = λ told config opened h answered stands s known.
    let at = (goal.at.returns-else-rounds-clause-event g c).After-answer-reply in
    let step = c.answer-reply.ensures.step told config opened h answered stands s known in
    let past = c.args.past.now.items in
    let few = c.if-rounds.false in (
      step.0,
      step.1,
      step.2,
      step.3,
      present_event g.D.Disk.ports_fail h (before g at s) c.answer-reply.result step.0 (behind g at step.1 past) c.args.event (absent g at) step.4
          (kept_event g.D.Disk.ports_fail h (before g at s) c.answer-reply.result step.0 (behind g at step.1 past) c.args.event (rounds g at) (omega (arith, few, c.rounds.ensures, c.rounds-rounds.ensures)) refl),
    )

pub returns-in_default-left-clause-event : goal.returns-in_default-left-clause-event
returns-in_default-left-clause-event g c = λ told config opened h answered stands s known.
    let at = (goal.at.returns-in_default-left-clause-event g c).After-answer-reply in
    let step = c.answer-reply.ensures.step told config opened h answered stands s known in
    let past = c.args.past.now.items in
    let many = c.if-rounds.true in (
      step.0,
      step.1,
      step.2,
      step.3,
      present_event g.D.Disk.ports_fail h (before g at s) c.answer-reply.result step.0 (behind g at step.1 past) c.args.event (absent g at) step.4
          (ended_event g.D.Disk.ports_fail h (before g at s) c.answer-reply.result step.0 (behind g at step.1 past) c.args.event (rounds g at) (omega (arith, many, c.rounds.ensures, c.rounds-rounds.ensures))
          (left_none (before g at s).now.there c.left-left.result c.left-left.ensures past c.in_default-left.is)),
    )

pub returns-in-Some-left-clause-event : goal.returns-in-Some-left-clause-event
returns-in-Some-left-clause-event g c = λ told config opened h answered stands s known.
    let at = (goal.at.returns-in-Some-left-clause-event g c).After-answer-reply in
    let step = c.answer-reply.ensures.step told config opened h answered stands s known in
    let past = c.args.past.now.items in
    let pushed : c.push.new.self.items ≡ past ++ c.in-Some-left.job ∷ [] = search rules in
    let many = c.if-rounds.true in (
      step.0,
      step.1,
      step.2,
      step.3,
      present_event g.D.Disk.ports_fail h (before g at s) c.answer-reply.result step.0 (behind g at step.1 c.push.new.self.items) c.args.event (absent g at) step.4
          (ended_event g.D.Disk.ports_fail h (before g at s) c.answer-reply.result step.0 (behind g at step.1 c.push.new.self.items) c.args.event (rounds g at)
          (omega (arith, many, c.rounds.ensures, c.rounds-rounds.ensures)) (pushed ∙ left_some (before g at s).now.there c.left-left.result c.left-left.ensures past c.in-Some-left.job c.in-Some-left.is)),
    )

pub returns-else-rounds-clause-earlier : goal.returns-else-rounds-clause-earlier
returns-else-rounds-clause-earlier g c =
    still_earlier c.args.engine.now.core.begun.rounds c.answer-reply.new.engine.core.begun.rounds c.args.past.now.items
    (elim c.answer-reply.ensures.rounds [ inl kept ↦ omega (arith, kept) | inr ended ↦ let more = ended.1 in omega (arith, more) ]) c.requires.earlier

pub returns-in_default-left-clause-earlier : goal.returns-in_default-left-clause-earlier
returns-in_default-left-clause-earlier g c =
    still_earlier c.args.engine.now.core.begun.rounds c.answer-reply.new.engine.core.begun.rounds c.args.past.now.items
    (elim c.answer-reply.ensures.rounds [ inl kept ↦ omega (arith, kept) | inr ended ↦ let more = ended.1 in omega (arith, more) ]) c.requires.earlier

pub returns-in-Some-left-clause-earlier : goal.returns-in-Some-left-clause-earlier
returns-in-Some-left-clause-earlier g c =
    let old = view_of c.args.engine.now.core in
    let past = c.args.past.now.items in
    let pushed : c.push.new.self.items ≡ past ++ c.in-Some-left.job ∷ [] = search rules in
    let many = c.if-rounds.true in
    let rounds = c.answer-reply.new.engine.core.begun.rounds in
    subst (AreEarlier rounds) (sym pushed) (one_earlier g.D.Disk.tells old c.args.jobs.now c.requires.jobs c.left-left.result c.left-left.ensures c.in-Some-left.job c.in-Some-left.is past c.requires.earlier rounds
    (omega (arith, many, c.rounds.ensures, c.rounds-rounds.ensures)))

pub returns-in-Some-place_of-clause-pinned : goal.returns-in-Some-place_of-clause-pinned
returns-in-Some-place_of-clause-pinned g c = λ told. kept_itself (view_of c.args.engine.now.core)

pub returns-else-rounds-clause-pinned : goal.returns-else-rounds-clause-pinned
returns-else-rounds-clause-pinned g c = c.answer-reply.ensures.pinned

pub returns-in_default-left-clause-pinned : goal.returns-in_default-left-clause-pinned
returns-in_default-left-clause-pinned g c = c.answer-reply.ensures.pinned

pub returns-in-Some-left-clause-pinned : goal.returns-in-Some-left-clause-pinned
returns-in-Some-left-clause-pinned g c = c.answer-reply.ensures.pinned

pub returns-in-Some-place_of-clause-certificates : goal.returns-in-Some-place_of-clause-certificates
returns-in-Some-place_of-clause-certificates g c =
    let now = c.args.engine.now.certificates.items in
    let view = view_of c.args.engine.now.core in
    let reply = c.match-event.result in
    elim c.match-event.branch [
      | in-Cancel w ↦ listed_none now now reply refl (ap certificates_of (w.result-is ∙ w.give_up.ensures.reply) ∙ none_given view.state.stopped)
      | in_default-event w ↦
          let refused = w.refuse.ensures.refused in
          listed_none now now reply refl (ap certificates_of (w.result-is ∙ refused.6) ∙ none_refused view.state.stopped view.rounds refused.2)
    ]

pub returns-else-rounds-clause-certificates : goal.returns-else-rounds-clause-certificates
returns-else-rounds-clause-certificates g c = c.answer-reply.ensures.certificates

pub returns-in_default-left-clause-certificates : goal.returns-in_default-left-clause-certificates
returns-in_default-left-clause-certificates g c = c.answer-reply.ensures.certificates

pub returns-in-Some-left-clause-certificates : goal.returns-in-Some-left-clause-certificates
returns-in-Some-left-clause-certificates g c = c.answer-reply.ensures.certificates
