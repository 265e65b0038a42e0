-- A pin is made, what a slot holds is read, and it is let go.
use Rattle.std.proofs.Common.{◌≡◌, inl, ◌≤◌, ◌<◌, ◌+◌, ℕ, [], length, take, Option, refl, sym, ap, ◌∙◌, subst, arith, append-nil}
use Rattle.std.specs.Prelude.{IfOk, IfSome}
use Rattle.std.proofs.lemmas.List.{take_all}
use Rattle.lethe_base.specs.History.{History, State, after}
use Rattle.lethe_base.specs.Read.{Answer, Read, answer}
use Rattle.lethe_base.specs.declared.call.Call.TheVariants.{Work}
use Rattle.lethe_base.specs.declared.config.Fields.{Fields}
use Rattle.lethe_base.specs.declared.refused.Refused.{Refused}
use Rattle.lethe_base.specs.declared.refused.Refused.TheVariants as refused
use Rattle.lethe_base.specs.declared.name.Name.{Name}
use Rattle.lethe_read.specs.Refusals.{IsReadRefusal}
use Rattle.lethe_disk.specs.declared.disk.Disk.{Ghosts}
use Rattle.lethe_manifest.specs.declared.manifest.Manifest.{Manifest}
use Rattle.lethe_snapshot.specs.declared.snapshot.Snapshot.{Snapshot}
use Rattle.lethe_state.specs.Clock.{clock_of}
use Rattle.lethe_stored.specs.Left.{without_failed}
use Rattle.lethe_core.specs.Asked.{Serves, behind}
use Rattle.lethe_core.specs.StandsNow.{StandsNow}
use Rattle.lethe_core.specs.View.{Face, View}
use Rattle.lethe_core.proofs.Histories.{after_without}
use Rattle.lethe_engine.specs.Answers as engine
use Rattle.lethe_engine.specs.StandsFor.{StandsSince}
use Rattle.lethe_script.specs.declared.order.Act.{Act}
use Rattle.lethe_script.specs.declared.order.Act.TheVariants as acts
use Rattle.lethe_run.specs.declared.reply.Reply.{Reply}
use Rattle.lethe_run.specs.declared.reply.Reply.TheVariants as reply
use Rattle.lethe_run.specs.Anywhere.{IsTold, entries_of, standing_of}
use Rattle.lethe_run.specs.Carried.{IsSeen, Limit, certificate_in, looked_in}
use Rattle.lethe_run.specs.Holding.{IsShown}
use Rattle.lethe_run.specs.Replies.{unread_of}
use Rattle.lethe_run.specs.Serving.{Advances, IsAnswered, IsBorneOn, IsLookedUp, IsOn, Point, opened_in}
use Rattle.lethe_run.specs.Pins.{pins_of, with_pin, without_pin}
use Rattle.lethe_run.specs.Transcript.{Answers, Course, Follows, IsAnswerAt, IsRead, Start, course}
use Rattle.lethe_run.proofs.Anywhere.{next_still}
use Rattle.lethe_run.proofs.Outcomes.{told_of}
use Rattle.lethe_run.proofs.Seen.{seen_later}

-- the clock of a store is that of its history, also where a change failed
clock_is : (config : Fields) (h : History) (view : View) → StandsNow config h view → view.state.manifest.clock ≡ (after h).clock
clock_is config h view stands = ap (λ (manifest : Manifest). manifest.clock) stands.remembers.manifest ∙ stands.stands.clock ∙ ap (λ (s : State). s.clock) (after_without h)

-- what is no change leaves the history as it was
pub looked : (Tells : Type 0) → Tells → (begin : Start) (from : Point) (h : History) (old new : View) → IsOn begin from h old → (why : Option Refused) (face : Face) → engine.Answers Tells (Serves Work) why face old new
    → behind h 0 (Serves Work) why ≡ h → Advances begin h h old new
looked Tells told begin from h old new on why face says same = record {
  calls = let run = says.goes told begin.config (opened_in begin from on.counted) h on.stands 0 in record { later = run.later; past = run.past };
  stands = λ point on. record {
    done = on.done;
    counted = on.counted;
    stands = subst (λ g. StandsSince begin.config (opened_in begin point on.counted) g new) same (says.stands told begin.config (opened_in begin point on.counted) h on.stands 0);
    faults_since = on.faults_since;
    moment_since = on.moment_since;
  };
}

module _ (Ports : Type 0) (begin : Start) (from : Point) (h : History) (caller : ℕ) (old new : View) (on : IsOn begin from h old) (goes : Advances begin h h old new) where
  abbrev Here : Course
  Here = course Ports begin new.faults new.disk.moment

  looks : (act : Act) (r : Reply) → IfSome (certificate_in r) (IsBorneOn begin h new) → IfSome (looked_in r) (IsSeen begin.config begin.moment h new.disk) → Answers (told_of h Here) caller act r → Follows Here (length h) r (length h) → (g : History) × IsAnswered Ports begin h g caller act r old new
  looks act r certified seen what follows = (h, record { grows = ([], sym (append-nil h)); answers = what; follows = follows; certified = certified; seen = seen; goes = goes })

  pub pin_served : (slot point number limit : ℕ) → point ≡ old.state.count → (old.state.manifest.clock < limit) × (limit ≤ begin.config.threshold + old.state.manifest.clock)
      → IsSeen begin.config begin.moment h old.disk (point, Limit limit) → (g : History) × IsAnswered Ports begin h g caller (acts.Pin slot) (reply.Pinned point number limit) old new
  pin_served slot point number limit at near seen =
      let all = at ∙ on.stands.now.count in
      let clock = clock_is begin.config h old on.stands.now ∙ ap (λ (l : History). (after l).clock) (sym (take_all point h (omega (arith, all)))) in
      looks (acts.Pin slot) (reply.Pinned point number limit) tt (seen_later begin.config begin.moment h h ([], sym (append-nil h)) old.disk new.disk goes.calls (point, Limit limit) seen)
      ((slot, refl), record { within = omega (arith, all); above = let above = near.0 in omega (arith, above, clock); near = let most = near.1 in omega (arith, most, clock) }) (all, refl)

  pub unpin_served : (slot point number : ℕ) → point ≡ old.state.count → (g : History) × IsAnswered Ports begin h g caller (acts.Unpin slot) (reply.Unpinned point number) old new
  unpin_served slot point number at =
      let all = at ∙ on.stands.now.count in
      looks (acts.Unpin slot) (reply.Unpinned point number) tt tt ((slot, refl), omega (arith, all)) (all, refl)

-- what a slot holds is read as the map was at its point
pub slot_answer : {D Page Port : Type 0} {kind : Ghosts D Page Port} (h : History) (snapshot : Snapshot D Page Port kind) (read : Read) (given : Answer) (point : ℕ) → point ≡ snapshot.point → IsShown h snapshot
    → answer (after (without_failed (take snapshot.point h))) read ≡ given → IsAnswerAt h point read given
slot_answer h snapshot read given point at shown is =
    let within = shown.within in
    record {
      within = omega (arith, at, within);
      is = sym is ∙ ap (λ s. answer s read) (after_without (take snapshot.point h)) ∙ ap (λ n. answer (after (take n h)) read) (sym at);
    }

pub slot_unread : (Ports : Type 0) (begin : Start) (faults moment : ℕ) (h : History) (caller : ℕ) (act : Act) → IsRead act → (why : Refused) → IsReadRefusal why → ((before behind : ℕ) → why ≡ refused.ReadFault before behind → Ports)
    → ((name : Name) → why ≡ refused.Damaged name → ⊥) → IfOk (unread_of why) (IsLookedUp Ports begin faults moment h caller act)
slot_unread Ports begin faults moment h caller act is (refused.ReadFault before behind) reason fails sound = ((inl is, fails before behind refl), refl, refl, refl)
slot_unread Ports begin faults moment h caller act is (refused.Damaged name) reason fails sound = absurd (sound name refl)
slot_unread Ports begin faults moment h caller act is refused.NoMemory reason fails sound = tt
slot_unread Ports begin faults moment h caller act is (refused.Fault place before behind) reason fails sound = absurd reason
slot_unread Ports begin faults moment h caller act is (refused.Stopped at) reason fails sound = absurd reason
slot_unread Ports begin faults moment h caller act is (refused.Exhausted last) reason fails sound = absurd reason
slot_unread Ports begin faults moment h caller act is (refused.Backwards clock) reason fails sound = absurd reason
slot_unread Ports begin faults moment h caller act is (refused.Pinned pin limit) reason fails sound = absurd reason
slot_unread Ports begin faults moment h caller act is refused.NothingDue reason fails sound = absurd reason
slot_unread Ports begin faults moment h caller act is (refused.Cancelled begun now) reason fails sound = absurd reason

-- On any disk

-- nothing but the pins changes
module _ (old new : View) (state : new.state ≡ old.state) (levels : new.levels ≡ old.levels) where
  pub pins_alone : standing_of new ≡ record (standing_of old) { pins = pins_of new }
  pins_alone = λ i. record {
    count = (state i).count;
    failed = (state i).stopped;
    clock = clock_of (state i).manifest;
    pins = pins_of new;
    next = (state i).next;
    entries = entries_of (levels i) (state i).manifest.files;
  }

  module _ (Ports : Type 0) (slot : ℕ) where
    pub pin_told : (point number limit : ℕ) → point ≡ old.state.count → number ≡ old.pins.made + 1 → pins_of new ≡ with_pin limit (pins_of old)
        → IsTold Ports old.faults new.faults (acts.Pin slot) (standing_of old) (reply.Pinned point number limit) (standing_of new)
    pin_told point number limit at next is = (((slot, refl), at, pins_alone), (next, is), next_still old new state)

    pub unpin_told : (point number : ℕ) → point ≡ old.state.count → pins_of new ≡ without_pin number (pins_of old)
        → IsTold Ports old.faults new.faults (acts.Unpin slot) (standing_of old) (reply.Unpinned point number) (standing_of new)
    unpin_told point number at is = ((at, pins_alone), is, next_still old new state)
