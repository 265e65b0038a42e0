-- The steps of a run, one after another, and the whole run.
use Rattle.std.proofs.Common.{◌≡◌, ◌≢◌, inl, inr, ℕ, ◌<◌, List, [], ◌∷◌, ◌++◌, map, Option, Some, None, refl, sym, ap, ◌∙◌, subst, append-nil, arith}
use Rattle.std.specs.Prelude.{option_map}
use Rattle.std.proofs.lemmas.List.Elements.{All-nil, All-tail}
use Rattle.std.proofs.lemmas.Option.{none-some, same_Some}
use Rattle.lethe_base.specs.History.{History}
use Rattle.lethe_base.specs.declared.config.Fields.{Fields}
use Rattle.lethe_cert.specs.declared.certificate.Certificate.{Certificate}
use Rattle.lethe_stored.specs.Stored.{Stored}
use Rattle.lethe_core.specs.View.{View}
use Rattle.lethe_engine.specs.StandsFor.{Opened, StandsFor}
use Rattle.lethe_drive.specs.Certificates.{certificates_in}
use Rattle.lethe_drive.specs.Driving.{IsDriven}
use Rattle.lethe_drive.specs.Moments.{Going, IsKnown, IsLater, IsMomentOf, Moment, moment_of}
use Rattle.lethe_drive.specs.Past.{AreEarlier, Run}
use Rattle.lethe_drive.specs.Steps.{IsEvent, IsRunOf, IsStep, Steps, cancel_for, cancels_for}
use Rattle.lethe_drive.specs.declared.event.Event.{Event}
use Rattle.lethe_drive.specs.declared.event.Event.TheVariants.{Cancel}
use Rattle.lethe_drive.specs.declared.event.Reply.{Reply}
use Rattle.lethe_drive.specs.declared.past.Past.{Past}
use Rattle.lethe_drive.proofs.Left.{given}
use Rattle.lethe_drive.proofs.Pins.{let_go}

-- one event more is answered
pub one_more : (PortsFail : Type 0) (config : Fields) (h : History) (old : Run) (events : List Event) (replies : List Reply) (g : History) (middle : Run) → Steps PortsFail config h old events replies g middle
    → (event : Event) (reply : Reply) (next : History) (new : Run) → IsEvent PortsFail g middle event reply next new → IsRunOf config next new → IsLater middle.now new.now
    → Steps PortsFail config h old (events ++ event ∷ []) (replies ++ reply ∷ []) next new
one_more PortsFail config h old [] [] g middle steps event reply next new step is later = (
  next,
  new,
  is,
  subst (λ (run : Run). IsLater run.now new.now) steps.1 later,
  subst (λ (h : History). IsEvent PortsFail h old event reply next new) steps.0 (subst (λ (run : Run). IsEvent PortsFail g run event reply next new) steps.1 step),
  (refl, refl),
)
one_more PortsFail config h old [] (answer ∷ replies) g middle steps event reply next new step is later = absurd steps
one_more PortsFail config h old (first ∷ events) [] g middle steps event reply next new step is later = absurd steps
one_more PortsFail config h old (first ∷ events) (answer ∷ replies) g middle steps event reply next new step is later =
    (steps.0, steps.1, steps.2, steps.3, steps.4, one_more PortsFail config steps.0 steps.1 events replies g middle steps.5 event reply next new step is later)

-- The jobs of earlier rounds, given up one after another

abbrev pub cancels_of : List Past → List Event
cancels_of past = map (λ (job : Past). Cancel job.number) past

abbrev pub run_at : Moment → List Past → Run
run_at now past = record { now = now; past = past }

given_steps : (PortsFail : Type 0) (config : Fields) (h : History) (now : Moment) → IsMomentOf config h now → (past : List Past) → AreEarlier now.rounds past
    → Steps PortsFail config h (run_at now past) (cancels_of past) (given now.state.stopped past) h (run_at now [])
given_steps PortsFail config h now is [] earlier = (refl, refl)
given_steps PortsFail config h now is (job ∷ past) earlier =
    let rest = All-tail (λ (job : Past). job.round < now.rounds) job past earlier in (
      h,
      run_at now past,
      record { now = is; earlier = rest },
      record { faults = omega arith; port_faults = omega arith; pinned = λ name was now. refl; retired = λ name is. inl is },
      inl (record { front = []; job = job; back = past; among = refl; number_is = refl; answer_is = refl; history = refl; now = refl; past = refl }),
      given_steps PortsFail config h now is past rest,
    )

-- The job that is left, by its number

abbrev number_of : Option Going → Option ℕ
number_of there = option_map (λ (going : Going). going.number) there

no_number : (there : Option Going) → number_of there ≡ None → there ≡ None
no_number None is = refl
no_number (Some going) is = absurd (none-some going.number (sym is))

numbered : (there : Option Going) (number : ℕ) → number_of there ≡ Some number → (going : Going) × (there ≡ Some going) × (going.number ≡ number)
numbered None number is = absurd (none-some number is)
numbered (Some going) number is = (going, refl, same_Some going.number number is)

module _ (PortsFail : Type 0) (config : Fields) (h : History) (start : Moment) (begins : IsMomentOf config h start) (events : List Event) (answered : List Reply) (history : History) (old : View) (s : Stored) (fetches faults begun : ℕ)
    (there : Option Going) (snapshots : List ℕ) (past : List Past) (steps : Steps PortsFail config h (run_at start []) events answered history (run_at (moment_of old s fetches faults begun there snapshots) past))
    (is_now : IsMomentOf config history (moment_of old s fetches faults begun there snapshots)) (earlier : AreEarlier old.rounds past) where
  abbrev now : Moment
  now = moment_of old s fetches faults begun there snapshots

  abbrev middle : Run
  middle = run_at now past

  -- those of earlier rounds
  ended : Steps PortsFail config history middle (cancels_of past) (given old.state.stopped past) history (run_at now [])
  ended = given_steps PortsFail config history now is_now past earlier

  -- none is left
  pub driven_free : number_of there ≡ None → (end : View) → end ≡ let_go snapshots old → IsMomentOf config history (moment_of end s fetches faults begun None [])
      → IsDriven PortsFail config h start events (answered ++ given old.state.stopped past) history (moment_of end s fetches faults begun None [])
  driven_free none end go ends =
      let free : there ≡ None = no_number there none in
      let all : cancels_for middle ≡ cancels_of past = ap (λ (there : Option Going). cancels_of past ++ cancel_for there) free ∙ append-nil (cancels_of past) in
      record {
        begins = begins;
        history = history;
        middle = middle;
        answered = answered;
        steps = steps;
        given_up = given old.state.stopped past;
        last = now;
        cancels = subst (λ (events : List Event). Steps PortsFail config history middle events (given old.state.stopped past) history (run_at now [])) (sym all) ended;
        replies_are = refl;
        finish_is = ap (λ (view : View). moment_of view s fetches faults begun None []) go ∙ (λ i. moment_of (let_go snapshots old) s fetches faults begun (sym free i) []);
        ended = refl;
        ends = ends;
      }

  module _ (number : ℕ) (left : number_of there ≡ Some number) where
    cancelled : cancels_for middle ≡ cancels_of past ++ Cancel number ∷ []
    cancelled =
        let its = numbered there number left in
        ap (λ (there : Option Going). cancels_of past ++ cancel_for there) its.1 ∙ ap (λ (n : ℕ). cancels_of past ++ Cancel n ∷ []) its.2

    gone_behind : (reply : Reply) (g : History) (finish : Moment) → IsStep PortsFail history now (Cancel number) reply g finish → finish.there ≡ None
    gone_behind reply g finish (inl none) = let its = numbered there number left in absurd (none.none its.0 (its.1, its.2))
    gone_behind reply g finish (inr was) = was.4.there

    -- it is given up
    pub driven_on : (reply : Reply) (g : History) (new : View) (t : Stored) (behind : ℕ) (last : Option Going) → IsMomentOf config g (moment_of new t fetches faults behind last snapshots)
        → IsLater now (moment_of new t fetches faults behind last snapshots) → IsStep PortsFail history now (Cancel number) reply g (moment_of new t fetches faults behind last snapshots) → new.rounds ≡ old.rounds → (end : View) → end ≡ let_go snapshots new
        → IsMomentOf config g (moment_of end t fetches faults behind None [])
        → IsDriven PortsFail config h start events (answered ++ (given old.state.stopped past ++ reply ∷ [])) g (moment_of end t fetches faults behind None [])
    driven_on reply g new t behind last is later step rounds end go ends =
        let finish = moment_of new t fetches faults behind last snapshots in
        let gone : last ≡ None = gone_behind reply g finish step in
        let none_earlier : (rounds : ℕ) → AreEarlier rounds [] = λ rounds. All-nil (λ (job : Past). job.round < rounds) in
        let event : IsEvent PortsFail history (run_at now []) (Cancel number) reply g (run_at finish []) =
        inr (All-nil (λ (job : Past). job.number ≢ number), (step, record { rounds = rounds; past = refl })) in
        let its : Steps PortsFail config history middle (cancels_of past ++ Cancel number ∷ []) (given old.state.stopped past ++ reply ∷ []) g (run_at finish []) =
        one_more PortsFail config history middle (cancels_of past) (given old.state.stopped past) history (run_at now []) ended (Cancel number) reply g (run_at finish []) event
        (record { now = is; earlier = none_earlier new.rounds }) later in
        let cancels = subst (λ (events : List Event). Steps PortsFail config history middle events (given old.state.stopped past ++ reply ∷ []) g (run_at finish [])) (sym cancelled) its in
        record {
          begins = begins;
          history = history;
          middle = middle;
          answered = answered;
          steps = steps;
          given_up = given old.state.stopped past ++ reply ∷ [];
          last = finish;
          cancels = cancels;
          replies_are = refl;
          finish_is = ap (λ (view : View). moment_of view t fetches faults behind None []) go ∙ (λ i. moment_of (let_go snapshots new) t fetches faults behind (sym gone i) []);
          ended = refl;
          ends = ends;
        }

-- A run has ended with the store in this view, over these events and with these replies.
module _ (PortsFail : Type 0) (config : Fields) (opened : Opened) (h : History) (certificates : List Certificate) (start : Moment) (fetches faults : ℕ) where
  abbrev pub Ended : View → List Event → List Reply → Type 0
  Ended view events replies =
      (g : History) × (t : Stored) × IsKnown config g view t × StandsFor config opened g view (certificates ++ certificates_in replies) × (begun : ℕ) × IsDriven PortsFail config h start events replies g (moment_of view t fetches faults begun None [])

  pub ended_as : (view : View) (events : List Event) (replies : List Reply) → Ended view events replies → (same : View) (all : List Event) (whole : List Reply) → same ≡ view → all ≡ events → whole ≡ replies
      → Ended same all whole
  ended_as view events replies ended same all whole is every each =
      subst (λ (view : View). Ended view all whole) (sym is) (subst (λ (events : List Event). Ended view events whole) (sym every) (subst (λ (replies : List Reply). Ended view events replies) (sym each) ended))
