-- Ticks.
use Rattle.std.proofs.Common.{◌≡◌, ◌↔◌, ◌⊎◌, inl, inr, ◌≤◌, ◌<◌, ℕ, ◌+◌, Bool, true, false, List, [], ◌∷◌, Option, Some, None, Result, Ok, Err, refl, sym, ap, ◌∙◌, subst, arith}
use Rattle.std.specs.Prelude.{◌&&◌, IfErr, IfOk, IfSome, IsSome, OnOk, if◌then◌else◌, is_none}
use Rattle.std.specs.Result.{result_err}
use Rattle.std.proofs.lemmas.Bool.{cases_lt, le-leb, lt-ltb}
use Rattle.lethe_base.specs.History.{History, State, after}
use Rattle.lethe_base.specs.Limits.{max_place}
use Rattle.lethe_base.specs.declared.call.Call.TheVariants as call
use Rattle.lethe_base.specs.declared.call.Did.TheVariants.{Done}
use Rattle.lethe_base.specs.declared.config.Fields.{Fields}
use Rattle.lethe_base.specs.declared.refused.Refused.{Refused}
use Rattle.lethe_base.specs.declared.refused.Refused.TheVariants.{Backwards, Exhausted, Pinned, Stopped}
use Rattle.lethe_base.proofs.Histories.{after-push}
use Rattle.lethe_cover.specs.Steps.{with_done}
use Rattle.lethe_follows.specs.Ticked.{ticked}
use Rattle.lethe_pins.specs.Held.{Held, first_limit_of}
use Rattle.lethe_pins.specs.declared.pin.Pin.{Pin}
use Rattle.lethe_manifest.specs.declared.manifest.Manifest.{Manifest}
use Rattle.lethe_stored.specs.Clean.{IsClean}
use Rattle.lethe_stored.specs.Stored.{Stored}
use Rattle.lethe_state.specs.Room.{IsShortToFlush, IsShortToFreeze}
use Rattle.lethe_core.specs.Asked.{Makes, behind, failure_of, refused_to}
use Rattle.lethe_core.specs.Merges.{AreOutcomesBy, Outcome, due_choice, pages_of}
use Rattle.lethe_core.specs.Pinned.{AreNamed}
use Rattle.lethe_core.specs.Reasons.{HasReason, IsUnreadable}
use Rattle.lethe_core.specs.Running.{Holds}
use Rattle.lethe_core.specs.View.{Face, View, face_of}
use Rattle.lethe_core.proofs.Asked.{refused_none}
use Rattle.lethe_core.proofs.Installing.{planned_for, sound_inputs}
use Rattle.lethe_engine.specs.Ticks.{IsCertificateAt, IsRipened, IsShortToTick, IsTickedInPart}
use Rattle.lethe_engine.specs.Answers.{IsRefused, IsStill}
use Rattle.lethe_engine.specs.StandsFor.{Opened, StandsSince}
use Rattle.lethe_engine.specs.Ticks as engine
use Rattle.lethe_engine.specs.Certificates.{IsTrueCertificate}
use Rattle.lethe_engine.specs.declared.ticking.Ticked.{Ticked}
use Rattle.lethe_engine.proofs.Clean.{now_clean}
use Rattle.lethe_drive.specs.Moments.{Going, IsAllButPort, IsKnown, Moment, moment_of}
use Rattle.lethe_drive.specs.Ticks.{EndsRound, HasReasonOfTick, IsBarred, IsShortToRipen, IsTick, passes}
use Rattle.lethe_drive.proofs.Knowing.{known_held, not_stopped, ok_or_err, refused_known, stopped_same}
use Rattle.lethe_drive.proofs.Outputs.{told_outputs}
use Rattle.lethe_drive.proofs.Reasons.{reason_on, unreadable_told}

-- Whether the round ends

-- the jobs behind a tick, by whether it passed the tests
abbrev face_if : View → Bool → Face
face_if view passed = if passed then record (face_of view) { rounds = view.rounds + 1; flights = [] } else face_of view

module _ (to : ℕ) (old new : View) (face : face_of new ≡ engine.ticked_face old to) where
  pub face_ends : engine.passes old to ≡ true → face_of new ≡ face_if old true
  face_ends is = face ∙ ap (face_if old) is

  pub face_stays : engine.passes old to ≡ false → face_of new ≡ face_of old
  face_stays is = face ∙ ap (face_if old) is

  -- it does where one round more has ended
  pub passed : old.rounds < new.rounds → engine.passes old to ≡ true
  passed more = by (engine.passes old to) refl
    where
      by : (passed : Bool) → engine.passes old to ≡ passed → engine.passes old to ≡ true
      by true is = is
      by false is = let same : new.rounds ≡ old.rounds = ap (λ (face : Face). face.rounds) (face_stays is) in absurd (omega (arith, more, same))

  pub not_passed : new.rounds ≤ old.rounds → engine.passes old to ≡ false
  not_passed few = by (engine.passes old to) refl
    where
      by : (passed : Bool) → engine.passes old to ≡ passed → engine.passes old to ≡ false
      by true is = let more : new.rounds ≡ old.rounds + 1 = ap (λ (face : Face). face.rounds) (face_ends is) in absurd (omega (arith, few, more))
      by false is = is

abbrev five : Bool → Bool → Bool → Bool → Bool → Bool
five a b c d e = a && b && c && d && e

-- each test is passed
passes_all : (view : View) (to : ℕ) → view.state.stopped ≡ None → view.state.manifest.clock ≤ to → view.state.count < max_place → view.rounds < max_place → engine.lets_pass view.pins.pins to ≡ true
    → engine.passes view to ≡ true
passes_all view to runs forward place round free = λ i.
    five (is_none (runs i)) (le-leb view.state.manifest.clock to forward i) (lt-ltb view.state.count max_place place i) (lt-ltb view.rounds max_place round i) (free i)

-- all pins let a time pass, or the first of them bars it
free_or_barred : (pins : List Pin) (to : ℕ) → (engine.lets_pass pins to ≡ true) ⊎ ((pin limit : ℕ) × (first_limit_of pins ≡ Some (pin, limit)) × (limit ≤ to))
free_or_barred [] to = inl refl
free_or_barred (pin ∷ pins) to = elim (cases_lt to pin.limit) [ inl before ↦ inl (lt-ltb to pin.limit before) | inr reached ↦ inr (pin.number, pin.limit, refl, reached) ]

-- the clock behind a tick
ticked_clock : (h : History) (to : ℕ) → (after (with_done h 0 (call.Tick to))).clock ≡ to
ticked_clock h to = ap (λ (state : State). state.clock) (after-push h (record { caller = 0; call = call.Tick to; did = Done }))

-- what the tests answer, and then nothing is done
pub record Tested (to : ℕ) (old new : View) (result : Result Ticked Refused) : Type 1 where
  pub stops : (at : ℕ) → old.state.stopped ≡ Some at → (result ≡ Err (Stopped at)) × (new ≡ old)
  pub backwards : old.state.stopped ≡ None → to < old.state.manifest.clock → (result ≡ Err (Backwards old.state.manifest.clock)) × (new ≡ old)
  pub last : old.state.stopped ≡ None → old.state.manifest.clock ≤ to → (old.state.count ≡ max_place) ⊎ (max_place ≤ old.rounds) → (result ≡ Err (Exhausted max_place)) × (new ≡ old)
  pub pinned : engine.IsTickable old to → (pin limit : ℕ) → first_limit_of old.pins.pins ≡ Some (pin, limit) → limit ≤ to → (result ≡ Err (Pinned pin limit)) × (new ≡ old)

module _ (Tells PortsFail : Type 0) (told : Tells) (to : ℕ) (config : Fields) (opened : Opened) (h : History) (old new : View) (s : Stored) (known : IsKnown config h old s)
    (fetches_before fetches_now faults_before faults_now begun : ℕ) (there gone : Option Going) (snapshots : List ℕ) (stands : StandsSince config opened h old) (face : face_of new ≡ engine.ticked_face old to) (pins : new.pins ≡ old.pins) where
  abbrev before : Moment
  before = moment_of old s fetches_before faults_before begun there snapshots

  abbrev later : Stored → Moment
  later t = moment_of new t fetches_now faults_now begun gone snapshots

  -- what a tick comes to
  abbrev pub Ticks : Result Ticked Refused → Type 0
  Ticks result = (t : Stored) × IsKnown config (behind h 0 (Makes (call.Tick to)) (result_err result)) new t
      × IsTick PortsFail to h before result (behind h 0 (Makes (call.Tick to)) (result_err result)) (later t)

  -- the steps before the last were done, and then that
  abbrev pub Carried : Type 0
  Carried = (ripe t : Stored) × (outcomes : List Outcome) × (number : ℕ) × IsRipened to s ripe × AreOutcomesBy (due_choice to) ripe outcomes t × Holds new (ticked t to number)
      × (fetches_now ≡ fetches_before + pages_of outcomes)

  -- numbers are short for a step
  abbrev IsShort : Type 0
  IsShort = (max_place ≤ old.rounds) ⊎ IsShortToTick Tells to new

  abbrev IsShortBehind : Stored → Type 0
  IsShortBehind t = (max_place ≤ old.rounds) ⊎ IsShortToFlush new.state ⊎ IsShortToFreeze new.state ⊎ IsShortToRipen to (later t)

  -- The tests are not passed

  -- why, and that nothing was done
  record First (result : Result Ticked Refused) : Type 1 where
    why : Refused
    is : result ≡ Err why
    none : failure_of why ≡ None
    reason : (t : Stored) → HasReasonOfTick PortsFail to before (later t) why
    same : new ≡ old

  all_same : (view : View) → view ≡ old → (left : Option Going) → left ≡ there → IsAllButPort before (moment_of view s fetches_now faults_now begun left snapshots)
  all_same view same left is = subst (λ (left : Option Going). IsAllButPort before (moment_of view s fetches_now faults_now begun left snapshots)) (sym is)
      (subst (λ (view : View). IsAllButPort before (moment_of view s fetches_now faults_now begun there snapshots)) (sym same)
      (record { stored = refl; state = refl; levels = refl; retired = refl; pins = refl; flights = refl; directory = refl; calls = refl; faults = refl; begun = refl; there = refl; snapshots = refl }))

  known_same : (view : View) → view ≡ old → (g : History) → g ≡ h → IsKnown config g view s
  known_same view same g is = subst (λ (g : History). IsKnown config g view s) (sym is) (subst (λ (view : View). IsKnown config h view s) (sym same) known)

  -- a pin bars it where that is said
  barred_of : (t : Stored) (why : Refused) → HasReasonOfTick PortsFail to before (later t) why → (pin limit : ℕ) → why ≡ Pinned pin limit → IsBarred to before pin limit
  barred_of t why (inl behind) pin limit is = absurd (let both : Backwards old.state.manifest.clock ≡ Pinned pin limit = sym behind.2 ∙ is in cc)
  barred_of t why (inr (inl barred)) pin limit is =
      let both : Pinned barred.0 barred.1 ≡ Pinned pin limit = sym barred.3 ∙ is in
      let same_pin : barred.0 ≡ pin = cc in
      let same_limit : barred.1 ≡ limit = cc in
      subst (IsBarred to before pin) same_limit (subst (λ (n : ℕ). IsBarred to before n barred.1) same_pin barred.2)
  barred_of t why (inr (inr (inl reason))) pin limit is = absurd (subst (HasReason (IsShortBehind t) old.state old.faults new.faults) is reason)
  barred_of t why (inr (inr (inr unread))) pin limit is = absurd (subst (IsUnreadable (Unit {0}) PortsFail faults_before faults_now) is unread.1)

  barred_refused : (result : Result Ticked Refused) → Tested to old new result → (pin limit : ℕ) → IsBarred to before pin limit → result ≡ Err (Pinned pin limit)
  barred_refused result tested pin limit is = (tested.pinned (record { runs = is.runs; forward = is.forward; place = is.place; round = is.round }) pin limit is.first is.reached).0

  pinned : (why : Refused) → ((pin limit : ℕ) → IsBarred to before pin limit → ◌≡◌ {A = Result Ticked Refused} (Err why) (Err (Pinned pin limit))) → (t : Stored) → HasReasonOfTick PortsFail to before (later t) why
      → (pin limit : ℕ) → ◌↔◌ (◌≡◌ {A = Result Ticked Refused} (Err why) (Err (Pinned pin limit))) (IsBarred to before pin limit)
  pinned why refused t reason pin limit = (λ e. barred_of t why reason pin limit (let both : ◌≡◌ {A = Result Ticked Refused} (Err why) (Err (Pinned pin limit)) = e in cc), refused pin limit)

  module _ (result : Result Ticked Refused) (tested : Tested to old new result) where
    full : old.state.stopped ≡ None → old.state.manifest.clock ≤ to → (old.state.count ≡ max_place) ⊎ (max_place ≤ old.rounds) → First result
    full runs forward none =
        let is = tested.last runs forward none in
        let cause : (t : Stored) → (old.state.count ≡ max_place) ⊎ IsShortBehind t = λ t. elim none [ inl place ↦ inl place | inr round ↦ inr (inl round) ] in
        record { why = Exhausted max_place; is = is.0; none = refl; reason = λ t. inr (inr (inl (runs, refl, cause t))); same = is.1 }

    -- a pin bars it, where there is a place and a round
    free : passes before to ≡ false → old.state.stopped ≡ None → old.state.manifest.clock ≤ to → old.state.count < max_place → old.rounds < max_place → First result
    free not runs forward place round = elim (free_or_barred old.pins.pins to) [
      | inl pass ↦ absurd (let both : true ≡ false = sym (passes_all old to runs forward place round pass) ∙ not in cc)
      | inr barred ↦
          let tickable : engine.IsTickable old to = record { runs = runs; forward = forward; place = place; round = round } in
          let is = tested.pinned tickable barred.0 barred.1 barred.2 barred.3 in
          let bars : IsBarred to before barred.0 barred.1 = record { runs = runs; forward = forward; place = place; round = round; first = barred.2; reached = barred.3 } in
          record { why = Pinned barred.0 barred.1; is = is.0; none = refl; reason = λ t. inr (inl (barred.0, barred.1, bars, refl)); same = is.1 }
    ]

    places : old.state.count ≤ max_place → passes before to ≡ false → old.state.stopped ≡ None → old.state.manifest.clock ≤ to → (old.state.count < max_place) ⊎ (max_place ≤ old.state.count)
        → (old.rounds < max_place) ⊎ (max_place ≤ old.rounds) → First result
    places limit not runs forward (inr place) round = full runs forward (inl (omega (arith, place, limit)))
    places limit not runs forward (inl place) (inr round) = full runs forward (inr round)
    places limit not runs forward (inl place) (inl round) = free not runs forward place round

    first : old.state.count ≤ max_place → passes before to ≡ false → First result
    first limit not = by old.state.stopped refl
      where
        by : (stopped : Option ℕ) → old.state.stopped ≡ stopped → First result
        by (Some at) stopped = let is = tested.stops at stopped in record { why = Stopped at; is = is.0; none = refl; reason = λ t. inr (inr (inl stopped)); same = is.1 }
        by None runs = elim (cases_lt to old.state.manifest.clock) [
          | inl behind ↦ let is = tested.backwards runs behind in record { why = Backwards old.state.manifest.clock; is = is.0; none = refl; reason = λ t. inl (runs, behind, refl); same = is.1 }
          | inr forward ↦ places limit not runs forward (cases_lt old.state.count max_place) (cases_lt old.rounds max_place)
        ]

    -- the tick does nothing
    pub tick_stays : old.state.count ≤ max_place → passes before to ≡ false → gone ≡ there → Ticks result
    tick_stays limit not stays =
        let cause = first limit not in
        let why = cause.why in
        let stops : (at : ℕ) → old.state.stopped ≡ Some at → ◌≡◌ {A = Result Ticked Refused} (Err why) (Err (Stopped at)) = λ at e. sym cause.is ∙ (tested.stops at e).0 in
        subst Ticks (sym cause.is) (
          s,
          known_same new cause.same (refused_to h 0 (call.Tick to) why) (refused_none h 0 (call.Tick to) why cause.none),
          record {
            answers = record { history = refl; reason = cause.reason s; begun = λ none. inl (inl refl) };
            stops = stops;
            backwards = λ runs behind. sym cause.is ∙ (tested.backwards runs behind).0;
            last = λ runs forward none. sym cause.is ∙ (tested.last runs forward none).0;
            pinned = pinned why (λ pin limit barred. sym cause.is ∙ barred_refused result tested pin limit barred) s (cause.reason s);
            pins = record { held = pins; snapshots = refl };
            round = λ passed. absurd (let both : true ≡ false = sym passed ∙ not in cc);
            same = λ e. (all_same new cause.same gone stays, ap (λ (view : View). view.rounds) cause.same);
          },
        )

  -- The tests are passed

  module _ (all : engine.passes old to ≡ true) (none : gone ≡ None) where
    ends : (t : Stored) → EndsRound before (later t)
    ends t =
        let is = face_ends to old new face all in
        record { rounds = ap (λ (face : Face). face.rounds) is; flights = ap (λ (face : Face). face.flights) is; there = none; begun = refl }

    never : {A : Type 0} → passes before to ≡ false → A
    never not = absurd (let both : true ≡ false = sym all ∙ not in cc)

    module _ (why : Refused) (stood : StandsSince config opened (refused_to h 0 (call.Tick to) why) new) where
      -- what is refused for want of numbers is in no history, so nothing was stopped
      still_runs : (last : ℕ) → why ≡ Exhausted last → old.state.stopped ≡ None → new.state.stopped ≡ None
      still_runs last full runs =
          let still = subst (λ (why : Refused). StandsSince config opened (refused_to h 0 (call.Tick to) why) new) full stood in
          stopped_same config h old new stands.now still.now ∙ runs

      -- the job for which numbers are short is one of what is stored
      short_on : (t : Stored) → Holds new t → IsShort → IsShortBehind t
      short_on t holds (inl rounds) = inl rounds
      short_on t holds (inr (inl flush)) = inr (inl flush)
      short_on t holds (inr (inr (inl freeze))) = inr (inr (inl freeze))
      short_on t holds (inr (inr (inr short))) =
          let begun = short.begun told t holds in
          let sound = sound_inputs t holds.remembers.coherent short.task (planned_for t short.task begun.planned) in
          inr (inr (inr (record { task = short.task; begun = begun; made = short.made; are = told_outputs Tells short.task short.made short.outputs told sound; short = short.short })))

      tick_reason : (t : Stored) → IsKnown config (refused_to h 0 (call.Tick to) why) new t → engine.HasReasonOfTick Tells PortsFail to old new faults_before faults_now why
          → HasReasonOfTick PortsFail to before (later t) why
      tick_reason t is (inl behind) = inl behind
      tick_reason t is (inr (inl barred)) =
          let may = barred.0 in
          let bars = barred.1 in
          inr (inl (bars.pin, bars.limit, record { runs = may.runs; forward = may.forward; place = may.place; round = may.round; first = bars.first; reached = bars.reached }, bars.told))
      tick_reason t is (inr (inr (inl reason))) = inr (inr (inl (reason_on IsShort (IsShortBehind t) old.state old.state old.faults new.faults refl refl why reason
          (λ last full runs short. short_on t (is.held (still_runs last full runs)) short))))
      tick_reason t is (inr (inr (inr unread))) = inr (inr (inr (unread.0, unreadable_told Tells PortsFail faults_before faults_now why told unread.1)))

    -- the round ends, whatever the tick answers
    pub tick_ends : (result : Result Ticked Refused) → Tested to old new result → StandsSince config opened (behind h 0 (Makes (call.Tick to)) (result_err result)) new → (IsSome old.state.stopped → IsStill Tells old new)
        → IfSome (result_err result) (IsRefused Tells (Makes (call.Tick to)) old new) → IfOk result (λ answer. (answer.place ≡ old.state.count + 1) × (answer.clock ≡ to)) → (Holds old s → OnOk result Carried) → OnOk result (AreNamed new.pins.pins new.retired)
        → IfErr result (engine.HasReasonOfTick Tells PortsFail to old new faults_before faults_now) → IfOk result (λ answer. IsCertificateAt new.state.manifest.config.threshold to answer.certificate)
        → IfOk result (λ answer. IfSome answer.certificate (λ certificate. IsTrueCertificate config.threshold certificate new.disk.directory (with_done h 0 (call.Tick to)))) → Ticks result
    tick_ends (Ok answer) tested stood still refused told_as carried named why due is_true =
        let made = carried (known.held (not_stopped old.state.stopped (λ at e. ok_or_err answer (Stopped at) (tested.stops at e).0))) in
        let g = with_done h 0 (call.Tick to) in
        let clean : IsClean config.threshold new.disk.directory g to = subst (IsClean config.threshold new.disk.directory g) (ticked_clock h to) (now_clean config g new stood.pages stood.now made.6.running.current.runs) in (
          ticked made.1 to made.3,
          known_held config opened g new stood (ticked made.1 to made.3) made.6,
          record {
            answers = record {
              place_is = told_as.0 ∙ ap (λ n. n + 1) stands.now.count;
              clock_is = told_as.1;
              history = refl;
              ripe = made.0;
              ripened = made.4;
              outcomes = made.2;
              merged = made.1;
              merges = made.5;
              number = made.3;
              stored = refl;
              retired = subst (λ (held : Held). AreNamed held.pins new.retired) pins named;
              fetches = made.7;
              clean = subst (λ (fields : Fields). IsClean fields.threshold new.disk.directory g to) (sym known.config_is) clean;
              due = subst (λ n. IsCertificateAt n to answer.certificate) (ap (λ (m : Manifest). m.config.threshold) stood.now.remembers.manifest ∙ ap (λ (fields : Fields). fields.threshold) (stood.now.config_is ∙ sym known.config_is)) due;
              is_true = subst (λ (fields : Fields). IfSome answer.certificate (λ certificate. IsTrueCertificate fields.threshold certificate new.disk.directory g)) (sym known.config_is) is_true;
            };
            stops = λ at e. (tested.stops at e).0;
            backwards = λ runs behind. (tested.backwards runs behind).0;
            last = λ runs forward none. (tested.last runs forward none).0;
            pinned = λ pin limit. (λ e. absurd (ok_or_err answer (Pinned pin limit) e), barred_refused (Ok answer) tested pin limit);
            pins = record { held = pins; snapshots = refl };
            round = λ passed. ends (ticked made.1 to made.3);
            same = λ not. never not;
          },
        )
    tick_ends (Err why) tested stood still refused told_as carried named reason due is_true =
        let comes = refused_known Tells config opened h old new s known (call.Tick to) why stood still (IsTickedInPart to s) (inl (inl refl)) (λ fine holds. refused.1 fine told s holds) in (
          comes.0,
          comes.1,
          record {
            answers = record { history = refl; reason = tick_reason why stood comes.0 comes.1 reason; begun = comes.2 };
            stops = λ at e. (tested.stops at e).0;
            backwards = λ runs behind. (tested.backwards runs behind).0;
            last = λ runs forward none. (tested.last runs forward none).0;
            pinned = pinned why (barred_refused (Err why) tested) comes.0 (tick_reason why stood comes.0 comes.1 reason);
            pins = record { held = pins; snapshots = refl };
            round = λ passed. ends comes.0;
            same = λ not. never not;
          },
        )
