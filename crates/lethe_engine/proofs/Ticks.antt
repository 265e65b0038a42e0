-- Ticks: the tests that come first, the round that begins, and what is gone behind one.
use Rattle.std.proofs.Common.{◌≡◌, ◌≤◌, ◌<◌, ◌+◌, ◌⊎◌, inl, inr, ℕ, List, [], ◌∷◌, map, Some, None, Option, refl, sym, ap, ◌∙◌, subst, arith}
use Rattle.std.specs.Prelude.{All, Bool, true, false, ◌&&◌, if◌then◌else◌, is_none, nat_le, nat_lt, unwrap_or}
use Rattle.std.proofs.lemmas.List.Elements.{All-head, All-nil, All-weaker}
use Rattle.std.proofs.lemmas.Bool.{le-leb, le-ltb, lt-leb, lt-ltb}
use Rattle.lethe_base.proofs.Histories.{after-push}
use Rattle.lethe_base.specs.History.{History, State, after}
use Rattle.lethe_base.specs.Limits.{max_place}
use Rattle.lethe_base.specs.declared.call.Call.TheVariants.{Tick, Work}
use Rattle.lethe_base.specs.declared.call.Did.TheVariants.{Done}
use Rattle.lethe_base.specs.declared.config.Fields.{Fields}
use Rattle.lethe_base.specs.declared.name.Kind.TheVariants.{Page}
use Rattle.lethe_base.specs.declared.refused.Refused.{Refused}
use Rattle.lethe_base.specs.declared.refused.Refused.TheVariants.{Fault, Stopped, Backwards, Pinned, NothingDue, Cancelled, Exhausted, ReadFault, NoMemory, Damaged}
use Rattle.lethe_cover.specs.Steps.{with_done}
use Rattle.lethe_stored.specs.Clean.{IsClean}
use Rattle.lethe_stored.specs.Stored.{Stored}
use Rattle.lethe_pins.specs.Held.{IsFirst, first_limit_of}
use Rattle.lethe_pins.specs.declared.pin.Pin.{Pin}
use Rattle.lethe_core.specs.Asked.{failure_of}
use Rattle.lethe_core.specs.Keeps.{MayStep}
use Rattle.lethe_core.specs.Reasons.{HasReason, IsUnreadable}
use Rattle.lethe_core.specs.Running.{Holds, IsRunning, IsSound}
use Rattle.lethe_core.specs.StandsNow.{IsOpenOrStopped, StandsNow}
use Rattle.lethe_core.specs.Steps.{IsDoneInPart}
use Rattle.lethe_core.specs.View.{Face, View, face_of, limited_of}
use Rattle.lethe_core.proofs.Behind.{reason_behind}
use Rattle.lethe_tick.specs.Ripened.{IsShortToTick}
use Rattle.lethe_engine.specs.Gone.{HoldsNothingErased}
use Rattle.lethe_engine.specs.Ticks.{HasReasonOfTick, IsBarred, IsTickable, MayRefuseTick, lets_pass, passes, ticked_face}
use Rattle.lethe_engine.proofs.Clean.{now_clean}
use Rattle.lethe_engine.proofs.Reasons.{IsTold, reason_told, unreadable_told}

-- The tests

abbrev five : Bool → Bool → Bool → Bool → Bool → Bool
five a b c d e = a && b && c && d && e

fifth_false : (a b c d : Bool) → five a b c d false ≡ false
fifth_false false b c d = refl
fifth_false true false c d = refl
fifth_false true true false d = refl
fifth_false true true true false = refl
fifth_false true true true true = refl

fourth_false : (a b c e : Bool) → five a b c false e ≡ false
fourth_false false b c e = refl
fourth_false true false c e = refl
fourth_false true true false e = refl
fourth_false true true true e = refl

third_false : (a b d e : Bool) → five a b false d e ≡ false
third_false false b d e = refl
third_false true false d e = refl
third_false true true d e = refl

second_false : (a c d e : Bool) → five a false c d e ≡ false
second_false false c d e = refl
second_false true c d e = refl

-- The pins

-- where all limits are above the time the first one is
lets_all : (pins : List Pin) (to : ℕ) → All (λ (pin : Pin). to < pin.limit) pins → lets_pass pins to ≡ true
lets_all [] to all = refl
lets_all (pin ∷ pins) to all = lt-ltb to pin.limit (All-head (λ (pin : Pin). to < pin.limit) pin pins all)

-- where the first one is at most the time it bars
lets_not : (pins : List Pin) (to number limit : ℕ) → first_limit_of pins ≡ Some (number, limit) → limit ≤ to → lets_pass pins to ≡ false
lets_not [] to number limit first reached = absurd (let clash : None ≡ Some (number, limit) = first in cc)
lets_not (pin ∷ pins) to number limit first reached =
    let same : pin.limit ≡ limit = ap (λ (found : Option (ℕ × ℕ)). (unwrap_or found (number, limit)).1) first in
    le-ltb to pin.limit (omega (arith, same, reached))

-- where none is held all let it pass
pub none_bars : (pins : List Pin) (to : ℕ) → first_limit_of pins ≡ None → All (λ (pin : Pin). to < pin.limit) pins
none_bars [] to none = All-nil (λ (pin : Pin). to < pin.limit)
none_bars (pin ∷ pins) to none = absurd (let clash : Some (pin.number, pin.limit) ≡ None = none in cc)

-- and where the least limit is above the time
pub least_passes : (pins : List Pin) (to number limit : ℕ) → All (IsFirst number limit) pins → to < limit → All (λ (pin : Pin). to < pin.limit) pins
least_passes pins to number limit least above = All-weaker (IsFirst number limit) (λ (pin : Pin). to < pin.limit) (λ pin is. let low = is.limit in omega (arith, low, above)) pins least

-- a pin that bars isn't passed
pub barred_not : (pins : List Pin) (to number limit : ℕ) → first_limit_of pins ≡ Some (number, limit) → limit ≤ to → All (λ (pin : Pin). to < pin.limit) pins → ⊥
barred_not pins to number limit first reached all = let clash : true ≡ false = sym (lets_all pins to all) ∙ lets_not pins to number limit first reached in cc

-- one first limit is told
told_first : (view : View) (to number limit : ℕ) (why : Refused) → first_limit_of view.pins.pins ≡ Some (number, limit) → IsBarred view to why → why ≡ Pinned number limit
told_first view to number limit why first barred =
    let is = ap (λ (found : Option (ℕ × ℕ)). unwrap_or found (number, limit)) (sym barred.first ∙ first) in
    barred.told ∙ λ i. Pinned (is i).0 (is i).1

-- the jobs behind a tick, by whether it passed the tests
abbrev face_if : View → Bool → Face
face_if view passed = if passed then record (face_of view) { rounds = view.rounds + 1; flights = [] } else face_of view

module _ (view : View) (to : ℕ) where
  -- each is passed
  pub passes_all : IsTickable view to → All (λ (pin : Pin). to < pin.limit) view.pins.pins → passes view to ≡ true
  passes_all may all = λ i.
      five (is_none (may.runs i)) (le-leb view.state.manifest.clock to may.forward i) (lt-ltb view.state.count max_place may.place i) (lt-ltb view.rounds max_place may.round i) (lets_all view.pins.pins to all i)

  -- one isn't
  pub passes_not : (why : Refused) → MayRefuseTick view to why → passes view to ≡ false
  passes_not (Stopped at) is =
      ap (λ stopped. five (is_none stopped) (nat_le view.state.manifest.clock to) (nat_lt view.state.count max_place) (nat_lt view.rounds max_place) (lets_pass view.pins.pins to)) is
  passes_not (Backwards clock) is =
      ap (λ b. five (is_none view.state.stopped) b (nat_lt view.state.count max_place) (nat_lt view.rounds max_place) (lets_pass view.pins.pins to)) (lt-leb view.state.manifest.clock to is.1)
      ∙ second_false (is_none view.state.stopped) (nat_lt view.state.count max_place) (nat_lt view.rounds max_place) (lets_pass view.pins.pins to)
  passes_not (Exhausted last) is = elim is.3 [
    | inl full ↦
        ap (λ b. five (is_none view.state.stopped) (nat_le view.state.manifest.clock to) b (nat_lt view.rounds max_place) (lets_pass view.pins.pins to)) (le-ltb view.state.count max_place (omega (arith, full)))
        ∙ third_false (is_none view.state.stopped) (nat_le view.state.manifest.clock to) (nat_lt view.rounds max_place) (lets_pass view.pins.pins to)
    | inr full ↦
        ap (λ b. five (is_none view.state.stopped) (nat_le view.state.manifest.clock to) (nat_lt view.state.count max_place) b (lets_pass view.pins.pins to)) (le-ltb view.rounds max_place full)
        ∙ fourth_false (is_none view.state.stopped) (nat_le view.state.manifest.clock to) (nat_lt view.state.count max_place) (lets_pass view.pins.pins to)
  ]
  passes_not (Pinned pin limit) is =
      let bars = is.1 in
      ap (five (is_none view.state.stopped) (nat_le view.state.manifest.clock to) (nat_lt view.state.count max_place) (nat_lt view.rounds max_place)) (lets_not view.pins.pins to bars.pin bars.limit bars.first bars.reached)
      ∙ fifth_false (is_none view.state.stopped) (nat_le view.state.manifest.clock to) (nat_lt view.state.count max_place) (nat_lt view.rounds max_place)
  passes_not (Fault place before after) is = absurd is
  passes_not NothingDue is = absurd is
  passes_not (Cancelled begun now) is = absurd is
  passes_not (ReadFault before after) is = absurd is
  passes_not NoMemory is = absurd is
  passes_not (Damaged name) is = absurd is

  -- a tick that may not begin leaves the jobs as they were
  pub ticked_not : (why : Refused) → MayRefuseTick view to why → ticked_face view to ≡ face_of view
  ticked_not why is = ap (face_if view) (passes_not why is)

  -- one that begins ends a round
  pub ticked_now : (new : View) → passes view to ≡ true → new.begun ≡ view.begun → new.rounds ≡ view.rounds + 1 → new.flights ≡ [] → new.pins ≡ view.pins → face_of new ≡ ticked_face view to
  ticked_now new all begun rounds free pins =
      let same : face_of new ≡ face_if view true = λ i. record { begun = begun i; rounds = rounds i; flights = free i; made = (pins i).made; held = map limited_of (pins i).pins } in
      same ∙ sym (ap (face_if view) all)

  -- a refusal before any work is no failure
  pub may_refuse_none : (why : Refused) → MayRefuseTick view to why → failure_of why ≡ None
  may_refuse_none (Stopped at) is = refl
  may_refuse_none (Backwards clock) is = refl
  may_refuse_none (Exhausted last) is = refl
  may_refuse_none (Fault place before after) is = absurd is
  may_refuse_none (Pinned pin limit) is = refl
  may_refuse_none NothingDue is = absurd is
  may_refuse_none (Cancelled begun now) is = absurd is
  may_refuse_none (ReadFault before after) is = absurd is
  may_refuse_none NoMemory is = absurd is
  may_refuse_none (Damaged name) is = absurd is

  -- and has its reason
  pub may_refuse_reason : (Tells PortsFail : Type 0) (new : View) (first last : ℕ) (why : Refused) → MayRefuseTick view to why → HasReasonOfTick Tells PortsFail to view new first last why
  may_refuse_reason Tells PortsFail new first last (Stopped at) is = inr (inr (inl is))
  may_refuse_reason Tells PortsFail new first last (Backwards clock) is = inl (is.0, is.1, ap (λ clock. Backwards clock) is.2)
  may_refuse_reason Tells PortsFail new first last (Exhausted place) is = inr (inr (inl (is.0, is.2, elim is.3 [ inl full ↦ inl full | inr full ↦ inr (inl full) ])))
  may_refuse_reason Tells PortsFail new first last (Fault place before after) is = absurd is
  may_refuse_reason Tells PortsFail new first last (Pinned pin limit) is = inr (inl is)
  may_refuse_reason Tells PortsFail new first last NothingDue is = absurd is
  may_refuse_reason Tells PortsFail new first last (Cancelled begun now) is = absurd is
  may_refuse_reason Tells PortsFail new first last (ReadFault before after) is = absurd is
  may_refuse_reason Tells PortsFail new first last NoMemory is = absurd is
  may_refuse_reason Tells PortsFail new first last (Damaged name) is = absurd is

-- a tick that passes all tests but that of the pins is refused with the first limit that bars it
pub barred_why : (view : View) (to number limit : ℕ) → IsTickable view to → first_limit_of view.pins.pins ≡ Some (number, limit) → (why : Refused) → MayRefuseTick view to why → why ≡ Pinned number limit
barred_why view to number limit may first (Pinned pin other) is = told_first view to number limit (Pinned pin other) first is.1
barred_why view to number limit may first (Stopped at) is = let clash : Some at ≡ None = sym is ∙ may.runs in cc
barred_why view to number limit may first (Backwards clock) is = let forward = may.forward in let behind = is.1 in absurd (omega (arith, forward, behind))
barred_why view to number limit may first (Exhausted last) is = let place = may.place in let round = may.round in absurd (elim is.3 as (λ _. ⊥) [ inl full ↦ omega (arith, place, full) | inr full ↦ omega (arith, round, full) ])
barred_why view to number limit may first (Fault place before after) is = absurd is
barred_why view to number limit may first NothingDue is = absurd is
barred_why view to number limit may first (Cancelled begun now) is = absurd is
barred_why view to number limit may first (ReadFault before after) is = absurd is
barred_why view to number limit may first NoMemory is = absurd is
barred_why view to number limit may first (Damaged name) is = absurd is

-- The next round

-- the same store in another round
abbrev pub in_round : View → ℕ → View
in_round view rounds = record view { rounds = rounds }

module _ (view : View) (rounds : ℕ) where
  running_in_round : (s : Stored) → IsRunning view s → IsRunning (in_round view rounds) s
  running_in_round s is = record {
    settled = is.settled;
    only = is.only;
    uncited = is.uncited;
    untorn = is.untorn;
    copied = is.copied;
    kept = is.kept;
    rising = is.rising;
    ends = is.ends;
    current = is.current;
    tasked = is.tasked;
  }

  pub holds_in_round : (s : Stored) → Holds view s → Holds (in_round view rounds) s
  holds_in_round s is = record { remembers = is.remembers; running = running_in_round s is.running }

  pub sound_in_round : (Tells : Type 0) → IsSound Tells view → IsSound Tells (in_round view rounds)
  sound_in_round Tells is = record {
    writable = is.writable;
    small = is.small;
    count = is.count;
    flights = is.flights;
    flies = is.flies;
    loose = is.loose;
    drawn = is.drawn;
    pins = is.pins;
    pages = is.pages;
    held = λ told. let held = is.held told in (held.0, held.1, λ runs. running_in_round held.0 (held.2 runs));
  }

  pub open_in_round : (config : Fields) (h : History) (s : Stored) (stopped : Option ℕ) → IsOpenOrStopped config view h s stopped → IsOpenOrStopped config (in_round view rounds) h s stopped
  open_in_round config h s None is = (is.0, running_in_round s is.1)
  open_in_round config h s (Some at) is = is

  abbrev pub stands_in_round : (config : Fields) (h : History) → StandsNow config h view → StandsNow config h (in_round view rounds)
  stands_in_round config h is = record {
    legal = is.legal;
    count = is.count;
    stored = is.stored;
    remembers = is.remembers;
    config_is = is.config_is;
    stands = is.stands;
    held = open_in_round config h is.stored view.state.stopped is.held;
    counted = is.counted;
    recorded = is.recorded;
    timely = is.timely;
  }

  -- the tick's work may begin there
  pub may_in_round : (Tells : Type 0) (before : ℕ) → IsSound Tells view → view.state.stopped ≡ None → view.state.count < max_place → before ≡ view.faults → MayStep Tells (in_round view rounds) before
  may_in_round Tells before sound runs place is = record { sound = sound_in_round Tells sound; runs = runs; fits = place; told_from = omega (arith, is) }

  -- what came of what was stored there came of what was stored
  pub partly_in_round : (Tells : Type 0) (Comes : Stored → Stored → Type 0) (new : View) (why : Refused) → IsDoneInPart Tells Comes (in_round view rounds) new why → IsDoneInPart Tells Comes view new why
  partly_in_round Tells Comes new why partly none told s holds = partly none told s (holds_in_round s holds)

-- A tick that was begun and refused

module _ (Tells PortsFail : Type 0) (to : ℕ) (old new : View) (before first last : ℕ) (runs : old.state.stopped ≡ None) (is_before : before ≡ old.faults) where
  pub reason_of_tick : (why : Refused) → HasReason (IsShortToTick Tells to new) old.state before new.faults why ⊎ IsUnreadable Tells PortsFail first last why
      → HasReasonOfTick Tells PortsFail to old new first last why
  reason_of_tick why (inl is) = inr (inr (inl (subst (λ n. HasReason ((max_place ≤ old.rounds) ⊎ IsShortToTick Tells to new) old.state n new.faults why) is_before
      (reason_behind (IsShortToTick Tells to new) ((max_place ≤ old.rounds) ⊎ IsShortToTick Tells to new) old.state old.state before new.faults refl refl (λ short. inr short) why is))))
  reason_of_tick why (inr is) = inr (inr (inr (runs, is)))

  pub tick_told : (why : Refused) → HasReason (IsShortToTick Tells to new) old.state before new.faults why ⊎ IsUnreadable Tells PortsFail first last why → IsTold old.faults new.faults why
  tick_told why (inl is) = subst (λ n. IsTold n new.faults why) is_before (reason_told (IsShortToTick Tells to new) old.state before new.faults why is)
  tick_told why (inr is) = unreadable_told Tells PortsFail first last old.faults new.faults why is

-- What is gone

ticked_clock : (h : History) (caller to : ℕ) → (after (with_done h caller (Tick to))).clock ≡ to
ticked_clock h caller to = ap (λ (state : State). state.clock) (after-push h (record { caller = caller; call = Tick to; did = Done }))

clean_gone : (threshold : ℕ) (view : View) (h : History) (time : ℕ) → IsClean threshold view.disk.directory h time → HoldsNothingErased threshold view.disk.directory h time
clean_gone threshold view h time clean name bytes entries entry there spelled among put overdue =
    clean.timely entry (record { name = name; bytes = bytes; there = there; entries = entries; spelled = spelled; among = among }) put overdue

pub ticked_gone : (config : Fields) (h : History) (caller to : ℕ) (view : View) → All (λ name. name.kind ≡ Page) view.retired → StandsNow config (with_done h caller (Tick to)) view
    → view.state.stopped ≡ None → HoldsNothingErased config.threshold view.disk.directory (with_done h caller (Tick to)) to
ticked_gone config h caller to view pages stands runs =
    let later = with_done h caller (Tick to) in
    clean_gone config.threshold view later to (subst (IsClean config.threshold view.disk.directory later) (ticked_clock h caller to) (now_clean config later view pages stands runs))

pub tick_works : (to : ℕ) → Tick to ≡ Work → ⊥
tick_works to e = cc

-- a store that ran before runs behind it
pub still_runs : (old new : View) → new.state.stopped ≡ old.state.stopped → old.state.stopped ≡ None → new.state.stopped ≡ None
still_runs old new stopped runs = stopped ∙ runs
