-- Whether a tick was begun, by what it answered.
use Rattle.std.proofs.Common.{◌≡◌, ◌≤◌, ◌<◌, inl, inr, ℕ, ◌+◌, Bool, true, false, not, if◌then◌else◌, List, [], ◌∷◌, Option, Some, None, Result, Ok, Err, refl, sym, ap, ◌∙◌, subst, arith}
use Rattle.std.specs.Prelude.{◌⊎◌, ◌==◌, ◌&&◌, IfErr, IsErrOf, is_none}
use Rattle.std.proofs.lemmas.Bool.{cases_Bool, cases_lt, eq-eqb, le-leb, lt-ltb, ltb-false, ne_eqb}
use Rattle.lethe_base.specs.Limits.{max_place}
use Rattle.lethe_base.specs.declared.refused.Refused.{Refused}
use Rattle.lethe_base.specs.declared.refused.Refused.TheVariants.{Fault, Stopped, Backwards, Pinned, NothingDue, Cancelled, Exhausted, ReadFault, NoMemory, Damaged}
use Rattle.lethe_core.specs.View.{View, face_of}
use Rattle.lethe_pins.specs.Held.{first_limit_of}
use Rattle.lethe_pins.specs.declared.pin.Pin.{Pin}
use Rattle.lethe_engine.specs.Ticks as engine
use Rattle.lethe_engine.specs.Ticks.{IsTickable, lets_pass, passes}
use Rattle.lethe_engine.specs.declared.ticking.Ticked.{Ticked}
use Rattle.lethe_engine.proofs.Ticks.{passes_not}
use Rattle.lethe_store.specs.Ticks.{IsBegunBy}

abbrev five : Bool → Bool → Bool → Bool → Bool → Bool
five a b c d e = a && b && c && d && e

-- what refuses a tick before any work
abbrev IsEarly : Refused → Type 0
IsEarly (Stopped at) = Unit {0}
IsEarly (Backwards clock) = Unit {0}
IsEarly (Exhausted last) = Unit {0}
IsEarly (Pinned pin limit) = Unit {0}
IsEarly (Fault place before after) = ⊥
IsEarly NothingDue = ⊥
IsEarly (Cancelled begun now) = ⊥
IsEarly (ReadFault before after) = ⊥
IsEarly NoMemory = ⊥
IsEarly (Damaged name) = ⊥

abbrev WasEarly : Result Ticked Refused → Type 0
WasEarly result = (why : Refused) × (result ≡ Err why) × IsEarly why

module _ {Same : Type 0} (old : View) (to : ℕ) (result : Result Ticked Refused) (few : old.state.count ≤ max_place) (stopped : (at : ℕ) → old.state.stopped ≡ Some at → IsErrOf result (Stopped at) × Same)
    (backwards : old.state.stopped ≡ None → to < old.state.manifest.clock → IsErrOf result (Backwards old.state.manifest.clock) × Same)
    (exhausted : old.state.stopped ≡ None → old.state.manifest.clock ≤ to → (old.state.count ≡ max_place) ⊎ (max_place ≤ old.rounds) → IsErrOf result (Exhausted max_place) × Same)
    (pinned : IsTickable old to → (pin limit : ℕ) → first_limit_of old.pins.pins ≡ Some (pin, limit) → limit ≤ to → IsErrOf result (Pinned pin limit) × Same) where
  -- no pin lets it pass
  by_pins : (may : IsTickable old to) (pins : List Pin) → old.pins.pins ≡ pins → lets_pass pins to ≡ false → WasEarly result
  by_pins may [] same bars = let clash : true ≡ false = bars in cc
  by_pins may (pin ∷ pins) same bars = (Pinned pin.number pin.limit, (pinned may pin.number pin.limit (ap first_limit_of same) (ltb-false to pin.limit bars)).0, tt)

  by_round : old.state.stopped ≡ None → old.state.manifest.clock ≤ to → old.state.count < max_place → (old.rounds < max_place) ⊎ (max_place ≤ old.rounds) → passes old to ≡ false → WasEarly result
  by_round runs forward place (inr full) not_all = (Exhausted max_place, (exhausted runs forward (inr full)).0, tt)
  by_round runs forward place (inl round) not_all =
      let may : IsTickable old to = record { runs = runs; forward = forward; place = place; round = round } in
      let passed : passes old to ≡ lets_pass old.pins.pins to = λ i. five (is_none (runs i)) (le-leb old.state.manifest.clock to forward i) (lt-ltb old.state.count max_place place i) (lt-ltb old.rounds max_place round i) (lets_pass old.pins.pins to) in
      by_pins may old.pins.pins refl (sym passed ∙ not_all)

  by_place : old.state.stopped ≡ None → old.state.manifest.clock ≤ to → (old.state.count < max_place) ⊎ (max_place ≤ old.state.count) → passes old to ≡ false → WasEarly result
  by_place runs forward (inl place) not_all = by_round runs forward place (cases_lt old.rounds max_place) not_all
  by_place runs forward (inr full) not_all = (Exhausted max_place, (exhausted runs forward (inl (let e : old.state.count ≡ max_place = omega (arith, few, full) in e))).0, tt)

  by_clock : old.state.stopped ≡ None → (to < old.state.manifest.clock) ⊎ (old.state.manifest.clock ≤ to) → passes old to ≡ false → WasEarly result
  by_clock runs (inl behind) not_all = (Backwards old.state.manifest.clock, (backwards runs behind).0, tt)
  by_clock runs (inr forward) not_all = by_place runs forward (cases_lt old.state.count max_place) not_all

  by_stopped : (held : Option ℕ) → old.state.stopped ≡ held → passes old to ≡ false → WasEarly result
  by_stopped (Some at) is not_all = (Stopped at, (stopped at is).0, tt)
  by_stopped None is not_all = by_clock is (cases_lt to old.state.manifest.clock) not_all

  -- where it doesn't pass its tests it is refused before any work
  pub was_early : passes old to ≡ false → WasEarly result
  was_early = by_stopped old.state.stopped refl

  -- where it isn't refused so it passes them
  passed_unless : (WasEarly result → ⊥) → passes old to ≡ true
  passed_unless late = elim (cases_Bool (passes old to)) [ inl passed ↦ passed | inr not_all ↦ absurd (late (was_early not_all)) ]

  pub begun_so : (Tells PortsFail : Type 0) (new : View) (before now : ℕ) → (answer : Result Ticked Refused) → result ≡ answer → IfErr answer (engine.HasReasonOfTick Tells PortsFail to old new before now) → IsBegunBy (passes old to) answer
  begun_so Tells PortsFail new before now (Ok told) is reason = passed_unless (λ early. let clash : Ok told ≡ Err early.0 = sym is ∙ early.1 in cc)
  begun_so Tells PortsFail new before now (Err why) is reason = by why is reason
    where
      -- what is no such refusal
      late : (why : Refused) → result ≡ Err why → (IsEarly why → ⊥) → passes old to ≡ true
      late why is other = passed_unless (λ early. other (subst IsEarly (ap (λ (r : Result Ticked Refused). elim r [ Ok told ↦ why | Err other ↦ other ]) (sym early.1 ∙ is)) early.2))

      by : (why : Refused) → result ≡ Err why → engine.HasReasonOfTick Tells PortsFail to old new before now why → IsBegunBy (passes old to) (Err why)
      by (Stopped at) is (inl behind) = let clash : Stopped at ≡ Backwards old.state.manifest.clock = behind.2 in cc
      by (Stopped at) is (inr (inl barred)) = let bars = barred.1 in let clash : Stopped at ≡ Pinned bars.pin bars.limit = bars.told in cc
      by (Stopped at) is (inr (inr (inl was))) = passes_not old to (Stopped at) was
      by (Stopped at) is (inr (inr (inr unread))) = absurd unread.1
      by (Backwards clock) is (inl behind) = passes_not old to (Backwards clock) (behind.0, behind.1, ap (λ (why : Refused). elim why [ Backwards c ↦ c | _ ↦ clock ]) behind.2)
      by (Backwards clock) is (inr (inl barred)) = let bars = barred.1 in let clash : Backwards clock ≡ Pinned bars.pin bars.limit = bars.told in cc
      by (Backwards clock) is (inr (inr (inl was))) = absurd was
      by (Backwards clock) is (inr (inr (inr unread))) = absurd unread.1
      by (Pinned pin limit) is (inl behind) = let clash : Pinned pin limit ≡ Backwards old.state.manifest.clock = behind.2 in cc
      by (Pinned pin limit) is (inr (inl barred)) = passes_not old to (Pinned pin limit) barred
      by (Pinned pin limit) is (inr (inr (inl was))) = absurd was
      by (Pinned pin limit) is (inr (inr (inr unread))) = absurd unread.1
      by (Exhausted last) is reason = tt
      by (Fault place told_before told_now) is reason = late (Fault place told_before told_now) is (λ early. early)
      by NothingDue is reason = late NothingDue is (λ early. early)
      by (Cancelled other other_now) is reason = late (Cancelled other other_now) is (λ early. early)
      by (ReadFault told_before told_now) is reason = late (ReadFault told_before told_now) is (λ early. early)
      by NoMemory is reason = late NoMemory is (λ early. early)
      by (Damaged name) is reason = late (Damaged name) is (λ early. early)

-- a round more has ended exactly where it was begun
pub rounds_tell : (old new : View) (to : ℕ) → new.rounds ≡ (engine.ticked_face old to).rounds → not (new.rounds == old.rounds) ≡ passes old to
rounds_tell old new to is = by (passes old to) is
  where
    by : (passed : Bool) → new.rounds ≡ (if passed then record (face_of old) { rounds = old.rounds + 1; flights = [] } else face_of old).rounds → not (new.rounds == old.rounds) ≡ passed
    by true more = ap not (ne_eqb new.rounds old.rounds (λ same. omega (arith, more, same)))
    by false same = ap not (eq-eqb new.rounds old.rounds same)
