-- Where a call is refused because numbers are used up they are, and stay so.
use Rattle.std.proofs.Common.{◌≡◌, ◌≤◌, inl, inr, ℕ, Option, Some, None, Result, Ok, Err, refl, ap, ◌∙◌, subst, arith}
use Rattle.std.specs.Prelude.{IfErr, unwrap_or}
use Rattle.std.specs.Result.{result_err}
use Rattle.lethe_base.specs.History.{History}
use Rattle.lethe_base.specs.declared.call.Call.{Call}
use Rattle.lethe_base.specs.declared.call.Call.TheVariants.{Tick}
use Rattle.lethe_base.specs.declared.config.Fields.{Fields}
use Rattle.lethe_base.specs.declared.refused.Refused.{Refused}
use Rattle.lethe_base.specs.declared.refused.Refused.TheVariants.{Backwards, Pinned, Exhausted}
use Rattle.lethe_core.specs.Asked.{Makes}
use Rattle.lethe_core.specs.Merges.{IsShortToMergeBy}
use Rattle.lethe_core.specs.Reasons.{IsShortFor, IsShortOfRoom}
use Rattle.lethe_core.specs.Running.{IsSound}
use Rattle.lethe_core.specs.StandsNow.{StandsNow}
use Rattle.lethe_core.specs.View.{Face, View}
use Rattle.lethe_core.proofs.Short.{chosen_are_short}
use Rattle.lethe_engine.specs.Answers.{Answers}
use Rattle.lethe_engine.specs.Refusals as engine
use Rattle.lethe_engine.specs.StandsFor.{Opened, StandsSince}
use Rattle.lethe_engine.specs.Ticks as ticks
use Rattle.lethe_engine.specs.Ticks.{IsShortToTick}
use Rattle.lethe_fade.specs.declared.plan.Plan.{Plan}
use Rattle.lethe_mem.specs.Buffered.{Buffered}
use Rattle.lethe_state.specs.Room.{frozen_len}
use Rattle.lethe_stored.specs.Stored.{Stored}
use Rattle.lethe_store.specs.Diary.{AreNumbersShort, IsSpent}
use Rattle.lethe_store.specs.StoreViews.{StoreView}

few_frozen : (Tells : Type 0) (view : View) → IsSound Tells view → frozen_len view.state.frozen ≤ 16384
few_frozen Tells view sound = let few = sound.small.frozen in let most = sound.writable.manifest.config.buffer.1 in omega (arith, few, most)

module _ (Tells : Type 0) (old new : StoreView) (call : Call) (face : Face) (last : ℕ) (sound : IsSound Tells old.view) (answers : Answers Tells (Makes call) (Some (Exhausted last)) face old.view new.view) (runs : old.view.state.stopped ≡ None) where
  -- for a job behind the call
  by_merge : (chosen : Stored → Option Plan) → IsShortToMergeBy chosen Tells new.view → Tells → (config : Fields) (opened : Opened) (h : History) → StandsSince config opened h old.view → AreNumbersShort new.view
  by_merge chosen short told config opened h s =
      let now : StandsNow config h new.view = (answers.stands told config opened h s 0).now in
      let count = now.count in
      let few = chosen_are_short chosen Tells config h new.view told now (answers.stopped ∙ runs) short in
      omega (arith, count, few)

  -- for the room of a record before it
  by_frozen : (frozen : Option Buffered) → frozen ≡ old.view.state.frozen → IsShortFor frozen old.view.state → AreNumbersShort new.view
  by_frozen None same short = let drawn = answers.drawn in omega (arith, short, drawn)
  by_frozen (Some buffer) same flushes =
      let few = flushes.drafted.few in let reach = flushes.short in let drawn = answers.drawn in let small = few_frozen Tells old.view sound in omega (arith, few, reach, drawn, small)

  by_room : IsShortOfRoom Tells old.view.state new.view → Tells → (config : Fields) (opened : Opened) (h : History) → StandsSince config opened h old.view → AreNumbersShort new.view
  by_room (inl frozen) told config opened h s = by_frozen old.view.state.frozen refl frozen
  by_room (inr merge) told config opened h s = by_merge _ merge told config opened h s

  by_tick : (to : ℕ) → IsShortToTick Tells to new.view → Tells → (config : Fields) (opened : Opened) (h : History) → StandsSince config opened h old.view → AreNumbersShort new.view
  by_tick to (inl flushes) told config opened h s = let few = flushes.drafted.few in let reach = flushes.short in let small = few_frozen Tells new.view answers.sound in omega (arith, few, reach, small)
  by_tick to (inr (inl freezes)) told config opened h s = omega (arith, freezes)
  by_tick to (inr (inr merge)) told config opened h s = by_merge _ merge told config opened h s

module _ (Tells PortsFail : Type 0) (old new : StoreView) (call : Call) (face : Face) (before now : ℕ) (sound : IsSound Tells old.view) where
  change_at : (last : ℕ) → Answers Tells (Makes call) (Some (Exhausted last)) face old.view new.view → engine.HasReasonOfChange Tells PortsFail old.view new.view before now (Exhausted last) → IsSpent Tells old new
  change_at last answers (inl (runs, most, inl full)) = inl (answers.count ∙ full)
  change_at last answers (inl (runs, most, inr (none, short))) = inr (inr (inr (by_room Tells old new call face last sound answers runs short)))
  change_at last answers (inr is) = absurd is.2

  -- a change
  pub spent_change : (result : Result ℕ Refused) → Answers Tells (Makes call) (result_err result) face old.view new.view → IfErr result (engine.HasReasonOfChange Tells PortsFail old.view new.view before now)
      → (last : ℕ) → result_err result ≡ Some (Exhausted last) → IsSpent Tells old new
  spent_change (Ok place) answers reason last is = absurd (let clash : None ≡ Some (Exhausted last) = is in cc)
  spent_change (Err why) answers reason last is =
      let e : why ≡ Exhausted last = ap (λ o. unwrap_or o why) is in
      change_at last (subst (λ w. Answers Tells (Makes call) (Some w) face old.view new.view) e answers) (subst (engine.HasReasonOfChange Tells PortsFail old.view new.view before now) e reason)

module _ (Tells PortsFail : Type 0) (old new : StoreView) (to : ℕ) (face : Face) (before now : ℕ) (sound : IsSound Tells old.view) (rise : old.view.rounds ≤ new.view.rounds) where
  pub tick_at : (last : ℕ) → Answers Tells (Makes (Tick to)) (Some (Exhausted last)) face old.view new.view → ticks.HasReasonOfTick Tells PortsFail to old.view new.view before now (Exhausted last) → IsSpent Tells old new
  tick_at last answers (inl behind) = absurd (let clash : Exhausted last ≡ Backwards old.view.state.manifest.clock = behind.2 in cc)
  tick_at last answers (inr (inl barred)) = absurd (let bars = barred.1 in let clash : Exhausted last ≡ Pinned bars.pin bars.limit = bars.told in cc)
  tick_at last answers (inr (inr (inl (runs, most, inl full)))) = inl (answers.count ∙ full)
  tick_at last answers (inr (inr (inl (runs, most, inr (inl full))))) = inr (inr (inl (omega (arith, full, rise))))
  tick_at last answers (inr (inr (inl (runs, most, inr (inr short))))) = inr (inr (inr (by_tick Tells old new (Tick to) face last sound answers runs to short)))
  tick_at last answers (inr (inr (inr unread))) = absurd unread.1
