-- Steps that went wrong, and steps one after another: what they keep.
use Rattle.std.proofs.Common.{◌≡◌, ◌≤◌, ◌<◌, ℕ, ◌+◌, List, Option, Some, None, refl, sym, ap, ◌∙◌, subst, arith}
use Rattle.std.specs.Prelude.{All, IfSome, IsTrue}
use Rattle.std.proofs.lemmas.List.Elements.{All-weaker}
use Rattle.lethe_base.specs.History.{History, Change}
use Rattle.lethe_base.specs.Limits.{max_place}
use Rattle.lethe_base.specs.declared.call.Call.{Call}
use Rattle.lethe_base.specs.declared.call.Call.TheVariants.{Work}
use Rattle.lethe_base.specs.declared.call.Did.TheVariants.{Failed}
use Rattle.lethe_base.specs.declared.config.Fields.{Fields}
use Rattle.lethe_base.specs.declared.name.Kind.TheVariants.{Page}
use Rattle.lethe_base.specs.declared.name.Name.{Name}
use Rattle.lethe_base.specs.declared.refused.Refused.{Refused}
use Rattle.lethe_base.specs.declared.refused.Refused.TheVariants.{Fault, NoMemory}
use Rattle.lethe_disk.specs.Disk.{Image}
use Rattle.lethe_stored.specs.Files.{Parts}
use Rattle.lethe_stored.specs.Kept.{IsKept}
use Rattle.lethe_stored.specs.Numbers.{GoesFrom}
use Rattle.lethe_stored.specs.Stored.{Stored}
use Rattle.lethe_stored.proofs.Numbers.{goes_from_then}
use Rattle.lethe_advance.specs.Settled.{AreDrawn}
use Rattle.lethe_state.specs.Clock.{clock_of}
use Rattle.lethe_state.specs.Records.{IsLike, halted}
use Rattle.lethe_state.specs.Remembered.{Remembers}
use Rattle.lethe_state.specs.Writable.{IsWritable}
use Rattle.lethe_state.specs.declared.state.State.{State}
use Rattle.lethe_job.specs.Works.{IsInLevels}
use Rattle.lethe_pins.specs.Held.{Held, is_named}
use Rattle.lethe_core.specs.Asked.{Serves, counted, failure_of, refused_to, stopped_by}
use Rattle.lethe_core.specs.Keeps.{Keeps, MayStep}
use Rattle.lethe_core.specs.Pinned.{AreKept, AreRetiredFrom}
use Rattle.lethe_core.specs.Reasons.{HasReason}
use Rattle.lethe_core.specs.Running.{IsFlying, IsSmall, IsSound}
use Rattle.lethe_core.specs.StandsNow.{StandsNow, retried}
use Rattle.lethe_core.specs.Steps.{IsAsBefore, IsHindered, IsUndone}
use Rattle.lethe_core.specs.View.{Flying, View}
use Rattle.lethe_core.proofs.Asked.{counted_none, refused_none, stopped_none}
use Rattle.lethe_core.proofs.Timely.{retired_same, retired_then}
use Rattle.lethe_core.proofs.Standing.{beside, is_beside, left_at_end, moments_or, sound_back, stands_back, stands_done, stands_for, stands_moments, stopped_stands}

-- Numbers that are drawn

pub drawn_on : (first next : ℕ) (names : List Name) → first ≤ next → AreDrawn first names → AreDrawn next names
drawn_on first next names more is = record {
  each = All-weaker (λ (name : Name). (name.kind ≡ Page) × (name.no < first)) (λ (name : Name). (name.kind ≡ Page) × (name.no < next)) (λ name at. let below = at.1 in (at.0, omega (arith, below, more))) names is.each;
  once = is.once;
}

-- the jobs in flight stay within the limits
pub flies_on : (old new : State) → new.manifest.config.levels ≡ old.manifest.config.levels → (flights : List Flying) → All (IsFlying old) flights → All (IsFlying new) flights
flies_on old new levels flights fly = All-weaker (IsFlying old) (IsFlying new) (λ flying is. record {
  levels = subst (λ deepest. IsInLevels deepest flying.task) (sym levels) is.levels;
  upto = is.upto;
  erases = is.erases;
}) flights fly

-- A store that was stopped

runs_not : (at : ℕ) → Some at ≡ None → ⊥
runs_not at e = cc

pub halted_remembered : (s : Stored) (state : State) (levels : List (List Parts)) → Remembers s state levels → Remembers s (halted state) levels
halted_remembered s state levels is = record {
  coherent = is.coherent;
  manifest = is.manifest;
  pending = is.pending;
  active = is.active;
  records = is.records;
  oldest = is.oldest;
  firsts = is.firsts;
  frozen = is.frozen;
  frozen_oldest = is.frozen_oldest;
  frozen_firsts = is.frozen_firsts;
  files = is.files;
  counted = let le = is.counted in omega (arith, le);
}

writable_halted : (state : State) → state.count < max_place → IsWritable state → IsWritable (halted state)
writable_halted state fits is = record {
  manifest = is.manifest;
  segments = is.segments;
  pending = is.pending;
  active = is.active;
  frozen = is.frozen;
  count = omega (arith, fits);
  records = let le = is.records in omega (arith, le);
  drawn = is.drawn;
  last = is.last;
}

small_halted : (state : State) → IsSmall state → IsSmall (halted state)
small_halted state is = record { active = is.active; records = is.records; frozen = is.frozen }

pub sound_halted : (Tells : Type 0) (old new : View) → old.state.count < max_place → IsSound Tells old → IsSound Tells (beside old new (halted old.state))
sound_halted Tells old new fits sound = record {
  writable = writable_halted old.state fits sound.writable;
  small = small_halted old.state sound.small;
  count = sound.count;
  flights = sound.flights;
  flies = flies_on old.state (halted old.state) refl old.flights sound.flies;
  loose = sound.loose;
  drawn = sound.drawn;
  pins = sound.pins;
  pages = sound.pages;
  held = λ told. let held = sound.held told in (held.0, halted_remembered held.0 old.state old.levels held.1, λ runs. absurd (runs_not (old.state.count + 1) runs));
}

-- A step that was hindered

like_itself : (state : State) → IsLike state state
like_itself state = record {
  manifest = refl;
  count = refl;
  pending = refl;
  active = refl;
  records = refl;
  end_is = refl;
  oldest = refl;
  firsts = refl;
  frozen = refl;
  frozen_oldest = refl;
  frozen_firsts = refl;
  stopped = refl;
  next = refl;
}

pub like_of : (old new : State) → new ≡ old → IsLike old new
like_of old new same = subst (IsLike old) (sym same) (like_itself old)

pub as_itself : (Tells : Type 0) (view : View) → IsAsBefore Tells view view
as_itself Tells view = record { state = like_itself view.state; levels = refl; retired = refl; disk = λ told. record { directory = refl; images = λ c here. here } }

module _ (Tells : Type 0) (old new : View) (before : ℕ) where
  pub hindered_sound : old.state.count < max_place → IsSound Tells old → (why : Refused) → IsHindered Tells old new before why → IsSound Tells new
  hindered_sound fits sound (Fault place b a) is = subst (IsSound Tells) (is_beside old new (halted old.state) is.4 is.5) (sound_halted Tells old new fits sound)
  hindered_sound fits sound NoMemory is = sound_back Tells old new is.2 is.0 is.1 sound
  hindered_sound fits sound why is = absurd is

  pub hindered_reason : (Short : Type 0) → old.state.stopped ≡ None → (why : Refused) → IsHindered Tells old new before why → HasReason Short old.state before new.faults why
  hindered_reason Short runs (Fault place b a) is = (runs, is.0, is.1, is.2, is.3)
  hindered_reason Short runs NoMemory is = tt
  hindered_reason Short runs why is = absurd is

  pub hindered_count : (why : Refused) → IsHindered Tells old new before why → new.state.count ≡ counted (Serves Work) (Some why) old.state.count
  hindered_count (Fault place b a) is = ap (λ (state : State). state.count) is.4
  hindered_count NoMemory is = ap (λ (state : State). state.count) is.0
  hindered_count why is = absurd is

  pub hindered_stopped : (why : Refused) → IsHindered Tells old new before why → new.state.stopped ≡ stopped_by (Some why) old.state.stopped
  hindered_stopped (Fault place b a) is = ap (λ (state : State). state.stopped) is.4 ∙ ap Some (sym is.0)
  hindered_stopped NoMemory is = ap (λ (state : State). state.stopped) is.0
  hindered_stopped why is = absurd is

  pub hindered_undone : (why : Refused) → IsHindered Tells old new before why → IsUndone Tells old new why
  hindered_undone (Fault place b a) is none = absurd (let clash : Some (record { place = place; before = b; after = a }) ≡ None = none in cc)
  hindered_undone NoMemory is none = record { state = like_of old.state new.state is.0; levels = is.1.levels; retired = is.1.retired; disk = is.2 }
  hindered_undone why is none = absurd is

  -- the same pins are held
  pub hindered_pins : (why : Refused) → IsHindered Tells old new before why → new.pins ≡ old.pins
  hindered_pins (Fault place b a) is = is.5.pins
  hindered_pins NoMemory is = is.1.pins
  hindered_pins why is = absurd is

  hindered_retired : (why : Refused) → IsHindered Tells old new before why → new.retired ≡ old.retired
  hindered_retired (Fault place b a) is = is.5.retired
  hindered_retired NoMemory is = is.1.retired
  hindered_retired why is = absurd is

  pub hindered_next : (why : Refused) → IsHindered Tells old new before why → new.state.next ≡ old.state.next
  hindered_next (Fault place b a) is = ap (λ (state : State). state.next) is.4
  hindered_next NoMemory is = ap (λ (state : State). state.next) is.0
  hindered_next why is = absurd is

  pub hindered_clock : (why : Refused) → IsHindered Tells old new before why → clock_of new.state.manifest ≡ clock_of old.state.manifest
  hindered_clock (Fault place b a) is = ap (λ (state : State). clock_of state.manifest) is.4
  hindered_clock NoMemory is = ap (λ (state : State). clock_of state.manifest) is.0
  hindered_clock why is = absurd is

  module _ (config : Fields) (h : History) (stands : StandsNow config h old) (runs : old.state.stopped ≡ None) where
    halted_stands : old.state.count < max_place → GoesFrom old.state.next (λ c. IsKept config c h) old.disk new.disk → Image new.disk new.disk.directory → (caller : ℕ) (call : Call) (b a : ℕ)
        → StandsNow config (refused_to h caller call (Fault 0 b a)) (beside old new (halted old.state))
    halted_stands fits goes here caller call b a =
        let change : Change = record { caller = caller; call = call; did = Failed b a } in
        let s = stands.stored in
        stopped_stands config h change b a (beside old new (halted old.state)) s stands.legal (stands_done config h old stands runs) (subst (λ n. n < max_place) stands.count fits)
        refl (ap (λ n. n + 1) stands.count) (ap (λ n. Some (n + 1)) stands.count) (halted_remembered s old.state old.levels stands.remembers) stands.config_is
        (stands_for config h old stands runs) (left_at_end config h (retried change) old.disk new.disk here (moments_or config h (retried change) old.state.next old.disk new.disk goes).goes) stands.counted stands.recorded

    pub hindered_stands : Tells → old.state.count < max_place → GoesFrom old.state.next (λ c. IsKept config c h) old.disk new.disk → Image new.disk new.disk.directory → (caller : ℕ) (call : Call) (why : Refused)
        → IsHindered Tells old new before why → StandsNow config (refused_to h caller call why) new
    hindered_stands told fits goes here caller call (Fault place b a) is = subst (StandsNow config (refused_to h caller call (Fault place b a))) (is_beside old new (halted old.state) is.4 is.5) (halted_stands fits goes here caller call b a)
    hindered_stands told fits goes here caller call NoMemory is = stands_back old new (is.2 told) config h is.0 is.1 stands
    hindered_stands told fits goes here caller call why is = absurd is

-- What is kept

-- `itself` of the disk gives the image that a read gives
pub hindered_keeps : (Tells : Type 0) (old new : View) (before : ℕ) → MayStep Tells old before → (why : Refused) → IsHindered Tells old new before why
    → (Tells → (config : Fields) (h : History) → StandsNow config h old → GoesFrom old.state.next (λ c. IsKept config c h) old.disk new.disk) → (Tells → Image new.disk new.disk.directory)
    → (Tells → old.disk.moment ≤ new.disk.moment) → old.faults ≤ new.faults → (Tells → AreKept old.pins.pins old.disk.directory new.disk.directory) → Keeps Tells old new (Some why)
hindered_keeps Tells old new before may why is goes itself later faults kept = record {
  sound = hindered_sound Tells old new before may.fits may.sound why is;
  count = hindered_count Tells old new before why is;
  stopped = hindered_stopped Tells old new before why is;
  clock = hindered_clock Tells old new before why is;
  stands = λ told config h stands caller call. hindered_stands Tells old new before config h stands may.runs told may.fits (goes told config h stands) (itself told) caller call why is;
  any_moment = goes;
  numbers = λ told. let same = hindered_next Tells old new before why is in let on = later told in omega (arith, same, on);
  drawn = let same = hindered_next Tells old new before why is in omega (arith, same);
  faults = faults;
  retired = retired_same old.pins.pins old.retired new.retired (hindered_retired Tells old new before why is);
  pins = hindered_pins Tells old new before why is;
  pinned = kept;
}

-- where nothing was done, and what was answered is in no history
pub keeps_itself : (Tells : Type 0) (view : View) → IsSound Tells view → view.state.stopped ≡ None → (why : Option Refused) → IfSome why (λ why. failure_of why ≡ None) → Keeps Tells view view why
keeps_itself Tells view sound runs None none = record {
  sound = sound;
  count = refl;
  stopped = refl;
  clock = refl;
  stands = λ told config h stands caller call. stands;
  any_moment = λ told config h stands. stands_moments config h view stands runs sound.writable;
  numbers = λ told. omega arith;
  drawn = omega arith;
  faults = omega arith;
  retired = retired_same view.pins.pins view.retired view.retired refl;
  pins = refl;
  pinned = λ told name named. refl;
}
keeps_itself Tells view sound runs (Some why) none = record {
  sound = sound;
  count = sym (counted_none (Serves Work) why view.state.count none);
  stopped = sym (stopped_none why view.state.stopped none);
  clock = refl;
  stands = λ told config h stands caller call. subst (λ g. StandsNow config g view) (sym (refused_none h caller call why none)) stands;
  any_moment = λ told config h stands. stands_moments config h view stands runs sound.writable;
  numbers = λ told. omega arith;
  drawn = omega arith;
  faults = omega arith;
  retired = retired_same view.pins.pins view.retired view.retired refl;
  pins = refl;
  pinned = λ told name named. refl;
}

-- one step that was done, and then another
pub keeps_then : (Tells : Type 0) (a b c : View) → Keeps Tells a b None → (why : Option Refused) → Keeps Tells b c why → Keeps Tells a c why
keeps_then Tells a b c one why two =
    let mid : Tells → (config : Fields) (h : History) → StandsNow config h a → StandsNow config h b = λ told config h stands. one.stands told config h stands 0 Work in
    record {
      sound = two.sound;
      count = two.count ∙ ap (counted (Serves Work) why) one.count;
      stopped = two.stopped ∙ ap (stopped_by why) one.stopped;
      clock = two.clock ∙ one.clock;
      stands = λ told config h stands caller call. two.stands told config h (mid told config h stands) caller call;
      any_moment = λ told config h stands.
          goes_from_then (λ d. IsKept config d h) a.state.next b.state.next a.disk b.disk c.disk (one.any_moment told config h stands) (one.numbers told) (two.any_moment told config h (mid told config h stands));
      numbers = λ told. let early = one.numbers told in let late = two.numbers told in omega (arith, early, late);
      drawn = let early = one.drawn in let late = two.drawn in omega (arith, early, late);
      faults = let early = one.faults in let late = two.faults in omega (arith, early, late);
      retired = retired_then a.pins.pins a.retired b.retired c.retired one.retired (subst (λ (held : Held). AreRetiredFrom held.pins b.retired c.retired) one.pins two.retired);
      pins = two.pins ∙ one.pins;
      pinned = λ told name named. two.pinned told name (subst (λ (held : Held). IsTrue (is_named held.pins name)) (sym one.pins) named) ∙ one.pinned told name named;
    }
