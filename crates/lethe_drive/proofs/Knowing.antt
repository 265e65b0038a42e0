-- What is known of a store between two calls of a run.
use Rattle.std.proofs.Common.{◌≡◌, ℕ, List, [], ◌∷◌, ◌++◌, Option, Some, None, Result, Ok, Err, refl, sym, ap, ◌∙◌, subst, arith}
use Rattle.std.specs.Prelude.{IfSome, IsSome, is_some}
use Rattle.std.proofs.lemmas.Option.{none-some}
use Rattle.lethe_base.specs.History.{AreDone, Change, History}
use Rattle.lethe_base.specs.declared.call.Call.{Call}
use Rattle.lethe_base.specs.declared.call.Did.TheVariants.{Done, Failed}
use Rattle.lethe_base.specs.declared.config.Fields.{Fields}
use Rattle.lethe_base.specs.declared.refused.Refused.{Refused}
use Rattle.lethe_manifest.specs.declared.manifest.Manifest.{Manifest}
use Rattle.lethe_stored.specs.Files.{Parts}
use Rattle.lethe_stored.specs.Kept.{IsFor}
use Rattle.lethe_stored.specs.Left.{without_failed}
use Rattle.lethe_stored.specs.Stored.{Stored}
use Rattle.lethe_stored.proofs.Unique.{one_stored}
use Rattle.lethe_state.specs.Remembered.{Remembers}
use Rattle.lethe_state.specs.Room.{HasRoom}
use Rattle.lethe_state.specs.declared.state.State.{State}
use Rattle.lethe_core.specs.Asked.{Failure, failure_of, refused_to}
use Rattle.lethe_core.specs.Running.{Holds}
use Rattle.lethe_core.specs.StandsNow.{IsOpenOrStopped, IsStopped, StandsNow}
use Rattle.lethe_core.specs.View.{View}
use Rattle.lethe_core.proofs.Asked.{not_none, refused_none}
use Rattle.lethe_core.proofs.Histories.{head_done, tail_done}
use Rattle.lethe_core.proofs.Standing.{stands_holds}
use Rattle.lethe_engine.specs.Answers.{IsStill}
use Rattle.lethe_engine.specs.Refusals.{SeesRoom}
use Rattle.lethe_engine.specs.StandsFor.{Opened, StandsSince}
use Rattle.lethe_drive.specs.Moments.{Going, IsGoing, IsKnown, IsMomentOf, IsStoppedBy, moment_of}

-- what a store that stands for a history remembers
pub known_of : (config : Fields) (opened : Opened) (h : History) (view : View) (stands : StandsSince config opened h view) → IsKnown config h view stands.now.stored
known_of config opened h view stands = record {
  config_is = stands.now.config_is;
  stands = stands.now.stands;
  remembers = stands.now.remembers;
  held = λ runs. stands_holds config h view stands.now runs;
}

-- what it holds is that, since its directory encodes one thing alone
pub known_held : (config : Fields) (opened : Opened) (h : History) (view : View) → StandsSince config opened h view → (s : Stored) → Holds view s → IsKnown config h view s
known_held config opened h view stands s holds =
    let own : Holds view stands.now.stored = stands_holds config h view stands.now holds.running.current.runs in
    let same : stands.now.stored ≡ s = one_stored view.disk.directory stands.now.stored s own.remembers.coherent holds.remembers.coherent own.running.settled.encodes holds.running.settled.encodes in
    subst (IsKnown config h view) same (known_of config opened h view stands)

-- nothing was done on a store that was stopped
pub known_still : (Tells : Type 0) (config : Fields) (h g : History) (old new : View) (s : Stored) (at : ℕ) → old.state.stopped ≡ Some at → IsStill Tells old new → g ≡ h → IsKnown config h old s → IsKnown config g new s
known_still Tells config h g old new s at stopped still same known = record {
  config_is = known.config_is;
  stands = subst (λ (h : History). IsFor (without_failed h) s) (sym same) known.stands;
  remembers = subst (λ (state : State). Remembers s state new.levels) (sym still.state) (subst (λ (levels : List (List Parts)). Remembers s old.state levels) (sym still.levels) known.remembers);
  held = λ runs. absurd (none-some at (sym runs ∙ ap (λ (state : State). state.stopped) still.state ∙ stopped));
}

-- there is room in what is stored where the store sees it
pub room_in : (s : Stored) (state : State) (levels : List (List Parts)) → Remembers s state levels → SeesRoom state → HasRoom s
room_in s state levels remembers room =
    let records = remembers.records in
    let buffer : state.manifest.config.buffer ≡ s.manifest.config.buffer = ap (λ (m : Manifest). m.config.buffer) remembers.manifest in
    omega (arith, records, buffer, room)

-- A refused call: what came of what is stored is known, unless the disk failed in it.
module _ (Tells : Type 0) (config : Fields) (opened : Opened) (h : History) (old new : View) (s : Stored) (known : IsKnown config h old s) (call : Call) (why : Refused)
    (stood : StandsSince config opened (refused_to h 0 call why) new) (still : IsSome old.state.stopped → IsStill Tells old new) where
  abbrev pub Refuses : (Stored → Type 0) → Type 0
  Refuses Comes = (t : Stored) × IsKnown config (refused_to h 0 call why) new t × (failure_of why ≡ None → Comes t)

  pub refused_known : (Comes : Stored → Type 0) → Comes s → (failure_of why ≡ None → Holds old s → (t : Stored) × Comes t × Holds new t) → Refuses Comes
  refused_known Comes itself part = by (failure_of why) old.state.stopped refl refl
    where
      by : (failure : Option Failure) (stopped : Option ℕ) → failure_of why ≡ failure → old.state.stopped ≡ stopped → Refuses Comes
      by (Some failure) stopped fails is = (stood.now.stored, known_of config opened (refused_to h 0 call why) new stood, λ none. absurd (not_none failure (sym fails ∙ none)))
      by None None fails runs =
          let made = part fails (known.held runs) in
          (made.0, known_held config opened (refused_to h 0 call why) new stood made.0 made.2, λ none. made.1)
      by None (Some at) fails stopped =
          (s, known_still Tells config h (refused_to h 0 call why) old new s at stopped (still (ap is_some stopped)) (refused_none h 0 call why fails) known, λ none. itself)

-- by which call it is stopped
pub stopped_is : (config : Fields) (h : History) (view : View) (s : Stored) (stopped : Option ℕ) → IsOpenOrStopped config view h s stopped → IsStoppedBy h stopped
stopped_is config h view s None is = is.0
stopped_is config h view s (Some at) is = (is.before, is.change, is.history, is.done, (is.faults_before, is.faults, is.failed), is.place)

-- the moment of a store of which that is known, and whose job is this
pub moment_known : (config : Fields) (opened : Opened) (h : History) (view : View) → StandsSince config opened h view → (s : Stored) → IsKnown config h view s → (fetches faults begun : ℕ) (there : Option Going) (snapshots : List ℕ)
    → IfSome there (IsGoing view.flights) → IsMomentOf config h (moment_of view s fetches faults begun there snapshots)
moment_known config opened h view stands s known fetches faults begun there snapshots going = record {
  legal = stands.now.legal;
  count = stands.now.count;
  stopped = stopped_is config h view stands.now.stored view.state.stopped stands.now.held;
  config_is = known.config_is;
  stands = known.stands;
  remembers = known.remembers;
  current = λ runs. (known.held runs).running.current;
  encodes = λ runs. (known.held runs).running.settled.encodes;
  only = λ runs. (known.held runs).running.only;
  kept = λ runs. (known.held runs).running.kept;
  tasked = λ runs. (known.held runs).running.tasked;
  going = going;
}

-- Whether it was stopped

pub not_stopped : (stopped : Option ℕ) → ((at : ℕ) → stopped ≡ Some at → ⊥) → stopped ≡ None
not_stopped None never = refl
not_stopped (Some at) never = absurd (never at refl)

pub done_last : (before : History) (change : Change) → AreDone (before ++ change ∷ []) → change.did ≡ Done
done_last [] change done = head_done change [] done
done_last (first ∷ before) change done = done_last before change (tail_done first (before ++ change ∷ []) done)

pub done_or_failed : (change : Change) (before behind : ℕ) → change.did ≡ Done → change.did ≡ Failed before behind → ⊥
done_or_failed change before behind done failed = let both : Done ≡ Failed before behind = sym done ∙ failed in cc

done_stopped : (config : Fields) (h : History) (view : View) (at : ℕ) → AreDone h → IsStopped config h view.disk at → ⊥
done_stopped config h view at done stopped =
    done_or_failed stopped.change stopped.faults_before stopped.faults (done_last stopped.before stopped.change (subst AreDone stopped.history done)) stopped.failed

stopped_by : (config : Fields) (old new : View) (h : History) (s t : Stored) (before behind : Option ℕ) → IsOpenOrStopped config old h s before → IsOpenOrStopped config new h t behind → behind ≡ before
stopped_by config old new h s t None None was is = refl
stopped_by config old new h s t (Some one) (Some other) was is = ap Some (is.place ∙ sym was.place)
stopped_by config old new h s t None (Some at) was is = absurd (done_stopped config h new at was.0 is)
stopped_by config old new h s t (Some at) None was is = absurd (done_stopped config h old at is.0 was)

-- two stores that stand for one history
module _ (config : Fields) (h : History) (old new : View) (was : StandsNow config h old) (is : StandsNow config h new) where
  pub stopped_same : new.state.stopped ≡ old.state.stopped
  stopped_same = stopped_by config old new h was.stored is.stored old.state.stopped new.state.stopped was.held is.held

  pub count_same : new.state.count ≡ old.state.count
  count_same = is.count ∙ sym was.count

-- what is acknowledged is not refused
pub ok_or_err : {T E : Type 0} (x : T) (e : E) → ◌≡◌ {A = Result T E} (Ok x) (Err e) → ⊥
ok_or_err x e both = cc

-- the same refusal, as another result
pub refused_as : {T U E : Type 0} (result : Result T E) (why other : E) → result ≡ Err why → result ≡ Err other → ◌≡◌ {A = Result U E} (Err why) (Err other)
refused_as {T} {U} {E} result why other is again =
    let both : ◌≡◌ {A = Result T E} (Err why) (Err other) = sym is ∙ again in
    let same : why ≡ other = cc in
    λ i. Err (same i)
