-- What a call answers, by how it went: nothing was done, a step was, or a change was tried.
use Rattle.std.proofs.Common.{◌≡◌, ◌≤◌, inl, ◌+◌, ℕ, List, Option, Some, None, Result, Ok, Err, refl, sym, ap, ◌∙◌, subst, arith}
use Rattle.std.specs.Prelude.{Contains, IfErr, IfSome, IsSome, IsTrue}
use Rattle.std.specs.Result.{result_err}
use Rattle.lethe_base.specs.History.{History}
use Rattle.lethe_base.specs.declared.call.Call.{Call}
use Rattle.lethe_base.specs.declared.call.Call.TheVariants.{Put, Delete, Erase, Tick, Work}
use Rattle.lethe_base.specs.declared.config.Fields.{Fields}
use Rattle.lethe_base.specs.declared.refused.Refused.{Refused}
use Rattle.lethe_disk.specs.Directory.{Directory, object}
use Rattle.lethe_disk.specs.Disk.{IsIdle}
use Rattle.lethe_disk.specs.Goes.{Goes}
use Rattle.lethe_stored.specs.Kept.{IsKept}
use Rattle.lethe_stored.specs.Left.{IsKeptOr}
use Rattle.lethe_stored.specs.Numbers.{GoesFrom}
use Rattle.lethe_stored.specs.Stored.{Stored}
use Rattle.lethe_stored.proofs.Numbers.{goes_from_then}
use Rattle.lethe_state.specs.Clock.{Clock, clock_of}
use Rattle.lethe_state.specs.declared.state.State.{State}
use Rattle.lethe_pins.specs.Held.{Held, is_named}
use Rattle.lethe_core.specs.Asked.{Asked, Makes, Serves, behind, clock_behind, counted, failure_of, stopped_by, written_by}
use Rattle.lethe_core.specs.Keeps.{Keeps}
use Rattle.lethe_core.specs.Merges.{IsRoomBegun, IsRoomMadeBy, Outcome}
use Rattle.lethe_core.specs.Pinned.{AreKept, AreRetiredFrom}
use Rattle.lethe_core.specs.Reasons.{HasReason}
use Rattle.lethe_core.specs.Running.{Holds, IsSound}
use Rattle.lethe_core.specs.StandsNow.{StandsNow}
use Rattle.lethe_core.specs.Steps.{IsDoneInPart, IsUndone}
use Rattle.lethe_core.specs.View.{Flying, View, face_of}
use Rattle.lethe_core.proofs.Asked.{behind_none, clock_refused, counted_none, stopped_none}
use Rattle.lethe_core.proofs.Hindered.{as_itself, like_of}
use Rattle.lethe_core.proofs.Likes.{before_holds}
use Rattle.lethe_core.proofs.Roomed.{room_begun}
use Rattle.lethe_core.proofs.Standing.{idle_back, moments_or, stands_moments}
use Rattle.lethe_engine.specs.Answers.{Answers, IsBegun, IsReadyFor, IsRefused}
use Rattle.lethe_engine.specs.Refusals.{HasReasonOfChange}
use Rattle.lethe_engine.specs.StandsFor.{IsKeptFor, Opened, StandsSince}
use Rattle.lethe_engine.proofs.Onward.{answered_for, idle_for, sound_pages, worked_for}
use Rattle.lethe_engine.proofs.Reasons.{IsTold, changes_told, reasons_told}

-- what is said of a refusal, by the answer that may be one
pub if_refused : {T : Type 0} (result : Result T Refused) (P : Refused → Type 0) → IfErr result P → IfSome (result_err result) P
if_refused (Ok done) P is = tt
if_refused (Err why) P is = is

-- What stands for a history at the end has kept it since the beginning.
pub goes_by : (P : Directory → Type 0) (config : Fields) (opened : Opened) (h g : History) (old new : View) → StandsSince config opened h old → StandsSince config opened g new → Goes P old.disk new.disk
    → Goes (IsKeptFor config opened.history g) old.disk new.disk
goes_by P config opened h g old new before after run = record {
  later = run.later;
  past = run.past;
  each = λ m c low high left. let since = before.later in after.images m c (omega (arith, since, low)) high left;
}

pub idle_goes : (config : Fields) (opened : Opened) (h g : History) (old new : View) → StandsSince config opened h old → StandsSince config opened g new → IsIdle old.disk new.disk
    → Goes (IsKeptFor config opened.history g) old.disk new.disk
idle_goes config opened h g old new before after idle = record {
  later = let same = idle.moment in omega (arith, same);
  past = λ m c low. idle.left m c;
  each = λ m c low high left. let since = before.later in after.images m c (omega (arith, since, low)) high left;
}

pub idle_itself : (view : View) → IsIdle view.disk view.disk
idle_itself view = record { directory = refl; moment = refl; left = λ m c. (λ left. left, λ left. left) }

-- Where nothing was done

-- an answer that is in no history
pub record IsNoChange (asked : Asked) (why : Option Refused) : Type 0 where
  pub count : (count : ℕ) → counted asked why count ≡ count
  pub stopped : (stopped : Option ℕ) → stopped_by why stopped ≡ stopped
  pub clock : (clock : Clock) → clock_behind asked why clock ≡ clock
  pub history : (h : History) (caller : ℕ) → behind h caller asked why ≡ h

pub refused_is_none : (asked : Asked) (why : Refused) → failure_of why ≡ None → IsNoChange asked (Some why)
refused_is_none asked why none = record {
  count = λ count. counted_none asked why count none;
  stopped = λ stopped. stopped_none why stopped none;
  clock = clock_refused asked why;
  history = λ h caller. behind_none h caller asked why none;
}

pub served_is_none : (call : Call) → IsNoChange (Serves call) None
served_is_none call = record { count = λ count. refl; stopped = λ stopped. refl; clock = λ clock. refl; history = λ h caller. refl }

idle_moments : (P : Directory → Type 0) (old new : View) → IsIdle old.disk new.disk → new.state.next ≡ old.state.next → GoesFrom new.state.next P new.disk new.disk → GoesFrom old.state.next P old.disk new.disk
idle_moments P old new idle next run = let same = idle.moment in record {
  goes = record { later = omega (arith, same); past = λ m c low. idle.left m c; each = λ m c low high left. run.goes.each m c (omega (arith, low, same)) high left };
  pace = λ m c low high left more is. let below = run.pace m c (omega (arith, low, same)) high left more is in omega (arith, below, next, same);
}

-- of the steps of a change none may have been done
none_begun : (call : Call) (flights : List Flying) (s : Stored) → IsBegun call flights s s
none_begun (Put key dkey value) flights s = inl refl
none_begun (Delete key) flights s = inl refl
none_begun (Erase range) flights s = inl refl
none_begun (Tick to) flights s = inl (inl refl)
none_begun Work flights s = refl

-- nothing was done at all
pub itself_answers : (Tells : Type 0) (asked : Asked) (why : Option Refused) (view : View) → IsSound Tells view → IsNoChange asked why → Answers Tells asked why (face_of view) view view
itself_answers Tells asked why view sound none = record {
  sound = sound;
  count = sym (none.count view.state.count);
  stopped = sym (none.stopped view.state.stopped);
  clock = sym (none.clock (clock_of view.state.manifest));
  stands = λ told config opened h before caller. same config opened h before caller;
  goes = λ told config opened h before caller. idle_goes config opened h (behind h caller asked why) view view before (same config opened h before caller) (idle_itself view);
  any_moment = λ told config h now runs caller. moments_or config h (written_by caller asked why) view.state.next view.disk view.disk (stands_moments config h view now runs sound.writable);
  numbers = λ told. omega arith;
  drawn = omega arith;
  later = λ told. omega arith;
  faults = omega arith;
  still = λ some. record { state = refl; levels = refl; faults = refl; disk = λ told. idle_itself view };
  refused = undone asked why;
  face_is = refl;
  retired = λ name there. inl there;
  pinned = λ told name was now. refl;
}
  where
    same : (config : Fields) (opened : Opened) (h : History) → StandsSince config opened h view → (caller : ℕ) → StandsSince config opened (behind h caller asked why) view
    same config opened h before caller = subst (λ g. StandsSince config opened g view) (sym (none.history h caller)) before

    undone : (asked : Asked) (why : Option Refused) → IfSome why (IsRefused Tells asked view view)
    undone asked None = tt
    undone (Makes call) (Some why) = ((λ ready not. as_itself Tells view), λ not told s holds. (s, none_begun call view.flights s, holds))
    undone (Serves call) (Some why) = λ not. as_itself Tells view

-- work or a look that left the disk as it was
pub idle_answers : (Tells : Type 0) (why : Option Refused) (old new : View) → IsSound Tells new → new.state ≡ old.state → new.levels ≡ old.levels → new.retired ≡ old.retired → new.faults ≡ old.faults → (Tells → IsIdle old.disk new.disk)
    → (Tells → (config : Fields) (h : History) → StandsNow config h old → StandsNow config h new) → IsNoChange (Serves Work) why → Answers Tells (Serves Work) why (face_of new) old new
idle_answers Tells why old new sound state levels retired faults idle now none = record {
  sound = sound;
  count = ap (λ (state : State). state.count) state ∙ sym (none.count old.state.count);
  stopped = ap (λ (state : State). state.stopped) state ∙ sym (none.stopped old.state.stopped);
  clock = ap (λ (state : State). clock_of state.manifest) state ∙ sym (none.clock (clock_of old.state.manifest));
  stands = same;
  goes = λ told config opened h before caller. idle_goes config opened h (behind h caller (Serves Work) why) old new before (same told config opened h before caller) (idle told);
  any_moment = λ told config h before runs caller. moments_or config h None old.state.next old.disk new.disk
      (idle_moments (λ c. IsKept config c h) old new (idle told) next (stands_moments config h new (now told config h before) (ap (λ (state : State). state.stopped) state ∙ runs) sound.writable));
  numbers = λ told. let same = (idle told).moment in omega (arith, same, next);
  drawn = omega (arith, next);
  later = λ told. let same = (idle told).moment in omega (arith, same);
  faults = omega (arith, faults);
  still = λ some. record { state = state; levels = levels; faults = faults; disk = idle };
  refused = undone why;
  face_is = refl;
  retired = λ name there. inl (subst (λ names. Contains names name) retired there);
  pinned = λ told name was now. ap (λ d. object d name) (idle told).directory;
}
  where
    next : new.state.next ≡ old.state.next
    next = ap (λ (state : State). state.next) state

    same : Tells → (config : Fields) (opened : Opened) (h : History) → StandsSince config opened h old → (caller : ℕ) → StandsSince config opened (behind h caller (Serves Work) why) new
    same told config opened h before caller =
        subst (λ g. StandsSince config opened g new) (sym (none.history h caller)) (idle_for config opened h old new (idle told) next faults (sound_pages Tells new sound told) (now told config h before.now) before)

    undone : (why : Option Refused) → IfSome why (IsRefused Tells (Serves Work) old new)
    undone None = tt
    undone (Some why) = λ not. record { state = like_of old.state new.state state; levels = levels; retired = retired; disk = λ told. idle_back old.disk new.disk (idle told) }

-- Where something was done

runs_on : (stopped : Option ℕ) → stopped ≡ None → IsSome stopped → ⊥
runs_on None runs some = absurd cc
runs_on (Some at) runs some = let clash : Some at ≡ None = runs in cc

-- a step, by the count of faults that was taken before it
pub step_answers : (Tells Short : Type 0) (why : Option Refused) (old new : View) (before : ℕ) → old.state.stopped ≡ None → before ≡ old.faults → Keeps Tells old new why → IfSome why (HasReason Short old.state before new.faults)
    → IfSome why (IsUndone Tells old new) → Answers Tells (Serves Work) why (face_of new) old new
step_answers Tells Short why old new before runs is keeps reason undone = record {
  sound = keeps.sound;
  count = keeps.count;
  stopped = keeps.stopped;
  clock = keeps.clock;
  stands = worked;
  goes = λ told config opened h stands caller.
      goes_by (λ c. IsKept config c h) config opened h (behind h caller (Serves Work) why) old new stands (worked told config opened h stands caller) (keeps.any_moment told config h stands.now).goes;
  any_moment = λ told config h stands runs caller. moments_or config h None old.state.next old.disk new.disk (keeps.any_moment told config h stands);
  numbers = keeps.numbers;
  drawn = keeps.drawn;
  later = λ told. let numbers = keeps.numbers told in let drawn = keeps.drawn in omega (arith, numbers, drawn);
  faults = keeps.faults;
  still = λ some. absurd (runs_on old.state.stopped runs some);
  refused = undone;
  face_is = refl;
  retired = keeps.retired;
  pinned = λ told name was now. keeps.pinned told name was;
}
  where
    worked : Tells → (config : Fields) (opened : Opened) (h : History) → StandsSince config opened h old → (caller : ℕ) → StandsSince config opened (behind h caller (Serves Work) why) new
    worked told config opened h stands caller =
        worked_for config opened h old new stands runs keeps.faults (keeps.numbers told) (sound_pages Tells new keeps.sound told) caller why (reasons_told Short old.state old.faults new.faults why (subst (λ n. IfSome why (HasReason Short old.state n new.faults)) is reason))
        (keeps.any_moment told config h stands.now) (keeps.stands told config h stands.now caller Work)

-- Changes

module _ (Tells : Type 0) (call : Call) (works : call ≡ Work → ⊥) (old : View) (runs : old.state.stopped ≡ None) where
  -- the change was made, or wasn't, as its steps say together
  pub made_answers : (new : View) (why : Option Refused) → IsSound Tells new → new.state.count ≡ counted (Makes call) why old.state.count → new.state.stopped ≡ stopped_by why old.state.stopped
      → clock_of new.state.manifest ≡ clock_behind (Makes call) why (clock_of old.state.manifest)
      → (Tells → (config : Fields) (h : History) (caller : ℕ) → StandsNow config h old → StandsNow config (behind h caller (Makes call) why) new)
      → (Tells → (config : Fields) (h : History) (caller : ℕ) → StandsNow config h old → GoesFrom old.state.next (IsKeptOr config h (written_by caller (Makes call) why)) old.disk new.disk)
      → (Tells → new.state.next + old.disk.moment ≤ old.state.next + new.disk.moment) → old.state.next ≤ new.state.next → old.faults ≤ new.faults → IfSome why (IsTold old.faults new.faults)
      → IfSome why (IsRefused Tells (Makes call) old new) → AreRetiredFrom old.pins.pins old.retired new.retired → (Tells → AreKept old.pins.pins old.disk.directory new.disk.directory) → Answers Tells (Makes call) why (face_of new) old new
  made_answers new why sound count stopped clock stands moments numbers drawn faults reason refused retired kept = record {
    sound = sound;
    count = count;
    stopped = stopped;
    clock = clock;
    stands = answered;
    goes = λ told config opened h before caller.
        goes_by (IsKeptOr config h (written_by caller (Makes call) why)) config opened h (behind h caller (Makes call) why) old new before (answered told config opened h before caller) (moments told config h caller before.now).goes;
    any_moment = λ told config h before runs caller. moments told config h caller before;
    numbers = numbers;
    drawn = drawn;
    later = λ told. let paced = numbers told in omega (arith, paced, drawn);
    faults = faults;
    still = λ some. absurd (runs_on old.state.stopped runs some);
    refused = refused;
    face_is = refl;
    retired = retired;
    pinned = λ told name was now. kept told name was;
  }
    where
      answered : Tells → (config : Fields) (opened : Opened) (h : History) → StandsSince config opened h old → (caller : ℕ) → StandsSince config opened (behind h caller (Makes call) why) new
      answered told config opened h before caller =
          answered_for config opened h old new before runs faults (numbers told) (sound_pages Tells new sound told) caller call works why reason (moments told config h caller before.now) (stands told config h caller before.now)

  -- room couldn't be made
  pub unroomed_answers : (PortsFail : Type 0) (first last : ℕ) (new : View) (why : Refused) → Keeps Tells old new (Some why) → HasReasonOfChange Tells PortsFail old new first last why → (IsReadyFor call old.state → ⊥)
      → IsDoneInPart Tells (IsBegun call old.flights) old new why → Answers Tells (Makes call) (Some why) (face_of new) old new
  unroomed_answers PortsFail first last new why keeps reason full partly =
      made_answers new (Some why) keeps.sound keeps.count keeps.stopped (keeps.clock ∙ sym (clock_refused (Makes call) why (clock_of old.state.manifest))) (λ told config h caller before. keeps.stands told config h before caller call)
      (λ told config h caller before. moments_or config h (written_by caller (Makes call) (Some why)) old.state.next old.disk new.disk (keeps.any_moment told config h before)) keeps.numbers keeps.drawn keeps.faults
      (changes_told Tells PortsFail old new first last why reason) ((λ ready. absurd (full ready)), partly) keeps.retired keeps.pinned

  -- room was made, and then the record was appended, or wasn't
  module _ (mid new : View) (why : Option Refused) (room : Keeps Tells old mid None) (made : Tells → (s : Stored) → Holds old s → (t : Stored) × (outcomes : List Outcome) × IsRoomMadeBy old.flights s outcomes t × Holds mid t)
      (begun : (s t : Stored) → IsRoomBegun old.flights s t → IsBegun call old.flights s t) (same : IsReadyFor call old.state → mid ≡ old) (face : face_of new ≡ face_of mid) (sound : IsSound Tells new)
      (count : new.state.count ≡ counted (Makes call) why mid.state.count) (stopped : new.state.stopped ≡ stopped_by why mid.state.stopped) (clock : clock_of new.state.manifest ≡ clock_behind (Makes call) why (clock_of mid.state.manifest))
      (reason : IfSome why (HasReason ⊥ mid.state old.faults new.faults)) (undone : IfSome why (IsUndone Tells mid new)) (numbers : Tells → new.state.next + mid.disk.moment ≤ mid.state.next + new.disk.moment) (drawn : mid.state.next ≤ new.state.next)
      (faults : mid.faults ≤ new.faults) (retired : new.retired ≡ mid.retired) (pins : new.pins ≡ mid.pins) (kept : Tells → AreKept mid.pins.pins mid.disk.directory new.disk.directory) where
    recorded_refused : (why : Option Refused) → IfSome why (IsUndone Tells mid new) → IfSome why (IsRefused Tells (Makes call) old new)
    recorded_refused None undone = tt
    recorded_refused (Some why) undone = (
      (λ ready. subst (λ view. IsUndone Tells view new why) (same ready) undone),
      λ none told s holds.
          let all = made told s holds in
          (all.0, begun s all.0 (room_begun old.flights s all.1 all.0 all.2), before_holds Tells told mid new all.0 face pins (undone none) all.3),
    )

    pub recorded_answers : (Tells → (config : Fields) (h : History) (caller : ℕ) → StandsNow config h mid → StandsNow config (behind h caller (Makes call) why) new)
        → (Tells → (config : Fields) (h : History) (caller : ℕ) → StandsNow config h mid → GoesFrom mid.state.next (IsKeptOr config h (written_by caller (Makes call) why)) mid.disk new.disk)
        → Answers Tells (Makes call) why (face_of mid) old new
    recorded_answers stands moments = subst (λ at. Answers Tells (Makes call) why at old new) face
        (made_answers new why sound (count ∙ ap (counted (Makes call) why) room.count) (stopped ∙ ap (stopped_by why) room.stopped) (clock ∙ ap (clock_behind (Makes call) why) room.clock) (λ told config h caller before. stands told config h caller (behind_room told config h before)) whole
        paced risen rose (reasons_told ⊥ mid.state old.faults new.faults why reason) (recorded_refused why undone) left pinned)
      where
        paced : Tells → new.state.next + old.disk.moment ≤ old.state.next + new.disk.moment
        paced told = let first = room.numbers told in let then = numbers told in omega (arith, first, then)

        risen : old.state.next ≤ new.state.next
        risen = let first = room.drawn in omega (arith, first, drawn)

        rose : old.faults ≤ new.faults
        rose = let first = room.faults in omega (arith, first, faults)

        left : AreRetiredFrom old.pins.pins old.retired new.retired
        left name there = room.retired name (subst (λ names. Contains names name) retired there)

        -- the store behind the room that was made
        behind_room : Tells → (config : Fields) (h : History) → StandsNow config h old → StandsNow config h mid
        behind_room told config h before = room.stands told config h before 0 Work

        pinned : Tells → AreKept old.pins.pins old.disk.directory new.disk.directory
        pinned told name named = kept told name (subst (λ (held : Held). IsTrue (is_named held.pins name)) (sym room.pins) named) ∙ room.pinned told name named

        whole : Tells → (config : Fields) (h : History) (caller : ℕ) → StandsNow config h old → GoesFrom old.state.next (IsKeptOr config h (written_by caller (Makes call) why)) old.disk new.disk
        whole told config h caller before =
            let Change = written_by caller (Makes call) why in
            goes_from_then (IsKeptOr config h Change) old.state.next mid.state.next old.disk mid.disk new.disk (moments_or config h Change old.state.next old.disk mid.disk (room.any_moment told config h before))
            (room.numbers told) (moments told config h caller (behind_room told config h before))
