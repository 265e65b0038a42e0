-- Changes: a put and a delete.
use Rattle.std.proofs.Common.{◌≡◌, ◌⊎◌, inl, inr, ℕ, ◌+◌, List, Option, Some, None, Result, Ok, Err, IfErr, IfOk, OnOk, refl, ap, ◌∙◌, subst}
use Rattle.std.specs.Prelude.{IfSome, IsSome}
use Rattle.std.specs.Result.{result_err}
use Rattle.lethe_base.specs.History.{History}
use Rattle.lethe_base.specs.Limits.{max_place}
use Rattle.lethe_base.specs.declared.call.Call.{Call}
use Rattle.lethe_base.specs.declared.config.Fields.{Fields}
use Rattle.lethe_base.specs.declared.refused.Refused.{Refused}
use Rattle.lethe_base.specs.declared.refused.Refused.TheVariants.{Exhausted, Stopped}
use Rattle.lethe_cover.specs.Steps.{with_done}
use Rattle.lethe_header.specs.declared.header.Header.{Header}
use Rattle.lethe_segment.specs.declared.record.Record.{Record}
use Rattle.lethe_stored.specs.Stored.{Stored, appended}
use Rattle.lethe_state.specs.Records.{headers_in}
use Rattle.lethe_state.specs.Room.{HasRoom}
use Rattle.lethe_core.proofs.Chosen.{begun_in}
use Rattle.lethe_core.proofs.Installing.{planned_for, sound_inputs}
use Rattle.lethe_core.specs.Asked.{Makes, behind, failure_of, refused_to}
use Rattle.lethe_core.specs.Merges.{AreRetiredBehind, IsRoomBegun, IsRoomMadeBy, Outcome, pages_of}
use Rattle.lethe_core.specs.Reasons.{HasReason, IsShort, IsShortOfRoom, IsUnreadable}
use Rattle.lethe_core.specs.Running.{Holds}
use Rattle.lethe_core.specs.View.{Flying, View}
use Rattle.lethe_engine.specs.Answers.{IsBegun, IsReadyFor, IsRefused, IsStill}
use Rattle.lethe_engine.specs.Refusals.{HasReasonOfChange, SeesRoom}
use Rattle.lethe_engine.specs.StandsFor.{Opened, StandsSince}
use Rattle.lethe_drive.specs.Answers.{IsChange, IsFull, IsShortToMerge, IsUnchanged}
use Rattle.lethe_drive.specs.Moments.{AreJobsSame, Going, IsKnown, Moment, moment_of}
use Rattle.lethe_drive.proofs.Knowing.{known_held, not_stopped, ok_or_err, refused_known, room_in, stopped_same}
use Rattle.lethe_drive.proofs.Outputs.{told_outputs}
use Rattle.lethe_drive.proofs.Reasons.{reason_on, unreadable_told}

-- where there is room for a record none has to be made
not_begun : (flight : List Flying) (s t : Stored) → HasRoom s → IsRoomBegun flight s t → t ≡ s
not_begun flight s t room (inl same) = same
not_begun flight s t room (inr begun) = absurd (begun.0 room)

module _ (Tells PortsFail : Type 0) (told : Tells) (call : Call) (IsNext : Stored → List Header → Record → Type 0) (config : Fields) (opened : Opened) (h : History) (old new : View) (s : Stored)
    (known : IsKnown config h old s) (fetches_before fetches_now faults_before faults_now begun : ℕ) (there : Option Going) (snapshots : List ℕ) (stands : StandsSince config opened h old) (flight : new.flights ≡ old.flights) (pins : new.pins ≡ old.pins)
    (ready : SeesRoom old.state → IsReadyFor call old.state) (parts : (t : Stored) → IsBegun call old.flights s t → IsRoomBegun old.flights s t) where
  abbrev before : Moment
  before = moment_of old s fetches_before faults_before begun there snapshots

  abbrev later : Stored → Moment
  later t = moment_of new t fetches_now faults_now begun there snapshots

  same_jobs : (t : Stored) → AreJobsSame before (later t)
  same_jobs t = record { flights = flight; begun = refl; there = refl }

  -- room was made, and the record was written behind the others
  abbrev pub Written : Type 0
  Written = (t : Stored) × (outcomes : List Outcome) × (next : Record) × IsRoomMadeBy old.flights s outcomes t × IsNext t (headers_in new.levels) next × Holds new (appended t next)
      × (fetches_now ≡ fetches_before + pages_of outcomes) × AreRetiredBehind outcomes old.pins.pins old.retired new.retired

  -- the job for which numbers are short is one of what is stored
  short_on : (t : Stored) → Holds new t → IsShortOfRoom Tells old.state new → IsShort old.state ⊎ IsShortToMerge (later t)
  short_on t holds (inl short) = inl short
  short_on t holds (inr short) =
      let begun = short.begun told t holds in
      let sound = sound_inputs t holds.remembers.coherent short.task (planned_for t short.task begun.planned) in
      inr (record { task = short.task; begun = begun_in t short.task begun; made = short.made; are = told_outputs Tells short.task short.made short.outputs told sound; short = short.short })

  module _ (why : Refused) (stood : StandsSince config opened (refused_to h 0 call why) new) where
    -- what is refused for want of numbers is in no history, so nothing was stopped
    still_runs : (last : ℕ) → why ≡ Exhausted last → old.state.stopped ≡ None → new.state.stopped ≡ None
    still_runs last full runs =
        let still = subst (λ (why : Refused). StandsSince config opened (refused_to h 0 call why) new) full stood in
        stopped_same config h old new stands.now still.now ∙ runs

    change_reason : (t : Stored) → IsKnown config (refused_to h 0 call why) new t → HasReasonOfChange Tells PortsFail old new faults_before faults_now why
        → HasReason (IsFull before × (IsShort old.state ⊎ IsShortToMerge (later t))) old.state old.faults new.faults why
        ⊎ (IsFull before × (old.state.stopped ≡ None) × IsUnreadable (Unit {0}) PortsFail faults_before faults_now why)
    change_reason t is (inl reason) = inl (reason_on ((SeesRoom old.state → ⊥) × IsShortOfRoom Tells old.state new) (IsFull before × (IsShort old.state ⊎ IsShortToMerge (later t)))
        old.state old.state old.faults new.faults refl refl why reason (λ last full runs short. (short.0, short_on t (is.held (still_runs last full runs)) short.1)))
    change_reason t is (inr reason) = inr (reason.0, reason.1, unreadable_told Tells PortsFail faults_before faults_now why told reason.2)

    not_changed : IsRefused Tells (Makes call) old new why → (t : Stored) → IsKnown config (refused_to h 0 call why) new t → (failure_of why ≡ None → IsRoomBegun old.flights s t)
        → HasReasonOfChange Tells PortsFail old new faults_before faults_now why → IsUnchanged PortsFail call h before why (refused_to h 0 call why) (later t)
    not_changed refused t is comes reason = record {
      history = refl;
      reason = change_reason t is reason;
      untouched = λ room none.
          let undone = refused.0 (ready room) none in
          record {
            stored = not_begun old.flights s t (room_in s old.state old.levels known.remembers room) (comes none);
            state = undone.state;
            levels = undone.levels;
            retired = undone.retired;
            pins = pins;
            directory = (undone.disk told).directory;
          };
      begun = comes;
    }

  abbrev pub Changed : Result ℕ Refused → Type 0
  Changed result = (t : Stored) × IsKnown config (behind h 0 (Makes call) (result_err result)) new t × IsChange PortsFail call IsNext h before result (behind h 0 (Makes call) (result_err result)) (later t)

  pub changed : (result : Result ℕ Refused) → StandsSince config opened (behind h 0 (Makes call) (result_err result)) new → (IsSome old.state.stopped → IsStill Tells old new)
      → IfSome (result_err result) (IsRefused Tells (Makes call) old new) → IfOk result (λ place. place ≡ old.state.count + 1)
      → IfErr result (HasReasonOfChange Tells PortsFail old new faults_before faults_now) → (Holds old s → OnOk result Written) → ((at : ℕ) → old.state.stopped ≡ Some at → result ≡ Err (Stopped at))
      → (old.state.stopped ≡ None → old.state.count ≡ max_place → result ≡ Err (Exhausted max_place)) → Changed result
  changed (Ok place) stood still refused next why written stops last =
      let made = written (known.held (not_stopped old.state.stopped (λ at e. ok_or_err place (Stopped at) (stops at e)))) in (
        appended made.0 made.2,
        known_held config opened (with_done h 0 call) new stood (appended made.0 made.2) made.5,
        record {
          answers = record {
            place_is = next ∙ ap (λ n. n + 1) stands.now.count;
            history = refl;
            cleared = made.0;
            outcomes = made.1;
            room = made.3;
            next = made.2;
            next_is = made.4;
            stored = refl;
            retired = made.7;
            fetches = made.6;
          };
          stops = stops;
          last = last;
          jobs = same_jobs (appended made.0 made.2);
          pins = record { held = pins; snapshots = refl };
        },
      )
  changed (Err why) stood still refused next reason written stops last =
      let comes = refused_known Tells config opened h old new s known call why stood still (IsRoomBegun old.flights s) (inl refl) (λ none holds. let part = refused.1 none told s holds in (part.0, parts part.0 part.1, part.2)) in (
        comes.0,
        comes.1,
        record { answers = not_changed why stood refused comes.0 comes.1 comes.2 reason; stops = stops; last = last; jobs = same_jobs comes.0; pins = record { held = pins; snapshots = refl } },
      )
