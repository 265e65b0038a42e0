-- A job that was begun is in flight.
use Rattle.std.proofs.Common.{◌≡◌, ◌<◌, ◌≤◌, ◌+◌, ◌++◌, ℕ, Bool, false, cond, [], ◌∷◌, map, All, None, Some, refl, ap, subst}
use Rattle.std.proofs.lemmas.Bool.{eq-eqb}
use Rattle.std.proofs.lemmas.List.Elements.{All-cons, All-nil}
use Rattle.lethe_base.specs.History.{History}
use Rattle.lethe_base.specs.Limits.{max_place, max_time}
use Rattle.lethe_base.specs.declared.config.Fields.{Fields}
use Rattle.lethe_disk.specs.Disk.{IsIdle, Seen}
use Rattle.lethe_stored.specs.Stored.{Stored}
use Rattle.lethe_advance.specs.Settled.{AreDrawn, AreUncited, HasOnly, names_in}
use Rattle.lethe_clean.specs.Copied.{IsCopiedOf}
use Rattle.lethe_fade.specs.Claims.{meets}
use Rattle.lethe_job.specs.Claims.{claim_of_task}
use Rattle.lethe_job.specs.Works.{IsBegunIn, IsInLevels, PlainTask, applied_upto, erases_of, inputs_in}
use Rattle.lethe_stored.specs.Files.{file_of}
use Rattle.lethe_core.proofs.Beside.{none_drawn}
use Rattle.lethe_core.proofs.Flying.{flights_more, no_flights}
use Rattle.lethe_core.specs.Flights.{flying_by}
use Rattle.lethe_core.specs.Running.{Holds, IsCopiedFrom, IsFlying, IsRunning, IsSound, IsTasked}
use Rattle.lethe_core.specs.StandsNow.{IsCounted, StandsNow}
use Rattle.lethe_core.specs.View.{Flying, View, beside_at, loose_in}
use Rattle.lethe_core.proofs.Installing.{planned_counted, planned_for}
use Rattle.lethe_core.proofs.Standing.{idle_back, next_stands_now, running_back, sound_back, stands_back, stands_for, stands_holds}

-- where it alone is in flight, it is the job of its number
pub begun_found : (flying : Flying) → flying_by flying.number (flying ∷ []) ≡ Some flying
begun_found flying = ap (λ (same : Bool). cond same (Some flying) None) (eq-eqb flying.number flying.number refl)

module _ (Tells : Type 0) (old : View) (task : PlainTask) (free : old.flights ≡ []) (runs : old.state.stopped ≡ None) (sound : IsSound Tells old) (begun : (s : Stored) → Holds old s → IsBegunIn s task) where
  abbrev flying : Flying
  flying = record { number = old.begun; task = task; written = [] }

  abbrev now : View
  now = record old { flights = flying ∷ []; begun = old.begun + 1 }

  -- what holds of the one holds of all
  one : (P : Flying → Type 0) → P flying → All P (flying ∷ [])
  one P is = All-cons P flying [] is (All-nil P)

  begun_running : (s : Stored) → Holds old s → IsRunning now s
  begun_running s holds =
      let is = begun s holds in
      let running = holds.running in
      record {
        settled = running.settled;
        only = subst (λ flights. HasOnly s (beside_at old.disk.directory old.retired flights) old.disk.directory) free running.only;
        uncited = subst (λ flights. AreUncited s (beside_at old.disk.directory old.retired flights)) free running.uncited;
        untorn = running.untorn;
        copied = one IsCopiedFrom (All-nil (IsCopiedOf (map file_of (inputs_in task))));
        kept = running.kept;
        rising = running.rising;
        ends = running.ends;
        current = running.current;
        tasked = one (IsTasked s) (planned_for s task is.planned);
      }

  pub begun_holds : (s : Stored) → Holds old s → Holds now s
  begun_holds s holds = record { remembers = holds.remembers; running = begun_running s holds }

  pub begun_stands : (config : Fields) (h : History) → StandsNow config h old → StandsNow config h now
  begun_stands config h stands =
      let s = stands.stored in
      let holds = stands_holds config h old stands runs in
      let for = stands_for config h old stands runs in
      next_stands_now config h old now stands runs s refl refl for (begun_holds s holds) (one (λ flying. IsCounted flying.task) (planned_counted h s task holds.remembers.coherent for (begun s holds).planned))
      stands.recorded (stands.timely runs)

  begun_flies : IsInLevels old.state.manifest.config.levels task → applied_upto task ≤ max_place → All (λ erase. erase.time ≤ max_time) (erases_of task) → IsFlying old.state flying
  begun_flies levels upto times = record { levels = levels; upto = upto; erases = times }

  pub begun_sound : IsInLevels old.state.manifest.config.levels task → applied_upto task ≤ max_place → All (λ erase. erase.time ≤ max_time) (erases_of task) → IsSound Tells now
  begun_sound levels upto times = record {
    writable = sound.writable;
    small = sound.small;
    count = sound.count;
    flights = flights_more [] flying no_flights (All-nil (λ (other : Flying). other.number < old.begun)) (All-nil (λ (other : Flying). meets (claim_of_task other.task) (claim_of_task task) ≡ false));
    flies = one (IsFlying old.state) (begun_flies levels upto times);
    loose = none_drawn old.state.next;
    drawn = λ told. subst (λ flights. AreDrawn old.state.next (old.retired ++ names_in (loose_in flights))) free (sound.drawn told);
    pins = sound.pins;
    pages = sound.pages;
    held = λ told. let held = sound.held told in (held.0, held.1, λ runs. begun_running held.0 (record { remembers = held.1; running = held.2 runs }));
  }

-- The disk has what it had

abbrev beside_disk : View → Seen → ℕ → View
beside_disk view disk faults = record view { disk = disk; faults = faults }

pub idle_sound : (Tells : Type 0) (view : View) (disk : Seen) (faults : ℕ) → (Tells → IsIdle view.disk disk) → IsSound Tells view → IsSound Tells (beside_disk view disk faults)
idle_sound Tells view disk faults idle sound = sound_back Tells view (beside_disk view disk faults) (λ told. idle_back view.disk disk (idle told)) refl (record { levels = refl; retired = refl; flights = refl; begun = refl; rounds = refl; pins = refl }) sound

module _ (view : View) (disk : Seen) (faults : ℕ) (idle : IsIdle view.disk disk) where
  pub idle_holds : (s : Stored) → Holds view s → Holds (beside_disk view disk faults) s
  idle_holds s holds = record {
    remembers = holds.remembers;
    running = running_back view (beside_disk view disk faults) (idle_back view.disk disk idle) s refl (record { levels = refl; retired = refl; flights = refl; begun = refl; rounds = refl; pins = refl }) holds.running;
  }

  pub idle_stands : (config : Fields) (h : History) → StandsNow config h view → StandsNow config h (beside_disk view disk faults)
  idle_stands config h stands = stands_back view (beside_disk view disk faults) (idle_back view.disk disk idle) config h refl (record { levels = refl; retired = refl; flights = refl; begun = refl; rounds = refl; pins = refl }) stands
