-- What a step of a store comes to whose jobs in flight stay.
use Rattle.std.proofs.Common.{◌≡◌, ◌≤◌, ◌⊎◌, inl, inr, ℕ, ◌+◌, List, [], ◌++◌, length, None, refl, sym, ap, ◌∙◌, subst, arith}
use Rattle.std.specs.Prelude.{All, Contains, IsTrue}
use Rattle.lethe_base.specs.History.{History}
use Rattle.lethe_base.specs.declared.config.Fields.{Fields}
use Rattle.lethe_base.specs.declared.name.Kind.TheVariants.{Page}
use Rattle.lethe_base.specs.declared.name.Name.{Name}
use Rattle.lethe_disk.specs.Directory.{Directory, object}
use Rattle.lethe_follows.proofs.Behind.{later_flushed, later_frozen}
use Rattle.lethe_follows.specs.Young.{AreLaterRecorded}
use Rattle.lethe_manifest.specs.declared.manifest.Manifest.{Manifest}
use Rattle.lethe_stored.specs.Files.{Parts, StoredFile}
use Rattle.lethe_stored.specs.Kept.{IsFor, IsKept}
use Rattle.lethe_stored.specs.Numbers.{GoesFrom}
use Rattle.lethe_stored.specs.Stored.{Stored, froze, part_names}
use Rattle.lethe_stored.proofs.Freezing.{froze_for}
use Rattle.lethe_advance.specs.Settled.{AreDrawn, AreUncited, names_in}
use Rattle.lethe_advance.specs.Steps.{HasStayed, IsStep}
use Rattle.lethe_advance.specs.declared.new_header.NewHeader.{NewHeader}
use Rattle.lethe_advance.specs.declared.step.Step.{Step}
use Rattle.lethe_state.specs.Clock.{clock_of}
use Rattle.lethe_state.specs.Remembered.{IsCurrent, Remembers}
use Rattle.lethe_state.specs.Room.{IsFlushed, IsFrozen, IsStepFrom}
use Rattle.lethe_state.specs.Writable.{IsWritable}
use Rattle.lethe_state.specs.declared.state.State.{State}
use Rattle.lethe_core.specs.Flights.{AreFlights}
use Rattle.lethe_core.specs.Keeps.{Keeps, MayStep}
use Rattle.lethe_pins.specs.Held.{AreHeld, Held, is_named}
use Rattle.lethe_core.specs.Pinned.{AreKept, AreTimely}
use Rattle.lethe_core.specs.Running.{Holds, IsFlying, IsRunning, IsSmall}
use Rattle.lethe_core.specs.StandsNow.{IsCounted, StandsNow}
use Rattle.lethe_core.specs.View.{Flying, View, beside_in, loose_in, names_beside}
use Rattle.lethe_core.proofs.Beside.{names_beside_at}
use Rattle.lethe_core.proofs.Carried.{IsCarried, one_kept}
use Rattle.lethe_core.proofs.Hindered.{drawn_on, flies_on}
use Rattle.lethe_core.proofs.Kept.{carried_same, page_cited, pages_stay, retired_beside}
use Rattle.lethe_core.proofs.Standing.{next_drawn, next_stands_now, stands_for, stands_holds}
use Rattle.lethe_core.proofs.Timely.{retired_same, timely_kept}

pub frozen_for : (h : History) (s t : Stored) (state : State) (levels : List (List Parts)) → Remembers s state levels → s.frozen ≡ None → IsFor h s → IsFrozen s t → IsFor h t
frozen_for h s t state levels remembers none stands is = subst (IsFor h) (sym is.is) (froze_for s remembers.coherent is.segment (is.segment + 1) none h stands)

-- the segments go on to record what they did
pub frozen_recorded : (s t : Stored) → s.frozen ≡ None → AreLaterRecorded s → IsFrozen s t → AreLaterRecorded t
frozen_recorded s t none recorded is = subst AreLaterRecorded (sym is.is) (later_frozen s none recorded is.segment (is.segment + 1))

pub flushed_recorded : (h : History) (s t : Stored) → IsFor h s → AreLaterRecorded s → IsFlushed s t → AreLaterRecorded t
flushed_recorded h s t stands recorded is = subst AreLaterRecorded (sym is.is) (later_flushed h s stands recorded is.made is.number)

-- the numbers of the pages that lie beside what is stored were drawn
pub beside_drawn : (view : View) → AreDrawn view.state.next (names_beside view) → AreDrawn view.state.next (names_in (beside_in view))
beside_drawn view drawn = subst (AreDrawn view.state.next) (sym (names_beside_at view.disk.directory view.retired view.flights)) drawn

-- Steps that the state gives

module _ (Tells : Type 0) (view : View) (drawn : Tells → AreDrawn view.state.next (names_beside view)) (headers : List NewHeader) (step : Step) where
  pub flushed_next : ((s : Stored) → Remembers s view.state view.levels → IsCurrent s view.state → (loose : List (Name × List ℕ)) → AreDrawn view.state.next (names_in loose) → AreUncited s loose
      → (t : Stored) × IsFlushed s t × IsStep s loose t loose headers step) → Tells → (s : Stored) → Holds view s → (t : Stored) × IsFlushed s t × IsStep s (beside_in view) t (beside_in view) headers step
  flushed_next flushes told s holds = flushes s holds.remembers holds.running.current (beside_in view) (beside_drawn view (drawn told)) holds.running.uncited

  pub frozen_next : IsWritable view.state → headers ≡ [] → ((s : Stored) (levels : List (List Parts)) → Remembers s view.state levels → IsCurrent s view.state → (loose : List (Name × List ℕ))
      → AreDrawn view.state.next (names_in loose) → AreUncited s loose → IsStep s loose (froze s view.state.next (view.state.next + 1)) loose [] step)
      → Tells → (s : Stored) → Holds view s → (t : Stored) × IsFrozen s t × IsStep s (beside_in view) t (beside_in view) headers step
  frozen_next writable none freezes told s holds =
      let loose = beside_in view in
      let t = froze s view.state.next (view.state.next + 1) in
      let later = writable.drawn in
      let cited : view.state.manifest.next ≡ s.manifest.next = ap (λ (m : Manifest). m.next) holds.remembers.manifest in (
        t,
        record { segment = view.state.next; drawn = omega (arith, later, cited); is = refl },
        subst (λ headers. IsStep s loose t loose headers step) (sym none)
            (freezes s view.levels holds.remembers holds.running.current loose (beside_drawn view (drawn told)) holds.running.uncited),
      )

-- A step that was carried out

module _ (P : Stored → Stored → Type 0) (Tells : Type 0) (old : View) (headers : List NewHeader) (step : Step) (before : ℕ) (may : MayStep Tells old before)
    (next_is : Tells → (s : Stored) → Holds old s → (t : Stored) × P s t × IsStep s (beside_in old) t (beside_in old) headers step) where
  -- what is stored is known to be there
  pub next_step : Tells → (s t : Stored) × (left : List (Name × List ℕ)) × IsRunning old s × IsStep s (beside_in old) t left headers step
  next_step told =
      let held = may.sound.held told in
      let running = held.2 may.runs in
      let t = next_is told held.0 (record { remembers = held.1; running = running }) in
      (held.0, t.0, beside_in old, running, t.2)

  -- where files stay, what pins name and what is retired stays as it is, whatever became of the step
  pub next_kept : ((s t : Stored) → P s t → (file : StoredFile) → Contains s.files file → Contains t.files file) → (new : Directory)
      → (Tells → (s t : Stored) (left : List (Name × List ℕ)) → IsRunning old s → IsStep s (beside_in old) t left headers step → HasStayed t left old.disk.directory new)
      → Tells → AreKept old.pins.pins old.disk.directory new
  next_kept stay new stayed told name named =
      let held = may.sound.held told in
      let s = held.0 in
      let running = held.2 may.runs in
      let t = next_is told s (record { remembers = held.1; running = running }) in
      let was = running.kept name named in
      carried_same old s t.0 (beside_in old) headers step running t.2 new (stayed told s t.0 (beside_in old) running t.2) name was
      (elim was as (λ _. Contains (part_names t.0) name ⊎ Contains (names_in (beside_in old)) name) [
        | inl page ↦ inl (page_cited t.0 t.2.coherent name (pages_stay s.files t.0.files (stay s t.0 t.1) name page))
        | inr retired ↦ inr (retired_beside old s t.0 (beside_in old) headers step running t.2 name retired)
      ])

  module _ (new : View) (stays : (h : History) (s t : Stored) → Holds old s → IsFor h s → P s t → IsFor h t) where
    -- a crash at any moment leaves what stands for the history
    pub next_moments : (segments : ℕ) → IsStepFrom segments (clock_of old.state.manifest) old.state headers step
        → (Tells → (s t : Stored) (left : List (Name × List ℕ)) → IsRunning old s → IsStep s (beside_in old) t left headers step → (h g : History) → IsFor h s → IsFor g t
        → s.manifest.next ≤ old.state.next → t.manifest.next ≤ old.state.next + length step.objects.items + 1
        → GoesFrom old.state.next (λ c. IsKept s.manifest.config c h ⊎ IsKept s.manifest.config c g) old.disk new.disk)
        → Tells → (config : Fields) (h : History) → StandsNow config h old → GoesFrom old.state.next (λ c. IsKept config c h) old.disk new.disk
    next_moments segments from moments told config h stands =
        let s = stands.stored in
        let holds = stands_holds config h old stands may.runs in
        let for = stands_for config h old stands may.runs in
        let t = next_is told s holds in
        let number = from.numbers in
        let next = from.next in
        let made = ap (λ (m : Manifest). m.next) t.2.manifest in
        subst (λ (fields : Fields). GoesFrom old.state.next (λ c. IsKept fields c h) old.disk new.disk) stands.config_is
        (one_kept s.manifest.config h old.state.next old.disk new.disk
        (moments told s t.0 (beside_in old) holds.running t.2 h h for (stays h s t.0 holds for t.1) (next_drawn old s may.sound.writable stands.remembers) (omega (arith, number, next, made))))

    module _ (carried : IsCarried Tells old new headers step)
        (behind : Tells → (s t : Stored) → Holds old s → P s t → IsStep s (beside_in old) t (beside_in old) headers step → Holds new t) where
      pub next_done : Tells → (s : Stored) → Holds old s → (t : Stored) × P s t × Holds new t
      next_done told s holds = let t = next_is told s holds in (t.0, t.1, behind told s t.0 holds t.1 t.2)

      -- what pins name, and what is retired, stays as it is
      next_same : Tells → (s : Stored) → Holds old s → (name : Name) → IsTrue (is_named old.pins.pins name) ⊎ Contains old.retired name → object new.disk.directory name ≡ object old.disk.directory name
      next_same told s holds name was =
          let t = next_is told s holds in
          let after = behind told s t.0 holds t.1 t.2 in
          let stayed = carried.stays told s t.0 (beside_in old) holds.running t.2 in
          elim was [
            | inl named ↦
                let there = elim (after.running.kept name (subst (λ (held : Held). IsTrue (is_named held.pins name)) (sym carried.pins) named)) as (λ _. Contains (part_names t.0) name ⊎ Contains (names_in (beside_in old)) name) [
                  | inl page ↦ inl (page_cited t.0 after.remembers.coherent name page)
                  | inr retired ↦ inr (retired_beside old s t.0 (beside_in old) headers step holds.running t.2 name (subst (λ names. Contains names name) carried.retired retired))
                ] in
                carried_same old s t.0 (beside_in old) headers step holds.running t.2 new.disk.directory stayed name (holds.running.kept name named) there
            | inr retired ↦ carried_same old s t.0 (beside_in old) headers step holds.running t.2 new.disk.directory stayed name (inr retired)
                (inr (retired_beside old s t.0 (beside_in old) headers step holds.running t.2 name retired))
          ]

      next_timely : Tells → (threshold : ℕ) (h : History) (s : Stored) → Holds old s → AreTimely threshold h old.pins.pins old.retired old.disk.directory
          → AreTimely threshold h new.pins.pins new.retired new.disk.directory
      next_timely told threshold h s holds timely =
          subst (λ (held : Held). AreTimely threshold h held.pins new.retired new.disk.directory) (sym carried.pins)
          (subst (λ names. AreTimely threshold h old.pins.pins names new.disk.directory) (sym carried.retired)
          (timely_kept threshold h old.pins.pins old.retired old.retired old.disk.directory new.disk.directory (λ name named. next_same told s holds name (inl named)) timely
          (λ name there. inl (there, next_same told s holds name (inr there)))))

      next_stands : ((h : History) (s t : Stored) → Holds old s → IsFor h s → AreLaterRecorded s → P s t → AreLaterRecorded t)
          → Tells → new.state.count ≡ old.state.count → (config : Fields) (h : History) → StandsNow config h old → StandsNow config h new
      next_stands later told count config h stands =
          let s = stands.stored in
          let holds = stands_holds config h old stands may.runs in
          let t = next_is told s holds in
          next_stands_now config h old new stands may.runs t.0 count t.2.config (stays h s t.0 holds (stands_for config h old stands may.runs) t.1) (behind told s t.0 holds t.1 t.2)
          (subst (All (λ (flying : Flying). IsCounted flying.task)) (sym carried.flights) stands.counted)
          (later h s t.0 holds (stands_for config h old stands may.runs) stands.recorded t.1) (next_timely told config.threshold h s holds (stands.timely may.runs))

      pub next_keeps : ((h : History) (s t : Stored) → Holds old s → IsFor h s → AreLaterRecorded s → P s t → AreLaterRecorded t) → (segments : ℕ) → IsStepFrom segments (clock_of old.state.manifest) old.state headers step → new.state.manifest ≡ step.manifest → new.state.next ≡ step.manifest.next → new.state.count ≡ old.state.count
          → new.state.stopped ≡ old.state.stopped → IsWritable new.state → IsSmall new.state → Keeps Tells old new None
      next_keeps later segments from manifest next count stopped writable small =
          let config : new.state.manifest.config ≡ old.state.manifest.config = ap (λ (m : Manifest). m.config) manifest ∙ from.config in
          let number = from.numbers in
          let above = from.next in
          record {
            sound = record {
              writable = writable;
              small = small;
              count = carried.levels ∙ may.sound.count ∙ ap (λ (fields : Fields). fields.levels + 1) (sym config);
              flights = subst AreFlights (sym carried.flights) may.sound.flights;
              flies = subst (All (IsFlying new.state)) (sym carried.flights)
                  (flies_on old.state new.state (ap (λ (fields : Fields). fields.levels) config) old.flights may.sound.flies);
              loose = subst (λ flights. AreDrawn new.state.next (names_in (loose_in flights))) (sym carried.flights)
                  (drawn_on old.state.next new.state.next (names_in (loose_in old.flights)) (omega (arith, number, above, next)) may.sound.loose);
              drawn = λ told. subst (AreDrawn new.state.next) (λ i. (sym carried.retired) i ++ names_in (loose_in ((sym carried.flights) i)))
                  (drawn_on old.state.next new.state.next (names_beside old) (omega (arith, number, above, next)) (may.sound.drawn told));
              pins = subst AreHeld (sym carried.pins) may.sound.pins;
              pages = subst (λ (held : Held). All (λ pin. All (λ name. name.kind ≡ Page) pin.names) held.pins) (sym carried.pins) may.sound.pages;
              held = λ told.
                  let held = may.sound.held told in
                  let done = next_done told held.0 (record { remembers = held.1; running = held.2 may.runs }) in
                  (done.0, done.2.remembers, λ runs. done.2.running);
            };
            count = count;
            stopped = stopped;
            clock = ap clock_of manifest ∙ from.clock_is;
            stands = λ told config h stands caller call. next_stands later told count config h stands;
            any_moment = next_moments segments from carried.moments;
            numbers = λ told. let made = carried.calls told in omega (arith, made, number, above, next);
            drawn = omega (arith, number, above, next);
            faults = carried.faults;
            retired = retired_same old.pins.pins old.retired new.retired carried.retired;
            pins = carried.pins;
            pinned = λ told name named. let held = may.sound.held told in next_same told held.0 (record { remembers = held.1; running = held.2 may.runs }) name (inl named);
          }
