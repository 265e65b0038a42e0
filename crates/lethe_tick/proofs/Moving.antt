-- The clock moves: where no job is in flight what is stored next is held, and stands for the history with the tick.
use Rattle.std.proofs.Common.{◌≡◌, ◌≤◌, ◌<◌, ◌+◌, ◌⊎◌, inl, inr, ℕ, List, [], ◌∷◌, ◌++◌, length, All, Contains, Some, None, refl, sym, ap, ◌∙◌, subst, arith}
use Rattle.std.specs.Prelude.{IsTrue}
use Rattle.std.proofs.lemmas.List.Elements.{All-contains, All-nil, All-weaker}
use Rattle.lethe_base.proofs.Histories.{after-push}
use Rattle.lethe_base.specs.History.{Change, History, State as Stand, after}
use Rattle.lethe_base.specs.Limits.{max_place}
use Rattle.lethe_base.specs.Spent.{done_upto}
use Rattle.lethe_base.specs.declared.call.Call.TheVariants.{Tick}
use Rattle.lethe_base.specs.declared.call.Did.TheVariants.{Done}
use Rattle.lethe_base.specs.declared.config.Fields.{Fields}
use Rattle.lethe_base.specs.declared.name.Kind.TheVariants.{Page}
use Rattle.lethe_base.specs.declared.name.Name.{Name}
use Rattle.lethe_base.specs.declared.pending.Pending.{Pending}
use Rattle.lethe_base.specs.declared.refused.Refused.{Refused}
use Rattle.lethe_base.specs.declared.refused.Refused.TheVariants.{Fault, NoMemory}
use Rattle.lethe_advance.specs.Settled.{AreDrawn, AreUncited, HasOnly, IsSettled, names_in}
use Rattle.lethe_advance.specs.Steps.{HasStayed, IsStep}
use Rattle.lethe_advance.specs.Untorn.{IsUntorn}
use Rattle.lethe_advance.specs.declared.new_header.NewHeader.{NewHeader}
use Rattle.lethe_advance.specs.declared.step.Step.{Step}
use Rattle.lethe_core.proofs.Stays.{step_untorn}
use Rattle.lethe_commit.specs.Append.{EndsAt}
use Rattle.lethe_cover.specs.Steps.{with_done}
use Rattle.lethe_disk.specs.Disk.{Image}
use Rattle.lethe_follows.proofs.Behind.{later_others}
use Rattle.lethe_follows.proofs.Ticking.{kept_clocked, ticked_for}
use Rattle.lethe_follows.specs.Leaving.{first_erase, is_kept, let_go}
use Rattle.lethe_follows.specs.Ticked.{ticked}
use Rattle.lethe_follows.specs.Young.{AreLaterRecorded}
use Rattle.lethe_manifest.specs.declared.manifest.Manifest.{Manifest}
use Rattle.lethe_moves.specs.Due.{HasNothingDue}
use Rattle.lethe_pins.specs.Held.{AreHeld, Held, is_named}
use Rattle.lethe_pins.specs.declared.pin.Pin.{Pin}
use Rattle.lethe_state.proofs.TickStep.{tick_remembered}
use Rattle.lethe_state.specs.Clock.{clock_at, clock_of}
use Rattle.lethe_state.specs.Remembered.{IsCurrent, Remembers}
use Rattle.lethe_state.specs.Records.{halted}
use Rattle.lethe_state.specs.Room.{IsStepFrom}
use Rattle.lethe_state.specs.Ticking.{moved}
use Rattle.lethe_state.specs.Writable.{IsWritable, segments_for}
use Rattle.lethe_state.specs.declared.state.State.{State}
use Rattle.lethe_stored.proofs.Leveled.{from_filter}
use Rattle.lethe_stored.proofs.Numbers.{goes_from_weaker}
use Rattle.lethe_stored.specs.Files.{Parts}
use Rattle.lethe_stored.specs.Kept.{IsFor, IsKept}
use Rattle.lethe_stored.specs.Left.{IsKeptOr}
use Rattle.lethe_stored.specs.Levels.{HasFiles}
use Rattle.lethe_stored.specs.Numbers.{GoesFrom}
use Rattle.lethe_stored.specs.Stored.{Stored, layout_of, part_names, pending_of, segment_name}
use Rattle.lethe_core.specs.Asked.{Makes, behind, done_by, written_by}
use Rattle.lethe_core.specs.Flights.{AreFlights}
use Rattle.lethe_core.specs.Keeps.{MayStep}
use Rattle.lethe_core.specs.Pinned.{AreKept, AreNamed, AreTimely}
use Rattle.lethe_core.specs.Running.{Holds, IsCopiedFrom, IsFlying, IsRunning, IsSmall, IsSound, IsTasked}
use Rattle.lethe_core.specs.StandsNow.{IsCounted, StandsNow}
use Rattle.lethe_core.specs.Steps.{IsHindered}
use Rattle.lethe_core.specs.View.{Flying, View, beside_at, beside_in, loose_in, names_beside}
use Rattle.lethe_core.proofs.Beside.{beside_stays}
use Rattle.lethe_core.proofs.Carried.{IsCarried, active_ends}
use Rattle.lethe_core.proofs.Hindered.{drawn_on, flies_on}
use Rattle.lethe_core.proofs.Kept.{carried_same, page_cited, retired_beside}
use Rattle.lethe_core.proofs.Next.{beside_drawn}
use Rattle.lethe_core.proofs.Recorded.{failed_stands}
use Rattle.lethe_core.proofs.Standing.{is_beside, moments_or, next_drawn, open_stands, stands_back, stands_for, stands_holds}
use Rattle.lethe_core.proofs.Timely.{timely_kept, timely_ticked}

-- The state

small_moved : (manifest : Manifest) (state : State) → manifest.config ≡ state.manifest.config → IsSmall state → IsSmall (moved manifest state)
small_moved manifest state config is =
    let same : manifest.config.buffer ≡ state.manifest.config.buffer = ap (λ (f : Fields). f.buffer) config in
    let records = is.records in
    let frozen = is.frozen in
    record { active = is.active; records = omega (arith, same, records); frozen = omega (arith, same, frozen) }

-- The step

module _ (Tells : Type 0) (old : View) (before to : ℕ) (may : MayStep Tells old before) (headers : List NewHeader) (step : Step) (none : headers ≡ [])
    (from : IsStepFrom (segments_for old.state.frozen) (clock_at (clock_of old.state.manifest) to) old.state headers step)
    (ticks : (s : Stored) (levels : List (List Parts)) → Remembers s old.state levels → IsCurrent s old.state → (loose : List (Name × List ℕ)) → AreDrawn old.state.next (names_in loose) → AreUncited s loose
    → IsStep s loose (ticked s to old.state.next) loose [] step) where
  abbrev t : Stored → Stored
  t s = ticked s to old.state.next

  -- the erases of the next manifest were pending
  ticked_recorded : (s : Stored) → AreLaterRecorded s → AreLaterRecorded (t s)
  ticked_recorded s recorded = later_others s (t s) recorded refl refl
      (λ erase there. (from_filter (λ (e : Pending). is_kept (done_upto (layout_of s)) (first_erase s) e.seq) (pending_of s) erase
      (subst (λ erases. Contains erases erase) (kept_clocked s to old.state.next) there)).0)

  pub tick_is : Tells → (s : Stored) → Holds old s → IsStep s (beside_in old) (t s) (beside_in old) headers step
  tick_is told s holds = subst (λ headers. IsStep s (beside_in old) (t s) (beside_in old) headers step) (sym none)
      (ticks s old.levels holds.remembers holds.running.current (beside_in old) (beside_drawn old (may.sound.drawn told)) holds.running.uncited)

  held_now : Tells → (s : Stored) × Holds old s
  held_now told = let held = may.sound.held told in (held.0, record { remembers = held.1; running = held.2 may.runs })

  pub tick_step : Tells → (s t : Stored) × (left : List (Name × List ℕ)) × IsRunning old s × IsStep s (beside_in old) t left headers step
  tick_step told = let held = held_now told in (held.0, t held.0, beside_in old, held.1.running, tick_is told held.0 held.1)

  -- A crash leaves what is kept for the history, or for it with the tick

  module _ (config : Fields) (h : History) (stands : StandsNow config h old) (forward : (after h).clock ≤ to) (due : HasNothingDue stands.stored.manifest.config to (layout_of (let_go stands.stored))) (caller : ℕ) where
    abbrev s : Stored
    s = stands.stored

    holds : Holds old s
    holds = stands_holds config h old stands may.runs

    for : IsFor h s
    for = stands_for config h old stands may.runs

    few : length h < max_place
    few = let fits = may.fits in let count = stands.count in omega (arith, fits, count)

    later : s.manifest.clock ≤ to
    later = let clock = for.clock in omega (arith, clock, forward)

    pub then_for : IsFor (with_done h caller (Tick to)) (t s)
    then_for = ticked_for s h holds.remembers.coherent for few to later due caller old.state.next

    pub tick_moments : (new : View) → (Tells → (s t : Stored) (left : List (Name × List ℕ)) → IsRunning old s → IsStep s (beside_in old) t left headers step → (h g : History) → IsFor h s → IsFor g t
        → s.manifest.next ≤ old.state.next → t.manifest.next ≤ old.state.next + length step.objects.items + 1
        → GoesFrom old.state.next (λ c. IsKept s.manifest.config c h ⊎ IsKept s.manifest.config c g) old.disk new.disk)
        → Tells → GoesFrom old.state.next (IsKeptOr config h (Some (done_by caller (Tick to)))) old.disk new.disk
    tick_moments new moments told =
        let g = with_done h caller (Tick to) in
        subst (λ (fields : Fields). GoesFrom old.state.next (IsKeptOr fields h (Some (done_by caller (Tick to)))) old.disk new.disk) stands.config_is
        (goes_from_weaker (λ c. IsKept s.manifest.config c h ⊎ IsKept s.manifest.config c g) (IsKeptOr s.manifest.config h (Some (done_by caller (Tick to)))) old.state.next old.disk new.disk
        (λ c either. elim either [ inl was ↦ (h, inl refl, was) | inr is ↦ (g, inr refl, is) ])
        (moments told s (t s) (beside_in old) holds.running (tick_is told s holds) h g for then_for (next_drawn old s may.sound.writable stands.remembers) (omega arith)))

    -- where there was no memory it leaves what is kept for the history
    pub tick_unmoved : (new : View) → (Tells → (s t : Stored) (left : List (Name × List ℕ)) → IsRunning old s → IsStep s (beside_in old) t left headers step → (h : History) → IsFor h s
        → s.manifest.next ≤ old.state.next → GoesFrom old.state.next (λ c. IsKept s.manifest.config c h) old.disk new.disk)
        → Tells → GoesFrom old.state.next (λ c. IsKept config c h) old.disk new.disk
    tick_unmoved new unmoved told =
        subst (λ (fields : Fields). GoesFrom old.state.next (λ c. IsKept fields c h) old.disk new.disk) stands.config_is
        (unmoved told s (t s) (beside_in old) holds.running (tick_is told s holds) h for (next_drawn old s may.sound.writable stands.remembers))

    -- It was hindered

    pub hindered_moments : (new : View) (why : Refused) → IsHindered Tells old new before why → GoesFrom old.state.next (IsKeptOr config h (Some (done_by caller (Tick to)))) old.disk new.disk
        → (why ≡ NoMemory → GoesFrom old.state.next (λ c. IsKept config c h) old.disk new.disk) → GoesFrom old.state.next (IsKeptOr config h (written_by caller (Makes (Tick to)) (Some why))) old.disk new.disk
    hindered_moments new (Fault place b a) is goes unmoved = goes
    hindered_moments new NoMemory is goes unmoved = moments_or config h None old.state.next old.disk new.disk (unmoved refl)
    hindered_moments new why is goes unmoved = absurd is

    pub hindered_stands : (new : View) (why : Refused) → IsHindered Tells old new before why → GoesFrom old.state.next (IsKeptOr config h (Some (done_by caller (Tick to)))) old.disk new.disk
        → Tells → Image new.disk new.disk.directory → StandsNow config (behind h caller (Makes (Tick to)) (Some why)) new
    hindered_stands new (Fault place b a) is goes told here = subst (StandsNow config (behind h caller (Makes (Tick to)) (Some (Fault place b a)))) (is_beside old new (halted old.state) is.4 is.5)
        (failed_stands config h old stands may.runs may.fits new.disk new.faults caller (Tick to) refl b a here goes.goes)
    hindered_stands new NoMemory is goes told here = stands_back old new (is.2 told) config h is.0 is.1 stands
    hindered_stands new why is goes told here = absurd is

  -- It was carried out

  module _ (new : View) (carried : IsCarried Tells old new headers step) (new_is : new.state ≡ moved step.manifest old.state) (free : old.flights ≡ []) (here : Tells → Image old.disk old.disk.directory) where
    module _ (told : Tells) (s : Stored) (holds : Holds old s) where
      is : IsStep s (beside_in old) (t s) (beside_in old) headers step
      is = tick_is told s holds

      done : IsSettled new.disk (t s) × HasOnly (t s) (beside_in old) new.disk.directory
      done = carried.done told s (t s) (beside_in old) holds.running is

      files : HasFiles (t s) new.levels
      files = carried.files told s (t s) (beside_in old) holds.running is holds.remembers.files

      same_beside : beside_in new ≡ beside_in old
      same_beside = (λ i. beside_at new.disk.directory (carried.retired i) (carried.flights i)) ∙ beside_stays old.disk.directory new.disk.directory old.retired old.flights done.1.there

      untorn : IsUntorn (t s) new.disk.directory
      untorn = step_untorn s (t s) (beside_in old) (beside_in old) headers step old.disk.directory new.disk.directory holds.remembers.coherent is holds.running.only holds.running.untorn
          (carried.kept told s (t s) (beside_in old) holds.running is) (carried.gate told s (t s) (beside_in old) holds.running is)

      ends : EndsAt new.disk (segment_name s.active.no) s.active.no s.active.records old.state.end
      ends = active_ends s (t s) (beside_in old) (beside_in old) headers step is holds.remembers.coherent old.disk new.disk done.0
          (carried.kept told s (t s) (beside_in old) holds.running is) old.state.end refl (here told) holds.running.ends

      both : Remembers (t s) new.state new.levels × IsCurrent (t s) new.state
      both =
          let state_is : new.state ≡ moved (t s).manifest old.state = new_is ∙ ap (λ m. moved m old.state) is.manifest in
          subst (λ state. Remembers (t s) state new.levels × IsCurrent (t s) state) (sym state_is)
          (tick_remembered s old.state old.levels new.levels to old.state.next holds.remembers holds.running.current (next_drawn old s may.sound.writable holds.remembers) is.coherent.spelled files)

      pub ticked_holds : Holds new (t s)
      ticked_holds = record {
        remembers = both.0;
        running = record {
          settled = done.0;
          only = subst (λ l. HasOnly (t s) l new.disk.directory) (sym same_beside) done.1;
          uncited = subst (AreUncited (t s)) (sym same_beside) is.left_uncited;
          untorn = untorn;
          copied = subst (All IsCopiedFrom) (sym carried.flights) holds.running.copied;
          kept = λ name named. elim (holds.running.kept name (subst (λ (held : Held). IsTrue (is_named held.pins name)) carried.pins named)) [
            | inl page ↦ inl page
            | inr retired ↦ inr (subst (λ names. Contains names name) (sym carried.retired) retired)
          ];
          rising = holds.running.rising;
          ends = subst (EndsAt new.disk (segment_name s.active.no) s.active.no s.active.records) (sym (ap (λ (state : State). state.end) new_is)) ends;
          current = both.1;
          tasked = subst (All (IsTasked (t s))) (sym (carried.flights ∙ free)) (All-nil (IsTasked (t s)));
        };
      }

  -- each object that a pin names stays as it is, whatever became of the step
  pub ticked_kept : (new : View) → (Tells → (s t : Stored) (left : List (Name × List ℕ)) → IsRunning old s → IsStep s (beside_in old) t left headers step → HasStayed t left old.disk.directory new.disk.directory)
      → Tells → AreKept old.pins.pins old.disk.directory new.disk.directory
  ticked_kept new stayed told name named =
      let now = held_now told in
      let s = now.0 in
      let running = now.1.running in
      let is = tick_is told s now.1 in
      let was = running.kept name named in
      carried_same old s (t s) (beside_in old) headers step running is new.disk.directory (stayed told s (t s) (beside_in old) running is) name was
      (elim was as (λ _. Contains (part_names (t s)) name ⊎ Contains (names_in (beside_in old)) name) [
        | inl page ↦ inl (page_cited (t s) is.coherent name page)
        | inr there ↦ inr (retired_beside old s (t s) (beside_in old) headers step running is name there)
      ])

  module _ (new : View) (new_is : new.state ≡ moved step.manifest old.state) (retired : new.retired ≡ old.retired) (flights : new.flights ≡ old.flights) (pins : new.pins ≡ old.pins)
      (held : Tells → (s : Stored) → Holds old s → Holds new (t s)) where
    config_is : new.state.manifest.config ≡ old.state.manifest.config
    config_is = ap (λ (state : State). state.manifest.config) new_is ∙ from.config

    pub ticked_sound : length new.levels ≡ length old.levels → IsWritable new.state → IsSound Tells new
    ticked_sound levels writable = record {
      writable = writable;
      small = subst IsSmall (sym new_is) (small_moved step.manifest old.state from.config may.sound.small);
      count = levels ∙ may.sound.count ∙ ap (λ (fields : Fields). fields.levels + 1) (sym config_is);
      flights = subst AreFlights (sym flights) may.sound.flights;
      flies = subst (All (IsFlying new.state)) (sym flights) (flies_on old.state new.state (ap (λ (fields : Fields). fields.levels) config_is) old.flights may.sound.flies);
      loose =
          let next = ap (λ (state : State). state.next) new_is in
          let number = from.numbers in
          let above = from.next in
          subst (λ flights. AreDrawn new.state.next (names_in (loose_in flights))) (sym flights)
          (drawn_on old.state.next new.state.next (names_in (loose_in old.flights)) (omega (arith, next, number, above)) may.sound.loose);
      drawn = λ told.
          let next = ap (λ (state : State). state.next) new_is in
          let number = from.numbers in
          let above = from.next in
          subst (AreDrawn new.state.next) (λ i. (sym retired) i ++ names_in (loose_in ((sym flights) i))) (drawn_on old.state.next new.state.next (names_beside old) (omega (arith, next, number, above)) (may.sound.drawn told));
      pins = subst AreHeld (sym pins) may.sound.pins;
      pages = subst (λ (held : Held). All (λ pin. All (λ name. name.kind ≡ Page) pin.names) held.pins) (sym pins) may.sound.pages;
      held = λ told. let now = held_now told in let holds = held told now.0 now.1 in (t now.0, holds.remembers, λ runs. holds.running);
    }

    module _ (passes : All (λ (pin : Pin). to < pin.limit) old.pins.pins) (named : Tells → AreNamed old.pins.pins old.retired) (kept : Tells → AreKept old.pins.pins old.disk.directory new.disk.directory) where
      -- what pins keep was erased a threshold ago at no time before their limits, which are above the clock then too
      ticked_timely : Tells → (threshold : ℕ) (h : History) → (after h).clock ≤ to → (caller : ℕ) → AreTimely threshold h old.pins.pins old.retired old.disk.directory
          → AreTimely threshold (with_done h caller (Tick to)) new.pins.pins new.retired new.disk.directory
      ticked_timely told threshold h forward caller timely =
          let change : Change = record { caller = caller; call = Tick to; did = Done } in
          let clock : (after (h ++ change ∷ [])).clock ≡ to = ap (λ (stand : Stand). stand.clock) (after-push h change) in
          let limits : All (λ (pin : Pin). (after (h ++ change ∷ [])).clock < pin.limit) old.pins.pins =
          All-weaker (λ (pin : Pin). to < pin.limit) (λ (pin : Pin). (after (h ++ change ∷ [])).clock < pin.limit) (λ pin above. omega (arith, above, clock)) old.pins.pins passes in
          let there = timely_kept threshold h old.pins.pins old.retired old.retired old.disk.directory new.disk.directory (kept told) timely
          (λ name there. inr (All-contains (λ (name : Name). IsTrue (is_named old.pins.pins name)) old.retired name (named told) there)) in
          subst (λ (held : Held). AreTimely threshold (h ++ change ∷ []) held.pins new.retired new.disk.directory) (sym pins)
          (subst (λ names. AreTimely threshold (h ++ change ∷ []) old.pins.pins names new.disk.directory) (sym retired)
          (timely_ticked threshold h old.pins.pins old.retired new.disk.directory change (omega (arith, forward, clock)) limits (named told) there))

      pub ticked_stands : Tells → (config : Fields) (h : History) (stands : StandsNow config h old) → (after h).clock ≤ to → HasNothingDue stands.stored.manifest.config to (layout_of (let_go stands.stored)) → (caller : ℕ)
          → StandsNow config (with_done h caller (Tick to)) new
      ticked_stands told config h stands forward due caller =
          let for = then_for config h stands forward due caller in
          let holds = held told stands.stored (stands_holds config h old stands may.runs) in
          open_stands config (with_done h caller (Tick to)) new (t stands.stored) for.legal for.done (holds.running.current.count ∙ for.count) stands.config_is for holds
          (subst (All (λ (flying : Flying). IsCounted flying.task)) (sym flights) stands.counted) (ticked_recorded stands.stored stands.recorded)
          (ticked_timely told config.threshold h forward caller (stands.timely may.runs))
