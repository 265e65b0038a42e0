-- The step of a job that was carried out.
use Rattle.std.proofs.Common.{◌≡◌, ◌≢◌, ◌≤◌, ◌⊎◌, inl, inr, ℕ, ◌+◌, true, false, List, ◌++◌, length, All, Contains, Option, Some, None, refl, sym, ap, ◌∙◌, subst, arith}
use Rattle.std.specs.Prelude.{IsTrue}
use Rattle.std.proofs.lemmas.List.{map-append}
use Rattle.std.proofs.lemmas.List.Elements.{All-contains, All-contains_itself, Contains-append_cases, Contains-append_right}
use Rattle.std.proofs.lemmas.List.Sorted.{IsPermutation-sym}
use Rattle.lethe_base.specs.History.{History}
use Rattle.lethe_base.specs.Spent.{done_upto}
use Rattle.lethe_base.specs.declared.config.Fields.{Fields}
use Rattle.lethe_base.specs.declared.entry.Entry.{Entry}
use Rattle.lethe_base.specs.declared.name.Name.{Name}
use Rattle.lethe_base.specs.declared.pending.Pending.{Pending}
use Rattle.lethe_disk.specs.Disk.{Seen}
use Rattle.lethe_manifest.specs.declared.manifest.Manifest.{Manifest}
use Rattle.lethe_commit.specs.Append.{EndsAt}
use Rattle.lethe_follows.specs.Leaving.{first_erase, is_kept}
use Rattle.lethe_follows.specs.Merged.{Beside, Company, Last, StoredMerge, entries_in, erases_upto, erases_with, inputs_of, merging_manifest_with}
use Rattle.lethe_follows.specs.Young.{AreLaterRecorded}
use Rattle.lethe_follows.proofs.Behind.{later_others}
use Rattle.lethe_follows.proofs.MergeRising.{merged_rises}
use Rattle.lethe_follows.proofs.Merging.{merged_for}
use Rattle.lethe_stored.specs.Encodes.{HasObject}
use Rattle.lethe_stored.specs.Files.{Parts, StoredFile}
use Rattle.lethe_stored.specs.Kept.{IsFor, IsKept}
use Rattle.lethe_stored.specs.Numbers.{GoesFrom}
use Rattle.lethe_stored.specs.Levels.{AreRising, HasFiles}
use Rattle.lethe_stored.specs.Stored.{IsCoherent, Stored, layout_of, part_names, pending_of, segment_name}
use Rattle.lethe_stored.proofs.Leveled.{from_filter}
use Rattle.lethe_stored.proofs.Lists.{all_left, from_flat, from_map, in_flat, in_map}
use Rattle.lethe_tile.proofs.Orders.{pairs_append}
use Rattle.lethe_pins.specs.Held.{is_named}
use Rattle.lethe_advance.specs.Settled.{AreDrawn, AreUncited, HasOnly, IsSettled, names_in}
use Rattle.lethe_advance.specs.Steps.{HasStayed, IsStep}
use Rattle.lethe_advance.specs.Untorn.{IsUntorn}
use Rattle.lethe_advance.specs.declared.step.Step.{Step}
use Rattle.lethe_state.specs.Clock.{clock_of}
use Rattle.lethe_state.specs.Left.{installed}
use Rattle.lethe_state.specs.Remembered.{IsCurrent, Remembers}
use Rattle.lethe_state.specs.Room.{IsStepFrom}
use Rattle.lethe_state.specs.Writable.{segments_for}
use Rattle.lethe_state.specs.declared.state.State.{State}
use Rattle.lethe_state.proofs.Left.{installed_writable}
use Rattle.lethe_install.specs.Outcomes.{IsInstalledWith}
use Rattle.lethe_install.specs.declared.steps.Installation.{Installation}
use Rattle.lethe_install.proofs.Remembering.{install_remembered}
use Rattle.lethe_job.specs.Tasks.{IsMergeTask, PlainMerge, merge_inputs}
use Rattle.lethe_job.specs.Works.{Merges, PlainTask, Sweeps}
use Rattle.lethe_job.proofs.SweptFor.{swept_for}
use Rattle.lethe_job.proofs.SweptRising.{swept_rises}
use Rattle.lethe_core.specs.Flights.{AreFlights, company_of, flying_by, without}
use Rattle.lethe_core.specs.Keeps.{Keeps, MayStep}
use Rattle.lethe_core.specs.Merges.{MayMerge, flights_behind}
use Rattle.lethe_core.specs.Pinned.{AreKept, AreNamed, pages_in}
use Rattle.lethe_core.specs.Running.{Holds, IsCopiedFrom, IsFlying, IsRunning, IsSmall}
use Rattle.lethe_core.specs.StandsNow.{IsCounted, StandsNow}
use Rattle.lethe_core.specs.View.{Flying, View, beside_in, loose_in, names_beside}
use Rattle.lethe_core.proofs.Beside.{cited_apart, drawn_front, drawn_permuted, named_left, names_beside_at, names_permuted}
use Rattle.lethe_core.proofs.Carried.{one_kept}
use Rattle.lethe_core.proofs.Flying.{all_without, flights_without, loose_parts, without_none}
use Rattle.lethe_core.proofs.Hindered.{drawn_on, flies_on}
use Rattle.lethe_core.proofs.Kept.{carried_same, page_cited, settled_page}
use Rattle.lethe_core.proofs.Standing.{next_drawn, next_stands_now, stands_for, stands_holds}
use Rattle.lethe_core.proofs.Timely.{retired_named, timely_kept}

-- Its outcome stands for the same history

-- the files that a merge takes, as what is stored has them
pub inputs_same : (s : Stored) (m : StoredMerge) (task : PlainMerge) → IsMergeTask s m task → merge_inputs task ≡ inputs_of m
inputs_same s m task is = λ i. is.sources i ++ is.met i

pub installed_for : (company : Company) (h : History) (s : Stored) (task : PlainTask) (t : Stored) → IsCoherent s → IsFor h s → IsCounted task → IsInstalledWith company s task t → IsFor h t
installed_for company h s (Merges task) t coherent stands counted is =
    let low = subst (λ files. All (λ (entry : Entry). entry.seq ≤ task.upto) (entries_in files)) (inputs_same s is.m task is.tasked) counted in
    merged_for h s coherent stands is.m is.tasked.merge task.alone is.tasked.clear is.tasked.bottom task.upto is.tasked.upto low t is.merged_is
installed_for company h s (Sweeps task) t coherent stands counted is = swept_for h s coherent stands is.w task.erase task.alone is.tasked.sweep t is.swept_is

-- its files are in order, and the active segment stays

installed_rises : (company : Company) (s : Stored) (task : PlainTask) (t : Stored) → IsCoherent s → AreRising s.files → IsInstalledWith company s task t → AreRising t.files
installed_rises company s (Merges task) t coherent rising is =
    merged_rises s coherent rising is.m is.tasked.merge (erases_upto task.upto (pending_of s)) task.alone task.upto t is.merged_is
installed_rises company s (Sweeps task) t coherent rising is = swept_rises s coherent rising is.w task.erase task.alone is.tasked.sweep t is.swept_is

pub same_active : (company : Company) (s : Stored) (task : PlainTask) (t : Stored) → IsInstalledWith company s task t → t.active ≡ s.active
same_active company s (Merges task) t is = is.merged_is.active
same_active company s (Sweeps task) t is = is.swept_is.active

-- the erases of its manifest were pending, and the segments record what they did

stayed_there : (company : Company) (s : Stored) (files : List StoredFile) (erase : Pending) → Contains (erases_with company s files) erase → Contains (pending_of s) erase
stayed_there Last s files erase there =
    (from_filter (λ (e : Pending). is_kept (done_upto (layout_of (record s { files = files }))) (first_erase s) e.seq) (pending_of s) erase there).0
stayed_there Beside s files erase there = there

others_recorded : (company : Company) (s t : Stored) (number : ℕ) → t.manifest ≡ merging_manifest_with company s t.files number → t.frozen ≡ s.frozen → t.active ≡ s.active
    → AreLaterRecorded s → AreLaterRecorded t
others_recorded company s t number manifest frozen active recorded =
    later_others s t recorded frozen active (λ erase there. stayed_there company s t.files erase (subst (λ (m : Manifest). Contains m.erases erase) manifest there))

installed_recorded : (company : Company) (s : Stored) (task : PlainTask) (t : Stored) → IsInstalledWith company s task t → AreLaterRecorded s → AreLaterRecorded t
installed_recorded company s (Merges task) t is = let merged = is.merged_is in others_recorded company s t merged.number merged.manifest merged.frozen merged.active
installed_recorded company s (Sweeps task) t is = let swept = is.swept_is in others_recorded company s t swept.number swept.manifest swept.frozen swept.active

-- The state under the manifest of a step, with the erases that stay

small_installed : (company : Company) (manifest : Manifest) (state : State) → manifest.config ≡ state.manifest.config → IsSmall state → IsSmall (installed company manifest state)
small_installed company manifest state config is =
    let same : manifest.config.buffer ≡ state.manifest.config.buffer = ap (λ (f : Fields). f.buffer) config in
    let records = is.records in
    let frozen = is.frozen in
    record { active = is.active; records = omega (arith, same, records); frozen = omega (arith, same, frozen) }

-- The jobs that are in flight behind the step

behind_all : (P : Flying → Type 0) (ends : Option ℕ) (flights : List Flying) → All P flights → All P (flights_behind ends flights)
behind_all P None flights all = all
behind_all P (Some number) flights all = all_without P number flights all

behind_are : (ends : Option ℕ) (flights : List Flying) → AreFlights flights → AreFlights (flights_behind ends flights)
behind_are None flights are = are
behind_are (Some number) flights are = flights_without number flights are

-- their pages were written for jobs in flight before it
behind_there : (ends : Option ℕ) (flights : List Flying) (named : Name × List ℕ) → Contains (loose_in (flights_behind ends flights)) named → Contains (loose_in flights) named
behind_there ends flights named there =
    let flying = from_flat (λ (flying : Flying). flying.written) (flights_behind ends flights) named there in
    let was = All-contains (Contains flights) (flights_behind ends flights) flying.0 (behind_all (Contains flights) ends flights (All-contains_itself flights)) flying.1 in
    in_flat (λ (flying : Flying). flying.written) flights flying.0 named was flying.2

-- their numbers were drawn, and those of the job that it ends
pub drawn_apart : (next : ℕ) (number : ℕ) (flights : List Flying) (flying : Flying) → AreFlights flights → flying_by number flights ≡ Some flying
    → AreDrawn next (names_in (loose_in flights)) → AreDrawn next (names_in (loose_in (without number flights)) ++ names_in flying.written)
drawn_apart next number flights flying are is drawn =
    let rest = loose_in (without number flights) in
    let moved = IsPermutation-sym (rest ++ flying.written) (loose_in flights) (loose_parts number flights flying are is) in
    subst (AreDrawn next) (map-append (λ (named : Name × List ℕ). named.0) rest flying.written)
    (drawn_permuted next (names_in (loose_in flights)) (names_in (rest ++ flying.written)) (names_permuted (loose_in flights) (rest ++ flying.written) moved) drawn)

behind_drawn : (next : ℕ) (ends : Option ℕ) (flights : List Flying) → AreFlights flights → AreDrawn next (names_in (loose_in flights)) → AreDrawn next (names_in (loose_in (flights_behind ends flights)))
behind_drawn next None flights are drawn = drawn
behind_drawn next (Some number) flights are drawn = by (flying_by number flights) refl
  where
    by : (found : Option Flying) → flying_by number flights ≡ found → AreDrawn next (names_in (loose_in (without number flights)))
    by None none = subst (λ rest. AreDrawn next (names_in (loose_in rest))) (sym (without_none number flights none)) drawn
    by (Some flying) is = drawn_front next (names_in (loose_in (without number flights))) (names_in flying.written) (drawn_apart next number flights flying are is drawn)

-- The view behind the step: what is left is retired, and the job that it ends is in flight no more

abbrev pub merged_view : View → Seen → ℕ → List (List Parts) → ℕ → ℕ → Option ℕ → Installation → View
merged_view old disk faults levels begun rounds ends made =
    let rest = flights_behind ends old.flights in
    record { disk = disk; faults = faults; state = installed (company_of rest) made.step.manifest old.state; levels = levels; retired = made.left.items; flights = rest; begun = begun; rounds = rounds; pins = old.pins }

module _ (old : View) (disk : Seen) (faults : ℕ) (levels : List (List Parts)) (begun rounds : ℕ) (ends : Option ℕ) (made : Installation) where
  abbrev rest : List Flying
  rest = flights_behind ends old.flights

  abbrev company : Company
  company = company_of rest

  abbrev new : View
  new = merged_view old disk faults levels begun rounds ends made

  abbrev step : Step
  step = made.step

  module _ (s t : Stored) (task : PlainTask) (holds : Holds old s) (may : MayMerge old rest s task t made) where
    -- what lies beside what is stored next
    abbrev still_beside : List (Name × List ℕ)
    still_beside = may.left ++ loose_in rest

    -- a page that a pin names stays
    not_gone : (name : Name) → IsTrue (is_named old.pins.pins name) → Contains made.step.gone.items name → ⊥
    not_gone name named gone = let off = All-contains (λ name. is_named old.pins.pins name ≡ false) made.step.gone.items name may.gone gone in let clash : true ≡ false = sym named ∙ off in cc

    named_behind : (name : Name) → IsTrue (is_named old.pins.pins name) → Contains (pages_in t.files) name ⊎ Contains (names_in still_beside) name
    named_behind name named = settled_page old s t still_beside made.headers.items made.step holds.running may.step_is name (holds.running.kept name named) (not_gone name named)

    -- it is none of those of the jobs in flight
    none_flying : AreDrawn old.state.next (names_beside old) → (name : Name) → IsTrue (is_named old.pins.pins name) → Contains (names_in (loose_in rest)) name → ⊥
    none_flying drawn name named there =
        let was = from_map (λ (named : Name × List ℕ). named.0) (loose_in rest) name there in
        let loose = behind_there ends old.flights was.0 was.1 in
        let flying : Contains (names_in (loose_in old.flights)) name =
        subst (Contains (names_in (loose_in old.flights))) was.2 (in_map (λ (named : Name × List ℕ). named.0) (loose_in old.flights) was.0 loose) in
        elim (holds.running.kept name named) [
          | inl page ↦ cited_apart s (beside_in old) holds.running.uncited name (inr (inr (page_cited s holds.remembers.coherent name page)))
              (subst (λ names. Contains names name) (sym (names_beside_at old.disk.directory old.retired old.flights)) (Contains-append_right old.retired (names_in (loose_in old.flights)) name flying))
          | inr retired ↦
              let apart = (pairs_append (λ (a b : Name). a ≢ b) old.retired (names_in (loose_in old.flights)) drawn.once).2 in
              All-contains (λ other. name ≢ other) (names_in (loose_in old.flights)) name
              (All-contains (λ one. All (λ other. one ≢ other) (names_in (loose_in old.flights))) old.retired name apart retired) flying refl
        ]

    named_stays : AreDrawn old.state.next (names_beside old) → (name : Name) → IsTrue (is_named old.pins.pins name) → Contains (pages_in t.files) name ⊎ Contains made.left.items name
    named_stays drawn name named = elim (named_behind name named) as (λ _. Contains (pages_in t.files) name ⊎ Contains made.left.items name) [
      | inl page ↦ inl page
      | inr beside ↦ elim (Contains-append_cases (names_in may.left) (names_in (loose_in rest)) name
          (subst (λ names. Contains names name) (map-append (λ (named : Name × List ℕ). named.0) may.left (loose_in rest)) beside)) as (λ _. Contains (pages_in t.files) name ⊎ Contains made.left.items name) [
            | inl left ↦ inr (subst (λ names. Contains names name) (sym may.left_is) left)
            | inr flying ↦ absurd (none_flying drawn name named flying)
          ]
    ]

    -- with the bytes that it had
    pub merged_same : HasStayed t still_beside old.disk.directory disk.directory → AreKept old.pins.pins old.disk.directory disk.directory
    merged_same stayed name named =
        let there = elim (named_behind name named) as (λ _. Contains (part_names t) name ⊎ Contains (names_in still_beside) name) [ inl page ↦ inl (page_cited t may.step_is.coherent name page) | inr beside ↦ inr beside ] in
        carried_same old s t still_beside made.headers.items made.step holds.running may.step_is disk.directory stayed name (holds.running.kept name named) there

    module _ (files : HasFiles t levels) where
      merged_both : Remembers t new.state levels × IsCurrent t new.state
      merged_both = subst (λ manifest. Remembers t (installed company manifest old.state) levels × IsCurrent t (installed company manifest old.state)) (sym may.step_is.manifest)
          (install_remembered company s t old.state old.levels levels holds.remembers holds.running.current task may.installed may.step_is.coherent files)

      pub merged_holds : AreDrawn old.state.next (names_beside old) → IsSettled disk t → HasOnly t still_beside disk.directory → IsUntorn t disk.directory
          → EndsAt disk (segment_name t.active.no) t.active.no t.active.records old.state.end → Holds new t
      merged_holds drawn settled only untorn ends_at =
          let same : beside_in new ≡ still_beside = ap (λ l. l ++ loose_in rest) (named_left disk.directory made.left.items may.left (all_left (HasObject disk.directory) may.left (loose_in rest) only.there) may.left_is) in
          record {
            remembers = merged_both.0;
            running = record {
              settled = settled;
              only = subst (λ l. HasOnly t l disk.directory) (sym same) only;
              uncited = subst (AreUncited t) (sym same) may.step_is.left_uncited;
              untorn = untorn;
              copied = behind_all IsCopiedFrom ends old.flights holds.running.copied;
              kept = named_stays drawn;
              rising = installed_rises company s task t holds.remembers.coherent holds.running.rising may.installed;
              ends = ends_at;
              current = merged_both.1;
              tasked = may.tasked;
            };
          }

  -- What the step keeps

  module _ (Tells : Type 0) (before : ℕ) (can : MayStep Tells old before) (from : IsStepFrom (segments_for old.state.frozen) (clock_of old.state.manifest) old.state made.headers.items step)
      (merges : Tells → (s : Stored) → Holds old s → (task : PlainTask) × (t : Stored) × MayMerge old rest s task t made × ((config : Fields) (h : History) → StandsNow config h old → IsCounted task)) where
    pub merge_moments : (Tells → (s t : Stored) (left : List (Name × List ℕ)) → IsRunning old s → IsStep s (beside_in old) t left made.headers.items step → (h g : History) → IsFor h s → IsFor g t
        → s.manifest.next ≤ old.state.next → t.manifest.next ≤ old.state.next + length step.objects.items + 1
        → GoesFrom old.state.next (λ c. IsKept s.manifest.config c h ⊎ IsKept s.manifest.config c g) old.disk disk)
        → Tells → (config : Fields) (h : History) → StandsNow config h old → GoesFrom old.state.next (λ c. IsKept config c h) old.disk disk
    merge_moments moments told config h stands =
        let s = stands.stored in
        let holds = stands_holds config h old stands can.runs in
        let for = stands_for config h old stands can.runs in
        let next = merges told s holds in
        let number = from.numbers in
        let above = from.next in
        let number_is = ap (λ (m : Manifest). m.next) next.2.step_is.manifest in
        subst (λ (fields : Fields). GoesFrom old.state.next (λ c. IsKept fields c h) old.disk disk) stands.config_is
        (one_kept s.manifest.config h old.state.next old.disk disk
        (moments told s next.1 (next.2.left ++ loose_in rest) holds.running next.2.step_is h h for (installed_for company h s next.0 next.1 holds.remembers.coherent for (next.3 config h stands) next.2.installed)
        (next_drawn old s can.sound.writable stands.remembers) (omega (arith, number, above, number_is))))

    module _ (behind : Tells → (s : Stored) (task : PlainTask) (t : Stored) → Holds old s → MayMerge old rest s task t made → Holds new t)
        (same : Tells → (s : Stored) (task : PlainTask) (t : Stored) → Holds old s → MayMerge old rest s task t made → AreKept old.pins.pins old.disk.directory disk.directory) where
      merge_stands : Tells → (config : Fields) (h : History) → StandsNow config h old → StandsNow config h new
      merge_stands told config h stands =
          let s = stands.stored in
          let holds = stands_holds config h old stands can.runs in
          let next = merges told s holds in
          next_stands_now config h old new stands can.runs next.1 refl next.2.step_is.config
          (installed_for company h s next.0 next.1 holds.remembers.coherent (stands_for config h old stands can.runs) (next.3 config h stands) next.2.installed) (behind told s next.0 next.1 holds next.2)
          (behind_all (λ (flying : Flying). IsCounted flying.task) ends old.flights stands.counted) (installed_recorded company s next.0 next.1 next.2.installed stands.recorded)
          (timely_kept config.threshold h old.pins.pins old.retired made.left.items old.disk.directory disk.directory (same told s next.0 next.1 holds next.2) (stands.timely can.runs)
          (λ name there. inr (All-contains (λ name. IsTrue (is_named old.pins.pins name)) made.left.items name next.2.named there)))

      pub merge_keeps : AreNamed old.pins.pins made.left.items → length levels ≡ length old.levels → (Tells → (config : Fields) (h : History) → StandsNow config h old → GoesFrom old.state.next (λ c. IsKept config c h) old.disk disk)
          → (Tells → old.disk.moment + length step.objects.items + 4 ≤ disk.moment) → old.faults ≤ faults → Keeps Tells old new None
      merge_keeps named count moments calls rise = record {
        sound = record {
          writable = installed_writable company step.manifest old.state can.sound.writable from.spelled from.segments_are;
          small = small_installed company step.manifest old.state from.config can.sound.small;
          count = count ∙ can.sound.count ∙ ap (λ (f : Fields). f.levels + 1) (sym from.config);
          flights = behind_are ends old.flights can.sound.flights;
          flies = flies_on old.state new.state (ap (λ (f : Fields). f.levels) from.config) rest (behind_all (IsFlying old.state) ends old.flights can.sound.flies);
          loose = drawn_on old.state.next step.manifest.next (names_in (loose_in rest)) (let number = from.numbers in let next = from.next in omega (arith, number, next))
              (behind_drawn old.state.next ends old.flights can.sound.flights can.sound.loose);
          drawn = λ told.
              let held = can.sound.held told in
              let next = merges told held.0 (record { remembers = held.1; running = held.2 can.runs }) in
              next.2.drawn;
          pins = can.sound.pins;
          pages = can.sound.pages;
          held = λ told.
              let held = can.sound.held told in
              let holds : Holds old held.0 = record { remembers = held.1; running = held.2 can.runs } in
              let next = merges told held.0 holds in
              let after = behind told held.0 next.0 next.1 holds next.2 in
              (next.1, after.remembers, λ runs. after.running);
        };
        count = refl;
        stopped = refl;
        clock = from.clock_is;
        stands = λ told config h stands caller call. merge_stands told config h stands;
        any_moment = moments;
        numbers = λ told.
            let called = calls told in
            let number = from.numbers in
            let next = from.next in
            omega (arith, called, number, next);
        drawn = let number = from.numbers in let next = from.next in omega (arith, number, next);
        faults = rise;
        retired = retired_named old.pins.pins old.retired made.left.items named;
        pins = refl;
        pinned = λ told.
            let held = can.sound.held told in
            let holds : Holds old held.0 = record { remembers = held.1; running = held.2 can.runs } in
            let next = merges told held.0 holds in
            same told held.0 next.0 next.1 holds next.2;
      }
