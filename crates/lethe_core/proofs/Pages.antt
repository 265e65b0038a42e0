-- A page of a job in flight is written beside what is stored.
use Rattle.std.proofs.Common.{◌≡◌, ◌<◌, ◌≤◌, ◌+◌, inl, inr, ℕ, Bool, true, false, cond, List, [], ◌∷◌, ◌++◌, length, map, Option, Some, None, refl, sym, ap, ◌∙◌, subst, arith}
use Rattle.std.specs.Prelude.{◌==◌, ◌↔◌, All, Contains, IfSome, IsNone, IsPermutation, IsSome, IsTrue, count_by, if◌then◌else◌, is_some, not}
use Rattle.std.specs.Option.{option_map_or}
use Rattle.std.proofs.lemmas.Bool.{eqb-true}
use Rattle.std.proofs.lemmas.List.Elements.{All-contains, All-push, Contains-append_left}
use Rattle.std.proofs.lemmas.List.Sorted.{IsPermutation-sym}
use Rattle.std.proofs.lemmas.List.Sums.{count_by-le-length, length-filter}
use Rattle.std.specs.FinMap.{insert}
use Rattle.lethe_base.specs.History.{History}
use Rattle.lethe_base.specs.Limits.{max_place}
use Rattle.lethe_base.specs.declared.config.Fields.{Fields}
use Rattle.lethe_base.specs.declared.name.Kind.TheVariants as kinds
use Rattle.lethe_base.specs.declared.name.Name.{Name}
use Rattle.lethe_base.specs.declared.refused.Refused.{Refused}
use Rattle.lethe_disk.specs.Directory.{object, SameBut}
use Rattle.lethe_disk.specs.Disk.{Image, Seen}
use Rattle.lethe_disk.specs.Goes.{Goes}
use Rattle.lethe_disk.proofs.Objects.{object_beside_insert}
use Rattle.lethe_file.specs.Agreement.{page_name}
use Rattle.lethe_manifest.specs.declared.manifest.Manifest.{Manifest}
use Rattle.lethe_commit.specs.Append.{EndsAt}
use Rattle.lethe_stored.specs.Encodes.{Encodes}
use Rattle.lethe_stored.specs.Files.{Parts, file_of}
use Rattle.lethe_stored.specs.Kept.{IsKept}
use Rattle.lethe_stored.specs.Numbers.{GoesFrom}
use Rattle.lethe_stored.specs.Stored.{IsCited, Stored, segment_name}
use Rattle.lethe_stored.proofs.Lists.{all_from, from_map}
use Rattle.lethe_stored.proofs.Parts.{part_below}
use Rattle.lethe_advance.specs.Settled.{AreDrawn, AreUncited, HasOnly, IsSettled, names_in}
use Rattle.lethe_clean.specs.Copied.{IsCopiedOf}
use Rattle.lethe_clean.proofs.Stays.{beside_untorn}
use Rattle.lethe_job.specs.Works.{inputs_in}
use Rattle.lethe_loose.specs.Loose.{MayRemove, MayWrite}
use Rattle.lethe_loose.proofs.Pages.{drawn_more, uncited_more}
use Rattle.lethe_pins.specs.Held.{is_named}
use Rattle.lethe_state.specs.Remembered.{Remembers}
use Rattle.lethe_state.specs.Writable.{IsWritable}
use Rattle.lethe_state.specs.declared.state.State.{State}
use Rattle.lethe_core.specs.Flights.{AreFlights, flying_by, with_pages, with_pages_of, without, written_by}
use Rattle.lethe_core.specs.Keeps.{Keeps, MayStep}
use Rattle.lethe_core.specs.Pinned.{AreKept}
use Rattle.lethe_core.specs.Running.{Holds, IsCopiedFrom, IsFlying, IsRunning, IsSound, IsTasked}
use Rattle.lethe_core.specs.StandsNow.{IsCounted, StandsNow}
use Rattle.lethe_core.specs.Steps.{IsHindered}
use Rattle.lethe_core.specs.View.{Flying, View, beside_at, beside_in, loose_in, names_beside}
use Rattle.lethe_core.proofs.Beside.{beside_more, beside_pages, beside_parts, beside_stays, beside_without, drawn_permuted, names_beside_at, names_permuted, only_permuted, uncited_permuted}
use Rattle.lethe_core.proofs.Flying.{all_pages, flights_pages, flying_only, flying_there, loose_pages}
use Rattle.lethe_core.proofs.Hindered.{flies_on, hindered_keeps}
use Rattle.lethe_core.proofs.Paged.{page_cited}
use Rattle.lethe_core.proofs.Standing.{encoded_moments, next_stands_now, stands_for, stands_holds}
use Rattle.lethe_core.proofs.Timely.{retired_same, timely_kept}

-- where the active segment's object is as it was, the segment ends where it did
pub ends_stay : (old new : Seen) (s : Stored) (at : ℕ) → IsSettled new s → object new.directory (segment_name s.active.no) ≡ object old.directory (segment_name s.active.no) → Image old old.directory
    → EndsAt old (segment_name s.active.no) s.active.no s.active.records at → EndsAt new (segment_name s.active.no) s.active.no s.active.records at
ends_stay old new s at settled same here ends = record {
  ascends = ends.ascends;
  spelled = λ c image. ap (λ d. object d (segment_name s.active.no)) (settled.synced c image) ∙ same ∙ ends.spelled old.directory here;
  place = ends.place;
}

-- a number more is drawn
abbrev drawn : State → State
drawn state = record state { next = state.next + 1 }

drawn_writable : (state : State) → state.next + 1 ≤ max_place → IsWritable state → IsWritable (drawn state)
drawn_writable state fits is = record {
  manifest = is.manifest;
  segments = is.segments;
  pending = is.pending;
  active = is.active;
  frozen = is.frozen;
  count = is.count;
  records = is.records;
  drawn = let below = is.drawn in omega (arith, below);
  last = fits;
}

drawn_remembered : (s : Stored) (state : State) (levels : List (List Parts)) → Remembers s state levels → Remembers s (drawn state) levels
drawn_remembered s state levels is = record {
  coherent = is.coherent;
  manifest = is.manifest;
  pending = is.pending;
  active = is.active;
  records = is.records;
  oldest = is.oldest;
  firsts = is.firsts;
  frozen = is.frozen;
  frozen_oldest = is.frozen_oldest;
  frozen_firsts = is.frozen_firsts;
  files = is.files;
  counted = is.counted;
}

-- A store that takes changes

module _ (Tells : Type 0) (old : View) (sound : IsSound Tells old) where
  -- it holds something
  pub held_now : Tells → old.state.stopped ≡ None → (s : Stored) × Holds old s
  held_now told runs = let held = sound.held told in (held.0, record { remembers = held.1; running = held.2 runs })

  -- where a crash leaves what is stored, it leaves what is kept
  pub kept_moments : (disk : Seen) → old.state.stopped ≡ None → ((s : Stored) → Holds old s → Goes (λ c. Encodes c s) old.disk disk)
      → (config : Fields) (h : History) → StandsNow config h old → GoesFrom old.state.next (λ c. IsKept config c h) old.disk disk
  kept_moments disk runs goes config h stands =
      encoded_moments config h old stands runs sound.writable disk (goes stands.stored (stands_holds config h old stands runs))

  -- and so where the step was hindered
  pub refused_keeps : (new : View) (before : ℕ) → MayStep Tells old before → (Tells → (s : Stored) → Holds old s → Goes (λ c. Encodes c s) old.disk new.disk) → (Tells → Image new.disk new.disk.directory)
      → old.faults ≤ new.faults → (Tells → AreKept old.pins.pins old.disk.directory new.disk.directory) → (why : Refused) → IsHindered Tells old new before why → Keeps Tells old new (Some why)
  refused_keeps new before may goes itself rose kept why is = hindered_keeps Tells old new before may why is (λ told. kept_moments new.disk may.runs (goes told)) itself
      (λ told. let held = held_now told may.runs in (goes told held.0 held.1).later) rose kept

-- The pages of a job in flight

nothing_in : false ≡ true → ⊥
nothing_in e = cc

-- the job of a number that is there
pub flying_found : (number : ℕ) (flights : List Flying) → IsSome (flying_by number flights) → (flying : Flying) × (flying_by number flights ≡ Some flying)
flying_found number flights there = by (flying_by number flights) there
  where
    by : (found : Option Flying) → IsSome found → (flying : Flying) × (found ≡ Some flying)
    by (Some flying) there = (flying, refl)
    by None there = absurd (nothing_in there)

no_more : (number : ℕ) (flights : List Flying) → length (without number flights) ≤ length flights
no_more number flights =
    let other : Flying → Bool = λ flying. not (flying.number == number) in
    let kept : length (without number flights) ≡ count_by other flights = length-filter other flights in
    let few : count_by other flights ≤ length flights = count_by-le-length other flights in
    omega (arith, kept, few)

-- without it there are fewer
pub fewer_without : (number : ℕ) (flights : List Flying) → IsSome (flying_by number flights) → length (without number flights) < length flights
fewer_without number [] there = absurd (nothing_in there)
fewer_without number (first ∷ flights) there = by (first.number == number) there (fewer_without number flights) (no_more number flights)
  where
    by : (b : Bool) → IsSome (cond b (Some first) (flying_by number flights)) → (IsSome (flying_by number flights) → length (without number flights) < length flights) → length (without number flights) ≤ length flights
        → length (cond (not b) (first ∷ without number flights) (without number flights)) < length (first ∷ flights)
    by true there rest few = omega (arith, few)
    by false there rest few = let fewer = rest there in omega (arith, fewer)

-- and the one that was let go, with its pages
pub taken_found : (number : ℕ) (flights : List Flying) (written : List (Name × List ℕ)) (result : Option (List (Name × List ℕ))) → result ≡ Some written → IsNone result ↔ flying_by number flights ≡ None
    → written ≡ written_by number flights → (flying : Flying) × (flying_by number flights ≡ Some flying) × (flying.written ≡ written)
taken_found number flights written result is none pages = by (flying_by number flights) refl
  where
    by : (found : Option Flying) → flying_by number flights ≡ found → (flying : Flying) × (flying_by number flights ≡ Some flying) × (flying.written ≡ written)
    by (Some flying) found = (flying, found, sym (pages ∙ ap (λ (found : Option Flying). option_map_or (λ (flying : Flying). flying.written) found []) found))
    by None found = absurd (nothing_in (sym (none.1 found) ∙ ap is_some is))

-- what holds of the jobs holds of them where more pages are written for one of which it holds with them
pub all_pages_of : (P : Flying → Type 0) (number : ℕ) (pages : List (Name × List ℕ)) (flights : List Flying) (flying : Flying) → AreFlights flights → flying_by number flights ≡ Some flying → P (with_pages flying pages) → All P flights
    → All P (with_pages_of number pages flights)
all_pages_of P number pages flights flying are is own all = all_from P (with_pages_of number pages flights) (λ behind there.
    let from = from_map (λ (other : Flying). if other.number == number then with_pages other pages else other) flights behind there in
    subst P from.2 (by from.0 from.1 (from.0.number == number) refl))
  where
    by : (other : Flying) → Contains flights other → (b : Bool) → (other.number == number) ≡ b → P (cond b (with_pages other pages) other)
    by other there true same = subst (λ other. P (with_pages other pages)) (sym (flying_only number flights flying are is other there (eqb-true other.number number same))) own
    by other there false differs = All-contains P flights other all there

module _ (Tells : Type 0) (old : View) (number : ℕ) (flying : Flying) (is : flying_by number old.flights ≡ Some flying) (sound : IsSound Tells old) where
  -- the pages that stay where the job's go
  abbrev pub stays : List (Name × List ℕ)
  stays = beside_without old.disk.directory old.retired number old.flights

  parts : IsPermutation (beside_in old) (stays ++ flying.written)
  parts = IsPermutation-sym (stays ++ flying.written) (beside_in old) (beside_parts old.disk.directory old.retired number old.flights flying sound.flights is)

  only_written : (s : Stored) → Holds old s → HasOnly s (stays ++ flying.written) old.disk.directory
  only_written s holds = only_permuted s (beside_in old) (stays ++ flying.written) old.disk.directory parts holds.running.only

  -- the numbers of all were drawn
  drawn_beside : Tells → AreDrawn old.state.next (names_in (beside_in old))
  drawn_beside told = subst (AreDrawn old.state.next) (sym (names_beside_at old.disk.directory old.retired old.flights)) (sound.drawn told)

  pub drawn_written : Tells → AreDrawn old.state.next (names_in (stays ++ flying.written))
  drawn_written told = drawn_permuted old.state.next (names_in (beside_in old)) (names_in (stays ++ flying.written)) (names_permuted (beside_in old) (stays ++ flying.written) parts) (drawn_beside told)

  later : (s : Stored) → Holds old s → s.manifest.next ≤ old.state.next
  later s holds = subst (λ (m : Manifest). m.next ≤ old.state.next) holds.remembers.manifest sound.writable.drawn

  -- the pages that were written for it
  pub written_is : written_by number old.flights ≡ flying.written
  written_is = ap (λ (found : Option Flying). option_map_or (λ (flying : Flying). flying.written) found []) is

  pub may_write : Tells → (s : Stored) → Holds old s → MayWrite old.disk s (stays ++ written_by number old.flights) old.state.next
  may_write told s holds = subst (λ written. MayWrite old.disk s (stays ++ written) old.state.next) (sym written_is)
      (record { settled = holds.running.settled; only = only_written s holds; drawn = drawn_written told; later = later s holds })

  pub may_remove : Tells → (s : Stored) → Holds old s → MayRemove old.disk s stays flying.written
  may_remove told s holds = record {
    settled = holds.running.settled;
    only = only_written s holds;
    uncited = uncited_permuted s (beside_in old) (stays ++ flying.written) parts holds.running.uncited;
    once = (drawn_written told).once;
  }

  -- what is cited has a number that was drawn before
  cited_unwritten : (s : Stored) → Holds old s → (name : Name) → IsCited s name → name ≡ page_name old.state.next → ⊥
  cited_unwritten s holds name (inl gate) same = let clash : kinds.Gate ≡ kinds.Page = ap (λ (n : Name). n.kind) (sym gate ∙ same) in cc
  cited_unwritten s holds name (inr (inl manifest)) same = let clash : kinds.Manifest ≡ kinds.Page = ap (λ (n : Name). n.kind) (sym manifest ∙ same) in cc
  cited_unwritten s holds name (inr (inr part)) same =
      let below = part_below s name holds.remembers.coherent part in
      let number : name.no ≡ old.state.next = ap (λ (n : Name). n.no) same in
      let drawn = later s holds in
      omega (arith, below, number, drawn)

  -- the number of a retired page was drawn before, and what a held pin names is cited or retired
  retired_unwritten : Tells → (name : Name) → Contains old.retired name → name ≡ page_name old.state.next → ⊥
  retired_unwritten told name there same =
      let drawn = sound.drawn told in
      let each = All-contains (λ (name : Name). (name.kind ≡ kinds.Page) × (name.no < old.state.next)) (names_beside old) name drawn.each
      (Contains-append_left old.retired (names_in (loose_in old.flights)) name there) in
      let below = each.1 in
      let number : name.no ≡ old.state.next = ap (λ (n : Name). n.no) same in
      omega (arith, below, number)

  named_unwritten : Tells → (s : Stored) → Holds old s → (name : Name) → IsTrue (is_named old.pins.pins name) → name ≡ page_name old.state.next → ⊥
  named_unwritten told s holds name named same = elim (holds.running.kept name named) [
    | inl page ↦ cited_unwritten s holds name (page_cited s holds.remembers.coherent name page) same
    | inr retired ↦ retired_unwritten told name retired same
  ]

  -- where the page alone was touched, what pins name is as it was
  pub unwritten_kept : (disk : Seen) → (Tells → SameBut (page_name old.state.next) old.disk.directory disk.directory) → old.state.stopped ≡ None → Tells → AreKept old.pins.pins old.disk.directory disk.directory
  unwritten_kept disk beside runs told name named = let held = held_now Tells old sound told runs in beside told name (named_unwritten told held.0 held.1 name named)

  module _ (disk : Seen) (faults : ℕ) (bytes : List ℕ) (here : Tells → Image old.disk old.disk.directory) (fits : old.state.next + 1 ≤ max_place)
      (done : Tells → (s : Stored) → MayWrite old.disk s (stays ++ written_by number old.flights) old.state.next
      → IsSettled disk s × HasOnly s (stays ++ (written_by number old.flights ++ (page_name old.state.next, bytes) ∷ [])) disk.directory)
      (page : Tells → disk.directory ≡ insert old.disk.directory (page_name old.state.next) bytes)
      (copied : Tells → (s : Stored) → Holds old s → IfSome (flying_by number old.flights) (λ flying. IsCopiedOf (map file_of (inputs_in flying.task)) (page_name old.state.next, bytes))) where
    abbrev pages : List (Name × List ℕ)
    pages = (page_name old.state.next, bytes) ∷ []

    abbrev longer : List Flying
    longer = with_pages_of number pages old.flights

    abbrev now : View
    now = record old { disk = disk; faults = faults; state = drawn old.state; flights = longer }

    segment_stays : Tells → (number : ℕ) → object disk.directory (segment_name number) ≡ object old.disk.directory (segment_name number)
    segment_stays told number = ap (λ d. object d (segment_name number)) (page told) ∙ object_beside_insert old.disk.directory (page_name old.state.next) bytes (segment_name number)
        (λ e. let clash : kinds.Segment ≡ kinds.Page = ap (λ (n : Name). n.kind) e in cc)

    all_copied : Tells → (s : Stored) → Holds old s → All IsCopiedFrom longer
    all_copied told s holds =
        let Copied = IsCopiedOf (map file_of (inputs_in flying.task)) in
        let before : All Copied flying.written = All-contains IsCopiedFrom old.flights flying holds.running.copied (flying_there number old.flights flying is).0 in
        let next : Copied (page_name old.state.next, bytes) =
        subst (λ (found : Option Flying). IfSome found (λ flying. IsCopiedOf (map file_of (inputs_in flying.task)) (page_name old.state.next, bytes))) is (copied told s holds) in
        all_pages_of IsCopiedFrom number pages old.flights flying sound.flights is (All-push Copied flying.written (page_name old.state.next, bytes) before next) holds.running.copied

    others_stay : Tells → (name : Name) → (name ≡ page_name old.state.next → ⊥) → object disk.directory name ≡ object old.disk.directory name
    others_stay told name apart = ap (λ d. object d name) (page told) ∙ object_beside_insert old.disk.directory (page_name old.state.next) bytes name apart

    written_kept : Tells → (s : Stored) → Holds old s → AreKept old.pins.pins old.disk.directory disk.directory
    written_kept told s holds name named = others_stay told name (named_unwritten told s holds name named)

    -- all that was there, and the page behind it
    more : IsPermutation (beside_in old ++ pages) (beside_at old.disk.directory old.retired longer)
    more = beside_more old.disk.directory old.retired number old.flights flying sound.flights is pages

    only_now : Tells → (s : Stored) → Holds old s → HasOnly s (beside_at old.disk.directory old.retired longer) disk.directory
    only_now told s holds =
        let after = subst (λ written. HasOnly s (stays ++ (written ++ pages)) disk.directory) written_is (done told s (may_write told s holds)).1 in
        only_permuted s (stays ++ (flying.written ++ pages)) (beside_at old.disk.directory old.retired longer) disk.directory
        (beside_pages old.disk.directory old.retired number old.flights flying sound.flights is pages) after

    uncited_now : (s : Stored) → Holds old s → AreUncited s (beside_at old.disk.directory old.retired longer)
    uncited_now s holds = uncited_permuted s (beside_in old ++ pages) (beside_at old.disk.directory old.retired longer) more
        (uncited_more s (beside_in old) old.state.next bytes holds.remembers.coherent (later s holds) holds.running.uncited)

    written_running : Tells → (s : Stored) → Holds old s → IsRunning now s
    written_running told s holds =
        let after = done told s (may_write told s holds) in
        let only = only_now told s holds in
        let same = beside_stays old.disk.directory disk.directory old.retired longer only.there in
        record {
          settled = after.0;
          only = subst (λ l. HasOnly s l disk.directory) (sym same) only;
          uncited = subst (AreUncited s) (sym same) (uncited_now s holds);
          untorn = beside_untorn s old.disk.directory disk.directory holds.running.untorn (λ name cited. others_stay told name (cited_unwritten s holds name cited));
          copied = all_copied told s holds;
          kept = holds.running.kept;
          rising = holds.running.rising;
          ends = ends_stay old.disk disk s old.state.end after.0 (segment_stays told s.active.no) (here told) holds.running.ends;
          current = record { runs = holds.running.current.runs; count = holds.running.current.count };
          tasked = all_pages (IsTasked s) number pages old.flights (λ flying tasked. tasked) holds.running.tasked;
        }

    pub written_holds : Tells → (s : Stored) → Holds old s → Holds now s
    written_holds told s holds = record { remembers = drawn_remembered s old.state old.levels holds.remembers; running = written_running told s holds }

    drawn_fly : All (IsFlying (drawn old.state)) longer
    drawn_fly = all_pages (IsFlying (drawn old.state)) number pages old.flights (λ flying fly. record { levels = fly.levels; upto = fly.upto; erases = fly.erases }) (flies_on old.state (drawn old.state) refl old.flights sound.flies)

    loose_now : AreDrawn (old.state.next + 1) (names_in (loose_in longer))
    loose_now = drawn_permuted (old.state.next + 1) (names_in (loose_in old.flights ++ pages)) (names_in (loose_in longer))
        (names_permuted (loose_in old.flights ++ pages) (loose_in longer) (loose_pages number old.flights flying pages sound.flights is)) (drawn_more (loose_in old.flights) old.state.next bytes sound.loose)

    drawn_now : Tells → AreDrawn (old.state.next + 1) (old.retired ++ names_in (loose_in longer))
    drawn_now told = subst (AreDrawn (old.state.next + 1)) (names_beside_at old.disk.directory old.retired longer)
        (drawn_permuted (old.state.next + 1) (names_in (beside_in old ++ pages)) (names_in (beside_at old.disk.directory old.retired longer))
        (names_permuted (beside_in old ++ pages) (beside_at old.disk.directory old.retired longer) more) (drawn_more (beside_in old) old.state.next bytes (drawn_beside told)))

    written_sound : IsSound Tells now
    written_sound = record {
      writable = drawn_writable old.state fits sound.writable;
      small = record { active = sound.small.active; records = sound.small.records; frozen = sound.small.frozen };
      count = sound.count;
      flights = flights_pages number pages old.flights sound.flights;
      flies = drawn_fly;
      loose = loose_now;
      drawn = drawn_now;
      pins = sound.pins;
      pages = sound.pages;
      held = λ told.
          let held = sound.held told in
          (held.0, drawn_remembered held.0 old.state old.levels held.1, λ runs. written_running told held.0 (record { remembers = held.1; running = held.2 runs }));
    }

    pub written_keeps : old.state.stopped ≡ None → (Tells → (s : Stored) → MayWrite old.disk s (stays ++ written_by number old.flights) old.state.next → Goes (λ c. Encodes c s) old.disk disk)
        → (Tells → disk.moment ≡ old.disk.moment + 2) → old.faults ≤ faults → Keeps Tells old now None
    written_keeps runs goes calls rose = record {
      sound = written_sound;
      count = refl;
      stopped = refl;
      clock = refl;
      stands = λ told config h stands caller call.
          let holds = stands_holds config h old stands runs in
          next_stands_now config h old now stands runs stands.stored refl refl (stands_for config h old stands runs) (written_holds told stands.stored holds)
          (all_pages (λ (flying : Flying). IsCounted flying.task) number pages old.flights (λ flying counted. counted) stands.counted) stands.recorded
          (timely_kept config.threshold h old.pins.pins old.retired old.retired old.disk.directory disk.directory (written_kept told stands.stored holds) (stands.timely runs)
          (λ name there. inl (there, others_stay told name (retired_unwritten told name there))));
      any_moment = λ told. kept_moments Tells old sound disk runs (λ s holds. goes told s (may_write told s holds));
      numbers = λ told. let two = calls told in omega (arith, two);
      drawn = omega arith;
      faults = rose;
      retired = retired_same old.pins.pins old.retired old.retired refl;
      pins = refl;
      pinned = λ told. let held = held_now Tells old sound told runs in written_kept told held.0 held.1;
    }
