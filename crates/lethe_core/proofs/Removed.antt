-- The pages of jobs in flight are removed.
use Rattle.std.proofs.Common.{◌≡◌, ◌≢◌, ◌⊎◌, ◌≤◌, inl, inr, ℕ, List, [], ◌++◌, append-nil, append_assoc, Option, Some, None, Result, Err, refl, sym, ap, ◌∙◌, subst, arith}
use Rattle.std.specs.Prelude.{All, AllPairs, Contains, IsErrOf, IsTrue}
use Rattle.std.proofs.lemmas.List.{map-append}
use Rattle.std.proofs.lemmas.List.Elements.{All-contains, Contains-append_left, Contains-append_right}
use Rattle.std.proofs.lemmas.List.Sorted.{IsPermutation-append_right, IsPermutation-sym}
use Rattle.lethe_base.specs.History.{History}
use Rattle.lethe_base.specs.declared.config.Fields.{Fields}
use Rattle.lethe_base.specs.declared.name.Name.{Name}
use Rattle.lethe_base.specs.declared.refused.Refused.{Refused}
use Rattle.lethe_cover.proofs.Common.{none_in}
use Rattle.lethe_cover.proofs.Lists.{pairs_from, pairs_parts}
use Rattle.lethe_disk.specs.Directory.{SameBeside, object}
use Rattle.lethe_disk.specs.Disk.{Image, Seen}
use Rattle.lethe_disk.specs.Goes.{Goes}
use Rattle.lethe_disk.specs.declared.disk.DiskRefused.{DiskRefused}
use Rattle.lethe_disk.specs.declared.disk.DiskRefused.TheVariants.{Failed, NoMemory}
use Rattle.lethe_stored.specs.Encodes.{Encodes}
use Rattle.lethe_stored.specs.Stored.{IsCited, Stored, segment_name}
use Rattle.lethe_stored.proofs.Frame.{none_of}
use Rattle.lethe_stored.proofs.Lists.{all_from, all_left}
use Rattle.lethe_stored.proofs.Parts.{active_part}
use Rattle.lethe_advance.specs.Settled.{AreDrawn, AreUncited, HasOnly, IsSettled, names_in}
use Rattle.lethe_clean.proofs.Stays.{beside_untorn}
use Rattle.lethe_loose.specs.Loose.{MayRemove}
use Rattle.lethe_pins.specs.Held.{is_named}
use Rattle.lethe_core.specs.Asked.{Serves, behind}
use Rattle.lethe_core.specs.Flights.{AreFlights, flying_by, without}
use Rattle.lethe_core.specs.Keeps.{Keeps}
use Rattle.lethe_core.specs.Pinned.{AreKept, pages_in}
use Rattle.lethe_core.specs.Running.{Holds, IsCopiedFrom, IsFlying, IsRunning, IsSound, IsTasked}
use Rattle.lethe_core.specs.StandsNow.{IsCounted, IsOpenOrStopped, StandsNow}
use Rattle.lethe_core.specs.View.{Flying, View, beside_at, loose_in}
use Rattle.lethe_core.proofs.Beside.{beside_stays, cited_apart, drawn_front, drawn_permuted, names_beside_at, names_permuted}
use Rattle.lethe_core.proofs.Flying.{flights_without, loose_parts, no_flights, without_from}
use Rattle.lethe_core.proofs.Paged.{page_cited}
use Rattle.lethe_core.proofs.Pages.{ends_stay, held_now, kept_moments}
use Rattle.lethe_core.proofs.Standing.{next_stands_now, stands_for, stands_holds}
use Rattle.lethe_core.proofs.Timely.{timely_kept}

-- what took no memory failed
pub only_failed : (result : Result (Unit {0}) DiskRefused) (why : DiskRefused) → result ≡ Err why → (IsErrOf result NoMemory → ⊥) → IsErrOf result Failed
only_failed result Failed is some = is
only_failed result NoMemory is some = absurd (some is)

-- Some of the jobs in flight are left.
pub record AreLeftOf (flights rest : List Flying) : Type 0 where
  pub are : AreFlights rest
  pub from : (flying : Flying) → Contains rest flying → Contains flights flying
  pub drawn : (next : ℕ) (retired : List Name) → AreDrawn next (retired ++ names_in (loose_in flights)) → AreDrawn next (retired ++ names_in (loose_in rest))

pub all_left_of : (P : Flying → Type 0) (flights rest : List Flying) → AreLeftOf flights rest → All P flights → All P rest
all_left_of P flights rest are all = all_from P rest (λ flying there. All-contains P flights flying all (are.from flying there))

-- none is
pub none_left_of : (flights : List Flying) → AreLeftOf flights []
none_left_of flights = record {
  are = no_flights;
  from = λ flying there. absurd (none_in flying there);
  drawn = λ next retired drawn. subst (AreDrawn next) (sym (append-nil retired)) (drawn_front next retired (names_in (loose_in flights)) drawn);
}

-- or all but one
pub others_left_of : (number : ℕ) (flights : List Flying) (flying : Flying) → AreFlights flights → flying_by number flights ≡ Some flying → AreLeftOf flights (without number flights)
others_left_of number flights flying are is = record {
  are = flights_without number flights are;
  from = λ other there. (without_from number flights other there).0;
  drawn = λ next retired drawn.
      let rest = loose_in (without number flights) in
      let moved = IsPermutation-append_right retired (names_in (loose_in flights)) (names_in (rest ++ flying.written))
      (names_permuted (loose_in flights) (rest ++ flying.written) (IsPermutation-sym (rest ++ flying.written) (loose_in flights) (loose_parts number flights flying are is))) in
      let parted : retired ++ names_in (rest ++ flying.written) ≡ (retired ++ names_in rest) ++ names_in flying.written =
      ap (λ l. retired ++ l) (map-append (λ (named : Name × List ℕ). named.0) rest flying.written) ∙ sym (append_assoc retired (names_in rest) (names_in flying.written)) in
      drawn_front next (retired ++ names_in rest) (names_in flying.written)
      (subst (AreDrawn next) parted (drawn_permuted next (retired ++ names_in (loose_in flights)) (retired ++ names_in (rest ++ flying.written)) moved drawn));
}

-- names that stand in one list and not in the rest of it
once_apart : (xs ys : List Name) → AllPairs (λ a b. a ≢ b) (xs ++ ys) → (name : Name) → Contains xs name → Contains ys name → ⊥
once_apart xs ys once name left right =
    let R : Name → Name → Type 0 = λ a b. a ≢ b in
    (pairs_parts R xs ys (pairs_from R (xs ++ ys) once)).2 name name left right refl

-- Some pages go that lie beside what is stored, and these stay: some of the retired ones, and those of these jobs. Whether they went or not, each other object is as it was.
module _ (Tells : Type 0) (old : View) (sound : IsSound Tells old) (runs : old.state.stopped ≡ None) (retired : List Name) (rest : List Flying) (left gone : List (Name × List ℕ))
    (left_is : left ≡ beside_at old.disk.directory retired rest) (disk : Seen)
    (may : Tells → (s : Stored) → Holds old s → MayRemove old.disk s left gone) (others : Tells → SameBeside (names_in gone) old.disk.directory disk.directory) where
  abbrev kept_names : List Name
  kept_names = retired ++ names_in (loose_in rest)

  names_apart : names_in (left ++ gone) ≡ kept_names ++ names_in gone
  names_apart = map-append (λ (named : Name × List ℕ). named.0) left gone ∙ ap (λ l. l ++ names_in gone) (ap names_in left_is ∙ names_beside_at old.disk.directory retired rest)

  stays_there : Tells → (name : Name) → (Contains (names_in gone) name → ⊥) → object disk.directory name ≡ object old.disk.directory name
  stays_there told name out = others told name (none_of (names_in gone) name out)

  -- what is cited doesn't go, nor what stays retired
  cited_stays : Tells → (s : Stored) → Holds old s → (name : Name) → IsCited s name → object disk.directory name ≡ object old.disk.directory name
  cited_stays told s holds name cited = stays_there told name (λ there. cited_apart s (left ++ gone) (may told s holds).uncited name cited
      (subst (λ l. Contains l name) (sym names_apart) (Contains-append_right kept_names (names_in gone) name there)))

  retired_stays : Tells → (name : Name) → Contains retired name → object disk.directory name ≡ object old.disk.directory name
  retired_stays told name stays =
      let held = held_now Tells old sound told runs in
      stays_there told name (once_apart kept_names (names_in gone) (subst (AllPairs (λ a b. a ≢ b)) names_apart (may told held.0 held.1).once) name
      (Contains-append_left retired (names_in (loose_in rest)) name stays))

  -- and so what a held pin names
  pub named_kept : ((name : Name) → IsTrue (is_named old.pins.pins name) → Contains old.retired name → Contains retired name) → Tells → AreKept old.pins.pins old.disk.directory disk.directory
  named_kept needed told name named =
      let held = held_now Tells old sound told runs in
      let s = held.0 in
      elim (held.1.running.kept name named) [
        | inl page ↦ cited_stays told s held.1 name (page_cited s held.1.remembers.coherent name page)
        | inr is ↦ retired_stays told name (needed name named is)
      ]

-- Some pages go, and these jobs and these retired pages stay.
module _ (Tells : Type 0) (old : View) (sound : IsSound Tells old) (runs : old.state.stopped ≡ None) (retired : List Name) (rest : List Flying) (left gone : List (Name × List ℕ))
    (left_is : left ≡ beside_at old.disk.directory retired rest) (are : AreLeftOf old.flights rest) (disk : Seen) (faults : ℕ)
    (here : Tells → Image old.disk old.disk.directory) (was : (name : Name) → Contains retired name → Contains old.retired name)
    (needed : (name : Name) → IsTrue (is_named old.pins.pins name) → Contains old.retired name → Contains retired name)
    (drawn : Tells → AreDrawn old.state.next (retired ++ names_in (loose_in rest)))
    (may : Tells → (s : Stored) → Holds old s → MayRemove old.disk s left gone)
    (done : Tells → (s : Stored) → MayRemove old.disk s left gone → IsSettled disk s × HasOnly s left disk.directory)
    (others : Tells → SameBeside (names_in gone) old.disk.directory disk.directory) where
  abbrev alone : View
  alone = record old { disk = disk; faults = faults; flights = rest; retired = retired }

  abbrev staying : List (Name × List ℕ)
  staying = beside_at old.disk.directory retired rest

  cited_as_was : Tells → (s : Stored) → Holds old s → (name : Name) → IsCited s name → object disk.directory name ≡ object old.disk.directory name
  cited_as_was = cited_stays Tells old sound runs retired rest left gone left_is disk may others

  retired_as_was : Tells → (name : Name) → Contains retired name → object disk.directory name ≡ object old.disk.directory name
  retired_as_was = retired_stays Tells old sound runs retired rest left gone left_is disk may others

  kept_as_was : Tells → AreKept old.pins.pins old.disk.directory disk.directory
  kept_as_was = named_kept Tells old sound runs retired rest left gone left_is disk may others needed

  kept_on : (s : Stored) → Holds old s → (name : Name) → IsTrue (is_named old.pins.pins name) → Contains (pages_in s.files) name ⊎ Contains retired name
  kept_on s holds name named = elim (holds.running.kept name named) [ inl page ↦ inl page | inr is ↦ inr (needed name named is) ]

  removed_running : Tells → (s : Stored) → Holds old s → IsRunning alone s
  removed_running told s holds =
      let after = done told s (may told s holds) in
      let only = subst (λ l. HasOnly s l disk.directory) left_is after.1 in
      let same = beside_stays old.disk.directory disk.directory retired rest only.there in
      let uncited = all_left (λ (named : Name × List ℕ). IsCited s named.0 → ⊥) left gone (may told s holds).uncited in
      record {
        settled = after.0;
        only = subst (λ l. HasOnly s l disk.directory) (sym same) only;
        uncited = subst (AreUncited s) (left_is ∙ sym same) uncited;
        untorn = beside_untorn s old.disk.directory disk.directory holds.running.untorn (cited_as_was told s holds);
        copied = all_left_of IsCopiedFrom old.flights rest are holds.running.copied;
        kept = kept_on s holds;
        rising = holds.running.rising;
        ends = ends_stay old.disk disk s old.state.end after.0 (cited_as_was told s holds (segment_name s.active.no) (inr (inr (active_part s)))) (here told) holds.running.ends;
        current = holds.running.current;
        tasked = all_left_of (IsTasked s) old.flights rest are holds.running.tasked;
      }

  pub removed_holds : Tells → (s : Stored) → Holds old s → Holds alone s
  removed_holds told s holds = record { remembers = holds.remembers; running = removed_running told s holds }

  removed_sound : IsSound Tells alone
  removed_sound = record {
    writable = sound.writable;
    small = sound.small;
    count = sound.count;
    flights = are.are;
    flies = all_left_of (IsFlying old.state) old.flights rest are sound.flies;
    loose = are.drawn old.state.next [] sound.loose;
    drawn = drawn;
    pins = sound.pins;
    pages = sound.pages;
    held = λ told. let held = sound.held told in (held.0, held.1, λ runs. removed_running told held.0 (record { remembers = held.1; running = held.2 runs }));
  }

  pub removed_keeps : (Tells → (s : Stored) → MayRemove old.disk s left gone → Goes (λ c. Encodes c s) old.disk disk) → old.faults ≤ faults → Keeps Tells old alone None
  removed_keeps goes rose =
      let moments : Tells → (s : Stored) → Holds old s → Goes (λ c. Encodes c s) old.disk disk = λ told s holds. goes told s (may told s holds) in
      record {
        sound = removed_sound;
        count = refl;
        stopped = refl;
        clock = refl;
        stands = λ told config h stands caller call.
            next_stands_now config h old alone stands runs stands.stored refl refl (stands_for config h old stands runs) (removed_holds told stands.stored (stands_holds config h old stands runs))
            (all_left_of (λ (flying : Flying). IsCounted flying.task) old.flights rest are stands.counted) stands.recorded
            (timely_kept config.threshold h old.pins.pins old.retired retired old.disk.directory disk.directory (kept_as_was told) (stands.timely runs) (λ name there. inl (was name there, retired_as_was told name there)));
        any_moment = λ told. kept_moments Tells old sound disk runs (moments told);
        numbers = λ told. let held = held_now Tells old sound told runs in let on = (moments told held.0 held.1).later in omega (arith, on);
        drawn = omega arith;
        faults = rose;
        retired = λ name there. inl (was name there);
        pins = refl;
        pinned = kept_as_was;
      }

-- the numbers of all retired pages were drawn
pub all_drawn : (Tells : Type 0) (old : View) → IsSound Tells old → Tells → AreDrawn old.state.next old.retired
all_drawn Tells old sound told = drawn_front old.state.next old.retired (names_in (loose_in old.flights)) (sound.drawn told)

-- A store that was stopped needs no job

module _ (rest : List Flying) where
  grounded_stands : (config : Fields) (h : History) (view : View) (at : ℕ) → AreLeftOf view.flights rest → view.state.stopped ≡ Some at → StandsNow config h view → StandsNow config h (record view { flights = rest })
  grounded_stands config h view at are stopped stands = record {
    legal = stands.legal;
    count = stands.count;
    stored = stands.stored;
    remembers = stands.remembers;
    config_is = stands.config_is;
    stands = stands.stands;
    held = subst (IsOpenOrStopped config (record view { flights = rest }) h stands.stored) (sym stopped) (subst (IsOpenOrStopped config view h stands.stored) stopped stands.held);
    counted = all_left_of (λ (flying : Flying). IsCounted flying.task) view.flights rest are stands.counted;
    recorded = stands.recorded;
    timely = stands.timely;
  }

  pub grounded_keeps : (Tells : Type 0) (old new : View) (why : Option Refused) (at : ℕ) → AreLeftOf new.flights rest → new.state.stopped ≡ Some at → Keeps Tells old new why → Keeps Tells old (record new { flights = rest }) why
  grounded_keeps Tells old new why at are stopped is = record {
    sound = record {
      writable = is.sound.writable;
      small = is.sound.small;
      count = is.sound.count;
      flights = are.are;
      flies = all_left_of (IsFlying new.state) new.flights rest are is.sound.flies;
      loose = are.drawn new.state.next [] is.sound.loose;
      drawn = λ told. are.drawn new.state.next new.retired (is.sound.drawn told);
      pins = is.sound.pins;
      pages = is.sound.pages;
      held = λ told. let held = is.sound.held told in (held.0, held.1, λ runs. absurd (let clash : Some at ≡ None = sym stopped ∙ runs in cc));
    };
    count = is.count;
    stopped = is.stopped;
    clock = is.clock;
    stands = λ told config h stands caller call. grounded_stands config (behind h caller (Serves call) why) new at are stopped (is.stands told config h stands caller call);
    any_moment = is.any_moment;
    numbers = is.numbers;
    drawn = is.drawn;
    faults = is.faults;
    retired = is.retired;
    pins = is.pins;
    pinned = is.pinned;
  }
