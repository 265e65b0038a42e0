-- A list of changes is made, part by part.
use Rattle.std.proofs.Common.{◌≡◌, ◌≤◌, ◌⊎◌, inl, inr, ℕ, zero, suc, ◌+◌, List, [], ◌∷◌, ◌++◌, length, map, Option, Some, None, refl, sym, ap, ◌∙◌, subst, arith, append_assoc, append-nil}
use Rattle.std.specs.Prelude.{IsSome, IsTrue, false, is_some, option_map, option_to_list, true}
use mathlib.Core.Bool.{false≢true}
use Rattle.std.specs.Option.{option_map_or}
use Rattle.std.specs.List.{range_with_len}
use Rattle.std.proofs.lemmas.List.{length-append, map-append}
use Rattle.lethe_base.specs.Counts.{Rose}
use Rattle.lethe_base.specs.History.{History}
use Rattle.lethe_base.specs.declared.config.Fields.{Fields}
use Rattle.lethe_base.specs.declared.refused.Refused.{Refused}
use Rattle.lethe_base.specs.declared.refused.Refused.TheVariants.{Fault, Stopped, Backwards, Pinned, NothingDue, Cancelled, Exhausted, ReadFault, NoMemory, Damaged}
use Rattle.lethe_cert.specs.declared.certificate.Certificate.{Certificate}
use Rattle.lethe_cover.specs.Steps.{with_failed}
use Rattle.lethe_disk.specs.Directory.{Directory}
use Rattle.lethe_disk.specs.Disk.{IsIdle, Seen}
use Rattle.lethe_disk.specs.Goes.{Goes}
use Rattle.lethe_disk.proofs.Going.{goes_then, goes_weaker}
use Rattle.lethe_core.specs.Asked.{Failure, Makes, behind, done_by, failure_of, stopped_by}
use Rattle.lethe_core.specs.Pinned.{AreKept, AreRetiredFrom}
use Rattle.lethe_core.specs.Running.{Holds, IsSound}
use Rattle.lethe_core.specs.View.{Face, Flying, View, face_of}
use Rattle.lethe_manifest.specs.declared.manifest.Manifest.{Manifest}
use Rattle.lethe_pins.specs.Held.{Held, is_named}
use Rattle.lethe_state.specs.Records.{headers_in}
use Rattle.lethe_state.specs.Remembered.{Remembers}
use Rattle.lethe_stored.specs.Kept.{IsKept}
use Rattle.lethe_stored.specs.Left.{IsKeptOr}
use Rattle.lethe_stored.specs.Numbers.{GoesFrom}
use Rattle.lethe_stored.specs.Files.{Parts}
use Rattle.lethe_stored.specs.Stored.{Stored}
use Rattle.lethe_core.specs.Merges.{IsRoomBegun}
use Rattle.lethe_core.proofs.Timely.{retired_same, retired_then}
use Rattle.lethe_stored.proofs.Numbers.{goes_from_then, goes_from_weaker}
use Rattle.lethe_engine.specs.Along.{AreAppended, HasGrown, IsAtEnd, IsKeptAlong, calls_of, row_behind, tried, with_all}
use Rattle.lethe_core.proofs.Standing.{stands_moments}
use Rattle.lethe_engine.specs.ChangeRows.{call_of}
use Rattle.lethe_engine.specs.Asked.{Asked}
use Rattle.lethe_engine.specs.Asked.TheVariants.{Put, Delete, Erase}
use Rattle.lethe_engine.proofs.Along.{along_none, none_made, one_longer, with_one_more}
use Rattle.lethe_engine.specs.Answers.{Answers, IsBegun, IsStill}
use Rattle.lethe_engine.specs.Refusals.{HasReasonOfChange}
use Rattle.lethe_engine.specs.Rows.{AnswersRow}
use Rattle.lethe_engine.specs.StandsFor.{IsKeptFor, Opened, StandsFor, StandsSince}
use Rattle.lethe_engine.proofs.Calls.{goes_by, idle_itself}
use Rattle.lethe_engine.proofs.Certified.{still_all_certified}
use Rattle.lethe_changes.specs.Changes.{AnswersAll, HaveRoom, IsBehind, IsEndedAt, IsWritten, Point, PortCounts, failed_of, point_of}
use Rattle.lethe_changes.proofs.Rounds.{AreRounds, none_made_stopped, row_over}

-- any directory
abbrev Any : Directory → Type 0
Any d = Unit {0}

any_still : (disk : Seen) → Goes Any disk disk
any_still disk = record { later = omega arith; past = λ m c low. ((λ left. left), λ left. left); each = λ m c low high left. tt }

any_goes : (P : Directory → Type 0) (old new : Seen) → Goes P old new → Goes Any old new
any_goes P old new = goes_weaker P Any old new (λ c is. tt)

-- a list of changes and another behind it
all_append : (h : History) (caller : ℕ) (made more : List Asked) → with_all (with_all h caller made) caller more ≡ with_all h caller (made ++ more)
all_append h caller made more =
    append_assoc h (map (λ change. done_by caller (call_of change)) made) (map (λ change. done_by caller (call_of change)) more)
    ∙ ap (λ l. h ++ l) (sym (map-append (λ change. done_by caller (call_of change)) made more))

-- Fronts of the changes

along_front : (config : Fields) (h : History) (caller : ℕ) (made more : List Asked) (d : Directory) → IsKeptAlong config h caller made d → IsKeptAlong config h caller (made ++ more) d
along_front config h caller made more d (front, rest, are, kept) = (front, rest ++ more, ap (λ l. l ++ more) are ∙ append_assoc front rest more, kept)

along_behind : (config : Fields) (h : History) (caller : ℕ) (made more : List Asked) (d : Directory) → IsKeptAlong config (with_all h caller made) caller more d → IsKeptAlong config h caller (made ++ more) d
along_behind config h caller made more d (front, rest, are, kept) =
    (made ++ front, rest, ap (λ l. made ++ l) are ∙ sym (append_assoc made front rest), subst (IsKept config d) (all_append h caller made front) kept)

along_or : (config : Fields) (h : History) (caller : ℕ) (made : List Asked) (next : Asked) (d : Directory) → IsKeptOr config (with_all h caller made) (Some (done_by caller (call_of next))) d
    → IsKeptAlong config h caller (made ++ next ∷ []) d
along_or config h caller made next d (g, inl same, kept) = (made, next ∷ [], refl, subst (IsKept config d) same kept)
along_or config h caller made next d (g, inr more, kept) = (made ++ next ∷ [], [], sym (append-nil (made ++ next ∷ [])), subst (IsKept config d) (more ∙ with_one_more h caller made next) kept)

-- with the change in which the disk failed, where it did
along_failed : (config : Fields) (h : History) (caller : ℕ) (made : List Asked) (next : Asked) (f : Option Failure) (d : Directory)
    → IsKeptOr config (with_all h caller made) (option_map (λ failure. done_by caller (call_of next)) f) d → IsKeptAlong config h caller (tried made (option_map (λ failure. (next, failure)) f)) d
along_failed config h caller made next None d (g, same, kept) = (made, [], refl, subst (IsKept config d) same kept)
along_failed config h caller made next (Some failure) d kept = along_or config h caller made next d kept

none_of : (xs : List Asked) → length xs ≡ 0 → xs ≡ []
none_of [] none = refl
none_of (x ∷ xs) none = absurd (omega (arith, none))

-- Where nothing was done

still_itself : (Tells : Type 0) (view : View) → IsStill Tells view view
still_itself Tells view = record { state = refl; levels = refl; faults = refl; disk = λ told. idle_itself view }

idle_then : (old mid new : Seen) → IsIdle old mid → IsIdle mid new → IsIdle old new
idle_then old mid new was is = record {
  directory = is.directory ∙ was.directory;
  moment = is.moment ∙ was.moment;
  left = λ m c. (λ left. (was.left m c).0 ((is.left m c).0 left), λ left. (is.left m c).1 ((was.left m c).1 left));
}

still_then : (Tells : Type 0) (old mid new : View) → IsStill Tells old mid → IsStill Tells mid new → IsStill Tells old new
still_then Tells old mid new was is = record {
  state = is.state ∙ was.state;
  levels = is.levels ∙ was.levels;
  faults = is.faults ∙ was.faults;
  disk = λ told. idle_then old.disk mid.disk new.disk (was.disk told) (is.disk told);
}

-- the first of the changes were made, and these are left
pub record IsMade (Tells : Type 0) (old : View) (asked made left : List Asked) (now : View) : Type 0 where
  pub are : asked ≡ made ++ left
  pub sound : IsSound Tells now
  pub count : now.state.count ≡ old.state.count + length made
  pub stopped : now.state.stopped ≡ old.state.stopped
  pub stands : Tells → (config : Fields) (opened : Opened) (h : History) → StandsSince config opened h old → (caller : ℕ) → StandsSince config opened (with_all h caller made) now
  pub runs : Tells → (config : Fields) (opened : Opened) (h : History) → StandsSince config opened h old → Goes Any old.disk now.disk
  pub numbers : Tells → now.state.next + old.disk.moment ≤ old.state.next + now.disk.moment
  pub faults : old.faults ≤ now.faults
  pub moments : Tells → (config : Fields) (opened : Opened) (h : History) → StandsSince config opened h old → old.state.stopped ≡ None → (caller : ℕ) → GoesFrom old.state.next (IsKeptAlong config h caller made) old.disk now.disk
  pub idle : IsSome old.state.stopped → (made ≡ []) × IsStill Tells old now
  pub drawn : old.state.next ≤ now.state.next
  pub later : Tells → old.disk.moment ≤ now.disk.moment
  pub face : face_of now ≡ face_of old
  pub pins : now.pins ≡ old.pins
  pub retired : AreRetiredFrom old.pins.pins old.retired now.retired
  pub pinned : Tells → AreKept old.pins.pins old.disk.directory now.disk.directory

pub none_yet : (Tells : Type 0) (old : View) (asked : List Asked) → IsSound Tells old → IsMade Tells old asked [] asked old
none_yet Tells old asked sound = record {
  are = refl;
  sound = sound;
  count = omega arith;
  stopped = refl;
  stands = λ told config opened h before caller. subst (λ g. StandsSince config opened g old) (sym (none_made h caller)) before;
  runs = λ told config opened h before. any_still old.disk;
  numbers = λ told. omega arith;
  faults = omega arith;
  moments = λ told config opened h before runs caller. along_none config h caller [] old.state.next old.disk old.disk (stands_moments config h old before.now runs sound.writable);
  idle = λ stopped. (refl, still_itself Tells old);
  drawn = omega arith;
  later = λ told. omega arith;
  face = refl;
  pins = refl;
  retired = λ name there. inl there;
  pinned = λ told name named. refl;
}

pub one_longer_by : (made : List Asked) (next : Asked) (n : ℕ) → length made ≡ n → length (made ++ next ∷ []) ≡ n + 1
one_longer_by made next n many = let long = one_longer made next in omega (arith, long, many)

tried_all : (made : List Asked) → length (tried made None) ≡ length made
tried_all made = ap length (append-nil made)

not_some : (o : Option ℕ) → (IsSome o → ⊥) → o ≡ None
not_some None none = refl
not_some (Some x) none = absurd (none refl)

-- what is retired stays so, or is named by a pin, and so on
retired_since : (old mid new : View) → mid.pins ≡ old.pins → AreRetiredFrom old.pins.pins old.retired mid.retired → AreRetiredFrom mid.pins.pins mid.retired new.retired → AreRetiredFrom old.pins.pins old.retired new.retired
retired_since old mid new pins was is = retired_then old.pins.pins old.retired mid.retired new.retired was (subst (λ (held : Held). AreRetiredFrom held.pins mid.retired new.retired) pins is)

-- what pins name goes on as it is
kept_then : (old mid new : View) → mid.pins ≡ old.pins → AreKept old.pins.pins old.disk.directory mid.disk.directory → AreKept mid.pins.pins mid.disk.directory new.disk.directory → AreKept old.pins.pins old.disk.directory new.disk.directory
kept_then old mid new pins was is name named = is name (subst (λ (pins : Held). IsTrue (is_named pins.pins name)) (sym pins) named) ∙ was name named

config_since : (config : Fields) (opened : Opened) (h : History) (view : View) → StandsSince config opened h view → view.state.manifest.config ≡ config
config_since config opened h view since = ap (λ (manifest : Manifest). manifest.config) since.now.remembers.manifest ∙ since.now.config_is

-- A row that had room for all that was asked, and didn't make all, is of a store that is stopped.
pub ended_by_stop : (Tells : Type 0) (asked left : List Asked) (done : ℕ) (old new : View) → HaveRoom asked old → (row : AnswersRow Tells asked left done None old new) → (next : Asked) (more : List Asked) → left ≡ next ∷ more
    → IsSome new.state.stopped
ended_by_stop Tells asked left done old new room row next more is = by row.row.ended.2
  where
    size : length asked ≡ length row.row.made + (length more + 1)
    size = ap length row.row.are ∙ length-append row.row.made row.row.rest ∙ ap (λ l. length row.row.made + length l) (sym row.row.ended.1 ∙ is) ∙ omega arith

    grown : HasGrown (length row.row.made) old.state new.state
    grown = row.row.grown row.row.ended.0

    count : new.state.count ≡ old.state.count + length row.row.made
    count = let long = ap (λ failed. length (tried row.row.made failed)) row.row.ended.0 ∙ tried_all row.row.made in let is = row.row.count in omega (arith, long, is)

    buffer : new.state.manifest.config.buffer ≡ old.state.manifest.config.buffer
    buffer = ap (λ (manifest : Manifest). manifest.config.buffer) grown.manifest

    by : (row.row.rest ≡ []) ⊎ IsAtEnd new → IsSome new.state.stopped
    by (inl none) = absurd (let clash : next ∷ more ≡ [] = sym is ∙ row.row.ended.1 ∙ none in cc)
    by (inr (inl stopped)) = stopped
    by (inr (inr (inl full))) = let records = grown.records in let fits = room.0 in absurd (omega (arith, full, records, fits, size, buffer))
    by (inr (inr (inr used))) = let fits = room.1 in absurd (omega (arith, used, fits, size, count))

-- what is written of those that were made
abbrev pub AreWritten : Type 0 → View → ℕ → Option Refused → List Asked → View → ℕ → Type 0
AreWritten Tells old before refused made now fetches = Tells → (s : Stored) → Holds old s → (t : Stored) × IsWritten old refused made (point_of s old before) (point_of t now fetches) × Holds now t

-- the device calls of a row are counted unless there was no memory for one of its changes, which is told then
row_written : (Tells : Type 0) (old mid new : View) (made left left' : List Asked) (done : ℕ) (refused why : Option Refused) (start fetches : ℕ) (row : AnswersRow Tells left left' done refused mid new) → row.row.failed ≡ None
    → (Tells → (why ≡ Some NoMemory → ⊥) → new.disk.moment ≡ mid.disk.moment + calls_of row.row.made) → AreRounds Tells old start made mid fetches → AreWritten Tells old start why (made ++ row.row.made) new fetches
row_written Tells old mid new made left left' done refused why start fetches row none calls head told s holds =
    let so = head told s holds in
    let to = row_over Tells left left' done refused mid new row fetches none told so.2 so.4 in (
      to.0,
      record {
        rounds = so.0;
        last = row.row.made;
        are = ap (λ l. l ++ row.row.made) so.1;
        middle = point_of so.2 mid fetches;
        before = so.3;
        row = to.1;
        calls = calls told;
      },
      to.2,
    )

-- a row that went as far as a row goes, whatever came behind it
pub row_went_written : (Tells : Type 0) (old mid new : View) (made left left' : List Asked) (done : ℕ) (why : Option Refused) (start fetches : ℕ) (row : AnswersRow Tells left left' done None mid new) → AreRounds Tells old start made mid fetches
    → AreWritten Tells old start why (made ++ row.row.made) new fetches
row_went_written Tells old mid new made left left' done why start fetches row head =
    row_written Tells old mid new made left left' done None why start fetches row row.row.ended.0 (λ told some. row.row.calls told refl) head

-- Nothing was done yet where there is room for all: these are all that was asked, and the store is as it was.
pub record IsFresh (Tells : Type 0) (old : View) (asked left : List Asked) (now : View) : Type 0 where
  pub all : left ≡ asked
  pub room : HaveRoom left now
  pub moment : Tells → now.disk.moment ≡ old.disk.moment
  pub holds : Tells → (s : Stored) → Holds old s → Holds now s
  pub levels : now.levels ≡ old.levels

pub fresh_at_first : (Tells : Type 0) (old : View) (asked : List Asked) → HaveRoom asked old → IsFresh Tells old asked asked old
fresh_at_first Tells old asked room = record {
  all = refl;
  room = room;
  moment = λ told. refl;
  holds = λ told s holds. holds;
  levels = refl;
}

-- so a change by itself is made behind a row of which nothing more is so
pub never_fresh : (Tells : Type 0) (old mid new then : View) (asked left left' more more' : List Asked) (done : ℕ) (next : Asked) (face : Face) → (HaveRoom asked old → IsFresh Tells old asked left mid) → (row : AnswersRow Tells left left' done None mid new)
    → left' ≡ next ∷ more → Answers Tells (Makes (call_of next)) None face new then → HaveRoom asked old → IsFresh Tells old asked more' then
never_fresh Tells old mid new then asked left left' more more' done next face fresh row is says room =
    absurd (none_made_stopped Tells (call_of next) face new then says (ended_by_stop Tells left left' done mid new (fresh room).room row next more is))

-- and a row behind which nothing is left is all of it
module _ (Tells : Type 0) (old mid new : View) (asked left left' : List Asked) (done : ℕ) (fresh : HaveRoom asked old → IsFresh Tells old asked left mid) (row : AnswersRow Tells left left' done None mid new) (none : left' ≡ []) where
  made_all : left ≡ row.row.made
  made_all = row.row.are ∙ ap (λ l. row.row.made ++ l) (sym row.row.ended.1 ∙ none) ∙ append-nil row.row.made

  pub calls_of_all : Tells → HaveRoom asked old → new.disk.moment ≡ old.disk.moment + calls_of asked
  calls_of_all told room =
      let is = fresh room in
      subst (λ l. new.disk.moment ≡ old.disk.moment + calls_of l) (sym made_all ∙ is.all) (subst (λ n. new.disk.moment ≡ n + calls_of row.row.made) (is.moment told) (row.row.calls told refl))

  pub written_all : Tells → HaveRoom asked old → (s : Stored) → Holds old s → (t : Stored) × AreAppended (headers_in old.levels) s asked t × Holds new t
  written_all told room s holds =
      let is = fresh room in
      let to = row.row.written told row.row.ended.0 s (is.holds told s holds) in
      (to.0, subst (λ levels. AreAppended (headers_in levels) s asked to.0) is.levels (subst (λ l. AreAppended (headers_in mid.levels) s l to.0) (sym made_all ∙ is.all) to.1), to.2)

module _ (Tells PortsFail : Type 0) (old : View) (asked made left : List Asked) (mid : View) (so_far : IsMade Tells old asked made left mid) where
  -- what the store remembers behind them
  behind_all : IsBehind Tells made old mid mid.state
  behind_all = record {
    count = so_far.count;
    stopped = so_far.stopped;
    writable = so_far.sound.writable;
    small = so_far.sound.small;
    told = λ told config opened h before. (config_since config opened (with_all h 0 made) mid (so_far.stands told config opened h before 0), so_far.numbers told);
  }

  -- all were made
  pub all_made : (before now : PortCounts) → left ≡ [] → AreWritten Tells old before.fetches None made mid now.fetches → (Tells → HaveRoom asked old → mid.disk.moment ≡ old.disk.moment + calls_of asked)
      → (Tells → HaveRoom asked old → (s : Stored) → Holds old s → (t : Stored) × AreAppended (headers_in old.levels) s asked t × Holds mid t) → AnswersAll Tells PortsFail asked (length made) None before now old mid
  all_made before now none rows calls written = record {
    made = made;
    rest = left;
    are = so_far.are;
    many = refl;
    state = mid.state;
    behind = behind_all;
    why = none;
    sound = so_far.sound;
    count = let is = so_far.count in let same = tried_all made in omega (arith, is, same);
    stopped = so_far.stopped;
    stands = so_far.stands;
    goes = λ told config opened h before caller. goes_by Any config opened h (with_all h caller made) old mid before (so_far.stands told config opened h before caller) (so_far.runs told config opened h before);
    any_moment = λ told config opened h before runs caller. subst (λ l. GoesFrom old.state.next (IsKeptAlong config h caller l) old.disk mid.disk) (sym (append-nil made)) (so_far.moments told config opened h before runs caller);
    idle = λ stopped. let was = so_far.idle stopped in (ap length was.0, was.1);
    rows = λ told none s holds. let to = rows told s holds in (point_of to.0 mid now.fetches, to.1, (mid.levels, to.2.remembers), (refl, to.2));
    calls = λ told none room. calls told room;
    written = λ told none room. written told room;
    numbers = so_far.numbers;
    drawn = so_far.drawn;
    later = so_far.later;
    faults = so_far.faults;
    face_is = so_far.face;
    retired = so_far.retired;
    pinned = so_far.pinned;
  }

  still_stopped : IsSome old.state.stopped → IsSome mid.state.stopped
  still_stopped stopped = subst IsSome (sym so_far.stopped) stopped

  -- more of them behind
  moments_on : Tells → (config : Fields) (opened : Opened) (h : History) → StandsSince config opened h old → old.state.stopped ≡ None → (caller : ℕ) (more : List Asked) (new : View)
      → GoesFrom mid.state.next (IsKeptAlong config h caller (made ++ more)) mid.disk new.disk → GoesFrom old.state.next (IsKeptAlong config h caller (made ++ more)) old.disk new.disk
  moments_on told config opened h before runs caller more new run =
      goes_from_then (IsKeptAlong config h caller (made ++ more)) old.state.next mid.state.next old.disk mid.disk new.disk
      (goes_from_weaker (IsKeptAlong config h caller made) (IsKeptAlong config h caller (made ++ more)) old.state.next old.disk mid.disk (λ d kept. along_front config h caller made more d kept)
      (so_far.moments told config opened h before runs caller)) (so_far.numbers told) run

  -- A row of them

  module _ (left' : List Asked) (done : ℕ) (new : View) where
    row_moments : (refused : Option Refused) (row : AnswersRow Tells left left' done refused mid new) → Tells → (config : Fields) (opened : Opened) (h : History) → StandsSince config opened h old → old.state.stopped ≡ None → (caller : ℕ)
        → GoesFrom old.state.next (IsKeptAlong config h caller (made ++ tried row.row.made row.row.failed)) old.disk new.disk
    row_moments refused row told config opened h before runs caller =
        let behind = tried row.row.made row.row.failed in
        moments_on told config opened h before runs caller behind new
        (goes_from_weaker (IsKeptAlong config (with_all h caller made) caller behind) (IsKeptAlong config h caller (made ++ behind)) mid.state.next mid.disk new.disk (λ d kept. along_behind config h caller made behind d kept)
        (row.row.any_moment told config (with_all h caller made) (so_far.stands told config opened h before caller).now (so_far.stopped ∙ runs) caller))

    pub row_made : (row : AnswersRow Tells left left' done None mid new) → new.pins ≡ mid.pins → IsMade Tells old asked (made ++ row.row.made) left' new
    row_made row pins =
        let ended = row.row.ended in
        let long = ap (λ failed. length (tried row.row.made failed)) ended.0 ∙ tried_all row.row.made in
        record {
          are = so_far.are ∙ ap (λ l. made ++ l) (row.row.are ∙ ap (λ l. row.row.made ++ l) (sym ended.1)) ∙ sym (append_assoc made row.row.made left');
          sound = row.row.sound;
          count = let was = so_far.count in let more = row.row.count in let both = length-append made row.row.made in omega (arith, was, more, both, long);
          stopped = row.row.stopped ∙ so_far.stopped;
          stands = λ told config opened h before caller. subst (λ g. StandsSince config opened g new) (all_append h caller made row.row.made)
              (subst (λ failed. StandsSince config opened (row_behind (with_all h caller made) caller row.row.made failed) new) ended.0
              (row.stands told config opened (with_all h caller made) (so_far.stands told config opened h before caller) caller));
          runs = λ told config opened h before.
              goes_then Any old.disk mid.disk new.disk (so_far.runs told config opened h before)
              (any_goes (IsKeptFor config opened.history (row_behind (with_all h 0 made) 0 row.row.made row.row.failed)) mid.disk new.disk
              (row.goes told config opened (with_all h 0 made) (so_far.stands told config opened h before 0) 0));
          numbers = λ told. let was = so_far.numbers told in let more = row.row.numbers told in omega (arith, was, more);
          faults = let was = so_far.faults in let more = row.row.faults in omega (arith, was, more);
          moments = λ told config opened h before runs caller. subst (λ l. GoesFrom old.state.next (IsKeptAlong config h caller l) old.disk new.disk)
              (ap (λ failed. made ++ tried row.row.made failed) ended.0 ∙ ap (λ l. made ++ l) (append-nil row.row.made)) (row_moments None row told config opened h before runs caller);
          idle = λ stopped.
              let was = so_far.idle stopped in
              let is = row.idle (still_stopped stopped) in
              (ap (λ l. l ++ row.row.made) was.0 ∙ none_of row.row.made (row.row.many ∙ is.0), still_then Tells old mid new was.1 is.3);
          drawn = let was = so_far.drawn in let more = row.drawn in omega (arith, was, more);
          later = λ told. let was = so_far.later told in let more = row.later told in omega (arith, was, more);
          face = row.face_is ∙ so_far.face;
          pins = pins ∙ so_far.pins;
          retired = retired_since old mid new so_far.pins so_far.retired (retired_same mid.pins.pins mid.retired new.retired row.retired);
          pinned = λ told. kept_then old mid new so_far.pins (so_far.pinned told) (row.row.pinned told);
        }

    -- what the store remembered where the disk failed in the next one
    before_it : (why : Refused) → (row : AnswersRow Tells left left' done (Some why) mid new) → IsBehind Tells (made ++ row.row.made) old new (record mid.state { count = mid.state.count + length row.row.made })
    before_it why row = record {
      count = let was = so_far.count in let both = length-append made row.row.made in omega (arith, was, both);
      stopped = so_far.stopped;
      writable =
          let was = so_far.sound.writable in
          let few = row.row.sound.writable.count in
          let is = row.row.count in
          let more = length-append row.row.made (option_to_list (option_map (λ (f : Asked × Failure). f.0) row.row.failed)) in
          let records = was.records in
          record {
            manifest = was.manifest;
            segments = was.segments;
            pending = was.pending;
            active = was.active;
            frozen = was.frozen;
            count = omega (arith, few, is, more);
            records = omega (arith, records);
            drawn = was.drawn;
            last = was.last;
          };
      small = let was = so_far.sound.small in record { active = was.active; records = was.records; frozen = was.frozen };
      told = λ told config opened h before.
          let later = (row.goes told config opened (with_all h 0 made) (so_far.stands told config opened h before 0) 0).later in
          let numbers = so_far.numbers told in
          (config_since config opened (with_all h 0 made) mid (so_far.stands told config opened h before 0), omega (arith, later, numbers));
    }

    -- and where there was no memory for it
    behind_it : (row : AnswersRow Tells left left' done (Some NoMemory) mid new) → IsBehind Tells (made ++ row.row.made) old new new.state
    behind_it row = record {
      count =
          let was = so_far.count in
          let is = row.row.count in
          let long = ap (λ failed. length (tried row.row.made failed)) row.row.ended.0 ∙ tried_all row.row.made in
          let both = length-append made row.row.made in
          omega (arith, was, is, long, both);
      stopped = row.row.stopped ∙ so_far.stopped;
      writable = row.row.sound.writable;
      small = row.row.sound.small;
      told = λ told config opened h before.
          let was = so_far.numbers told in
          let more = row.row.numbers told in
          let since = row.stands told config opened (with_all h 0 made) (so_far.stands told config opened h before 0) 0 in
          (config_since config opened (row_behind (with_all h 0 made) 0 row.row.made row.row.failed) new since, omega (arith, was, more));
    }

    never_stopped : (why : Refused) → AnswersRow Tells left left' done (Some why) mid new → mid.state.stopped ≡ None
    never_stopped why row = not_some mid.state.stopped (λ stopped. let idle = row.idle stopped in let clash : Some why ≡ None = idle.1 in cc)

    -- in which one failed, or for one of which there was no memory
    pub row_refused : (first now : PortCounts) → first.faults ≤ now.faults → new.pins ≡ mid.pins → AreRounds Tells old first.fetches made mid now.fetches → (why : Refused) → AnswersRow Tells left left' done (Some why) mid new
        → AnswersAll Tells PortsFail asked (length made + done) (Some why) first now old new
    row_refused first now since pins head (Fault place before after) row =
        let ended = row.row.ended in
        let next = ended.0 in
        let more = ended.1 in
        let failure : Failure = record { place = place; before = before; after = after } in
        let both = length-append made row.row.made in
        let stands = λ (told : Tells) (config : Fields) (opened : Opened) (h : History) (since' : StandsSince config opened h old) (caller : ℕ).
        subst (λ g. StandsSince config opened (with_failed g caller (call_of next) before after) new) (all_append h caller made row.row.made)
        (subst (λ failed. StandsSince config opened (row_behind (with_all h caller made) caller row.row.made failed) new) ended.3
        (row.stands told config opened (with_all h caller made) (so_far.stands told config opened h since' caller) caller)) in
        record {
          made = made ++ row.row.made;
          rest = next ∷ more;
          are = so_far.are ∙ ap (λ l. made ++ l) (row.row.are ∙ ap (λ l. row.row.made ++ l) ended.2) ∙ sym (append_assoc made row.row.made (next ∷ more));
          many = both ∙ ap (λ n. length made + n) row.row.many;
          state = record mid.state { count = mid.state.count + length row.row.made };
          behind = before_it (Fault place before after) row;
          why = (
            (next, more, refl),
            record {
              faults = mid.faults;
              later = so_far.faults;
              port_faults = now.faults;
              since = since;
              reason = inl (
                never_stopped (Fault place before after) row,
                let is = row.row.count in let long = ap (λ failed. length (tried row.row.made failed)) ended.3 ∙ one_longer row.row.made next in let at = ended.4 in omega (arith, is, long, at),
                ended.5,
                ended.6,
                subst (λ n. Rose n new.faults) ended.5 (subst (Rose before) ended.6 ended.7),
              );
            },
          );
          sound = row.row.sound;
          count =
              let was = so_far.count in
              let is = row.row.count in
              let long = ap (λ failed. length (tried row.row.made failed)) ended.3 ∙ one_longer row.row.made next in
              let all = one_longer (made ++ row.row.made) next in
              omega (arith, was, is, long, all, both);
          stopped = row.row.stopped;
          stands = stands;
          goes = λ told config opened h since' caller.
              goes_by Any config opened h (with_failed (with_all h caller (made ++ row.row.made)) caller (call_of next) before after) old new since' (stands told config opened h since' caller)
              (goes_then Any old.disk mid.disk new.disk (so_far.runs told config opened h since')
              (any_goes (IsKeptFor config opened.history (row_behind (with_all h caller made) caller row.row.made row.row.failed)) mid.disk new.disk
              (row.goes told config opened (with_all h caller made) (so_far.stands told config opened h since' caller) caller)));
          any_moment = λ told config opened h since' runs caller. subst (λ l. GoesFrom old.state.next (IsKeptAlong config h caller l) old.disk new.disk)
              (ap (λ failed. made ++ tried row.row.made failed) ended.3 ∙ sym (append_assoc made row.row.made (next ∷ []))) (row_moments (Some (Fault place before after)) row told config opened h since' runs caller);
          idle = λ stopped. absurd (let is = row.idle (still_stopped stopped) in let clash : Some (Fault place before after) ≡ None = is.1 in cc);
          rows = λ told none. absurd cc;
          calls = λ told none room. absurd cc;
          written = λ told none room. absurd cc;
          numbers = λ told. let was = so_far.numbers told in let more = row.row.numbers told in omega (arith, was, more);
          faults = let was = so_far.faults in let more = row.row.faults in omega (arith, was, more);
          drawn = let was = so_far.drawn in let more = row.drawn in omega (arith, was, more);
          later = λ told. let was = so_far.later told in let more = row.later told in omega (arith, was, more);
          face_is = row.face_is ∙ so_far.face;
          retired = retired_since old mid new so_far.pins so_far.retired (retired_same mid.pins.pins mid.retired new.retired row.retired);
          pinned = λ told. kept_then old mid new so_far.pins (so_far.pinned told) (row.row.pinned told);
        }
    row_refused first now since pins head NoMemory row =
        let ended = row.row.ended in
        let next = ended.1 in
        let both = length-append made row.row.made in
        let stands = λ (told : Tells) (config : Fields) (opened : Opened) (h : History) (since' : StandsSince config opened h old) (caller : ℕ).
        subst (λ g. StandsSince config opened g new) (all_append h caller made row.row.made)
        (subst (λ failed. StandsSince config opened (row_behind (with_all h caller made) caller row.row.made failed) new) ended.0
        (row.stands told config opened (with_all h caller made) (so_far.stands told config opened h since' caller) caller)) in
        record {
          made = made ++ row.row.made;
          rest = next ∷ left';
          are = so_far.are ∙ ap (λ l. made ++ l) (row.row.are ∙ ap (λ l. row.row.made ++ l) ended.2) ∙ sym (append_assoc made row.row.made (next ∷ left'));
          many = both ∙ ap (λ n. length made + n) row.row.many;
          state = new.state;
          behind = behind_it row;
          why = (
            (next, left', refl),
            record {
              faults = mid.faults;
              later = so_far.faults;
              port_faults = now.faults;
              since = since;
              reason = inl tt;
            },
          );
          sound = row.row.sound;
          count =
              let was = so_far.count in
              let is = row.row.count in
              let long = ap (λ failed. length (tried row.row.made failed)) ended.0 ∙ tried_all row.row.made in
              let all = tried_all (made ++ row.row.made) in
              omega (arith, was, is, long, all, both);
          stopped = row.row.stopped ∙ so_far.stopped;
          stands = stands;
          goes = λ told config opened h since' caller.
              goes_by Any config opened h (with_all h caller (made ++ row.row.made)) old new since' (stands told config opened h since' caller)
              (goes_then Any old.disk mid.disk new.disk (so_far.runs told config opened h since')
              (any_goes (IsKeptFor config opened.history (row_behind (with_all h caller made) caller row.row.made row.row.failed)) mid.disk new.disk
              (row.goes told config opened (with_all h caller made) (so_far.stands told config opened h since' caller) caller)));
          any_moment = λ told config opened h since' runs caller. subst (λ l. GoesFrom old.state.next (IsKeptAlong config h caller l) old.disk new.disk)
              (ap (λ failed. made ++ tried row.row.made failed) ended.0 ∙ sym (append_assoc made row.row.made [])) (row_moments (Some NoMemory) row told config opened h since' runs caller);
          idle = λ stopped. absurd (let is = row.idle (still_stopped stopped) in let clash : Some NoMemory ≡ None = is.1 in cc);
          rows = λ told none s holds.
              let to = row_written Tells old mid new made left left' done (Some NoMemory) (Some NoMemory) first.fetches now.fetches row ended.0 (λ told other. absurd (other refl)) head told s holds in (
                point_of to.0 new now.fetches,
                to.1,
                (new.levels, to.2.remembers),
                record { left = to.0; room = inl refl; holds = to.2; later = omega arith; fetched = omega arith; retired = λ name there. inl there },
              );
          calls = λ told none room. absurd cc;
          written = λ told none room. absurd cc;
          numbers = λ told. let was = so_far.numbers told in let more = row.row.numbers told in omega (arith, was, more);
          faults = let was = so_far.faults in let more = row.row.faults in omega (arith, was, more);
          drawn = let was = so_far.drawn in let more = row.drawn in omega (arith, was, more);
          later = λ told. let was = so_far.later told in let more = row.later told in omega (arith, was, more);
          face_is = row.face_is ∙ so_far.face;
          retired = retired_since old mid new so_far.pins so_far.retired (retired_same mid.pins.pins mid.retired new.retired row.retired);
          pinned = λ told. kept_then old mid new so_far.pins (so_far.pinned told) (row.row.pinned told);
        }
    row_refused first now since pins head (Stopped at) row = absurd row.row.ended
    row_refused first now since pins head (Exhausted last) row = absurd row.row.ended
    row_refused first now since pins head (Backwards clock) row = absurd row.row.ended
    row_refused first now since pins head (Pinned pin limit) row = absurd row.row.ended
    row_refused first now since pins head NothingDue row = absurd row.row.ended
    row_refused first now since pins head (Cancelled begun now') row = absurd row.row.ended
    row_refused first now since pins head (ReadFault b a) row = absurd row.row.ended
    row_refused first now since pins head (Damaged name) row = absurd row.row.ended

  -- it went as far as it could, or not
  pub row_ended : (first now : PortCounts) → first.faults ≤ now.faults → AreRounds Tells old first.fetches made mid now.fetches → (left' : List Asked) (done n : ℕ) (new : View) (refused : Option Refused) → new.pins ≡ mid.pins → length made ≡ n
      → is_some refused ≡ true → AnswersRow Tells left left' done refused mid new → AnswersAll Tells PortsFail asked (n + done) refused first now old new
  row_ended first now since head left' done n new None pins many is row = absurd (false≢true is)
  row_ended first now since head left' done n new (Some why) pins many is row =
      subst (λ n. AnswersAll Tells PortsFail asked (n + done) (Some why) first now old new) many (row_refused left' done new first now since pins head why row)

  pub row_went : (left' : List Asked) (done : ℕ) (new : View) (refused : Option Refused) → is_some refused ≡ false → AnswersRow Tells left left' done refused mid new → AnswersRow Tells left left' done None mid new
  row_went left' done new None is row = row
  row_went left' done new (Some why) is row = absurd (false≢true (sym is))

  -- how many are made then, and how many are left
  pub row_many : (left' : List Asked) (done n : ℕ) (new : View) → length made ≡ n → (row : AnswersRow Tells left left' done None mid new) → length (made ++ row.row.made) ≡ n + done
  row_many left' done n new many row = let both = length-append made row.row.made in let more = row.row.many in omega (arith, both, many, more)

  pub row_left : (left' : List Asked) (done : ℕ) (new : View) → (row : AnswersRow Tells left left' done None mid new) → length left ≡ done + length left'
  row_left left' done new row =
      let same = ap length row.row.are in
      let both = length-append row.row.made row.row.rest in
      let rest = ap length row.row.ended.1 in
      let more = row.row.many in
      omega (arith, same, both, rest, more)

  -- A change by itself

  module _ (next : Asked) (more : List Asked) (is : left ≡ next ∷ more) (new : View) (pins : new.pins ≡ mid.pins) where
    parted : asked ≡ made ++ next ∷ more
    parted = so_far.are ∙ ap (λ l. made ++ l) is

    -- what pins name is as it was, and they name all that is retired and wasn't
    one_kept : (why : Option Refused) → Answers Tells (Makes (call_of next)) why (face_of mid) mid new → Tells → AreKept old.pins.pins old.disk.directory new.disk.directory
    one_kept why says told = kept_then old mid new so_far.pins (so_far.pinned told) (λ name named. says.pinned told name named (subst (λ (held : Held). IsTrue (is_named held.pins name)) (sym pins) named))

    one_retired : (why : Option Refused) → Answers Tells (Makes (call_of next)) why (face_of mid) mid new → AreRetiredFrom old.pins.pins old.retired new.retired
    one_retired why says = retired_since old mid new so_far.pins so_far.retired says.retired

    pub one_made : Answers Tells (Makes (call_of next)) None (face_of mid) mid new → IsMade Tells old asked (made ++ next ∷ []) more new
    one_made says = record {
      are = parted ∙ sym (append_assoc made (next ∷ []) more);
      sound = says.sound;
      count = let was = so_far.count in let one = says.count in let long = one_longer made next in omega (arith, was, one, long);
      stopped = says.stopped ∙ so_far.stopped;
      stands = λ told config opened h before caller. subst (λ g. StandsSince config opened g new) (with_one_more h caller made next)
          (says.stands told config opened (with_all h caller made) (so_far.stands told config opened h before caller) caller);
      runs = λ told config opened h before.
          goes_then Any old.disk mid.disk new.disk (so_far.runs told config opened h before)
          (any_goes (IsKeptFor config opened.history (behind (with_all h 0 made) 0 (Makes (call_of next)) None)) mid.disk new.disk (says.goes told config opened (with_all h 0 made) (so_far.stands told config opened h before 0) 0));
      numbers = λ told. let was = so_far.numbers told in let one = says.numbers told in omega (arith, was, one);
      faults = let was = so_far.faults in let one = says.faults in omega (arith, was, one);
      moments = λ told config opened h before runs caller.
          let was = with_all h caller made in
          moments_on told config opened h before runs caller (next ∷ []) new
          (goes_from_weaker (IsKeptOr config was (Some (done_by caller (call_of next)))) (IsKeptAlong config h caller (made ++ next ∷ [])) mid.state.next mid.disk new.disk (λ d kept. along_or config h caller made next d kept)
          (says.any_moment told config was (so_far.stands told config opened h before caller).now (so_far.stopped ∙ runs) caller));
      idle = λ stopped. absurd (none_made_stopped Tells (call_of next) (face_of mid) mid new says (still_stopped stopped));
      drawn = let was = so_far.drawn in let one = says.drawn in omega (arith, was, one);
      later = λ told. let was = so_far.later told in let one = says.later told in omega (arith, was, one);
      face = says.face_is ∙ so_far.face;
      pins = pins ∙ so_far.pins;
      retired = one_retired None says;
      pinned = λ told. one_kept None says told;
    }

    -- it wasn't made, or failed
    failed_history : (h : History) (caller : ℕ) (f : Option Failure) → option_map_or (λ failure. with_failed (with_all h caller made) caller (call_of next) failure.before failure.after) f (with_all h caller made)
        ≡ row_behind h caller made (option_map (λ failure. (next, failure)) f)
    failed_history h caller None = refl
    failed_history h caller (Some failure) = refl

    failed_count : (n : ℕ) (f : Option Failure) → n ≡ old.state.count + length made
        → option_map_or (λ failure. n + 1) f n ≡ old.state.count + length (tried made (option_map (λ failure. (next, failure)) f))
    failed_count n None is = let same = tried_all made in omega (arith, is, same)
    failed_count n (Some failure) is = let long = one_longer made next in omega (arith, is, long)

    -- what the store remembered before it
    before_one : (why : Refused) → Answers Tells (Makes (call_of next)) (Some why) (face_of mid) mid new → IsBehind Tells made old new mid.state
    before_one why says = record {
      count = so_far.count;
      stopped = so_far.stopped;
      writable = so_far.sound.writable;
      small = so_far.sound.small;
      told = λ told config opened h before.
          let later = (says.goes told config opened (with_all h 0 made) (so_far.stands told config opened h before 0) 0).later in
          let numbers = so_far.numbers told in
          (config_since config opened (with_all h 0 made) mid (so_far.stands told config opened h before 0), omega (arith, later, numbers));
    }

    -- some of the steps that make room may have been done
    room_left : (first : ℕ) (before now : PortCounts) (why : Refused) → Answers Tells (Makes (call_of next)) (Some why) (face_of mid) mid new → failure_of why ≡ None → before.fetches ≤ now.fetches
        → AreWritten Tells old first (Some why) made mid before.fetches → Tells → (s : Stored) → Holds old s
        → (last : Point) × IsWritten old (Some why) made (point_of s old first) last × ((levels : List (List Parts)) × Remembers last.stored mid.state levels) × IsEndedAt old (Some why) last new now.fetches
    room_left first before now why says none more so told s holds =
        let to = so told s holds in
        let left = says.refused.1 none told to.0 to.2 in (
          point_of to.0 mid before.fetches,
          to.1,
          (mid.levels, to.2.remembers),
          record {
            left = left.0;
            room = subst (λ flight. IsRoomBegun flight to.0 left.0) (ap (λ (face : Face). face.flights) so_far.face) (begun_of next left.1);
            holds = left.2;
            later = says.later told;
            fetched = more;
            retired = subst (λ (held : Held). AreRetiredFrom held.pins mid.retired new.retired) so_far.pins says.retired;
          },
        )
      where
        begun_of : {flight : List Flying} {t u : Stored} (next : Asked) → IsBegun (call_of next) flight t u → IsRoomBegun flight t u
        begun_of (Put key dkey value) begun = begun
        begun_of (Delete key) begun = begun
        begun_of (Erase range) begun = begun

    no_failure : (f : Option Failure) → option_map {U = Asked × Failure} (λ failure. (next, failure)) f ≡ None → f ≡ None
    no_failure None none = refl
    no_failure (Some failure) none = absurd cc

    pub one_refused : (first before now : PortCounts) → first.faults ≤ before.faults → before.fetches ≤ now.fetches → (why : Refused) → AreWritten Tells old first.fetches (Some why) made mid before.fetches
        → Answers Tells (Makes (call_of next)) (Some why) (face_of mid) mid new → HasReasonOfChange Tells PortsFail mid new before.faults now.faults why → AnswersAll Tells PortsFail asked (length made) (Some why) first now old new
    one_refused first before now since more' why so says reason =
        let stands = λ (told : Tells) (config : Fields) (opened : Opened) (h : History) (before : StandsSince config opened h old) (caller : ℕ).
        subst (λ g. StandsSince config opened g new) (failed_history h caller (failure_of why))
        (says.stands told config opened (with_all h caller made) (so_far.stands told config opened h before caller) caller) in
        record {
          made = made;
          rest = next ∷ more;
          are = parted;
          many = refl;
          state = mid.state;
          behind = before_one why says;
          why = (
            (next, more, refl),
            record {
              faults = mid.faults;
              later = so_far.faults;
              port_faults = before.faults;
              since = since;
              reason = reason;
            },
          );
          sound = says.sound;
          count = says.count ∙ failed_count mid.state.count (failure_of why) so_far.count;
          stopped = says.stopped ∙ ap (stopped_by (Some why)) so_far.stopped;
          stands = stands;
          goes = λ told config opened h before caller.
              goes_by Any config opened h (row_behind h caller made (failed_of (Some why) (next ∷ more))) old new before (stands told config opened h before caller)
              (goes_then Any old.disk mid.disk new.disk (so_far.runs told config opened h before)
              (any_goes (IsKeptFor config opened.history (behind (with_all h caller made) caller (Makes (call_of next)) (Some why))) mid.disk new.disk
              (says.goes told config opened (with_all h caller made) (so_far.stands told config opened h before caller) caller)));
          any_moment = λ told config opened h before runs caller.
              let was = with_all h caller made in
              let behind = option_to_list (option_map (λ (f : Asked × Failure). f.0) (option_map (λ failure. (next, failure)) (failure_of why))) in
              moments_on told config opened h before runs caller behind new
              (goes_from_weaker (IsKeptOr config was (option_map (λ failure. done_by caller (call_of next)) (failure_of why))) (IsKeptAlong config h caller (made ++ behind)) mid.state.next mid.disk new.disk
              (λ d kept. along_failed config h caller made next (failure_of why) d kept) (says.any_moment told config was (so_far.stands told config opened h before caller).now (so_far.stopped ∙ runs) caller));
          idle = λ stopped. let was = so_far.idle stopped in let still = says.still (still_stopped stopped) in (ap length was.0, still_then Tells old mid new was.1 still);
          rows = λ told none. room_left first.fetches before now why says (no_failure (failure_of why) none) more' so told;
          calls = λ told none room. absurd cc;
          written = λ told none room. absurd cc;
          numbers = λ told. let was = so_far.numbers told in let one = says.numbers told in omega (arith, was, one);
          faults = let was = so_far.faults in let one = says.faults in omega (arith, was, one);
          drawn = let was = so_far.drawn in let one = says.drawn in omega (arith, was, one);
          later = λ told. let was = so_far.later told in let one = says.later told in omega (arith, was, one);
          face_is = says.face_is ∙ so_far.face;
          retired = one_retired (Some why) says;
          pinned = one_kept (Some why) says;
        }

-- there was no memory for the places
pub none_placed : (Tells PortsFail : Type 0) (old : View) (asked : List Asked) (before : PortCounts) → IsSound Tells old → (length asked ≡ 0 → ⊥) → AnswersAll Tells PortsFail asked 0 (Some NoMemory) before before old old
none_placed Tells PortsFail old [] before sound some = absurd (some refl)
none_placed Tells PortsFail old (next ∷ more) before sound some =
    let so_far = none_yet Tells old (next ∷ more) sound in
    record {
      made = [];
      rest = next ∷ more;
      are = refl;
      many = refl;
      state = old.state;
      behind = record {
        count = omega arith;
        stopped = refl;
        writable = sound.writable;
        small = sound.small;
        told = λ told config opened h before. (config_since config opened h old before, omega arith);
      };
      why = (
        (next, more, refl),
        record {
          faults = old.faults;
          later = omega arith;
          port_faults = before.faults;
          since = omega arith;
          reason = inl tt;
        },
      );
      sound = sound;
      count = omega arith;
      stopped = refl;
      stands = so_far.stands;
      goes = λ told config opened h before caller. goes_by Any config opened h (with_all h caller []) old old before (so_far.stands told config opened h before caller) (any_still old.disk);
      any_moment = so_far.moments;
      idle = λ stopped. (refl, still_itself Tells old);
      rows = λ told none s holds. (
        point_of s old before.fetches,
        record {
          rounds = [];
          last = [];
          are = refl;
          middle = point_of s old before.fetches;
          before = refl;
          row = record { levels = old.levels; files = holds.remembers.files; records = refl; fetches = refl; retired = refl };
          calls = λ other. omega arith;
        },
        (old.levels, holds.remembers),
        record { left = s; room = inl refl; holds = holds; later = omega arith; fetched = omega arith; retired = λ name there. inl there },
      );
      calls = λ told none room. absurd cc;
      written = λ told none room. absurd cc;
      numbers = so_far.numbers;
      drawn = so_far.drawn;
      later = so_far.later;
      faults = so_far.faults;
      face_is = refl;
      retired = so_far.retired;
      pinned = so_far.pinned;
    }

-- certificates stand behind the list as they stood before it
pub list_certified : (Tells PortsFail : Type 0) (asked : List Asked) (done : ℕ) (refused : Option Refused) (before now : PortCounts) (old new : View) (answers : AnswersAll Tells PortsFail asked done refused before now old new) → Tells
    → (config : Fields) (opened : Opened) (h : History) (caller : ℕ) (answered : List Certificate) → StandsFor config opened h old answered
    → StandsFor config opened (row_behind h caller answers.made (failed_of refused answers.rest)) new answered
list_certified Tells PortsFail asked done refused before now old new answers told config opened h caller answered stands =
    still_all_certified config opened h (row_behind h caller answers.made (failed_of refused answers.rest)) old new (λ start since. answers.stands told config start h since caller)
    (λ moment d early left. ((answers.goes told config opened h stands.since caller).past moment d early).0 left) answered stands

-- The places

pub range_more : (a n : ℕ) → range_with_len a (n + 1) ≡ range_with_len a n ++ (a + n) ∷ []
range_more a zero = ap (λ k. k ∷ []) (let same : a ≡ a + 0 = omega arith in same)
range_more a (suc n) =
    ap (range_with_len a) (let same : suc n + 1 ≡ suc (n + 1) = omega arith in same)
    ∙ ap (λ l. a ∷ l) (range_more (a + 1) n ∙ ap (λ k. range_with_len (a + 1) n ++ k ∷ []) (let same : a + 1 + n ≡ a + suc n = omega arith in same))
