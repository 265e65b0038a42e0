-- The rounds that changes were made in: a row as far as it goes, and the one behind it by itself.
use Rattle.std.proofs.Common.{◌≡◌, ◌≤◌, ◌⊎◌, inl, inr, ℕ, ◌+◌, List, [], ◌∷◌, ◌++◌, Option, None, refl, sym, ap, ◌∙◌, subst, arith, append_assoc, append-nil}
use Rattle.std.specs.Prelude.{IsSome}
use Rattle.lethe_base.specs.declared.call.Call.{Call}
use Rattle.lethe_base.specs.declared.refused.Refused.{Refused}
use Rattle.lethe_core.specs.Asked.{Makes}
use Rattle.lethe_core.specs.Running.{Holds}
use Rattle.lethe_core.specs.View.{Face, View}
use Rattle.lethe_pins.specs.Held.{Held}
use Rattle.lethe_state.specs.Records.{headers_in}
use Rattle.lethe_state.specs.declared.state.State.{State}
use Rattle.lethe_stored.specs.Files.{Parts}
use Rattle.lethe_stored.specs.Levels.{HasFiles}
use Rattle.lethe_stored.specs.Stored.{Stored, appended}
use Rattle.lethe_segment.specs.declared.record.Record.{Record}
use Rattle.lethe_state.specs.Room.{HasRoom}
use Rattle.lethe_core.specs.Merges.{AreRetiredBehind, IsCleared, IsRoomMadeBy, Outcome, pages_of}
use Rattle.lethe_core.proofs.Roomed.{sees_room}
use Rattle.lethe_engine.specs.Along.{IsAtEnd, IsRecordOver}
use Rattle.lethe_engine.specs.ChangeRows.{call_of}
use Rattle.lethe_engine.specs.Asked.{Asked}
use Rattle.lethe_engine.specs.Answers.{Answers}
use Rattle.lethe_engine.specs.Rows.{AnswersRow}
use Rattle.lethe_changes.specs.Changes.{AreMade, IsMadeAlone, IsRound, IsRowOver, Point, Round, changes_in, point_of}

-- a store that was stopped makes no change
pub none_made_stopped : (Tells : Type 0) (call : Call) (face : Face) (old new : View) → Answers Tells (Makes call) None face old new → IsSome old.state.stopped → ⊥
none_made_stopped Tells call face old new says stopped =
    let same = ap (λ (state : State). state.count) (says.still stopped).state in
    let more = says.count in
    omega (arith, same, more)

-- How they were made

pub alone_of : (old new : View) (before now : ℕ) (s : Stored) (asked : Asked) (t : Stored) (outcomes : List Outcome) (levels : List (List Parts)) (next : Record) → (HasRoom s → ⊥) → IsRoomMadeBy old.flights s outcomes t
    → HasFiles (appended t next) levels → IsRecordOver (headers_in levels) t asked next → now ≡ before + pages_of outcomes → AreRetiredBehind outcomes old.pins.pins old.retired new.retired → old.disk.moment ≤ new.disk.moment
    → IsMadeAlone old (point_of s old before) asked (point_of (appended t next) new now)
alone_of old new before now s asked t outcomes levels next full (inl room) files over fetches retired later = absurd (full room.0)
alone_of old new before now s asked t outcomes levels next full (inr room) files over fetches retired later = record {
  full = full;
  outcomes = outcomes;
  cleared = t;
  room = room.1;
  levels = levels;
  files = files;
  next = next;
  over = over;
  is = refl;
  fetches = fetches;
  retired = retired;
  later = later;
}

-- the same of a store with that job in flight and those pins
alone_in : (old mid : View) (p : Point) (asked : Asked) (q : Point) → mid.flights ≡ old.flights → mid.pins ≡ old.pins → IsMadeAlone mid p asked q → IsMadeAlone old p asked q
alone_in old mid p asked q flight pins alone = record {
  full = alone.full;
  outcomes = alone.outcomes;
  cleared = alone.cleared;
  room = subst (λ flight. IsCleared flight p.stored alone.outcomes alone.cleared) flight alone.room;
  levels = alone.levels;
  files = alone.files;
  next = alone.next;
  over = alone.over;
  is = alone.is;
  fetches = alone.fetches;
  retired = subst (λ (held : Held). AreRetiredBehind alone.outcomes held.pins p.retired q.retired) pins alone.retired;
  later = alone.later;
}

changes_more : (rounds : List Round) (round : Round) → changes_in (rounds ++ round ∷ []) ≡ changes_in rounds ++ (round.row ++ round.alone ∷ [])
changes_more [] round = append-nil (round.row ++ round.alone ∷ [])
changes_more (first ∷ more) round =
    ap (λ l. (first.row ++ first.alone ∷ []) ++ l) (changes_more more round) ∙ sym (append_assoc (first.row ++ first.alone ∷ []) (changes_in more) (round.row ++ round.alone ∷ []))

made_more : (view : View) (rounds : List Round) (round : Round) (p q r : Point) → AreMade view rounds p q → IsRound view q round r → AreMade view (rounds ++ round ∷ []) p r
made_more view [] round p q r same one = (r, subst (λ x. IsRound view x round r) same one, refl)
made_more view (first ∷ others) round p q r made one = (made.0, made.1, made_more view others round made.0 q r made.2 one)

-- so many rounds were made, by the port's counts of fetches before and now
abbrev pub AreRounds : Type 0 → View → ℕ → List Asked → View → ℕ → Type 0
AreRounds Tells old before made now fetches = Tells → (s : Stored) → Holds old s → (rounds : List Round) × (made ≡ changes_in rounds) × (m : Stored) × AreMade old rounds (point_of s old before) (point_of m now fetches) × Holds now m

pub no_rounds : (Tells : Type 0) (old : View) (fetches : ℕ) → AreRounds Tells old fetches [] old fetches
no_rounds Tells old fetches told s holds = ([], refl, s, refl, holds)

pub row_over : (Tells : Type 0) (left left' : List Asked) (done : ℕ) (refused : Option Refused) (mid new : View) (row : AnswersRow Tells left left' done refused mid new) (fetches : ℕ) → row.row.failed ≡ None → Tells → (s : Stored) → Holds mid s
    → (t : Stored) × IsRowOver (point_of s mid fetches) row.row.made (point_of t new fetches) × Holds new t
row_over Tells left left' done refused mid new row fetches none told s holds =
    let to = row.row.written told none s holds in
    (to.0, record { levels = mid.levels; files = holds.remembers.files; records = to.1; fetches = refl; retired = row.retired }, to.2)

-- a row that a change follows had no room for it
no_room : (Tells : Type 0) (left left' : List Asked) (done : ℕ) (mid new then : View) (row : AnswersRow Tells left left' done None mid new) (next : Asked) (more : List Asked) (face : Face) → left' ≡ next ∷ more
    → Answers Tells (Makes (call_of next)) None face new then → (s : Stored) → Holds new s → HasRoom s → ⊥
no_room Tells left left' done mid new then row next more face is says s holds room = by row.row.ended.2
  where
    by : (row.row.rest ≡ []) ⊎ IsAtEnd new → ⊥
    by (inl none) = let clash : next ∷ more ≡ [] = sym is ∙ row.row.ended.1 ∙ none in cc
    by (inr (inl stopped)) = none_made_stopped Tells (call_of next) face new then says stopped
    by (inr (inr (inl full))) = let sees = sees_room new s holds room in omega (arith, full, sees)
    by (inr (inr (inr used))) = let count = says.count in let few = says.sound.writable.count in omega (arith, used, count, few)

pub round_made : (Tells : Type 0) (old mid new then : View) (made left left' more : List Asked) (done : ℕ) (next : Asked) (face : Face) (start before now : ℕ) (row : AnswersRow Tells left left' done None mid new) → left' ≡ next ∷ more
    → new.flights ≡ old.flights → new.pins ≡ old.pins → Answers Tells (Makes (call_of next)) None face new then
    → (Tells → (s : Stored) → Holds new s → (HasRoom s → ⊥) → (t : Stored) × IsMadeAlone new (point_of s new before) next (point_of t then now) × Holds then t) → AreRounds Tells old start made mid before
    → AreRounds Tells old start ((made ++ row.row.made) ++ next ∷ []) then now
round_made Tells old mid new then made left left' more done next face start before now row is flight pins says alone head told s holds =
    let so = head told s holds in
    let full = row_over Tells left left' done None mid new row before row.row.ended.0 told so.2 so.4 in
    let to = alone told full.0 full.2 (no_room Tells left left' done mid new then row next more face is says full.0 full.2) in
    let round : Round = record { row = row.row.made; alone = next } in
    let one : IsRound old (point_of so.2 mid before) round (point_of to.0 then now) = record {
      full = point_of full.0 new before;
      row = full.1;
      calls = row.row.calls told refl;
      alone = alone_in old new (point_of full.0 new before) next (point_of to.0 then now) flight pins to.1;
    } in (
      so.0 ++ round ∷ [],
      ap (λ l. (l ++ row.row.made) ++ next ∷ []) so.1 ∙ append_assoc (changes_in so.0) row.row.made (next ∷ []) ∙ sym (changes_more so.0 round),
      to.0,
      made_more old so.0 round (point_of s old start) (point_of so.2 mid before) (point_of to.0 then now) so.3 one,
      to.2,
    )
