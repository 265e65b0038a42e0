-- Changes in a row: what is so while a record waits, and once the last one counts.
use Rattle.std.proofs.Common.{◌≡◌, ◌<◌, ◌≤◌, ◌⊎◌, inl, inr, ℕ, ◌+◌, ◌*◌, List, [], ◌∷◌, ◌++◌, length, map, Option, Some, None, Result, Ok, Err, refl, sym, ap, ◌∙◌, subst, arith, append_assoc, append-nil}
use Rattle.std.specs.Prelude.{false, IfErr, IsErrOf, IsTrue, OnOk}
use Rattle.std.specs.Result.{result_err}
use Rattle.std.proofs.lemmas.List.{length-append, map-append}
use Rattle.lethe_base.specs.Counts.{Rose}
use Rattle.lethe_base.specs.History.{History}
use Rattle.lethe_base.specs.Limits.{max_place}
use Rattle.lethe_base.specs.declared.call.Call.{Call}
use Rattle.lethe_base.specs.declared.config.Fields.{Fields}
use Rattle.lethe_base.specs.declared.refused.Refused.{Refused}
use Rattle.lethe_base.specs.declared.refused.Refused.TheVariants.{Fault, Stopped, Backwards, Pinned, NothingDue, Cancelled, Exhausted, ReadFault, NoMemory, Damaged}
use Rattle.lethe_cover.specs.Steps.{with_done}
use Rattle.lethe_disk.specs.Directory.{Directory}
use Rattle.lethe_disk.specs.Disk.{Seen}
use Rattle.lethe_header.specs.declared.header.Header.{Header}
use Rattle.lethe_pins.specs.Held.{Held, is_named}
use Rattle.lethe_segment.specs.declared.record.Record.{Record}
use Rattle.lethe_stored.specs.Kept.{IsFor, IsKept}
use Rattle.lethe_stored.specs.Left.{IsKeptOr, is_work}
use Rattle.lethe_stored.specs.Numbers.{GoesFrom}
use Rattle.lethe_stored.specs.Stored.{Stored, appended}
use Rattle.lethe_stored.proofs.Numbers.{goes_from_then, goes_from_weaker}
use Rattle.lethe_manifest.specs.declared.manifest.Manifest.{Manifest}
use Rattle.lethe_state.specs.Records.{IsLike, IsNext, headers_in}
use Rattle.lethe_state.specs.declared.state.State.{State}
use Rattle.lethe_state.specs.declared.waiting.Waiting.{Waiting}
use Rattle.lethe_core.specs.Asked.{Makes, behind, counted, done_by, stopped_by}
use Rattle.lethe_core.specs.Pinned.{AreKept}
use Rattle.lethe_core.specs.Reasons.{HasReason}
use Rattle.lethe_core.specs.Running.{Holds, IsSound}
use Rattle.lethe_core.specs.StandsNow.{StandsNow}
use Rattle.lethe_core.specs.View.{View}
use Rattle.lethe_core.proofs.Standing.{stands_for, stands_holds, stands_moments}
use Rattle.lethe_row.specs.Along.{AreAppended, HasGrown, IsEnded, IsAtEnd, IsKeptAlong, IsLeftBehind, IsRecordOver, IsRow, calls_of, ended_as, tried, with_all}
use Rattle.lethe_row.specs.Rests.{IsAtRest, IsCountedIn, at_rest}
use Rattle.lethe_row.specs.Rows.{IsRecordOf, IsWithin, call_of}
use Rattle.lethe_row.specs.declared.asking.Asked.{Asked}
use Rattle.lethe_row.specs.declared.asking.Asked.TheVariants.{Put, Delete, Erase}
use Rattle.lethe_row.specs.declared.row.Row.{Row}
use Rattle.lethe_row.proofs.Overs.{delete_over, erase_same, put_same}
use Rattle.lethe_row.proofs.Recorded.{recorded}
use Rattle.lethe_row.proofs.Rests.{one_held, sound_holds}

-- The changes of a row

pub asks_change : (asked : Asked) → is_work (call_of asked) ≡ false
asks_change (Put key dkey value) = refl
asks_change (Delete key) = refl
asks_change (Erase range) = refl

-- one more
pub with_one_more : (h : History) (caller : ℕ) (made : List Asked) (next : Asked) → with_done (with_all h caller made) caller (call_of next) ≡ with_all h caller (made ++ next ∷ [])
with_one_more h caller made next =
    append_assoc h (map (λ change. done_by caller (call_of change)) made) (done_by caller (call_of next) ∷ [])
    ∙ ap (λ l. h ++ l) (sym (map-append (λ change. done_by caller (call_of change)) made (next ∷ [])))

pub none_made : (h : History) (caller : ℕ) → with_all h caller [] ≡ h
none_made h caller = append-nil h

-- what is kept for the history along some changes is so along more of them
along_more : (config : Fields) (h : History) (caller : ℕ) (made more : List Asked) (d : Directory) → IsKeptAlong config h caller made d → IsKeptAlong config h caller (made ++ more) d
along_more config h caller made more d (front, rest, are, kept) = (front, rest ++ more, ap (λ l. l ++ more) are ∙ append_assoc front rest more, kept)

along_all : (config : Fields) (h : History) (caller : ℕ) (made : List Asked) (d : Directory) → IsKept config d (with_all h caller made) → IsKeptAlong config h caller made d
along_all config h caller made d kept = (made, [], sym (append-nil made), kept)

along_or : (config : Fields) (h : History) (caller : ℕ) (made : List Asked) (next : Asked) (d : Directory) → IsKeptOr config (with_all h caller made) (Some (done_by caller (call_of next))) d
    → IsKeptAlong config h caller (made ++ next ∷ []) d
along_or config h caller made next d (g, inl same, kept) = along_more config h caller made (next ∷ []) d (along_all config h caller made d (subst (IsKept config d) same kept))
along_or config h caller made next d (g, inr more, kept) = along_all config h caller (made ++ next ∷ []) d (subst (IsKept config d) (more ∙ with_one_more h caller made next) kept)

pub along_none : (config : Fields) (h : History) (caller : ℕ) (made : List Asked) (first : ℕ) (old new : Seen) → GoesFrom first (λ c. IsKept config c h) old new → GoesFrom first (IsKeptAlong config h caller made) old new
along_none config h caller made first old new = goes_from_weaker (λ c. IsKept config c h) (IsKeptAlong config h caller made) first old new
    (λ c kept. ([], made, refl, subst (IsKept config c) (sym (none_made h caller)) kept))

-- one more record behind those that were appended
appended_more : (headers : List Header) (s : Stored) (made : List Asked) (t : Stored) (next : Asked) (record' : Record) → AreAppended headers s made t → IsRecordOver headers t next record'
    → AreAppended headers s (made ++ next ∷ []) (appended t record')
appended_more headers s [] t next record' same over = (record', subst (λ x. IsRecordOver headers x next record') same over, ap (λ x. appended x record') same)
appended_more headers s (asked ∷ more) t next record' are over = (are.0, are.1, appended_more headers (appended s are.0) more t next record' are.2 over)

-- The record of a change over what is stored, for which that stands with it

pub record IsRecorded (headers : List Header) (s : Stored) (next : Asked) (record' : Record) : Type 0 where
  pub over : IsRecordOver headers s next record'
  pub stands : (h : History) → IsFor h s → length h < max_place → (caller : ℕ) → IsFor (with_done h caller (call_of next)) (appended s record')

over_stored : (view : View) (s : Stored) → Holds view s → (next : Asked) (record' : Record) → IsRecordOf view.state (headers_in view.levels) next record' → IsRecordOver (headers_in view.levels) s next record'
over_stored view s holds (Put key dkey value) record' of = put_same view s holds key dkey value record' of
over_stored view s holds (Delete key) record' of = delete_over view s holds (headers_in view.levels) key record' of
over_stored view s holds (Erase range) record' of = erase_same view s holds range record' of

pub recorded_over : (view : View) (s : Stored) → Holds view s → (next : Asked) (record' : Record) → IsWithin next → IsRecordOf view.state (headers_in view.levels) next record' → IsRecorded (headers_in view.levels) s next record'
recorded_over view s holds next record' within of = record {
  over = over_stored view s holds next record' of;
  stands = λ h is few caller. (recorded h s view.state view.levels holds.remembers holds.running.current is few caller next record' within of).1;
}

-- The first of the changes that were asked were made, and the record of the next one waits; these are left. Device calls are counted where all went well.
pub record IsHeld (Tells Fine : Type 0) (old : View) (asked made : List Asked) (waiting : Waiting) (left : List Asked) (now : View) : Type 0 where
  pub next : Asked
  pub are : asked ≡ made ++ next ∷ left
  pub at : Directory
  pub rest : IsAtRest Tells now at waiting
  pub recorded : Tells → (s : Stored) → Holds (at_rest now at) s → IsRecorded (headers_in old.levels) s next waiting.record
  pub levels : now.levels ≡ old.levels
  pub count : now.state.count ≡ old.state.count + length made
  pub grown : HasGrown (length made) old.state now.state
  pub stands : Tells → (config : Fields) (h : History) → StandsNow config h old → (caller : ℕ) → StandsNow config (with_all h caller made) (at_rest now at)
  pub moments : Tells → (config : Fields) (h : History) → StandsNow config h old → (caller : ℕ) → GoesFrom old.state.next (IsKeptAlong config h caller (made ++ next ∷ [])) old.disk now.disk
  pub written : Tells → (s : Stored) → Holds old s → (t : Stored) × AreAppended (headers_in old.levels) s made t × Holds (at_rest now at) t
  pub calls : Fine → Tells → now.disk.moment ≡ old.disk.moment + (3 * length made + 2)
  pub numbers : Tells → now.state.next + old.disk.moment ≤ old.state.next + now.disk.moment
  pub faults : old.faults ≤ now.faults
  pub pinned : Tells → AreKept old.pins.pins old.disk.directory now.disk.directory
  pub pins : now.pins ≡ old.pins

-- How the state grows

not_grown : (old new : State) → IsLike old new → HasGrown 0 old new
not_grown old new like = let records = like.records in record {
  records = omega (arith, records);
  manifest = like.manifest;
  drawn = like.next;
  frozen = like.frozen;
}

grown_one : (many more : ℕ) (old mid new : State) (next : Record) (end : ℕ) → HasGrown many old mid → IsNext next end mid new → more ≡ many + 1 → HasGrown more old new
grown_one many more old mid new next end was is long = let records = was.records in let one = is.records in record {
  records = omega (arith, records, one, long);
  manifest = is.manifest ∙ was.manifest;
  drawn = is.drawn ∙ was.drawn;
  frozen = is.frozen ∙ was.frozen;
}

grown_like : (many : ℕ) (old mid new : State) → HasGrown many old mid → IsLike mid new → HasGrown many old new
grown_like many old mid new was like = record {
  records = like.records ∙ was.records;
  manifest = like.manifest ∙ was.manifest;
  drawn = like.next ∙ was.drawn;
  frozen = like.frozen ∙ was.frozen;
}

-- Where a row goes no further

pub at_end : (view : View) (asked : List Asked) → (asked ≡ []) ⊎ (view.state.manifest.config.buffer ≤ view.state.records + 0) ⊎ (max_place ≤ view.state.count + 0) → (asked ≡ []) ⊎ IsAtEnd view
at_end view asked (inl none) = inl none
at_end view asked (inr (inl full)) = inr (inr (inl (omega (arith, full))))
at_end view asked (inr (inr used)) = inr (inr (inr (omega (arith, used))))

pub at_end_behind : (mid new : View) (next : Record) (end : ℕ) → IsNext next end mid.state new.state → (left : List Asked)
    → (left ≡ []) ⊎ (mid.state.manifest.config.buffer ≤ mid.state.records + 1) ⊎ (max_place ≤ mid.state.count + 1) → (left ≡ []) ⊎ IsAtEnd new
at_end_behind mid new next end is left (inl none) = inl none
at_end_behind mid new next end is left (inr (inl full)) =
    let buffer : new.state.manifest.config.buffer ≡ mid.state.manifest.config.buffer = ap (λ (m : Manifest). m.config.buffer) is.manifest in
    let records = is.records in
    inr (inr (inl (omega (arith, full, buffer, records))))
at_end_behind mid new next end is left (inr (inr used)) = let count = is.count in inr (inr (inr (omega (arith, used, count))))

-- no change was made
unfoldable pub idle_row : (Tells : Type 0) (view : View) (asked left : List Asked) → IsSound Tells view → left ≡ asked → (asked ≡ []) ⊎ IsAtEnd view → IsRow Tells asked left 0 None view view
idle_row Tells view asked left sound same end = record {
  made = [];
  rest = asked;
  are = refl;
  many = refl;
  failed = None;
  ended = (refl, same, end);
  sound = sound;
  count = omega arith;
  stopped = refl;
  stands = λ told config h before caller. subst (λ g. StandsNow config g view) (sym (none_made h caller)) before;
  any_moment = λ told config h before going caller. along_none config h caller [] view.state.next view.disk view.disk (stands_moments config h view before going sound.writable);
  grown = λ none. record { records = omega arith; manifest = refl; drawn = refl; frozen = refl };
  written = λ told none s holds. (s, refl, holds);
  calls = λ told fine. omega arith;
  numbers = λ told. omega arith;
  drawn = omega arith;
  faults = omega arith;
  pinned = λ told name named. refl;
}

pub one_longer : (made : List Asked) (next : Asked) → length (made ++ next ∷ []) ≡ length made + 1
one_longer made next = length-append made (next ∷ [])

module _ (Tells : Type 0) (old : View) (running : old.state.stopped ≡ None) (asked : List Asked) where
  -- the first record was written
  pub first_held : (next : Asked) (left : List Asked) → asked ≡ next ∷ left → (waiting : Waiting) (new : View) → IsAtRest Tells new old.disk.directory waiting → IsSound Tells old → IsWithin next
      → IsRecordOf old.state (headers_in old.levels) next waiting.record → IsLike old.state new.state → new.levels ≡ old.levels
      → (Tells → (config : Fields) (h : History) → StandsNow config h old → StandsNow config h (at_rest new old.disk.directory))
      → (Tells → (config : Fields) (h : History) → StandsNow config h old → GoesFrom old.state.next (λ c. IsKept config c h) old.disk new.disk)
      → (Tells → new.disk.moment ≡ old.disk.moment + 2) → (Tells → new.state.next + old.disk.moment ≤ old.state.next + new.disk.moment) → old.faults ≤ new.faults
      → (Tells → AreKept old.pins.pins old.disk.directory new.disk.directory) → new.pins ≡ old.pins → IsHeld Tells (Unit {0}) old asked [] waiting left new
  first_held next left are waiting new rest sound within of like levels stands moments calls numbers faults pinned pins = record {
    next = next;
    are = are;
    at = old.disk.directory;
    rest = rest;
    recorded = λ told s holds.
        let was = sound_holds Tells old sound running told in
        let same = one_held old (at_rest new old.disk.directory) was.0 s refl was.1 holds in
        subst (λ x. IsRecorded (headers_in old.levels) x next waiting.record) same (recorded_over old was.0 was.1 next waiting.record within of);
    levels = levels;
    count = let count = like.count in omega (arith, count);
    grown = not_grown old.state new.state like;
    stands = λ told config h before caller. subst (λ g. StandsNow config g (at_rest new old.disk.directory)) (sym (none_made h caller)) (stands told config h before);
    moments = λ told config h before caller. along_none config h caller (next ∷ []) old.state.next old.disk new.disk (moments told config h before);
    written = λ told s holds.
        let is = sound_holds Tells (at_rest new old.disk.directory) rest.sound rest.runs told in
        let same = one_held old (at_rest new old.disk.directory) s is.0 refl holds is.1 in
        (s, refl, subst (Holds (at_rest new old.disk.directory)) (sym same) is.1);
    calls = λ fine told. let so = calls told in omega (arith, so);
    numbers = numbers;
    faults = faults;
    pinned = pinned;
    pins = pins;
  }

  module _ (Fine : Type 0) (made : List Asked) (waiting : Waiting) (left : List Asked) (mid : View) (held : IsHeld Tells Fine old asked made waiting left mid) where
    module _ (told : Tells) (config : Fields) (h : History) (before : StandsNow config h old) (caller : ℕ) where
      abbrev Made : History
      Made = with_all h caller made

      abbrev pub resting : StandsNow config Made (at_rest mid held.at)
      resting = held.stands told config h before caller

      few : length Made < max_place
      few = let fits = held.rest.fits in let same = resting.count in omega (arith, fits, same)

      -- it stands for the history with the change whose record waits, once that counts
      pub will_stand : IsFor (with_done Made caller (call_of held.next)) (appended resting.stored waiting.record)
      will_stand =
          (held.recorded told resting.stored (stands_holds config Made (at_rest mid held.at) resting held.rest.runs)).stands Made (stands_for config Made (at_rest mid held.at) resting held.rest.runs) few caller

      pub moments_on : (new : Seen) → GoesFrom mid.state.next (IsKeptOr config Made (Some (done_by caller (call_of held.next)))) mid.disk new
          → GoesFrom old.state.next (IsKeptAlong config h caller (made ++ held.next ∷ [])) old.disk new
      moments_on new run =
          let Along = IsKeptAlong config h caller (made ++ held.next ∷ []) in
          goes_from_then Along old.state.next mid.state.next old.disk mid.disk new (held.moments told config h before caller) (held.numbers told)
          (goes_from_weaker (IsKeptOr config Made (Some (done_by caller (call_of held.next)))) Along mid.state.next mid.disk new (λ c kept. along_or config h caller made held.next c kept) run)

    -- what the record's passing on or counting gives
    abbrev pub Runs : Seen → Type 0
    Runs new = Tells → (config : Fields) (h : History) (caller : ℕ) (stands : StandsNow config h (at_rest mid held.at)) → IsFor (with_done h caller (call_of held.next)) (appended stands.stored waiting.record)
        → GoesFrom mid.state.next (IsKeptOr config h (Some (done_by caller (call_of held.next)))) mid.disk new

    pinned_on : (new : Seen) → (Tells → AreKept mid.pins.pins mid.disk.directory new.directory) → Tells → AreKept old.pins.pins old.disk.directory new.directory
    pinned_on new kept told name named = kept told name (subst (λ (pins : Held). IsTrue (is_named pins.pins name)) (sym held.pins) named) ∙ held.pinned told name named

    written_on : (new : View) → (Tells → (s : Stored) → Holds (at_rest mid held.at) s → Holds new (appended s waiting.record))
        → Tells → (s : Stored) → Holds old s → (t : Stored) × AreAppended (headers_in old.levels) s (made ++ held.next ∷ []) t × Holds new t
    written_on new holds told s was =
        let by = held.written told s was in (
          appended by.0 waiting.record,
          appended_more (headers_in old.levels) s made by.0 held.next waiting.record by.1 (held.recorded told by.0 by.2).over,
          holds told by.0 by.2,
        )

    -- its record counts, and that of the next change waits
    pub next_held : (change : Asked) (more : List Asked) → left ≡ change ∷ more → (waiting' : Waiting) (new : View) (c : Directory) → IsAtRest Tells new c waiting' → IsCountedIn Tells waiting (at_rest mid held.at) (at_rest new c)
        → IsWithin change → IsRecordOf new.state (headers_in new.levels) change waiting'.record → new.levels ≡ mid.levels → Runs new.disk → (Tells → new.disk.moment ≡ mid.disk.moment + 3)
        → (Tells → new.state.next + mid.disk.moment ≤ mid.state.next + new.disk.moment) → mid.faults ≤ new.faults → (Tells → AreKept mid.pins.pins mid.disk.directory new.disk.directory) → new.pins ≡ mid.pins
        → IsHeld Tells Fine old asked (made ++ held.next ∷ []) waiting' more new
    next_held change more is waiting' new c rest counts within of levels runs calls numbers faults kept pins = record {
      next = change;
      are = held.are ∙ ap (λ l. made ++ held.next ∷ l) is ∙ sym (append_assoc made (held.next ∷ []) (change ∷ more));
      at = c;
      rest = rest;
      recorded = λ told s holds. subst (λ levels. IsRecorded (headers_in levels) s change waiting'.record) (levels ∙ held.levels) (recorded_over (at_rest new c) s holds change waiting'.record within of);
      levels = levels ∙ held.levels;
      count = let was = held.count in let more = counts.state.count in omega (arith, was, more, one_longer made held.next);
      grown = grown_one (length made) (length (made ++ held.next ∷ [])) old.state mid.state new.state waiting.record waiting.end held.grown counts.state (one_longer made held.next);
      stands = λ told config h before caller. subst (λ g. StandsNow config g (at_rest new c)) (with_one_more h caller made held.next)
          (counts.stands told config (with_all h caller made) caller (call_of held.next) (asks_change held.next) (held.stands told config h before caller) (will_stand told config h before caller));
      moments = λ told config h before caller. goes_from_weaker (IsKeptAlong config h caller (made ++ held.next ∷ [])) (IsKeptAlong config h caller ((made ++ held.next ∷ []) ++ change ∷ [])) old.state.next old.disk new.disk
          (λ d kept. along_more config h caller (made ++ held.next ∷ []) (change ∷ []) d kept)
          (moments_on told config h before caller new.disk (runs told config (with_all h caller made) caller (held.stands told config h before caller) (will_stand told config h before caller)));
      written = written_on (at_rest new c) counts.holds;
      calls = λ fine told. let was = held.calls fine told in let so = calls told in omega (arith, was, so, one_longer made held.next);
      numbers = λ told. let was = held.numbers told in let so = numbers told in omega (arith, was, so);
      faults = let was = held.faults in omega (arith, was, faults);
      pinned = pinned_on new.disk kept;
      pins = pins ∙ held.pins;
    }

    -- there was no memory for the next record: it waits still
    module _ (new : View) (waits : IsAtRest Tells new held.at waiting) (like : IsLike mid.state new.state) (levels : new.levels ≡ mid.levels)
        (stands : (config : Fields) (h : History) → StandsNow config h (at_rest mid held.at) → StandsNow config h (at_rest new held.at)) (on : Runs new.disk)
        (numbers : Tells → new.state.next + mid.disk.moment ≤ mid.state.next + new.disk.moment) (faults : mid.faults ≤ new.faults) (kept : Tells → AreKept mid.pins.pins mid.disk.directory new.disk.directory)
        (pins : new.pins ≡ mid.pins) where
      same_held : Tells → (s t : Stored) → Holds (at_rest mid held.at) s → Holds (at_rest new held.at) t → s ≡ t
      same_held told s t was is = one_held (at_rest mid held.at) (at_rest new held.at) s t refl was is

      pub still_held : IsHeld Tells ⊥ old asked made waiting left new
      still_held = record {
        next = held.next;
        are = held.are;
        at = held.at;
        rest = waits;
        recorded = λ told s holds.
            let was = sound_holds Tells (at_rest mid held.at) held.rest.sound held.rest.runs told in
            subst (λ x. IsRecorded (headers_in old.levels) x held.next waiting.record) (same_held told was.0 s was.1 holds) (held.recorded told was.0 was.1);
        levels = levels ∙ held.levels;
        count = like.count ∙ held.count;
        grown = grown_like (length made) old.state mid.state new.state held.grown like;
        stands = λ told config h before caller. stands config (with_all h caller made) (held.stands told config h before caller);
        moments = λ told config h before caller.
            moments_on told config h before caller new.disk (on told config (with_all h caller made) caller (held.stands told config h before caller) (will_stand told config h before caller));
        written = λ told s was.
            let by = held.written told s was in
            let is = sound_holds Tells (at_rest new held.at) waits.sound waits.runs told in
            (by.0, by.1, subst (Holds (at_rest new held.at)) (sym (same_held told by.0 is.0 by.2 is.1)) is.1);
        calls = λ fine. absurd fine;
        numbers = λ told. let was = held.numbers told in let so = numbers told in omega (arith, was, so);
        faults = let was = held.faults in omega (arith, was, faults);
        pinned = pinned_on new.disk kept;
        pins = pins ∙ held.pins;
      }

    no_more : tried (made ++ held.next ∷ []) None ≡ made ++ held.next ∷ []
    no_more = append-nil (made ++ held.next ∷ [])

    calls_are : calls_of (made ++ held.next ∷ []) ≡ 3 * length made + 4
    calls_are = by made
      where
        by : (made : List Asked) → calls_of (made ++ held.next ∷ []) ≡ 3 * length made + 4
        by [] = refl
        by (first ∷ others) = let long = one_longer others held.next in omega (arith, long)

    -- its record counts, and no other waits
    counted_row : (done : ℕ) (refused : Option Refused) → (refused ≡ None → Fine) → (left' : List Asked) (new : View) → length made ≡ done → stopped_by refused old.state.stopped ≡ None → IsEnded refused left left' None old new
        → IsSound Tells new → IsCountedIn Tells waiting (at_rest mid held.at) new → Runs new.disk → (Tells → new.disk.moment ≡ mid.disk.moment + 2)
        → (Tells → new.state.next + mid.disk.moment ≤ mid.state.next + new.disk.moment) → mid.faults ≤ new.faults → (Tells → AreKept mid.pins.pins mid.disk.directory new.disk.directory)
        → IsRow Tells asked left' (done + 1) refused old new
    counted_row done refused well left' new many going is_ended sound counts runs calls numbers faults kept = record {
      made = made ++ held.next ∷ [];
      rest = left;
      are = held.are ∙ sym (append_assoc made (held.next ∷ []) left);
      many = let long = one_longer made held.next in omega (arith, long, many);
      failed = None;
      ended = is_ended;
      sound = sound;
      count = let was = held.count in let more = counts.state.count in let long = ap length no_more ∙ one_longer made held.next in omega (arith, was, more, long);
      stopped = counts.state.stopped ∙ held.rest.runs ∙ sym going;
      stands = λ told config h before caller. subst (λ g. StandsNow config g new) (with_one_more h caller made held.next)
          (counts.stands told config (with_all h caller made) caller (call_of held.next) (asks_change held.next) (held.stands told config h before caller) (will_stand told config h before caller));
      any_moment = λ told config h before going caller. subst (λ made. GoesFrom old.state.next (IsKeptAlong config h caller made) old.disk new.disk) (sym no_more)
          (moments_on told config h before caller new.disk (runs told config (with_all h caller made) caller (held.stands told config h before caller) (will_stand told config h before caller)));
      grown = λ none. grown_one (length made) (length (made ++ held.next ∷ [])) old.state mid.state new.state waiting.record waiting.end held.grown counts.state (one_longer made held.next);
      written = λ told none. written_on new counts.holds told;
      calls = λ told fine. let was = held.calls (well fine) told in let so = calls told in omega (arith, was, so, calls_are);
      numbers = λ told. let was = held.numbers told in let so = numbers told in omega (arith, was, so);
      drawn = let was = held.grown.drawn in let more = counts.state.drawn in omega (arith, was, more);
      faults = let was = held.faults in omega (arith, was, faults);
      pinned = pinned_on new.disk kept;
    }

    -- the disk failed in making it count, or in that and the next record
    module _ (before : ℕ) (before_is : before ≡ old.faults) (new : View) (why : Refused) (left' : List Asked) (behind_it : IsLeftBehind left left') (done : ℕ) (many : length made ≡ done) (sound : IsSound Tells new)
        (count : (call : Call) → new.state.count ≡ counted (Makes call) (Some why) mid.state.count) (stopped : new.state.stopped ≡ stopped_by (Some why) mid.state.stopped)
        (stands : Tells → (config : Fields) (h : History) (caller : ℕ) (call : Call) → is_work call ≡ false → (stands : StandsNow config h (at_rest mid held.at)) → IsFor (with_done h caller call) (appended stands.stored waiting.record)
        → StandsNow config (behind h caller (Makes call) (Some why)) new) (runs : Runs new.disk) (numbers : Tells → new.state.next + mid.disk.moment ≤ mid.state.next + new.disk.moment) (drawn : mid.state.next ≤ new.state.next) (faults : mid.faults ≤ new.faults)
        (kept : Tells → AreKept mid.pins.pins mid.disk.directory new.disk.directory) where
      by_failure : (why : Refused) → HasReason ⊥ mid.state before new.faults why → (why ≡ NoMemory → ⊥) → ((call : Call) → new.state.count ≡ counted (Makes call) (Some why) mid.state.count)
          → new.state.stopped ≡ stopped_by (Some why) mid.state.stopped
          → (Tells → (config : Fields) (h : History) (caller : ℕ) (call : Call) → is_work call ≡ false → (stands : StandsNow config h (at_rest mid held.at)) → IsFor (with_done h caller call) (appended stands.stored waiting.record)
          → StandsNow config (behind h caller (Makes call) (Some why)) new) → IsRow Tells asked left' done (Some why) old new
      by_failure (Fault place b a) reason memory count stopped stands = record {
        made = made;
        rest = held.next ∷ left;
        are = held.are;
        many = many;
        failed = Some (held.next, record { place = place; before = b; after = a });
        ended = (
          held.next,
          left,
          refl,
          refl,
          reason.1 ∙ sym (count (call_of held.next)),
          reason.2 ∙ before_is,
          reason.3,
          subst (λ n. Rose n a) (sym reason.2) (subst (Rose before) (sym reason.3) reason.4),
          behind_it,
        );
        sound = sound;
        count = let was = held.count in let more = count (call_of held.next) in let long = one_longer made held.next in omega (arith, was, more, long);
        stopped = stopped;
        stands = λ told config h before caller.
            stands told config (with_all h caller made) caller (call_of held.next) (asks_change held.next) (held.stands told config h before caller) (will_stand told config h before caller);
        any_moment = λ told config h before going caller.
            moments_on told config h before caller new.disk (runs told config (with_all h caller made) caller (held.stands told config h before caller) (will_stand told config h before caller));
        grown = λ none. absurd cc;
        written = λ told none. absurd cc;
        calls = λ told fine. absurd cc;
        numbers = λ told. let was = held.numbers told in let so = numbers told in omega (arith, was, so);
        drawn = let was = held.grown.drawn in omega (arith, was, drawn);
        faults = let was = held.faults in omega (arith, was, faults);
        pinned = pinned_on new.disk kept;
      }
      by_failure (Stopped at) reason memory count stopped stands = absurd (let clash : Some at ≡ None = sym reason ∙ held.rest.runs in cc)
      by_failure (Exhausted last) reason memory count stopped stands = absurd (elim reason.2 [ inl all ↦ (let fits = held.rest.fits in omega (arith, fits, all)) | inr short ↦ short ])
      by_failure NoMemory reason memory count stopped stands = absurd (memory refl)
      by_failure (Backwards clock) reason memory count stopped stands = absurd reason
      by_failure (Pinned pin limit) reason memory count stopped stands = absurd reason
      by_failure NothingDue reason memory count stopped stands = absurd reason
      by_failure (Cancelled begun now) reason memory count stopped stands = absurd reason
      by_failure (ReadFault b a) reason memory count stopped stands = absurd reason
      by_failure (Damaged name) reason memory count stopped stands = absurd reason

      pub failed_row : HasReason ⊥ mid.state before new.faults why → (why ≡ NoMemory → ⊥) → IsRow Tells asked left' done (Some why) old new
      failed_row reason memory = by_failure why reason memory count stopped stands

    -- its record was to count, and no other waits
    module _ (before : ℕ) (before_is : before ≡ old.faults) (new : View) (left' : List Asked) (behind_it : IsLeftBehind left left') (done : ℕ) (many : length made ≡ done) (sound : IsSound Tells new)
        (numbers : Tells → new.state.next + mid.disk.moment ≤ mid.state.next + new.disk.moment) (drawn : mid.state.next ≤ new.state.next) (faults : mid.faults ≤ new.faults) (kept : Tells → AreKept mid.pins.pins mid.disk.directory new.disk.directory) (runs : Runs new.disk)
        (refused : Option Refused) (well : refused ≡ None → Fine) (going : stopped_by refused old.state.stopped ≡ None)
        (is_ended : IsCountedIn Tells waiting (at_rest mid held.at) new → IsEnded refused left left' None old new) where
      pub last_row : (last : Result ℕ Refused) → OnOk last (IsCountedIn Tells waiting (at_rest mid held.at) new) → ((call : Call) → new.state.count ≡ counted (Makes call) (result_err last) mid.state.count)
          → new.state.stopped ≡ stopped_by (result_err last) mid.state.stopped → IfErr last (HasReason ⊥ mid.state before new.faults) → (IsErrOf last NoMemory → ⊥)
          → (Tells → (config : Fields) (h : History) (caller : ℕ) (call : Call) → is_work call ≡ false → (stands : StandsNow config h (at_rest mid held.at)) → IsFor (with_done h caller call) (appended stands.stored waiting.record)
          → StandsNow config (behind h caller (Makes call) (result_err last)) new) → (Tells → OnOk last (new.disk.moment ≡ mid.disk.moment + 2)) → (row : Row) → row ≡ ended_as last done refused
          → IsRow Tells asked left' row.done row.refused old new
      last_row (Ok place) counts count stopped reason memory stands calls row is =
          subst (λ (row : Row). IsRow Tells asked left' row.done row.refused old new) (sym is) (counted_row done refused well left' new many going (is_ended counts) sound counts runs calls numbers faults kept)
      last_row (Err why) counts count stopped reason memory stands calls row is =
          subst (λ (row : Row). IsRow Tells asked left' row.done row.refused old new) (sym is)
          (failed_row before before_is new why left' behind_it done many sound count stopped stands runs numbers drawn faults kept reason (λ is. memory (ap (λ why. Err why) is)))

  -- The first record wasn't written
  module _ (next : Asked) (left : List Asked) (are : asked ≡ next ∷ left) (new : View) (sound : IsSound Tells new)
      (moments : Tells → (config : Fields) (h : History) → StandsNow config h old → GoesFrom old.state.next (λ c. IsKept config c h) old.disk new.disk) (numbers : Tells → new.state.next + old.disk.moment ≤ old.state.next + new.disk.moment)
      (drawn : old.state.next ≤ new.state.next) (faults : old.faults ≤ new.faults) (kept : Tells → AreKept old.pins.pins old.disk.directory new.disk.directory) (fits : old.state.count < max_place) where
    -- the disk failed in the first record, or there was no memory for it
    pub unheld_row : (why : Refused) → HasReason ⊥ old.state old.faults new.faults why → ((call : Call) → new.state.count ≡ counted (Makes call) (Some why) old.state.count)
        → new.state.stopped ≡ stopped_by (Some why) old.state.stopped
        → (Tells → (config : Fields) (h : History) (caller : ℕ) (call : Call) → is_work call ≡ false → StandsNow config h old → StandsNow config (behind h caller (Makes call) (Some why)) new) → (why ≡ NoMemory → IsLike old.state new.state × (Tells → new.disk.directory ≡ old.disk.directory)) → IsRow Tells asked left 0 (Some why) old new
    unheld_row (Fault place b a) reason count stopped stands untouched = record {
      made = [];
      rest = next ∷ left;
      are = are;
      many = refl;
      failed = Some (next, record { place = place; before = b; after = a });
      ended = (
        next,
        left,
        refl,
        refl,
        reason.1 ∙ sym (count (call_of next)),
        reason.2,
        reason.3,
        subst (λ n. Rose n a) (sym reason.2) (subst (Rose old.faults) (sym reason.3) reason.4),
        inl refl,
      );
      sound = sound;
      count = count (call_of next);
      stopped = stopped;
      stands = λ told config h before caller.
          subst (λ g. StandsNow config (behind g caller (Makes (call_of next)) (Some (Fault place b a))) new) (sym (none_made h caller)) (stands told config h caller (call_of next) (asks_change next) before);
      any_moment = λ told config h before going caller. along_none config h caller (next ∷ []) old.state.next old.disk new.disk (moments told config h before);
      grown = λ none. absurd cc;
      written = λ told none. absurd cc;
      calls = λ told fine. absurd cc;
      numbers = numbers;
      drawn = drawn;
      faults = faults;
      pinned = kept;
    }
    unheld_row NoMemory reason count stopped stands untouched = record {
      made = [];
      rest = next ∷ left;
      are = are;
      many = refl;
      failed = None;
      ended = (refl, next, refl);
      sound = sound;
      count = let same = count (call_of next) in omega (arith, same);
      stopped = stopped;
      stands = λ told config h before caller. subst (λ g. StandsNow config g new) (sym (none_made h caller)) (stands told config h caller (call_of next) (asks_change next) before);
      any_moment = λ told config h before going caller. along_none config h caller [] old.state.next old.disk new.disk (moments told config h before);
      grown = λ none. not_grown old.state new.state (untouched refl).0;
      written = λ told none s holds.
          let is = sound_holds Tells new sound (stopped ∙ running) told in
          (s, refl, subst (Holds new) (sym (one_held old new s is.0 ((untouched refl).1 told) holds is.1)) is.1);
      calls = λ told fine. absurd cc;
      numbers = numbers;
      drawn = drawn;
      faults = faults;
      pinned = kept;
    }
    unheld_row (Stopped at) reason count stopped stands untouched = absurd (let clash : Some at ≡ None = sym reason ∙ running in cc)
    unheld_row (Exhausted last) reason count stopped stands untouched = absurd (elim reason.2 [ inl all ↦ omega (arith, fits, all) | inr short ↦ short ])
    unheld_row (Backwards clock) reason count stopped stands untouched = absurd reason
    unheld_row (Pinned pin limit) reason count stopped stands untouched = absurd reason
    unheld_row NothingDue reason count stopped stands untouched = absurd reason
    unheld_row (Cancelled begun now) reason count stopped stands untouched = absurd reason
    unheld_row (ReadFault b a) reason count stopped stands untouched = absurd reason
    unheld_row (Damaged name) reason count stopped stands untouched = absurd reason
