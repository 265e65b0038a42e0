-- With the record of a change, what is stored stands for the history with that change.
use Rattle.std.proofs.Common.{◌≡◌, ◌<◌, ◌≤◌, ◌^◌, inl, inr, ℕ, ◌+◌, false, cond, List, [], ◌∷◌, ◌++◌, length, get_or, map, min, Option, Some, None, refl, sym, ap, ◌∙◌, subst, arith}
use Rattle.std.specs.Prelude.{Contains, unwrap_or, option_and_then}
use Rattle.std.specs.FinMap as finmap
use Rattle.std.proofs.lemmas.List.Elements.{Contains-get_or}
use Rattle.std.proofs.lemmas.List.Quantifiers.{all_pairs_push}
use Rattle.lethe_base.specs.Keys.{Bytes}
use Rattle.lethe_base.specs.Limits.{IsKey, IsValue, max_place, max_time}
use Rattle.lethe_base.specs.Spelling.{IsTimeOrNone, HasSpelling}
use Rattle.lethe_base.specs.History.{History, Change, after, done}
use Rattle.lethe_base.specs.Layout as layout
use Rattle.lethe_base.specs.Layout.{Layout, Written, Blind, place_of, buffer_of}
use Rattle.lethe_base.specs.Held.{Shows}
use Rattle.lethe_base.specs.Shapes.{IsValidShape, shape_of}
use Rattle.lethe_base.specs.Covers.{Covers}
use Rattle.lethe_base.specs.declared.call.Call.{Call}
use Rattle.lethe_base.specs.Ranges.{Ends}
use Rattle.lethe_base.specs.declared.call.Call.TheVariants.{Put, Delete, Erase, Tick, Work}
use Rattle.lethe_base.specs.declared.call.Did.TheVariants.{Done}
use Rattle.lethe_base.specs.declared.entry.Entry.{Entry}
use Rattle.lethe_base.specs.declared.pending.Pending.{Pending}
use Rattle.std.proofs.lemmas.List.{length_push, map_push}
use Rattle.std.proofs.lemmas.List.Sums.{fold-append}
use Rattle.lethe_base.proofs.Histories.{after-push, done_push, legal_push}
use Rattle.lethe_base.proofs.HeldLaws.{buffer_recorded}
use Rattle.lethe_base.proofs.LayoutLaws.{none_in}
use Rattle.lethe_base.proofs.Newest.{first_or_rest}
use Rattle.lethe_segment.specs.declared.record.Record.{Record}
use Rattle.lethe_segment.specs.declared.record.Record.TheVariants as of
use Rattle.lethe_segment.specs.Records.{record_seq, RecordHasSpelling}
use Rattle.lethe_segment.specs.Segments.{Ascends, last_seq}
use Rattle.lethe_cover.specs.Changes.{followed}
use Rattle.lethe_cover.specs.Steps.{IsCounted, accepted, erasing, next_place, with_done, time_of, put_entry, tomb_entry}
use Rattle.lethe_cover.proofs.Grown.{done_within}
use Rattle.lethe_cover.proofs.Records.{buffer_keyed}
use Rattle.lethe_cover.proofs.Entered.{put_covers, delete_covers}
use Rattle.lethe_cover.proofs.Unentered.{blind_covers, erase_covers}
use Rattle.lethe_stored.specs.Stored.{Stored, IsCoherent, records_in, plain, pending_of, layout_of, count_of, appended}
use Rattle.lethe_stored.specs.Kept.{IsFor, certifies, certificates}
use Rattle.lethe_stored.proofs.Appended.{pending_appended, same_pending}
use Rattle.lethe_stored.proofs.Clocks.{clock_within}
use Rattle.lethe_stored.proofs.Numbered.{covers_numbered}
use Rattle.lethe_stored.proofs.Meanings.{plain_place, frozen_are}
use Rattle.lethe_stored.proofs.Steps.{stored_appended}

-- Lists

last_push : (last : ℕ) (records : List Record) (r : Record) → last_seq last (records ++ r ∷ []) ≡ record_seq r
last_push last [] r = refl
last_push last (q ∷ records) r = last_push (record_seq q) records r

within_last : (last : ℕ) (records : List Record) → Ascends last records → last ≤ last_seq last records
within_last last [] up = omega arith
within_last last (r ∷ records) up = let later = within_last (record_seq r) records up.2 in omega (arith, later, up.1)

-- each place is at most the last
place_within : (last : ℕ) (records : List Record) (r : layout.Record) → Ascends last records → Contains (map plain records) r → place_of r ≤ last_seq last records
place_within last [] r up there = absurd (none_in r there)
place_within last (first ∷ records) r up there = elim (first_or_rest (plain first) (map plain records) r there) [
  | inl same ↦ let here = ap place_of same in let later = within_last (record_seq first) records up.2 in omega (arith, later, plain_place first, here)
  | inr rest ↦ place_within (record_seq first) records r up.2 rest
]

-- what is written has a spelling
spelled_of : (r : Record) (entry : Entry) → RecordHasSpelling r → plain r ≡ Written entry → HasSpelling entry
spelled_of (of.Entry other) entry spelled is = let same : other ≡ entry = cc in subst HasSpelling same spelled
spelled_of (of.Blind place) entry spelled is = absurd cc
spelled_of (of.Erase erase) entry spelled is = absurd cc

pub spelled_in : (last : ℕ) (records : List Record) (entry : Entry) → Ascends last records → Contains (map plain records) (Written entry) → HasSpelling entry
spelled_in last [] entry up there = absurd (none_in (Written entry) there)
spelled_in last (first ∷ records) entry up there = elim (first_or_rest (plain first) (map plain records) (Written entry) there) [
  | inl same ↦ spelled_of first entry up.0 same
  | inr rest ↦ spelled_in (record_seq first) records entry up.2 rest
]

-- What is counted

module _ (h : History) (s : Stored) (coherent : IsCoherent s) (stands : IsFor h s) where
  abbrev pub l : Layout
  l = layout_of s

  pub last_within : last_seq 0 s.active.records ≤ length h
  last_within = let count = stands.count in omega (arith, count)

  pub frozen_within : last_seq 0 (records_in s.frozen) ≤ length h
  frozen_within = let count = stands.count in omega (arith, count)

  pub count_within : s.manifest.count ≤ length h
  count_within = let count = stands.count in omega (arith, count)

  pub counted : IsCounted h l
  counted = record {
    count = stands.count;
    places = λ r is. elim is [
      | inl active ↦ let within = place_within 0 s.active.records r coherent.active active in omega (arith, within, last_within)
      | inr older ↦ let within = place_within 0 (records_in s.frozen) r coherent.frozen (subst (λ rs. Contains rs r) (frozen_are s) older) in omega (arith, within, frozen_within)
    ];
  }

  -- the time of an entry that is to be replaced
  pub time_fits : (key : Bytes) → IsTimeOrNone (time_of key l)
  time_fits key = by (finmap.get (buffer_of l.active) key) refl
    where
      by : (o : Option Entry) → finmap.get (buffer_of l.active) key ≡ o → IsTimeOrNone (option_and_then (λ entry. entry.since) o)
      by None is = tt
      by (Some entry) is = (spelled_in 0 s.active.records entry coherent.active (buffer_recorded l.active entry (subst (λ k. finmap.get (buffer_of l.active) k ≡ Some entry) (sym (buffer_keyed l.active key entry is)) is))).front.time

module _ (h : History) (s : Stored) (stands : IsFor h s) where
  -- each erase was accepted
  pending_within : (erase : Pending) → Contains (pending_of s) erase → erase.seq ≤ length h
  pending_within erase there = done_within h erase.seq (Erase erase.range) (stands.covers.places.erases erase (inl there)).done

  -- at a time up to the clock
  pending_timed : (erase : Pending) → Contains (pending_of s) erase → erase.time ≤ s.manifest.clock
  pending_timed erase there =
      let timed = (stands.covers.places.erases erase (inl there)).timed in
      let within = clock_within h stands.legal erase.seq (pending_within erase there) in
      let clock = stands.clock in
      omega (arith, timed, within, clock)

  -- an erase with the next place and the clock may come behind them
  shape_erased : (range : Ends) → IsValidShape (shape_of (erasing (layout_of s) (accepted h (layout_of s) range)))
  shape_erased range =
      let erase = accepted h (layout_of s) range in
      let there = Contains-get_or (pending_of s) in
      record {
        numbers = stands.shape.numbers;
        ranges = stands.shape.ranges;
        levels = stands.shape.levels;
        deepest = stands.shape.deepest;
        places = all_pairs_push (λ a b. a.seq < b.seq) (pending_of s) erase stands.shape.places (λ k d within. let below = pending_within (get_or (pending_of s) k d) (there k d within) in omega (arith, below));
        times = all_pairs_push (λ a b. a.time ≤ b.time) (pending_of s) erase stands.shape.times (λ k d within. pending_timed (get_or (pending_of s) k d) (there k d within));
      }

-- The layout with a record more

layout_appended : (s : Stored) (r : Record) (pending : List Pending) → pending_of (appended s r) ≡ pending → layout_of (appended s r) ≡ record (followed (layout_of s) (plain r) pending) { count = count_of (appended s r) }
layout_appended s r pending same = λ i. record (layout_of s) { count = count_of (appended s r); active = map_push plain s.active.records r i; pending = same i }

certificates_push : (threshold : ℕ) (h : History) (change : Change) → certifies threshold change.did change.call ≡ false → certificates threshold (h ++ change ∷ []) ≡ certificates threshold h
certificates_push threshold h change no_more = fold-append count 0 h (change ∷ []) ∙ ap (λ b. certificates threshold h + cond b 1 0) no_more ∙ plus_none (certificates threshold h)
  where
    count : ℕ → Change → ℕ
    count n c = n + cond (certifies threshold c.did c.call) 1 0

    plus_none : (n : ℕ) → n + 0 ≡ n
    plus_none n = omega arith

-- A change that doesn't move the clock

module _ (h : History) (s : Stored) (coherent : IsCoherent s) (stands : IsFor h s) (caller : ℕ) (call : Call) (r : Record) (pending : List Pending) where
  abbrev followed_by : Layout
  followed_by = followed (layout_of s) (plain r) pending

  pub recorded_for : length h < max_place → record_seq r ≡ next_place h → (done call (after h)).clock ≡ (after h).clock → ((to : ℕ) → call ≡ Tick to → ⊥) → (call ≡ Work → ⊥) → certifies s.manifest.config.threshold Done call ≡ false
      → pending_of (appended s r) ≡ pending → IsValidShape (shape_of followed_by) → Covers s.manifest.config.threshold (with_done h caller call) followed_by → IsFor (with_done h caller call) (appended s r)
  recorded_for few place clock ticks works certified same shape covers =
      let change : Change = record { caller = caller; call = call; did = Done } in
      let is = layout_appended s r pending same in
      let more : last_seq 0 (s.active.records ++ r ∷ []) ≡ length h + 1 = last_push 0 s.active.records r ∙ place in
      let within = count_within h s coherent stands in
      let older = frozen_within h s coherent stands in
      let count_more : count_of (appended s r) ≡ length (h ++ change ∷ []) = omega (arith, more, within, older, length_push h change) in
      record {
        legal = legal_push h change stands.legal stands.done few works (λ to is. absurd (ticks to is));
        done = done_push h change stands.done refl;
        covers = subst (Covers s.manifest.config.threshold (with_done h caller call)) (sym is) (covers_numbered s.manifest.config.threshold (with_done h caller call) followed_by (count_of (appended s r)) s.manifest.next covers);
        shape = subst (λ x. IsValidShape (shape_of x)) (sym is) shape;
        clock = stands.clock ∙ sym clock ∙ sym (ap (λ st. st.clock) (after-push h change));
        count = count_more;
        certificate = stands.certificate ∙ sym (certificates_push s.manifest.config.threshold h change certified);
      }

-- Puts, deletes and erases

module _ (h : History) (s : Stored) (coherent : IsCoherent s) (stands : IsFor h s) (few : length h < max_place) (caller : ℕ) where
  abbrev threshold : ℕ
  threshold = s.manifest.config.threshold

  above : last_seq 0 s.active.records < next_place h
  above = let within = last_within h s coherent stands in omega (arith, within)

  pub put_stored : (key : Bytes) (dkey : ℕ) (value : Bytes) → IsKey key → dkey < 2 ^ 64 → IsValue value → IsCoherent (appended s (of.Entry (put_entry h (layout_of s) key dkey value)))
  put_stored key dkey value named fits short = stored_appended s (of.Entry (put_entry h (layout_of s) key dkey value)) coherent
      (record { front = record { place = (omega arith, omega (arith, few)); marked = tt; time = time_fits h s coherent stands key; named = named }; body = (fits, short) }) above

  pub put_for : (key : Bytes) (dkey : ℕ) (value : Bytes) → IsFor (with_done h caller (Put key dkey value)) (appended s (of.Entry (put_entry h (layout_of s) key dkey value)))
  put_for key dkey value =
      let r = of.Entry (put_entry h (layout_of s) key dkey value) in
      recorded_for h s coherent stands caller (Put key dkey value) r (pending_of s) few refl refl (λ to e. cc) (λ e. cc) refl (same_pending s r refl) stands.shape
      (put_covers threshold caller h (layout_of s) stands.covers (counted h s coherent stands) key dkey value).0

  tomb_time : (key : Bytes) → min s.manifest.clock (unwrap_or (time_of key (layout_of s)) s.manifest.clock) ≤ max_time
  tomb_time key = let clock = coherent.spelled.clock in omega (arith, clock)

  pub delete_stored : (key : Bytes) → IsKey key → IsCoherent (appended s (of.Entry (tomb_entry h (layout_of s) key)))
  delete_stored key named = stored_appended s (of.Entry (tomb_entry h (layout_of s) key)) coherent
      (record { front = record { place = (omega arith, omega (arith, few)); marked = refl; time = tomb_time key; named = named }; body = tt }) above

  pub delete_for : (key : Bytes) → IsFor (with_done h caller (Delete key)) (appended s (of.Entry (tomb_entry h (layout_of s) key)))
  delete_for key =
      let r = of.Entry (tomb_entry h (layout_of s) key) in
      recorded_for h s coherent stands caller (Delete key) r (pending_of s) few refl refl (λ to e. cc) (λ e. cc) refl (same_pending s r refl) stands.shape
      (delete_covers threshold caller h (layout_of s) stands.covers (counted h s coherent stands) key (coherent.spelled.config.threshold.0) stands.clock).0

  pub blind_stored : IsCoherent (appended s (of.Blind (next_place h)))
  blind_stored = stored_appended s (of.Blind (next_place h)) coherent (omega arith, omega (arith, few)) above

  pub blind_for : (key : Bytes) → ((entry : Entry) → Shows (layout_of s) entry → entry.key ≡ key → ⊥) → IsFor (with_done h caller (Delete key)) (appended s (of.Blind (next_place h)))
  blind_for key none = recorded_for h s coherent stands caller (Delete key) (of.Blind (next_place h)) (pending_of s) few refl refl (λ to e. cc) (λ e. cc) refl (same_pending s (of.Blind (next_place h)) refl) stands.shape
      (blind_covers threshold caller h (layout_of s) stands.covers (counted h s coherent stands) key none).0

  pub erase_stored : (range : Ends) → range.lo < range.hi → range.hi < 2 ^ 64 → IsCoherent (appended s (of.Erase (accepted h (layout_of s) range)))
  erase_stored range some short = stored_appended s (of.Erase (accepted h (layout_of s) range)) coherent (record { place = (omega arith, omega (arith, few)); time = coherent.spelled.clock; some = some; hi = short }) above

  pub erase_for : (range : Ends) → IsFor (with_done h caller (Erase range)) (appended s (of.Erase (accepted h (layout_of s) range)))
  erase_for range =
      let erase = accepted h (layout_of s) range in
      let shape = shape_erased h s stands range in
      recorded_for h s coherent stands caller (Erase range) (of.Erase erase) (pending_of s ++ erase ∷ []) few refl refl (λ to e. cc) (λ e. cc) refl (pending_appended s (of.Erase erase) shape.places) shape
      (erase_covers threshold caller h (layout_of s) stands.covers (counted h s coherent stands) (coherent.spelled.config.threshold.0) stands.clock range).0
