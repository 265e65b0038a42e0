-- The records of changes, and a state once they are entered.
use Rattle.std.proofs.Common.{◌≡◌, ◌<◌, ◌+◌, ◌^◌, inl, inr, ℕ, List, [], ◌∷◌, ◌++◌, length, min, AllPairs, Option, Some, None, refl, sym, ap, ◌∙◌, subst, arith}
use Rattle.std.specs.Prelude.{IsSome, unwrap_or, option_and_then}
use Rattle.std.specs.Option.{option_or}
use Rattle.lethe_base.specs.Entries.{IsAscending, entry_of}
use Rattle.lethe_base.specs.Held.{Shows}
use Rattle.lethe_base.specs.History.{History}
use Rattle.lethe_base.specs.Keys.{Bytes}
use Rattle.lethe_base.specs.Limits.{IsKey, IsValue, max_place}
use Rattle.lethe_base.specs.Ranges.{Ends}
use Rattle.lethe_base.specs.declared.call.Call.TheVariants.{Put, Delete, Erase}
use Rattle.lethe_base.specs.declared.entry.Body.TheVariants as bodies
use Rattle.lethe_base.specs.declared.entry.Entry.{Entry}
use Rattle.lethe_base.specs.declared.pending.Pending.{Pending}
use Rattle.lethe_manifest.specs.Manifests.{AreErases}
use Rattle.lethe_segment.specs.Records.{RecordHasSpelling, record_seq}
use Rattle.lethe_segment.specs.Segments.{Ascends, last_seq}
use Rattle.lethe_segment.specs.declared.record.Record.{Record}
use Rattle.lethe_segment.specs.declared.record.Record.TheVariants as of
use Rattle.lethe_cover.specs.Steps.{accepted, next_place, put_entry, time_of, tomb_entry, with_done}
use Rattle.lethe_mem.specs.Buffered.{Buffered}
use Rattle.lethe_stored.specs.Files.{Parts}
use Rattle.lethe_stored.specs.Kept.{IsFor}
use Rattle.lethe_base.specs.Shapes.{earlier}
use Rattle.lethe_follows.specs.Young.{time_of as record_time}
use Rattle.lethe_follows.proofs.Young.{oldest-push}
use Rattle.lethe_stored.specs.Replayed.{AreNewestOf}
use Rattle.lethe_stored.specs.Stored.{Stored, Segment, IsCoherent, appended, count_of, layout_of, pending_of, records_in}
use Rattle.lethe_stored.proofs.Appended.{pending_appended}
use Rattle.lethe_stored.proofs.Changes.{blind_for, blind_stored, delete_for, delete_stored, erase_for, erase_stored, put_for, put_stored}
pub use Rattle.lethe_flush.proofs.Newest.{newest_none}
use Rattle.lethe_follows.specs.Holders.{IsHeldBy}
use Rattle.lethe_follows.proofs.Answering.{lacking}
use Rattle.lethe_state.specs.Firsts.{firsts_with}
use Rattle.lethe_state.specs.Records.{IsDeleteRecord, IsNext, MayBeHeld, erase_record, frozen_entry, headers_in, pending_with, put_record, since_of, tomb_record}
use Rattle.lethe_state.specs.Remembered.{IsCurrent, IsFrozenIn, Remembers}
use Rattle.lethe_state.specs.declared.state.State.{State}
use Rattle.lethe_state.proofs.Entering.{newest_next}
use Rattle.lethe_state.proofs.Left.{firsts-push}
use Rattle.lethe_state.proofs.Leveled.{paged_may}

-- Puts, tombstones and erases

module _ (h : History) (s : Stored) (state : State) (levels : List (List Parts)) (is : Remembers s state levels) (current : IsCurrent s state) (stands : IsFor h s) where
  place_is : state.count + 1 ≡ next_place h
  place_is = ap (λ n. n + 1) (current.count ∙ stands.count)

  time_is : (key : Bytes) → since_of key state.active.entries ≡ time_of key (layout_of s)
  time_is key = ap (option_and_then (λ (entry : Entry). entry.since)) (is.active key)

  clock_is : state.manifest.clock ≡ s.manifest.clock
  clock_is = ap (λ m. m.clock) is.manifest

  put_is : (key : Bytes) (dkey : ℕ) (value : Bytes) → put_record state key dkey value ≡ of.Entry (put_entry h (layout_of s) key dkey value)
  put_is key dkey value = λ i. of.Entry (record { seq = place_is i; key = key; body = bodies.Put dkey value; since = time_is key i })

  tomb_is : (key : Bytes) → tomb_record state key ≡ of.Entry (tomb_entry h (layout_of s) key)
  tomb_is key = λ i. of.Entry (record { seq = place_is i; key = key; body = bodies.Tomb; since = Some (min (clock_is i) (unwrap_or (time_is key i) (clock_is i))) })

  erase_is : (range : Ends) → erase_record state range ≡ of.Erase (accepted h (layout_of s) range)
  erase_is range = λ i. of.Erase (record { seq = place_is i; time = clock_is i; range = range })

  abbrev IsRecorded : History → Record → Type 0
  IsRecorded g next = IsCoherent (appended s next) × IsFor g (appended s next)

  module _ (few : length h < max_place) (caller : ℕ) (key : Bytes) (named : IsKey key) where
    pub put_recorded : (dkey : ℕ) (value : Bytes) → dkey < 2 ^ 64 → IsValue value → IsRecorded (with_done h caller (Put key dkey value)) (put_record state key dkey value)
    put_recorded dkey value fits short = subst (IsRecorded (with_done h caller (Put key dkey value))) (sym (put_is key dkey value))
        (put_stored h s is.coherent stands few caller key dkey value named fits short, put_for h s is.coherent stands few caller key dkey value)

    tomb_recorded : IsRecorded (with_done h caller (Delete key)) (tomb_record state key)
    tomb_recorded = subst (IsRecorded (with_done h caller (Delete key))) (sym (tomb_is key))
        (delete_stored h s is.coherent stands few caller key named, delete_for h s is.coherent stands few caller key)

    blind_recorded : ((entry : Entry) → Shows (layout_of s) entry → entry.key ≡ key → ⊥) → IsRecorded (with_done h caller (Delete key)) (of.Blind (state.count + 1))
    blind_recorded none = subst (λ place. IsRecorded (with_done h caller (Delete key)) (of.Blind place)) (sym place_is)
        (blind_stored h s is.coherent stands few caller, blind_for h s is.coherent stands few caller key none)

  pub erase_recorded : length h < max_place → (caller : ℕ) (range : Ends) → range.lo < range.hi → range.hi < 2 ^ 64 → IsRecorded (with_done h caller (Erase range)) (erase_record state range)
  erase_recorded few caller range some short = subst (IsRecorded (with_done h caller (Erase range))) (sym (erase_is range))
      (erase_stored h s is.coherent stands few caller range some short, erase_for h s is.coherent stands few caller range)

-- A delete that has nothing to hide

abbrev in_frozen : Option Buffered → List Entry
in_frozen None = []
in_frozen (Some buffer) = buffer.entries

frozen_ascends : (frozen : Option Buffered) → IsAscending (in_frozen frozen)
frozen_ascends None = refl
frozen_ascends (Some buffer) = buffer.ascending

frozen_newest : (segment : Option Segment) (frozen : Option Buffered) → IsFrozenIn segment frozen → AreNewestOf (records_in segment) (in_frozen frozen)
frozen_newest None None is = newest_none [] refl
frozen_newest (Some segment) (Some buffer) is = is
frozen_newest None (Some buffer) is = absurd is
frozen_newest (Some segment) None is = absurd is

frozen_entry_is : (key : Bytes) (frozen : Option Buffered) → frozen_entry key frozen ≡ entry_of key (in_frozen frozen)
frozen_entry_is key None = refl
frozen_entry_is key (Some buffer) = refl

held_by : (s : Stored) (state : State) (levels : List (List Parts)) → Remembers s state levels → IsHeldBy s state.active.entries (in_frozen state.frozen) levels
held_by s state levels is = record {
  active_ascends = state.active.ascending;
  frozen_ascends = frozen_ascends state.frozen;
  active_newest = is.active;
  frozen_newest = frozen_newest s.frozen state.frozen is.frozen;
  files = is.files;
}

none_or : (a b : Option Entry) → (IsSome (option_or a b) → ⊥) → (a ≡ None) × (b ≡ None)
none_or None None none = (refl, refl)
none_or None (Some entry) none = absurd (none refl)
none_or (Some entry) b none = absurd (none refl)

lacks_key : (s : Stored) (state : State) (levels : List (List Parts)) → Remembers s state levels → (key : Bytes) → (MayBeHeld state (headers_in levels) key → ⊥)
    → (entry : Entry) → Shows (layout_of s) entry → entry.key ≡ key → ⊥
lacks_key s state levels is key none =
    let buffers = none_or (entry_of key state.active.entries) (frozen_entry key state.frozen) (λ some. none (inl some)) in
    lacking s is.coherent state.active.entries (in_frozen state.frozen) levels (held_by s state levels is) key buffers.0 (sym (frozen_entry_is key state.frozen) ∙ buffers.1)
    (λ entry paged same. none (inr (paged_may s is.coherent levels is.files key entry paged same)))

pub delete_recorded : (h : History) (s : Stored) (state : State) (levels : List (List Parts)) → Remembers s state levels → IsCurrent s state → IsFor h s → length h < max_place
    → (caller : ℕ) (key : Bytes) (next : Record) → IsKey key → IsDeleteRecord state (headers_in levels) key next
    → IsCoherent (appended s next) × IsFor (with_done h caller (Delete key)) (appended s next)
delete_recorded h s state levels is current stands few caller key next named (inl tomb) =
    subst (λ next. IsCoherent (appended s next) × IsFor (with_done h caller (Delete key)) (appended s next)) (sym tomb.1) (tomb_recorded h s state levels is current stands few caller key named)
delete_recorded h s state levels is current stands few caller key next named (inr blind) =
    subst (λ next. IsCoherent (appended s next) × IsFor (with_done h caller (Delete key)) (appended s next)) (sym blind.1)
    (blind_recorded h s state levels is current stands few caller key named (lacks_key s state levels is key blind.0))

-- Once a record is entered

last_spelled : (last : ℕ) (records : List Record) (next : Record) → Ascends last (records ++ next ∷ []) → RecordHasSpelling next
last_spelled last [] next up = up.0
last_spelled last (r ∷ records) next up = last_spelled (record_seq r) records next up.2

last_is : (last : ℕ) (records : List Record) (next : Record) → last_seq last (records ++ next ∷ []) ≡ record_seq next
last_is last [] next = refl
last_is last (r ∷ records) next = last_is (record_seq r) records next

length_more : (records : List Record) (next : Record) → length (records ++ next ∷ []) ≡ length records + 1
length_more [] next = refl
length_more (r ∷ records) next = let rest = length_more records next in omega (arith, rest)

pub entered_remembered : (s : Stored) (old new : State) (levels : List (List Parts)) (next : Record) (end : ℕ) → Remembers s old levels → IsCurrent s old
    → IsNext next end old new → record_seq next ≡ old.count + 1 → AreErases new.pending → IsCoherent (appended s next)
    → Remembers (appended s next) new levels × IsCurrent (appended s next) new
entered_remembered s old new levels next end is current step place erases coherent =
    let pending : new.pending ≡ pending_with (pending_of s) next = step.pending ∙ ap (λ pending. pending_with pending next) is.pending in
    let rise = subst (AllPairs (λ (a : Pending) (b : Pending). a.seq < b.seq)) pending erases.ascending in
    let spelled = last_spelled 0 s.active.records next coherent.active in
    let last = last_is 0 s.active.records next in
    let before = current.count in
    let count_is : count_of (appended s next) ≡ old.count + 1 = omega (arith, last, place, before) in
    let counted = step.count in (
      record {
        coherent = coherent;
        manifest = step.manifest ∙ is.manifest;
        pending = pending ∙ sym (pending_appended s next rise);
        active = newest_next s.active.records next old.active.entries new.active.entries spelled is.active step.active;
        records = step.records ∙ ap (λ n. n + 1) is.records ∙ sym (length_more s.active.records next);
        oldest = step.oldest ∙ ap (λ time. earlier time (record_time next)) is.oldest ∙ sym (oldest-push s.active.records next);
        firsts = step.firsts ∙ ap (λ firsts. firsts_with firsts next) is.firsts ∙ sym (firsts-push s.active.records next);
        frozen = subst (IsFrozenIn s.frozen) (sym step.frozen) is.frozen;
        frozen_oldest = step.frozen_oldest ∙ is.frozen_oldest;
        frozen_firsts = step.frozen_firsts ∙ is.frozen_firsts;
        files = record { count = (is.files).count; each = (is.files).each };
        counted = omega (arith, count_is, counted);
      },
      record { runs = step.stopped ∙ current.runs; count = step.count ∙ sym count_is },
    )
