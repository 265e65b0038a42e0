-- The records of changes, by what is stored.
use Rattle.std.proofs.Common.{◌≡◌, ◌<◌, inl, inr, ◌+◌, ◌^◌, ℕ, min, List, map, length, Option, Some, None, sym, ap, ◌∙◌, subst, option_and_then}
use Rattle.std.specs.Prelude.{IsSome, unwrap_or}
use Rattle.std.specs.FinMap as finmap
use Rattle.std.specs.Option.{option_or}
use Rattle.lethe_base.specs.History.{History}
use Rattle.lethe_base.specs.Keys.{Bytes, key_cmp}
use Rattle.lethe_base.specs.Limits.{IsKey, IsValue, max_place}
use Rattle.lethe_base.specs.Ranges.{Ends}
use Rattle.lethe_base.specs.Entries.{entry_of}
use Rattle.lethe_base.specs.Layout.{buffer_of, frozen_records}
use Rattle.lethe_base.specs.declared.call.Call.TheVariants as call
use Rattle.lethe_base.specs.declared.config.Fields.{Fields}
use Rattle.lethe_base.specs.declared.entry.Body.TheVariants as body
use Rattle.lethe_base.specs.declared.entry.Entry.{Entry}
use Rattle.lethe_header.specs.declared.header.Header.{Header}
use Rattle.lethe_manifest.specs.declared.manifest.Manifest.{Manifest}
use Rattle.lethe_mem.specs.Buffered.{Buffered}
use Rattle.lethe_segment.specs.declared.record.Record.{Record}
use Rattle.lethe_segment.specs.declared.record.Record.TheVariants as of
use Rattle.lethe_cover.specs.Steps.{with_done}
use Rattle.lethe_stored.specs.Kept.{IsFor}
use Rattle.lethe_stored.specs.Stored.{Stored, Segment, appended, count_of, layout_of, plain, records_in}
use Rattle.lethe_stored.proofs.Meanings.{frozen_are}
use Rattle.lethe_state.specs.Records.{IsDeleteRecord, MayBeHeld, erase_record, frozen_entry, headers_in, put_record, tomb_record}
use Rattle.lethe_state.specs.Remembered.{IsCurrent, IsFrozenIn, Remembers}
use Rattle.lethe_state.specs.declared.state.State.{State}
use Rattle.lethe_state.proofs.Recording.{delete_recorded, erase_recorded, put_recorded}
use Rattle.lethe_core.specs.Changes.{erase_over, put_over}
use Rattle.lethe_core.specs.Running.{Holds}
use Rattle.lethe_core.specs.StandsNow.{StandsNow}
use Rattle.lethe_core.specs.View.{View}
use Rattle.lethe_core.proofs.Standing.{stands_for, stands_holds}
use Rattle.lethe_row.specs.Deletes.{IsDeleteOver, MayHave, tomb_over}

frozen_is : (o : Option Segment) (b : Option Buffered) → IsFrozenIn o b → (key : Bytes) → frozen_entry key b ≡ finmap.get (buffer_of (map plain (records_in o))) key
frozen_is None None is key = sym (finmap.get-empty key_cmp key)
frozen_is (Some segment) (Some buffer) is key = is key
frozen_is None (Some buffer) is key = absurd is
frozen_is (Some segment) None is key = absurd is

module _ (view : View) (s : Stored) (holds : Holds view s) where
  abbrev state : State
  state = view.state

  abbrev is : Remembers s state view.levels
  is = holds.remembers

  count : state.count ≡ count_of s
  count = holds.running.current.count

  pub put_same : (key : Bytes) (dkey : ℕ) (value : Bytes) (next : Record) → next ≡ put_record state key dkey value → next ≡ put_over s key dkey value
  put_same key dkey value next made =
      let newest = is.active key in
      made ∙ (λ i. of.Entry (record { seq = count i + 1; key = key; body = body.Put dkey value; since = option_and_then (λ (entry : Entry). entry.since) (newest i) }))

  pub erase_same : (range : Ends) (next : Record) → next ≡ erase_record state range → next ≡ erase_over s range
  erase_same range next made = made ∙ (λ i. of.Erase (record { seq = count i + 1; time = (is.manifest i).clock; range = range }))

  tomb_same : (key : Bytes) → tomb_record state key ≡ tomb_over s key
  tomb_same key =
      let newest = is.active key in
      let clock : state.manifest.clock ≡ s.manifest.clock = ap (λ (m : Manifest). m.clock) is.manifest in
      (λ i. of.Entry (record { seq = count i + 1; key = key; body = body.Tomb; since = Some (min (clock i) (unwrap_or (option_and_then (λ (entry : Entry). entry.since) (newest i)) (clock i))) }))

  held_same : (key : Bytes) → option_or (entry_of key state.active.entries) (frozen_entry key state.frozen) ≡ option_or (finmap.get (buffer_of (layout_of s).active) key) (finmap.get (buffer_of (frozen_records (layout_of s))) key)
  held_same key =
      let active = is.active key in
      let frozen = frozen_is s.frozen state.frozen is.frozen key ∙ ap (λ records. finmap.get (buffer_of records) key) (sym (frozen_are s)) in
      (λ i. option_or (active i) (frozen i))

  to_have : (headers : List Header) (key : Bytes) → MayBeHeld state headers key → MayHave s headers key
  to_have headers key (inl held) = inl (subst (λ (o : Option Entry). IsSome o) (held_same key) held)
  to_have headers key (inr any) = inr any

  from_have : (headers : List Header) (key : Bytes) → MayHave s headers key → MayBeHeld state headers key
  from_have headers key (inl held) = inl (subst (λ (o : Option Entry). IsSome o) (sym (held_same key)) held)
  from_have headers key (inr any) = inr any

  pub delete_over : (headers : List Header) (key : Bytes) (next : Record) → IsDeleteRecord state headers key next → IsDeleteOver s headers key next
  delete_over headers key next (inl tomb) = inl (to_have headers key tomb.0, tomb.1 ∙ tomb_same key)
  delete_over headers key next (inr blind) = inr ((λ have. blind.0 (from_have headers key have)), blind.1 ∙ ap (λ n. of.Blind (n + 1)) count)

-- Over a store that stands for a history, the records stand for that with the change.

module _ (config : Fields) (h : History) (view : View) (stands : StandsNow config h view) (runs : view.state.stopped ≡ None) (fits : view.state.count < max_place) (caller : ℕ) where
  few : length h < max_place
  few = subst (λ n. n < max_place) stands.count fits

  current : IsCurrent stands.stored view.state
  current = (stands_holds config h view stands runs).running.current

  pub erase_for : (range : Ends) → range.lo < range.hi → range.hi < 2 ^ 64 → (next : Record) → next ≡ erase_record view.state range → IsFor (with_done h caller (call.Erase range)) (appended stands.stored next)
  erase_for range some small next is = subst (λ made. IsFor (with_done h caller (call.Erase range)) (appended stands.stored made)) (sym is)
      (erase_recorded h stands.stored view.state view.levels stands.remembers current (stands_for config h view stands runs) few caller range some small).1

  module _ (key : Bytes) (named : IsKey key) where
    pub put_for : (dkey : ℕ) (value : Bytes) → dkey < 2 ^ 64 → IsValue value → (next : Record) → next ≡ put_record view.state key dkey value → IsFor (with_done h caller (call.Put key dkey value)) (appended stands.stored next)
    put_for dkey value small short next is = subst (λ made. IsFor (with_done h caller (call.Put key dkey value)) (appended stands.stored made)) (sym is)
        (put_recorded h stands.stored view.state view.levels stands.remembers current (stands_for config h view stands runs) few caller key named dkey value small short).1

    pub delete_for : (next : Record) → IsDeleteRecord view.state (headers_in view.levels) key next → IsFor (with_done h caller (call.Delete key)) (appended stands.stored next)
    delete_for next is = (delete_recorded h stands.stored view.state view.levels stands.remembers current (stands_for config h view stands runs) few caller key next named is).1
