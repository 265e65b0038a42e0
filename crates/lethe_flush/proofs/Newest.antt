-- The newest entries of records: where a record more comes behind them, how many they are, what they are spelled as, and which list they are.
use Rattle.std.proofs.Common.{◌≡◌, ◌≤◌, ◌+◌, ℕ, Bool, true, false, cond, List, [], ◌∷◌, ◌++◌, map, fold, filter_map, length, is_some, Some, All, refl, sym, ap, ◌∙◌, subst, arith}
use Rattle.std.proofs.lemmas.List.{map-append, length-map}
use Rattle.std.specs.Cmp.Lexicographic.{nat_list_cmp_total}
use Rattle.std.specs.FinMap as finmap
use Rattle.std.specs.FinMap.Entries.{put, find, find-put, is_sorted-put, length-put, same_entries}
use Rattle.lethe_base.specs.Keys.{Bytes, key_cmp, same_key}
use Rattle.lethe_base.specs.Entries.{IsAscending, Inserts, by_key, entry_of}
use Rattle.lethe_base.specs.Layout.{Buffer, buffer_of, written}
use Rattle.lethe_base.specs.Layout as layout
use Rattle.lethe_base.specs.Spelling.{HasSpelling}
use Rattle.lethe_base.specs.declared.entry.Entry.{Entry}
use Rattle.lethe_base.proofs.HeldLaws.{buffer_recorded}
use Rattle.lethe_segment.specs.declared.record.Record.{Record}
use Rattle.lethe_segment.specs.declared.record.Record.TheVariants as of
use Rattle.lethe_segment.specs.Segments.{Ascends}
use Rattle.lethe_cover.proofs.ByKey.{own_entry}
use Rattle.lethe_cover.proofs.Lists.{all_from}
use Rattle.lethe_cover.proofs.Records.{buffer_push}
use Rattle.lethe_mem.proofs.Order.{one_list}
use Rattle.lethe_mem.proofs.Places.{tied, to_T}
use Rattle.lethe_merge.proofs.Merges.{AreKeyed, keyed-put, keyed-left, values_ascend, entry_of-values}
use Rattle.lethe_stored.specs.Replayed.{AreNewestOf}
use Rattle.lethe_stored.specs.Stored.{plain}
use Rattle.lethe_stored.proofs.Changes.{spelled_in}

pub newest_none : (entries : List Entry) → entries ≡ [] → AreNewestOf [] entries
newest_none entries none = λ key. ap (entry_of key) none ∙ sym (finmap.get-empty key_cmp key)

push_is : (records : List Record) (next : Record) → buffer_of (map plain (records ++ next ∷ [])) ≡ buffer_of (map plain records ++ plain next ∷ [])
push_is records next = ap buffer_of (map-append plain records (next ∷ []))

pub newest_entered : (records : List Record) (entry : Entry) (old new : List Entry) → AreNewestOf records old → Inserts entry old new → AreNewestOf (records ++ of.Entry entry ∷ []) new
newest_entered records entry old new newest inserts = λ key.
    inserts.entries key
    ∙ ap (λ found. cond (same_key key entry.key) (Some entry) found) (newest key)
    ∙ sym (finmap.get-insert nat_list_cmp_total (buffer_of (map plain records)) entry.key entry key)
    ∙ ap (λ b. finmap.get b key) (sym (push_is records (of.Entry entry) ∙ buffer_push (map plain records) (layout.Written entry)))

-- a record that is no entry changes none
pub newest_still : (records : List Record) (next : Record) (entries : List Entry) → ((entry : Entry) → next ≡ of.Entry entry → ⊥) → AreNewestOf records entries → AreNewestOf (records ++ next ∷ []) entries
newest_still records (of.Entry entry) entries other newest = absurd (other entry refl)
newest_still records (of.Blind place) entries other newest = λ key. newest key ∙ ap (λ b. finmap.get b key) (sym (push_is records (of.Blind place) ∙ buffer_push (map plain records) (layout.Blind place)))
newest_still records (of.Erase erase) entries other newest = λ key. newest key ∙ ap (λ b. finmap.get b key) (sym (push_is records (of.Erase erase) ∙ buffer_push (map plain records) (layout.Erasing erase)))

-- an insert adds one entry at most
pub inserts_few : (entry : Entry) (old new : List Entry) → IsAscending old → Inserts entry old new → length new ≤ length old + 1
inserts_few entry old new ascends inserts =
    let sorted = to_T _ ascends in
    let same : by_key new ≡ put key_cmp entry.key entry (by_key old) =
    same_entries key_cmp nat_list_cmp_total tied (by_key new) (put key_cmp entry.key entry (by_key old)) (to_T _ inserts.ascending)
    (is_sorted-put key_cmp nat_list_cmp_total entry.key entry (by_key old) sorted)
    (λ key. inserts.entries key ∙ sym (find-put key_cmp nat_list_cmp_total key entry.key entry (by_key old))) in
    let few = by (is_some (find key_cmp entry.key (by_key old))) (length (by_key old)) in
    omega (
      arith,
      few,
      ap length same,
      length-put key_cmp nat_list_cmp_total entry.key entry (by_key old) sorted,
      length-map {B = Bytes × Entry} new (λ (e : Entry). (e.key, e)),
      length-map {B = Bytes × Entry} old (λ (e : Entry). (e.key, e)),
    )
  where
    by : (b : Bool) (n : ℕ) → cond b n (n + 1) ≤ n + 1
    by true n = omega arith
    by false n = omega arith

-- of records that have a spelling they have one
pub newest_spelled : (records : List Record) (entries : List Entry) → Ascends 0 records → IsAscending entries → AreNewestOf records entries → All HasSpelling entries
newest_spelled records entries up ascends newest = all_from HasSpelling entries (λ entry there.
    spelled_in 0 records entry up (buffer_recorded (map plain records) entry (sym (newest entry.key) ∙ own_entry entries entry ascends there)))

-- each entry of a buffer stands under its own key
keyed-fold : (entries : List Entry) (buffer : Buffer) → AreKeyed (finmap.entries buffer) → AreKeyed (finmap.entries (fold (λ buffer entry. finmap.insert buffer entry.key entry) buffer entries))
keyed-fold [] buffer keyed = keyed
keyed-fold (entry ∷ entries) buffer keyed = keyed-fold entries (finmap.insert buffer entry.key entry)
    (subst AreKeyed (sym (finmap.entries-insert nat_list_cmp_total buffer entry.key entry)) (keyed-put entry.key entry (finmap.entries buffer) refl keyed))

-- in the order of their keys they are the buffer's values
pub newest_values : (records : List layout.Record) (entries : List Entry) → IsAscending entries → ((key : Bytes) → entry_of key entries ≡ finmap.get (buffer_of records) key) → entries ≡ finmap.values (buffer_of records)
newest_values records entries ascends newest =
    let keyed = keyed-fold (filter_map written records) finmap.empty (keyed-left []) in
    one_list entries (finmap.values (buffer_of records)) ascends (values_ascend (buffer_of records) keyed) (λ key. newest key ∙ sym (entry_of-values (buffer_of records) keyed key))
