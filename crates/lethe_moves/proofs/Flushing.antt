-- A flush keeps the history that a layout stands for, and the order of its files.
use Rattle.std.proofs.Common.{◌≡◌, ℕ, ◌<◌, IsTrue, List, [], ◌∷◌, fold, filter_map, length, AllPairs, Contains, refl, sym, ap, ◌∙◌, subst, arith}
use Rattle.std.specs.FinMap as finmap
use Rattle.lethe_base.specs.Entries.{IsAscending}
use Rattle.lethe_cover.specs.Flushes.{flushed, with_newest}
use Rattle.lethe_cover.proofs.ByKey.{entry_in, own_entry}
use Rattle.lethe_cover.proofs.Flushed.{flush_covers}
use Rattle.lethe_mem.proofs.Places.{above_head, tail_ascends, each_above}
use Rattle.lethe_merge.proofs.Merges.{AreKeyed, keyed-put, keyed-left, values_ascend, entry_of-values}
use Rattle.lethe_moves.specs.Flushes.{Flushes, span_of, frozen_entries}
use Rattle.lethe_moves.proofs.Common.{All-contains, nat_list_cmp_total, Less, InBuffer, IsFiled, History, key_cmp, Buffer, File, Layout, buffer_of, files_of, frozen_records, written, IsOver, Entry, none_in, files_in, singles, key_itself, IsClearOf, IsTiled, IsWithin, Follows}
use Rattle.lethe_moves.proofs.Apart.{clear_of, clear_over}
use Rattle.lethe_moves.proofs.KeyOrder.{lowest, highest}
use Rattle.lethe_moves.proofs.Orders.{AreOrdered, IsOther, order_from, ordered_with, order_then}
use Rattle.lethe_moves.proofs.Outputs.{above_old, made_outcome}
use Rattle.lethe_cover.proofs.Lists.{Pairs, pairs_from, pairs_map, pairs_to}

-- each entry of a buffer stands under its own key
keyed-fold : (entries : List Entry) (buffer : Buffer) → AreKeyed (finmap.entries buffer) → AreKeyed (finmap.entries (fold (λ buffer entry. finmap.insert buffer entry.key entry) buffer entries))
keyed-fold [] buffer keyed = keyed
keyed-fold (entry ∷ entries) buffer keyed = keyed-fold entries (finmap.insert buffer entry.key entry)
    (subst AreKeyed (sym (finmap.entries-insert nat_list_cmp_total buffer entry.key entry)) (keyed-put entry.key entry (finmap.entries buffer) refl keyed))

rising : (entries : List Entry) → IsAscending entries → Pairs (λ entry other. key_cmp entry.key other.key ≡ Less) entries
rising [] ascends = tt
rising (entry ∷ entries) ascends = (
  (λ other there. subst (λ other. key_cmp entry.key other.key ≡ Less) there.2 (each_above entry.key entries there.0 other (above_head entry entries ascends) there.1)),
  rising entries (tail_ascends entry entries ascends),
)

-- the keys of entries in order lie within their span
span_has : (entries : List Entry) → IsAscending entries → (entry : Entry) → Contains entries entry → IsWithin (span_of entries).lo (span_of entries).hi entry.key
span_has [] ascends entry there = absurd (none_in entry there)
span_has (first ∷ entries) ascends entry there =
    let ranges = λ (entry : Entry) (there : Contains (first ∷ entries) entry). key_itself entry.key in
    let rise = rising (first ∷ entries) ascends in
    (lowest (λ entry. entry.key) (λ entry. entry.key) first entries ranges rise entry there, highest (λ entry. entry.key) (λ entry. entry.key) [] (first ∷ entries) ranges rise entry there)

module _ (threshold : ℕ) (h : History) (l : Layout) (follows : Follows threshold h l) (made : List File) (flushes : Flushes h l made) where
  abbrev buffer : Buffer
  buffer = buffer_of (frozen_records l)

  abbrev entries : List Entry
  entries = frozen_entries l

  keyed : AreKeyed (finmap.entries buffer)
  keyed = keyed-fold (filter_map written (frozen_records l)) finmap.empty (keyed-left [])

  ascends : IsAscending entries
  ascends = values_ascend buffer keyed

  to_buffer : (entry : Entry) → Contains entries entry → InBuffer buffer entry
  to_buffer entry there = sym (entry_of-values buffer keyed entry.key) ∙ own_entry entries entry ascends there

  from_buffer : (entry : Entry) → InBuffer buffer entry → Contains entries entry
  from_buffer entry is = (entry_in entry.key entries entry (entry_of-values buffer keyed entry.key ∙ is)).0

  order : AreOrdered l.levels
  order = order_from l follows.ordered

  apart : IsTrue flushes.alone → (entry other : Entry) → InBuffer buffer entry → IsFiled l other → other.key ≡ entry.key → ⊥
  apart lone entry other taken filed same = clear_of (span_of entries) filed.file (order.tiled filed.file filed.there)
      (All-contains (IsClearOf (span_of entries)) (files_of l) filed.file (flushes.clear lone) filed.there) entry.key (span_has entries ascends entry (from_buffer entry taken)) other filed.spelled (sym same)

  over : AllPairs IsOver (singles made)
  over = pairs_to IsOver (singles made) (pairs_map IsOver (λ file. file ∷ []) made (pairs_from (λ file other. IsOver (file ∷ []) (other ∷ [])) made
      (λ i j d before within. clear_over _ _ (flushes.made.tiled i d (omega arith)) (flushes.made.tiled j d within) (flushes.made.apart i j d before within))))

  order_flushed : (levels : List (List File)) → AreOrdered levels → ((file other : File) → Contains made file → Contains (files_in levels) other → other.no < file.no) → AreOrdered (with_newest made levels)
  order_flushed [] was new = absurd (let deep = was.deep in omega arith)
  order_flushed (newest ∷ deeper) was new = order_then [] [] [] newest deeper was made (record {
    tiled = λ file there. All-contains IsTiled made file flushes.made.tiled there;
    numbers = pairs_from IsOther made flushes.new.distinct;
    new = new;
    below = λ some. absurd (some refl);
    bare = λ is. absurd (let deep = was.deep in let none = ap length is in omega arith);
  })

  pub flush_follows : Follows threshold h (flushed l made)
  flush_follows =
      let outcome = made_outcome (InBuffer buffer) entries to_buffer from_buffer l.pending flushes.alone (length h) made flushes.made in
      let covers = flush_covers threshold h l follows.covers follows.counted flushes.alone made (record { outcome = outcome; swept = flushes.made.swept; order = over; apart = apart }) in
      let ordered = ordered_with l (with_newest made l.levels) follows.ordered (order_flushed l.levels order (above_old (files_of l) made flushes.new)) in
      record { covers = covers.0; counted = covers.1; clock = follows.clock; ordered = record { tiled = ordered.tiled; shape = ordered.shape; deep = ordered.deep } }
