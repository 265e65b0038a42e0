-- A layout stands for a history where its entries cover that, its parts are in order and its files are swept.
use Rattle.std.proofs.Common.{inl, ℕ, ◌<◌, ◌≤◌, List, length, Contains, Option}
use Rattle.lethe_cover.proofs.Common.{IsAccepted, IsFresh, ⊎_map, IsMap, History, Map, Layout, File, Record, Erasing, entries_of, files_of, IsRecorded, Holds, Shows, Tells, IsNewerAbove, Covers, Entry, Pending, shown_held, EntriesCover, IsApplied}

pub entries_cover : (threshold : ℕ) (h : History) (l : Layout) → Covers threshold h l → EntriesCover threshold h l.clock (Holds l) (Shows l) l.pending
entries_cover threshold h l covers = record {
  held = shown_held l;
  places = covers.places.entries;
  same_map = covers.same_map;
  deletes_covered = covers.deletes_covered;
  erases_covered = covers.erases_covered.pending;
  times_fresh = covers.times_fresh.entries;
}

-- the pending erases may be applied to all inputs
pub all_applied : (threshold : ℕ) (h : History) (l : Layout) (inputs : Entry → Type 0) (swept : ℕ) → Covers threshold h l → IsApplied threshold h l.clock (Holds l) l.pending l.pending inputs swept
all_applied threshold h l inputs swept covers = record {
  complete = λ erase input there upto taken. inl there;
  accepted = λ erase there. covers.places.erases erase (inl there);
  fresh = λ erase there. (covers.times_fresh.erases erase (inl there)).fresh;
  sound = λ erase input dkey value there taken is hit. inl there;
}

-- where the same entries are seen, the map is the same
pub map_told : (P Q : Entry → Type 0) (pending : List Pending) (m : Map) → ((entry : Entry) → P entry → Q entry) → ((entry : Entry) → Q entry → P entry) → IsMap P pending m → IsMap Q pending m
map_told P Q pending m to back is = record {
  newest = λ entry newest. is.newest entry (record { shown = back entry newest.shown; last = λ other shown same. newest.last other (to other shown) same });
  absent = λ key absent. is.absent key (λ entry shown same. absent entry (to entry shown) same);
}

-- a layout with such entries, parts, erases and files stands for the history
pub layout_covers : (threshold : ℕ) (h : History) (l : Layout) → EntriesCover threshold h l.clock (Holds l) (Shows l) l.pending → IsNewerAbove l
    → ((erase : Pending) → Tells l erase → IsAccepted h erase × IsFresh threshold h l.clock erase.time) → ((file : File) → Contains (files_of l) file → file.swept ≤ length h)
    → ((file : File) (erase : Pending) (entry : Entry) → Contains (files_of l) file → Contains l.pending erase → file.swept < erase.seq → Contains (entries_of file) entry → entry.seq < erase.seq)
    → Covers threshold h l
layout_covers threshold h l entries newer told swept unswept = record {
  places = record { entries = entries.places; erases = λ erase is. (told erase is).0 };
  newer_above = newer;
  same_map = entries.same_map;
  deletes_covered = entries.deletes_covered;
  erases_covered = record { pending = entries.erases_covered; swept = swept; unswept = unswept };
  times_fresh = record { entries = entries.times_fresh; erases = λ erase is. (told erase is).1 };
}

-- other parts with records of the old ones
module _ (threshold : ℕ) (h : History) (l : Layout) (covers : Covers threshold h l) (active : List Record) (frozen : Option (List Record)) (levels : List (List File)) where
  abbrev then : Layout
  then = record l { active = active; frozen = frozen; levels = levels }

  pub parts_cover : ((r : Record) → IsRecorded then r → IsRecorded l r) → EntriesCover threshold h l.clock (Holds then) (Shows then) l.pending → IsNewerAbove then
      → ((file : File) → Contains (files_of then) file → file.swept ≤ length h)
      → ((file : File) (erase : Pending) (entry : Entry) → Contains (files_of then) file → Contains l.pending erase → file.swept < erase.seq → Contains (entries_of file) entry → entry.seq < erase.seq)
      → Covers threshold h then
  parts_cover known entries newer = layout_covers threshold h then entries newer
      (λ erase is. let was = ⊎_map (λ there. there) (known (Erasing erase)) is in (covers.places.erases erase was, covers.times_fresh.erases erase was))

-- the order of the parts is that of the segments and the levels alone
pub same_order : (l : Layout) (clock count next certificate : ℕ) (pending : List Pending) → IsNewerAbove l
    → IsNewerAbove (record l { clock = clock; count = count; next = next; certificate = certificate; pending = pending })
same_order l clock count next certificate pending order =
    record { runs = order.runs; active_frozen = order.active_frozen; active_files = order.active_files; frozen_files = order.frozen_files; active_buffer = order.active_buffer; frozen_buffer = order.frozen_buffer }

-- the numbers of objects and certificates say nothing of the history
pub numbered_covers : (threshold : ℕ) (h : History) (l : Layout) → Covers threshold h l → (next certificate : ℕ) → Covers threshold h (record l { next = next; certificate = certificate })
numbered_covers threshold h l covers next certificate =
    layout_covers threshold h (record l { next = next; certificate = certificate }) (entries_cover threshold h l covers) (same_order l l.clock l.count next certificate l.pending covers.newer_above)
    (λ erase is. (covers.places.erases erase is, covers.times_fresh.erases erase is)) covers.erases_covered.swept covers.erases_covered.unswept
