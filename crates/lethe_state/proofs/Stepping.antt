-- A state, and what is stored, behind a freeze and behind a flush.
use Rattle.std.proofs.Common.{◌≡◌, ◌≢◌, ◌≤◌, ◌<◌, ◌+◌, inl, inr, ℕ, List, [], ◌++◌, append-nil, length, map, get_or, All, Contains, Option, Some, None, refl, sym, ap, ◌∙◌, subst, arith}
use Rattle.std.specs.Prelude.{filter_map, option_map}
use Rattle.std.proofs.lemmas.List.Elements.{All-contains, All-map, All-weaker}
use Rattle.lethe_base.specs.Covers.{Covers}
use Rattle.lethe_base.specs.History.{History}
use Rattle.lethe_base.specs.Layout.{File, files_of}
use Rattle.lethe_base.specs.Shapes.{IsValidShape, shape_of}
use Rattle.lethe_base.proofs.LayoutLaws.{none_in}
use Rattle.lethe_cover.specs.Steps.{IsCounted, frozen}
use Rattle.lethe_cover.proofs.Frozen.{freeze_covers}
use Rattle.lethe_cover.proofs.Lists.{all_from, in_map, pairs_from, pairs_map, pairs_to}
use Rattle.lethe_manifest.specs.Manifests as manifests
use Rattle.lethe_manifest.specs.Manifests.{HasSpelling}
use Rattle.lethe_manifest.specs.declared.manifest.Cited.{Cited}
use Rattle.lethe_merge.specs.Merge.{merged}
use Rattle.lethe_moves.specs.Flushes.{Flushes, frozen_entries}
use Rattle.lethe_moves.specs.Made.{AreMade}
use Rattle.lethe_segment.specs.Segments.{last_seq}
use Rattle.lethe_stored.specs.Files.{Parts, StoredFile, cited_of, file_of}
use Rattle.lethe_stored.specs.Kept.{IsFor}
use Rattle.lethe_stored.specs.Levels.{HasFiles}
use Rattle.lethe_stored.specs.Replayed.{AreNewestOf}
use Rattle.lethe_stored.specs.Stored.{Stored, Segment, IsCoherent, count_of, erase_of, froze, in_order, layout_of, pending_of, plain, records_in}
use Rattle.lethe_stored.proofs.Changes.{counted}
use Rattle.lethe_stored.proofs.Freezing.{froze_coherent}
use Rattle.lethe_stored.proofs.Numbered.{covers_numbered}
use Rattle.lethe_flush.proofs.Newest.{newest_none}
use Rattle.lethe_follows.specs.Filed.{AreNewFiles, flushed}
use Rattle.lethe_follows.specs.Young.{oldest_in}
use Rattle.lethe_follows.proofs.Erases.{pending_again}
use Rattle.lethe_follows.proofs.Following.{file_from}
use Rattle.lethe_follows.proofs.Stepping.{flushed_coherent, flushed_for}
use Rattle.lethe_state.specs.Firsts.{firsts_in, no_firsts}
use Rattle.lethe_state.specs.Remembered.{IsCurrent, IsFrozenIn, Remembers}
use Rattle.lethe_state.specs.Room.{IsFlushed, IsFrozen, IsFrozenWith, IsRoomMade, IsUnfrozen, unfrozen}
use Rattle.lethe_state.specs.declared.state.State.{State}

-- An opening

pub opened_remembered : (s : Stored) (state : State) (levels : List (List Parts)) → IsCoherent s → HasFiles s levels → s.frozen ≡ None → s.active.records ≡ [] → s.manifest.erases ≡ pending_of s
    → state.manifest ≡ s.manifest → state.pending ≡ s.manifest.erases → state.active.entries ≡ [] → state.records ≡ 0 → state.frozen ≡ None → state.oldest ≡ None → state.frozen_oldest ≡ None
    → state.firsts ≡ no_firsts → state.frozen_firsts ≡ no_firsts → state.count ≡ s.manifest.count → state.stopped ≡ None
    → Remembers s state levels × IsCurrent s state
opened_remembered s state levels coherent files none empty erases manifest pending active records unfrozen_is ageless frozen_ageless placeless frozen_placeless count runs =
    let older : last_seq 0 (records_in s.frozen) ≡ 0 = ap (λ o. last_seq 0 (records_in o)) none in
    let newer : last_seq 0 s.active.records ≡ 0 = ap (last_seq 0) empty in
    let counts : state.count ≡ count_of s = omega (arith, older, newer, count) in (
      record {
        coherent = coherent;
        manifest = manifest;
        pending = pending ∙ erases;
        active = subst (λ records. AreNewestOf records state.active.entries) (sym empty) (newest_none state.active.entries active);
        records = records ∙ sym (ap length empty);
        oldest = ageless ∙ sym (ap oldest_in empty);
        firsts = placeless ∙ sym (ap firsts_in empty);
        frozen = let P : Option Segment → Type 0 = λ o. IsFrozenIn o state.frozen in subst P (sym none) (subst (IsFrozenIn None) (sym unfrozen_is) tt);
        frozen_oldest = frozen_ageless ∙ sym (ap (λ o. oldest_in (records_in o)) none);
        frozen_firsts = frozen_placeless ∙ sym (ap (λ o. firsts_in (records_in o)) none);
        files = files;
        counted = omega (arith, counts);
      },
      record { runs = runs; count = counts },
    )

-- A freeze

module _ (s : Stored) (old new : State) (levels : List (List Parts)) (is : Remembers s old levels) (current : IsCurrent s old) (none : s.frozen ≡ None) (segment : ℕ) (drawn : s.manifest.next ≤ segment) where
  abbrev f : Stored
  f = froze s segment (segment + 1)

  pending_froze : pending_of s ≡ pending_of f
  pending_froze = ap (λ records. in_order (s.manifest.erases ++ filter_map erase_of records)) (sym (append-nil s.active.records ∙ sym (ap (λ o. records_in o ++ s.active.records) none)))

  count_froze : count_of s ≡ count_of f
  count_froze = omega arith

  froze_remembered : HasSpelling f.manifest → IsFrozenWith f.manifest old new → Remembers f new levels × IsCurrent f new
  froze_remembered spelled with =
      let counts : new.count ≡ count_of f = with.count ∙ current.count ∙ count_froze in (
        record {
          coherent = froze_coherent s is.coherent segment (segment + 1) drawn (omega arith) spelled;
          manifest = with.manifest_is;
          pending = with.pending ∙ is.pending ∙ pending_froze;
          active = newest_none new.active.entries with.active;
          records = with.records;
          oldest = with.oldest;
          firsts = with.firsts;
          frozen = subst (IsFrozenIn (Some s.active)) (sym with.frozen) is.active;
          frozen_oldest = with.frozen_oldest ∙ is.oldest;
          frozen_firsts = with.frozen_firsts ∙ is.firsts;
          files = record { count = (is.files).count; each = (is.files).each };
          counted = omega (arith, counts);
        },
        record { runs = with.stopped ∙ current.runs; count = counts },
      )

pub freeze_remembered : (s t : Stored) (old new : State) (levels : List (List Parts)) → Remembers s old levels → IsCurrent s old → s.frozen ≡ None
    → IsFrozen s t → HasSpelling t.manifest → IsFrozenWith t.manifest old new → Remembers t new levels × IsCurrent t new
freeze_remembered s t old new levels is current none step =
    let P : Stored → Type 0 = λ t. HasSpelling t.manifest → IsFrozenWith t.manifest old new → Remembers t new levels × IsCurrent t new in
    subst P (sym step.is) (froze_remembered s old new levels is current none step.segment step.drawn)

-- A flush

module _ (s : Stored) (state : State) (levels next : List (List Parts)) (is : Remembers s state levels) (current : IsCurrent s state) (made : List StoredFile) (number : ℕ) where
  abbrev g : Stored
  g = flushed s made number

  count_flushed : count_of s ≡ count_of g
  count_flushed = omega arith

  flushed_remembered : s.manifest.next ≤ number → AreNewFiles s.manifest.next number made → HasSpelling g.manifest → HasFiles g next → Remembers g (unfrozen g.manifest state) next × IsCurrent g (unfrozen g.manifest state)
  flushed_remembered later new spelled files =
      let counts : state.count ≡ count_of g = current.count ∙ count_flushed in (
        record {
          coherent = flushed_coherent s made number is.coherent later new spelled;
          manifest = refl;
          pending = is.pending ∙ sym (pending_again s s.active.records (λ erase there. there));
          active = is.active;
          records = is.records;
          oldest = is.oldest;
          firsts = is.firsts;
          frozen = tt;
          frozen_oldest = refl;
          frozen_firsts = refl;
          files = files;
          counted = omega (arith, counts);
        },
        record { runs = current.runs; count = counts },
      )

pub flush_remembered : (s t : Stored) (state : State) (levels next : List (List Parts)) → Remembers s state levels → IsCurrent s state
    → IsFlushed s t → HasSpelling t.manifest → HasFiles t next → Remembers t (unfrozen t.manifest state) next × IsCurrent t (unfrozen t.manifest state)
flush_remembered s t state levels next is current step =
    let P : Stored → Type 0 = λ t. HasSpelling t.manifest → HasFiles t next → Remembers t (unfrozen t.manifest state) next × IsCurrent t (unfrozen t.manifest state) in
    subst P (sym step.is) (flushed_remembered s state levels next is current step.made step.number step.later step.new)

old_number : (s : Stored) → IsCoherent s → (file : StoredFile) → Contains s.files file → file.header.no < s.manifest.next
old_number s coherent file there =
    let cited : Contains s.manifest.files (cited_of file) = subst (λ (files : List Cited). Contains files (cited_of file)) (sym coherent.files) (in_map cited_of s.files file there) in
    (All-contains (manifests.IsFile s.manifest.next s.manifest.config.levels) s.manifest.files (cited_of file) coherent.spelled.files.each cited).no

layout_below : (s : Stored) → IsCoherent s → All (λ (file : File). file.no < s.manifest.next) (files_of (layout_of s))
layout_below s coherent = all_from (λ (file : File). file.no < s.manifest.next) (files_of (layout_of s)) (λ file there.
    let from = file_from s.manifest.config.levels s.files file there in
    subst (λ (file : File). file.no < s.manifest.next) from.3 (old_number s coherent from.0 from.1))

pub flushed_is_flush : (h : History) (s t : Stored) → IsCoherent s → IsFor h s → (is : IsFlushed s t) → Flushes h (layout_of s) (map file_of is.made)
flushed_is_flush h s t coherent stands is = record {
  alone = is.alone;
  clear = λ lone. ((is.clear).0 lone).1;
  made = subst (λ upto. AreMade (merged (frozen_entries (layout_of s)) (pending_of s) is.alone) upto (map file_of is.made)) stands.count (is.files).made;
  new = record {
    distinct = pairs_to (λ (a b : File). a.no ≢ b.no) (map file_of is.made) (pairs_map (λ (a b : File). a.no ≢ b.no) file_of is.made (pairs_from (λ (a b : StoredFile). a.header.no ≢ b.header.no) is.made (is.new).files_once));
    above = All-map (λ (file : File). All (λ (other : File). other.no < file.no) (files_of (layout_of s))) file_of is.made
        (λ k d inside.
        let from : s.manifest.next ≤ (get_or is.made k d).header.no = ((is.new).headers k d inside).0 in
        All-weaker (λ (other : File). other.no < s.manifest.next) (λ (other : File). other.no < (get_or is.made k d).header.no) (λ other below. omega (arith, below, from)) (files_of (layout_of s)) (layout_below s coherent));
  };
}

flushed_stands : (h : History) (s t : Stored) → IsCoherent s → IsFor h s → (is : IsFlushed s t) → IsFor h (flushed s is.made is.number)
flushed_stands h s t coherent stands is = flushed_for s is.made is.number h coherent stands (is.new).level (flushed_is_flush h s t coherent stands is)

pub flush_for : (h : History) (s t : Stored) → IsCoherent s → IsFor h s → IsFlushed s t → IsFor h t
flush_for h s t coherent stands is = subst (IsFor h) (sym is.is) (flushed_stands h s t coherent stands is)

-- Making room

-- of the places alone it has to be known that they are counted
module _ (s : Stored) (none : s.frozen ≡ None) (segment number : ℕ) where
  abbrev r : Stored
  r = froze s segment number

  layout_froze : layout_of r ≡ record (frozen (layout_of s)) { count = count_of r; next = number + 1 }
  layout_froze = λ i. record (frozen (layout_of s)) {
    count = count_of r;
    next = number + 1;
    pending = in_order (s.manifest.erases ++ filter_map erase_of ((append-nil s.active.records ∙ sym (ap (λ o. records_in o ++ s.active.records) none)) i));
  }

  count_of_froze : count_of r ≡ count_of s
  count_of_froze = omega arith

  froze_stands : (h : History) → IsCounted h (layout_of s) → IsFor h s → IsFor h r
  froze_stands h counts stands =
      let covers = freeze_covers s.manifest.config.threshold h (layout_of s) stands.covers counts (ap (option_map (λ (older : Segment). map plain older.records)) none) in
      record {
        legal = stands.legal;
        done = stands.done;
        covers = subst (Covers s.manifest.config.threshold h) (sym layout_froze) (covers_numbered s.manifest.config.threshold h (frozen (layout_of s)) (count_of r) (number + 1) covers.0);
        shape = subst (λ l. IsValidShape (shape_of l)) (sym layout_froze) stands.shape;
        clock = stands.clock;
        count = count_of_froze ∙ stands.count;
        certificate = stands.certificate;
      }

flushed_counted : (h : History) (s : Stored) (made : List StoredFile) (number : ℕ) → IsCounted h (layout_of s) → IsFor h (flushed s made number) → IsCounted h (layout_of (flushed s made number))
flushed_counted h s made number counts stands = record {
  count = stands.count;
  places = λ r is. elim is [ inl active ↦ counts.places r (inl active) | inr older ↦ absurd (none_in r older) ];
}

room_of : (h : History) (s middle : Stored) → IsCoherent s → IsFor h s → IsUnfrozen s middle → IsCounted h (layout_of middle) × IsFor h middle × (middle.frozen ≡ None)
room_of h s middle coherent stands (inl same) =
    let P : Stored → Type 0 = λ m. IsCounted h (layout_of m) × IsFor h m × (m.frozen ≡ None) in
    subst P (sym same.1) (counted h s coherent stands, stands, same.0)
room_of h s middle coherent stands (inr some) =
    let is = some.1 in
    let P : Stored → Type 0 = λ m. IsCounted h (layout_of m) × IsFor h m × (m.frozen ≡ None) in
    let after = flushed_stands h s middle coherent stands is in
    subst P (sym is.is) (flushed_counted h s is.made is.number (counted h s coherent stands) after, after, refl)

pub room_for : (h : History) (s t : Stored) → IsCoherent s → IsFor h s → IsRoomMade s t → IsFor h t
room_for h s t coherent stands (inl (room, same)) = subst (IsFor h) (sym same) stands
room_for h s t coherent stands (inr (full, middle, unfroze, is)) =
    let m = room_of h s middle coherent stands unfroze in
    subst (IsFor h) (sym is.is) (froze_stands middle m.2 is.segment (is.segment + 1) h m.0 m.1)
