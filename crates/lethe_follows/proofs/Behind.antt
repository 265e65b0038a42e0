-- A segment records each erase that stands behind a record of one, and goes on to.
use Rattle.std.proofs.Common.{◌≡◌, inl, inr, ℕ, ◌<◌, ◌≤◌, List, [], ◌∷◌, ◌++◌, append_assoc, append-nil, length, Contains, Option, None, sym, ap, ◌∙◌, subst, arith}
use Rattle.std.specs.Prelude.{filter_map}
use Rattle.std.proofs.lemmas.List.Elements.{All-contains, Contains-append_cases, Contains-append_left, Contains-append_right}
use Rattle.lethe_base.specs.Held.{IsRecorded}
use Rattle.lethe_base.specs.History.{History}
use Rattle.lethe_base.specs.Layout as layout
use Rattle.lethe_base.specs.Layout.{Erasing, place_of}
use Rattle.lethe_base.specs.declared.call.Call.TheVariants as call
use Rattle.lethe_base.specs.declared.pending.Pending.{Pending}
use Rattle.lethe_base.proofs.LayoutLaws.{none_in}
use Rattle.lethe_base.proofs.Newest.{first_is, first_or_rest}
use Rattle.lethe_cover.proofs.Common.{⊎_elim}
use Rattle.lethe_cover.proofs.Grown.{done_within}
use Rattle.lethe_cover.proofs.Lists.{in_map, in_rest, map_from, only_in}
use Rattle.lethe_segment.specs.Records.{record_seq}
use Rattle.lethe_segment.specs.declared.record.Record.{Record}
use Rattle.lethe_segment.specs.declared.record.Record.TheVariants as of
use Rattle.lethe_stored.specs.Files.{StoredFile}
use Rattle.lethe_stored.specs.Kept.{IsFor}
use Rattle.lethe_stored.specs.Stored.{Segment, Stored, appended, erase_of, froze, layout_of, pending_of, plain, records_in, records_of}
use Rattle.lethe_stored.proofs.InOrder.{all_in_order, each_place}
use Rattle.lethe_stored.proofs.Meanings.{frozen_are, plain_place}
use Rattle.lethe_follows.specs.Filed.{flushed}
use Rattle.lethe_follows.specs.Young.{AreLaterRecorded}

-- an erase of some records is one of them
recorded_in : (records : List Record) (erase : Pending) → Contains (filter_map erase_of records) erase → Contains records (of.Erase erase)
recorded_in [] erase there = absurd (none_in erase there)
recorded_in (of.Entry entry ∷ records) erase there = in_rest (of.Entry entry) records (of.Erase erase) (recorded_in records erase there)
recorded_in (of.Blind place ∷ records) erase there = in_rest (of.Blind place) records (of.Erase erase) (recorded_in records erase there)
recorded_in (of.Erase first ∷ records) erase there = elim (first_or_rest first (filter_map erase_of records) erase there) [
  | inl same ↦ first_is (of.Erase first) records (of.Erase erase) (ap of.Erase same)
  | inr rest ↦ in_rest (of.Erase first) records (of.Erase erase) (recorded_in records erase rest)
]

module _ (s : Stored) where
  abbrev older : List Record
  older = records_in s.frozen

  abbrev newer : List Record
  newer = s.active.records

  -- the records of the segments are those of the layout
  pub laid_out : (r : Record) → Contains (records_of s) r → IsRecorded (layout_of s) (plain r)
  laid_out r there = elim (Contains-append_cases older newer r there) [
    | inl before ↦ inr (subst (λ l. Contains l (plain r)) (sym (frozen_are s)) (in_map plain older r before))
    | inr here ↦ inl (in_map plain newer r here)
  ]

  pub stored_record : (r : layout.Record) → IsRecorded (layout_of s) r → (q : Record) × Contains (records_of s) q × (plain q ≡ r)
  stored_record r there = elim there [
    | inl here ↦ let found = map_from plain newer r here in (found.0, Contains-append_right older newer found.0 found.1, found.2)
    | inr before ↦ let found = map_from plain older r (subst (λ l. Contains l r) (frozen_are s) before) in (found.0, Contains-append_left older newer found.0 found.1, found.2)
  ]

  -- they record each pending erase too that stands behind one of them
  pub pending_recorded : AreLaterRecorded s → (r : Record) (erase : Pending) → Contains (records_of s) r → Contains (pending_of s) erase → record_seq r < erase.seq
      → Contains (records_of s) (of.Erase erase)
  pending_recorded later r erase there pending =
      let recorded = filter_map erase_of (records_of s) in
      let all = s.manifest.erases ++ recorded in
      let IsLater : Pending → Type 0 = λ erase. record_seq r < erase.seq → Contains (records_of s) (of.Erase erase) in
      All-contains IsLater (pending_of s) erase (all_in_order IsLater all (λ other is.
      ⊎_elim (λ cited. later r other there cited) (λ own behind. recorded_in (records_of s) other own) (Contains-append_cases s.manifest.erases recorded other is))) pending

-- What a step leaves of that

pub later_none : (s : Stored) → records_of s ≡ [] → AreLaterRecorded s
later_none s none r erase there = absurd (none_in r (subst (λ l. Contains l r) none there))

pub later_appended : (h : History) (s : Stored) → IsFor h s → AreLaterRecorded s → (next : Record) → length h < record_seq next → AreLaterRecorded (appended s next)
later_appended h s stands later next last r erase there cited below = subst (λ l. Contains l (of.Erase erase)) more
    (Contains-append_left (records_of s) (next ∷ []) (of.Erase erase) (⊎_elim
    (λ before. later r erase before cited below)
    (λ new. let same = ap record_seq (only_in next r new) in absurd (omega (arith, same, last, within, below)))
    (Contains-append_cases (records_of s) (next ∷ []) r (subst (λ l. Contains l r) (sym more) there))))
  where
    more : records_of s ++ next ∷ [] ≡ records_of (appended s next)
    more = append_assoc (records_in s.frozen) s.active.records (next ∷ [])

    within : erase.seq ≤ length h
    within = each_place (λ place. place ≤ length h) (s.manifest.erases ++ filter_map erase_of (records_of s))
        (λ other pending. let accepted = stands.covers.places.erases other (inl pending) in done_within h other.seq (call.Erase other.range) accepted.done)
        erase (Contains-append_left s.manifest.erases (filter_map erase_of (records_of s)) erase cited)

pub later_frozen : (s : Stored) → s.frozen ≡ None → AreLaterRecorded s → (segment number : ℕ) → AreLaterRecorded (froze s segment number)
later_frozen s none later segment number r erase there cited below =
    subst (λ l. Contains l (of.Erase erase)) same (later r erase (subst (λ l. Contains l r) (sym same) there) cited below)
  where
    same : records_of s ≡ records_of (froze s segment number)
    same = ap (λ (o : Option Segment). records_in o ++ s.active.records) none ∙ sym (append-nil s.active.records)

-- what the frozen segment records stands in front of the records that stay
pub later_flushed : (h : History) (s : Stored) → IsFor h s → AreLaterRecorded s → (made : List StoredFile) (number : ℕ) → AreLaterRecorded (flushed s made number)
later_flushed h s stands later made number r erase there pending below = ⊎_elim
    (λ before.
    let order : erase.seq < place_of (plain r) = stands.covers.newer_above.active_frozen (plain r) (Erasing erase) (in_map plain s.active.records r there)
    (subst (λ l. Contains l (Erasing erase)) (sym (frozen_are s)) (in_map plain (records_in s.frozen) (of.Erase erase) before)) in
    absurd (omega (arith, order, plain_place r, below)))
    (λ here. here)
    (Contains-append_cases (records_in s.frozen) s.active.records (of.Erase erase)
    (pending_recorded s later r erase (Contains-append_right (records_in s.frozen) s.active.records r there) pending below))

pub later_others : (s t : Stored) → AreLaterRecorded s → t.frozen ≡ s.frozen → t.active ≡ s.active
    → ((erase : Pending) → Contains t.manifest.erases erase → Contains (pending_of s) erase) → AreLaterRecorded t
later_others s t later frozen active stays r erase there cited below =
    subst (λ l. Contains l (of.Erase erase)) (sym same) (pending_recorded s later r erase (subst (λ l. Contains l r) same there) (stays erase cited) below)
  where
    same : records_of t ≡ records_of s
    same = λ i. records_in (frozen i) ++ (active i).records
