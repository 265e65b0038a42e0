-- What a directory is kept for is what it means, and nothing that it holds is overdue.
use Rattle.std.proofs.Common.{◌≡◌, ◌<◌, inl, inr, ℕ, List, [], ◌∷◌, Option, Some, None, length, map, refl, sym, ap, ◌∙◌, subst, arith}
use Rattle.std.specs.Prelude.{Contains, unwrap_or, option_map}
use Rattle.lethe_base.specs.History.{History, after}
use Rattle.lethe_base.specs.Causes.{IsOverdue}
use Rattle.lethe_base.specs.Matching.{IsPut}
use Rattle.lethe_base.specs.Layout as layout
use Rattle.lethe_base.specs.Layout.{Layout, Written, place_of, buffer_of, frozen_records}
use Rattle.lethe_base.specs.Held.{Holds, Shows, InBuffer}
use Rattle.lethe_base.specs.SameMap.{IsNewest, IsMap}
use Rattle.lethe_base.specs.declared.config.Fields.{Fields}
use Rattle.lethe_base.specs.declared.entry.Entry.{Entry}
use Rattle.lethe_base.proofs.HeldLaws.{buffer_recorded, shown_held}
use Rattle.lethe_base.proofs.LayoutLaws.{none_in}
use Rattle.lethe_base.proofs.Newest.{first_or_rest}
use Rattle.lethe_base.proofs.Overdue.{none_overdue}
use Rattle.lethe_disk.specs.Directory.{Directory}
use Rattle.lethe_segment.specs.declared.record.Record.{Record}
use Rattle.lethe_segment.specs.declared.record.Record.TheVariants as of
use Rattle.lethe_segment.specs.Records.{record_seq}
use Rattle.lethe_segment.specs.Segments.{Ascends}
use Rattle.lethe_stored.specs.Stored.{Stored, Segment, IsCoherent, records_in, plain, layout_of}
use Rattle.lethe_stored.specs.Encodes.{Encodes}
use Rattle.lethe_stored.specs.Kept.{IsFor, IsKept}
use Rattle.lethe_stored.specs.Meaning.{IsHeld, Means}
use Rattle.lethe_stored.proofs.Unique.{none_or_some, one_stored}

-- a record and its place, as layouts have them
pub plain_place : (r : Record) → place_of (plain r) ≡ record_seq r
plain_place (of.Entry entry) = refl
plain_place (of.Blind place) = refl
plain_place (of.Erase erase) = refl

-- behind a place, all places are greater
above_last : (last : ℕ) (records : List Record) (r : layout.Record) → Ascends last records → Contains (map plain records) r → last < place_of r
above_last last [] r up there = absurd (none_in r there)
above_last last (first ∷ records) r up there = elim (first_or_rest (plain first) (map plain records) r there) [
  | inl same ↦ let here = ap place_of same in omega (arith, up.1, plain_place first, here)
  | inr rest ↦ let later = above_last (record_seq first) records r up.2 rest in omega (arith, later, up.1)
]

-- of a segment's records, one has each place
pub one_place : (last : ℕ) (records : List Record) (a b : layout.Record) → Ascends last records → Contains (map plain records) a → Contains (map plain records) b → place_of a ≡ place_of b → a ≡ b
one_place last [] a b up x y same = absurd (none_in a x)
one_place last (first ∷ records) a b up x y same = elim (first_or_rest (plain first) (map plain records) a x) [
  | inl is_a ↦ elim (first_or_rest (plain first) (map plain records) b y) [
    | inl is_b ↦ sym is_a ∙ is_b
    | inr behind_b ↦ let later = above_last (record_seq first) records b up.2 behind_b in let here = ap place_of is_a in absurd (omega (arith, later, here, plain_place first, same))
  ]
  | inr behind_a ↦ elim (first_or_rest (plain first) (map plain records) b y) [
    | inl is_b ↦ let later = above_last (record_seq first) records a up.2 behind_a in let here = ap place_of is_b in absurd (omega (arith, later, here, plain_place first, same))
    | inr behind_b ↦ one_place (record_seq first) records a b up.2 behind_a behind_b same
  ]
]

written_same : (a b : Entry) → Written a ≡ Written b → a ≡ b
written_same a b e = cc

-- the records of the frozen segment, as the layout has them
pub frozen_are : (s : Stored) → frozen_records (layout_of s) ≡ map plain (records_in s.frozen)
frozen_are s = by s.frozen
  where
    by : (o : Option Segment) → unwrap_or (option_map (λ (older : Segment). map plain older.records) o) [] ≡ map plain (records_in o)
    by None = refl
    by (Some older) = refl

module _ (h : History) (s : Stored) (coherent : IsCoherent s) (stands : IsFor h s) where
  abbrev pub l : Layout
  l = layout_of s

  -- the newest that is held, reads see
  newest_shown : (entry : Entry) → IsNewest (IsHeld s) entry → Shows l entry
  newest_shown entry newest = by newest.shown.1
    where
      by : Holds l entry newest.shown.0 → Shows l entry
      by (inr filed) = inr filed.0
      by (inl recorded) = elim recorded.0 [
        | inl active ↦
            let above = stands.covers.newer_above.active_buffer entry active in
            let there = buffer_recorded l.active above.0 above.1 in
            let last = newest.last above.0 (shown_held l above.0 (inl (inl above.1))) above.2 in
            let upto = above.3 in
            let same : entry ≡ above.0 = written_same entry above.0 (one_place 0 s.active.records (Written entry) (Written above.0) coherent.active active there (omega (arith, last, upto))) in
            inl (inl (subst (InBuffer (buffer_of l.active)) (sym same) above.1))
        | inr older ↦
            let above = stands.covers.newer_above.frozen_buffer entry older in
            let there = buffer_recorded (frozen_records l) above.0 above.1 in
            let last = newest.last above.0 (shown_held l above.0 (inl (inr above.1))) above.2 in
            let upto = above.3 in
            let same : entry ≡ above.0 = written_same entry above.0 (one_place 0 (records_in s.frozen) (Written entry) (Written above.0) coherent.frozen
            (subst (λ rs. Contains rs (Written entry)) (frozen_are s) older) (subst (λ rs. Contains rs (Written above.0)) (frozen_are s) there) (omega (arith, last, upto))) in
            inl (inr (subst (InBuffer (buffer_of (frozen_records l))) (sym same) above.1))
      ]

  pub held_map : IsMap (IsHeld s) l.pending (after h).map
  held_map = record {
    newest = λ entry newest. stands.covers.same_map.newest entry (record {
      shown = newest_shown entry newest;
      last = λ other shown same. newest.last other (shown_held l other shown) same;
    });
    absent = λ key none. stands.covers.same_map.absent key (λ entry shown. none entry (shown_held l entry shown));
  }

pub kept_means : (config : Fields) (h : History) (d : Directory) → IsKept config d h → Means d (record { map = (after h).map; clock = (after h).clock; count = length h })
kept_means config h d (inl none) = inl (none.0, ap (λ (g : History). record { map = (after g).map; clock = (after g).clock; count = length g }) none.1)
kept_means config h d (inr k) = inr (k.s, k.coherent, k.encodes, record { map = held_map h k.s k.coherent k.stands; clock = sym k.stands.clock; count = sym k.stands.count })

-- of what it holds nothing is overdue
pub kept_timely : (config : Fields) (h : History) (d : Directory) (s : Stored) → IsKept config d h → IsCoherent s → Encodes d s → (entry : Entry) (swept : ℕ) → Holds (layout_of s) entry swept → IsPut entry.body
    → IsOverdue config.threshold h (after h).clock entry.seq → ⊥
kept_timely config h d s (inl none) coherent e entry swept held put overdue = none_or_some d s.manifest.no none.0 e.greatest
kept_timely config h d s (inr k) coherent e entry swept held put overdue =
    let same = one_stored d k.s s k.coherent coherent k.encodes e in
    let config_is : config.threshold ≡ s.manifest.config.threshold = sym (ap (λ (x : Fields). x.threshold) k.config_is) ∙ ap (λ (x : Stored). x.manifest.config.threshold) same in
    let stands : IsFor h s = subst (IsFor h) same k.stands in
    none_overdue s.manifest.config.threshold h (layout_of s) stands.covers entry swept held put (subst (λ t. IsOverdue s.manifest.config.threshold h t entry.seq) (sym stands.clock) (subst (λ n. IsOverdue n h (after h).clock entry.seq) config_is overdue))
