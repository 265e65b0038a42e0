-- A pending erase that isn't in front of the first erase that a segment records is no older than that one.
use Rattle.std.proofs.Common.{◌≡◌, ◌⊎◌, inl, inr, ℕ, ◌<◌, ◌≤◌, true, false, List, [], ◌∷◌, ◌++◌, map, Contains, Option, Some, None, refl, sym, ap, ◌∙◌, subst, arith}
use Rattle.std.specs.Prelude.{filter_map}
use Rattle.std.proofs.lemmas.Bool.{cases_lt}
use Rattle.std.proofs.lemmas.Bool.Decides.{nat_tests}
use Rattle.std.proofs.lemmas.List.{map-append}
use Rattle.std.proofs.lemmas.List.Elements.{Contains-append_cases, Contains-append_right}
use Rattle.lethe_base.specs.Held.{IsRecorded}
use Rattle.lethe_base.specs.History.{History, clock_before}
use Rattle.lethe_base.specs.Layout.{Erasing}
use Rattle.lethe_base.specs.Shapes.{earlier}
use Rattle.lethe_base.specs.Spent.{least}
use Rattle.lethe_base.specs.declared.pending.Pending.{Pending}
use Rattle.lethe_base.proofs.LayoutLaws.{none_in}
use Rattle.lethe_base.proofs.Newest.{first_is, first_or_rest}
use Rattle.lethe_cover.proofs.Lists.{Pairs, in_rest, map_from, pairs_from}
use Rattle.lethe_segment.specs.declared.record.Record.{Record}
use Rattle.lethe_segment.specs.declared.record.Record.TheVariants as of
use Rattle.lethe_stored.specs.Kept.{IsFor}
use Rattle.lethe_stored.specs.Stored.{Stored, erase_of, in_order, layout_of, pending_of, plain, records_in, records_of}
use Rattle.lethe_stored.proofs.InOrder.{each_place}
use Rattle.lethe_stored.proofs.Meanings.{frozen_are}
use Rattle.lethe_follows.specs.Leaving.{first_erase, is_from}

-- a place that isn't in front of the least of some isn't in front of one of them
from_one : (places : List ℕ) (place : ℕ) → is_from (least places) place ≡ true → (first : ℕ) × Contains places first × (first ≤ place)
from_one [] place is = absurd (let clash : false ≡ true = is in cc)
from_one (first ∷ places) place is = by (least places) (from_one places place) is
  where
    here : first ≤ place → (bound : ℕ) × Contains (first ∷ places) bound × (bound ≤ place)
    here upto = (first, first_is first places first refl, upto)

    by : (o : Option ℕ) → (is_from o place ≡ true → (bound : ℕ) × Contains places bound × (bound ≤ place)) → is_from (earlier (Some first) o) place ≡ true → (bound : ℕ) × Contains (first ∷ places) bound × (bound ≤ place)
    by None behind is = here (grind (arith, nat_tests))
    by (Some other) behind is = elim (cases_lt place first) [
      | inl above ↦ let found = behind (grind (arith, nat_tests)) in (found.0, in_rest first places found.0 found.1, found.2)
      | inr upto ↦ here upto
    ]

-- where places and times rise, an erase with a place no greater than another's has no later time
times_rise : (erases : List Pending) → Pairs (λ a b. a.seq < b.seq) erases → Pairs (λ a b. a.time ≤ b.time) erases → (a b : Pending) → Contains erases a → Contains erases b → a.seq ≤ b.seq → a.time ≤ b.time
times_rise [] places times a b left right upto = absurd (none_in a left)
times_rise (first ∷ erases) places times a b left right upto = by (λ one two. times_rise erases places.1 times.1 a b one two upto) (first_or_rest first erases a left) (first_or_rest first erases b right)
  where
    seq : Pending → ℕ
    seq erase = erase.seq

    time : Pending → ℕ
    time erase = erase.time

    by : (Contains erases a → Contains erases b → a.time ≤ b.time) → (first ≡ a) ⊎ Contains erases a → (first ≡ b) ⊎ Contains erases b → a.time ≤ b.time
    by behind (inl one) (inl two) = let same = ap time (sym one ∙ two) in omega (arith, same)
    by behind (inl one) (inr two) = let later = times.0 b two in let same = ap time one in omega (arith, later, same)
    by behind (inr one) (inl two) = let above = places.0 a one in let same = ap seq two in absurd (omega (arith, above, same, upto))
    by behind (inr one) (inr two) = behind one two

-- an erase that a segment records is among the records of its layout
recorded_from : (records : List Record) (erase : Pending) → Contains (filter_map erase_of records) erase → Contains (map plain records) (Erasing erase)
recorded_from [] erase there = absurd (none_in erase there)
recorded_from (of.Entry entry ∷ records) erase there = in_rest (plain (of.Entry entry)) (map plain records) (Erasing erase) (recorded_from records erase there)
recorded_from (of.Blind place ∷ records) erase there = in_rest (plain (of.Blind place)) (map plain records) (Erasing erase) (recorded_from records erase there)
recorded_from (of.Erase first ∷ records) erase there = elim (first_or_rest first (filter_map erase_of records) erase there) [
  | inl same ↦ first_is (Erasing first) (map plain records) (Erasing erase) (ap Erasing same)
  | inr rest ↦ in_rest (Erasing first) (map plain records) (Erasing erase) (recorded_from records erase rest)
]

module _ (s : Stored) where
  in_segments : (erase : Pending) → Contains (filter_map erase_of (records_of s)) erase → IsRecorded (layout_of s) (Erasing erase)
  in_segments erase there =
      let laid = subst (λ l. Contains l (Erasing erase)) (map-append plain (records_in s.frozen) s.active.records) (recorded_from (records_of s) erase there) in
      elim (Contains-append_cases (map plain (records_in s.frozen)) (map plain s.active.records) (Erasing erase) laid) [
        | inl older ↦ inr (subst (λ l. Contains l (Erasing erase)) (sym (frozen_are s)) older)
        | inr newer ↦ inl newer
      ]

  pub no_older : (h : History) → IsFor h s → (erase : Pending) → Contains (pending_of s) erase → is_from (first_erase s) erase.seq ≡ true
      → (older : Pending) × IsRecorded (layout_of s) (Erasing older) × (older.time ≤ erase.time)
  no_older h stands erase there from =
      let recorded = filter_map erase_of (records_of s) in
      let bound = from_one (map (λ (e : Pending). e.seq) recorded) erase.seq from in
      let older = map_from (λ (e : Pending). e.seq) recorded bound.0 bound.1 in
      let all = s.manifest.erases ++ recorded in
      let placed = each_place (λ place. (other : Pending) × Contains (in_order all) other × (other.seq ≡ place)) all (λ other is. (other, is, refl)) older.0 (Contains-append_right s.manifest.erases recorded older.0 older.1) in
      let told = in_segments older.0 older.1 in
      let accepted = stands.covers.places.erases older.0 (inr told) in
      let pending = stands.covers.places.erases placed.0 (inl placed.1) in
      let shape = stands.shape in
      let upto : (placed.0).seq ≤ erase.seq = omega (arith, placed.2, older.2, bound.2) in
      let rise = times_rise (pending_of s) (pairs_from (λ (a b : Pending). a.seq < b.seq) (pending_of s) shape.places) (pairs_from (λ (a b : Pending). a.time ≤ b.time) (pending_of s) shape.times) placed.0 erase placed.1 there upto in
      let clock = accepted.timed ∙ ap (clock_before h) (sym placed.2) ∙ sym pending.timed in
      (older.0, told, omega (arith, rise, clock))
