-- Erases that are added by their places, from the last to the first.
use Rattle.std.proofs.Common.{◌≡◌, ℕ, List, [], ◌∷◌, ◌++◌, map, filter_map, reverse, refl, sym, ap, ◌∙◌}
use Rattle.std.proofs.lemmas.List.{map-append, reverse-append, reverse-reverse, nil_from_length}
use Rattle.std.proofs.lemmas.Cmp.{nat_cmp_total}
use Rattle.std.specs.BTreeMap.{insert_entry}
use Rattle.std.specs.FinMap as finmap
use Rattle.std.specs.FinMap.Entries.{by_order, put}
use Rattle.std.specs.Ordering.{nat_cmp, match_ordering}
use Rattle.std.specs.declared.cmp.Ordering.{Ordering}
use Rattle.std.specs.declared.cmp.Ordering.TheVariants.{Less, Equal, Greater}
use Rattle.lethe_base.specs.declared.pending.Pending.{Pending}
use Rattle.lethe_segment.specs.declared.record.Record.{Record}
use Rattle.lethe_segment.specs.declared.record.Record.TheVariants as of
use Rattle.lethe_stored.specs.Stored.{erase_of, in_order}
use Rattle.lethe_flush.specs.ByPlace.{with_erases}

abbrev Places : Type 0
Places = List (ℕ × Pending)

put_is : (place : ℕ) (erase : Pending) (places : Places) → insert_entry nat_cmp places place erase ≡ put nat_cmp place erase places
put_is place erase [] = refl
put_is place erase (first ∷ places) = by (put_is place erase places) (nat_cmp place first.0)
  where
    by : insert_entry nat_cmp places place erase ≡ put nat_cmp place erase places → (o : Ordering) → match_ordering o ((place, erase) ∷ first ∷ places) ((first.0, erase) ∷ places) (first ∷ insert_entry nat_cmp places place erase) ≡ by_order o ((place, erase) ∷ first ∷ places) ((first.0, erase) ∷ places) (first ∷ put nat_cmp place erase places)
    by rest Less = refl
    by rest Equal = refl
    by rest Greater = ap (λ rest. first ∷ rest) rest

with_joined : (xs ys : List Pending) (places : Places) → with_erases (xs ++ ys) places ≡ with_erases xs (with_erases ys places)
with_joined [] ys places = refl
with_joined (x ∷ xs) ys places = ap (λ places. insert_entry nat_cmp places x.seq x) (with_joined xs ys places)

abbrev keyed : List Pending → Places
keyed erases = map (λ erase. (erase.seq, erase)) erases

no_entries : finmap.entries (finmap.empty {X = Pending} {R = nat_cmp}) ≡ []
no_entries = nil_from_length _ (sym (finmap.len-entries (finmap.empty {X = Pending} {R = nat_cmp})) ∙ finmap.len-empty nat_cmp Pending)

from_all : (erases : List Pending) → with_erases erases [] ≡ finmap.entries (finmap.from_entries {R = nat_cmp} (keyed erases))
from_all [] = sym no_entries
from_all (erase ∷ erases) =
    put_is erase.seq erase (with_erases erases [])
    ∙ ap (put nat_cmp erase.seq erase) (from_all erases)
    ∙ sym (finmap.entries-insert nat_cmp_total (finmap.from_entries {R = nat_cmp} (keyed erases)) erase.seq erase)

-- those of the manifest in front of those of the records
pub ordered_is : (erases recorded : List Pending) → map (λ (e : ℕ × Pending). e.1) (with_erases erases (with_erases recorded [])) ≡ in_order (erases ++ recorded)
ordered_is erases recorded = ap (map (λ (e : ℕ × Pending). e.1)) (sym (with_joined erases recorded []) ∙ from_all (erases ++ recorded))

-- what was yielded, where the last comes first

abbrev pub turned : {A B : Type 0} → (A → B) → List A → List B
turned v xs = reverse (map v xs)

turned_push : {A B : Type 0} (v : A → B) (xs : List A) (x : A) → turned v (xs ++ x ∷ []) ≡ v x ∷ turned v xs
turned_push v xs x = ap reverse (map-append v xs (x ∷ [])) ∙ reverse-append (map v xs) (v x ∷ [])

pub erases_more : {A : Type 0} (v : A → Pending) (xs : List A) (x : A) (places old new : Places) → places ≡ with_erases (turned v xs) old → new ≡ insert_entry nat_cmp places (v x).seq (v x) → new ≡ with_erases (turned v (xs ++ x ∷ [])) old
erases_more v xs x places old new before is =
    is ∙ ap (λ places. insert_entry nat_cmp places (v x).seq (v x)) before ∙ ap (λ erases. with_erases erases old) (sym (turned_push v xs x))

pub records_more : {A : Type 0} (v : A → Record) (xs : List A) (x : A) (erase : Pending) (places old new : Places) → v x ≡ of.Erase erase → places ≡ with_erases (filter_map erase_of (turned v xs)) old
    → new ≡ insert_entry nat_cmp places erase.seq erase → new ≡ with_erases (filter_map erase_of (turned v (xs ++ x ∷ []))) old
records_more v xs x erase places old new is before inserted =
    inserted ∙ ap (λ places. insert_entry nat_cmp places erase.seq erase) before
    ∙ ap (λ r. with_erases (filter_map erase_of (r ∷ turned v xs)) old) (sym is)
    ∙ ap (λ records. with_erases (filter_map erase_of records) old) (sym (turned_push v xs x))

pub records_still : {A : Type 0} (v : A → Record) (xs : List A) (x : A) (places old : Places) → ((erase : Pending) → v x ≡ of.Erase erase → ⊥) → places ≡ with_erases (filter_map erase_of (turned v xs)) old
    → places ≡ with_erases (filter_map erase_of (turned v (xs ++ x ∷ []))) old
records_still v xs x places old other before =
    before ∙ by (v x) other ∙ ap (λ records. with_erases (filter_map erase_of records) old) (sym (turned_push v xs x))
  where
    by : (r : Record) → ((erase : Pending) → r ≡ of.Erase erase → ⊥) → with_erases (filter_map erase_of (turned v xs)) old ≡ with_erases (filter_map erase_of (r ∷ turned v xs)) old
    by (of.Entry entry) other = refl
    by (of.Blind place) other = refl
    by (of.Erase erase) other = absurd (other erase refl)

-- at the end
pub turned_all : {A B : Type 0} (v : A → B) (xs : List A) (all : List B) → map v xs ≡ reverse all → turned v xs ≡ all
turned_all v xs all is = ap reverse is ∙ reverse-reverse all
