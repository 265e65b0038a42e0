-- The records of one or two segments.
use Rattle.std.proofs.Common.{◌≡◌, ◌⊎◌, inl, inr, ℕ, ◌-◌, ◌≤◌, List, [], ◌∷◌, ◌++◌, length, map, max, All, Option, Some, None, refl, sym, ap, ◌∙◌, subst, arith}
use Rattle.std.specs.Prelude.{suc, slice_get}
use Rattle.std.proofs.lemmas.List.Elements.{All-nil, All-cons, All-head, All-tail}
use Rattle.lethe_base.specs.Limits.{max_place}
use Rattle.lethe_segment.specs.declared.record.Record.{Record}
use Rattle.lethe_segment.specs.declared.record.Record.TheVariants as of
use Rattle.lethe_segment.specs.Records.{record_seq, RecordHasSpelling}
use Rattle.lethe_segment.specs.Segments.{Ascends, last_seq}
use Rattle.lethe_stored.specs.Stored.{Stored, Segment, count_of, segments_of, records_in}
use Rattle.lethe_manifest.specs.declared.manifest.Manifest.{Manifest}
use Rattle.lethe_recover.specs.Journals.{IsJournalOf}
use Rattle.lethe_recover.specs.declared.journal.Journal.{Journal}

-- The last of a list

no_end : {X : Type 0} (xs : List X) (x : X) → [] ≡ xs ++ x ∷ [] → ⊥
no_end [] x e = cc
no_end (first ∷ xs) x e = cc

end_same : {X : Type 0} (xs ys : List X) (x y : X) → xs ++ x ∷ [] ≡ ys ++ y ∷ [] → (xs ≡ ys) × (x ≡ y)
end_same [] [] x y e = (refl, cc)
end_same [] (b ∷ ys) x y e = absurd (no_end ys y (let rest : [] ≡ ys ++ y ∷ [] = cc in rest))
end_same (a ∷ xs) [] x y e = absurd (no_end xs x (let rest : [] ≡ xs ++ x ∷ [] = cc in rest))
end_same (a ∷ xs) (b ∷ ys) x y e =
    let rest = end_same xs ys x y (let behind : xs ++ x ∷ [] ≡ ys ++ y ∷ [] = cc in behind) in
    let first : a ≡ b = cc in
    ((λ i. first i ∷ rest.0 i), rest.1)

-- the last is taken from a list; nothing is where there is none
abbrev pub Took : {X : Type 0} → List (List X) → List (List X) → List X → Type 0
Took old new last = (old ≡ new ++ last ∷ []) ⊎ ((old ≡ []) × (new ≡ []) × (last ≡ []))

took_last : {X : Type 0} (xs old new : List (List X)) (x last : List X) → old ≡ xs ++ x ∷ [] → Took old new last → (new ≡ xs) × (last ≡ x)
took_last xs old new x last is (inl took) = end_same new xs last x (sym took ∙ is)
took_last xs old new x last is (inr none) = absurd (no_end xs x (sym none.0 ∙ is))

took_none : {X : Type 0} (old new : List (List X)) (last : List X) → old ≡ [] → Took old new last → last ≡ []
took_none old new last is (inl took) = absurd (no_end new last (sym is ∙ took))
took_none old new last is (inr none) = none.2

pub two_are : (s : Stored) (all mid rest : List (List Record)) (newer older : List Record) → all ≡ map (λ (segment : Segment). segment.records) (segments_of s) → Took all mid newer → Took mid rest older
    → (older ≡ records_in s.frozen) × (newer ≡ s.active.records)
two_are s all mid rest newer older is first second = by s.frozen is
  where
    by : (o : Option Segment) → all ≡ map (λ (segment : Segment). segment.records) (segments_of (record s { frozen = o })) → (older ≡ records_in o) × (newer ≡ s.active.records)
    by None is = let one = took_last [] all mid s.active.records newer is first in (took_none mid rest older one.0 second, one.1)
    by (Some frozen) is =
        let one = took_last (frozen.records ∷ []) all mid s.active.records newer is first in
        let two = took_last [] mid rest frozen.records older one.0 second in
        (two.1, one.1)

all_end : (P : List Record → Type 0) (xs : List (List Record)) (x : List Record) → All P (xs ++ x ∷ []) → All P xs × P x
all_end P [] x all = (All-nil P, All-head P x [] all)
all_end P (first ∷ xs) x all =
    let rest = all_end P xs x (All-tail P first (xs ++ x ∷ []) all) in
    (All-cons P first xs (All-head P first (xs ++ x ∷ []) all) rest.0, rest.1)

pub took_ascends : (old new : List (List Record)) (last : List Record) → Took old new last → All (Ascends 0) old → All (Ascends 0) new × Ascends 0 last
took_ascends old new last (inl took) all = all_end (Ascends 0) new last (subst (All (Ascends 0)) took all)
took_ascends old new last (inr none) all = (subst (All (Ascends 0)) (sym none.1) (All-nil (Ascends 0)), subst (Ascends 0) (sym none.2) tt)

-- The last place

pub last_is : (records : List Record) (r : Record) → slice_get records (length records - 1) ≡ Some r → (last : ℕ) → last_seq last records ≡ record_seq r
last_is [] r is last = absurd cc
last_is (x ∷ []) r is last = let same : x ≡ r = cc in ap record_seq same
last_is (x ∷ y ∷ records) r is last =
    let index : suc (length (y ∷ records) - 1) ≡ length (x ∷ y ∷ records) - 1 = omega arith in
    last_is (y ∷ records) r (ap (slice_get (x ∷ y ∷ records)) index ∙ is) (record_seq x)

pub place_fits : (r : Record) → RecordHasSpelling r → record_seq r ≤ max_place
place_fits (of.Entry entry) spelled = spelled.front.place.1
place_fits (of.Blind seq) place = place.1
place_fits (of.Erase erase) spelled = spelled.place.1

pub last_fits : (last : ℕ) (records : List Record) → Ascends last records → last ≤ max_place → last_seq last records ≤ max_place
last_fits last [] up fits = fits
last_fits last (r ∷ records) up fits = last_fits (record_seq r) records up.2 (place_fits r up.0)

-- The count

pub count_is : (s : Stored) (m : Manifest) (journal : Journal) → s.manifest ≡ m → IsJournalOf s journal → max (max m.count (last_seq 0 journal.older)) (last_seq 0 journal.newer) ≡ count_of s
count_is s m journal same is =
    let moved : max (max m.count (last_seq 0 journal.older)) (last_seq 0 journal.newer) ≡ max (max s.manifest.count (last_seq 0 (records_in s.frozen))) (last_seq 0 s.active.records) =
    λ i. max (max ((sym same i).count) (last_seq 0 (is.older i))) (last_seq 0 (is.newer i)) in
    omega (arith, moved)
