-- Pages and tiles of the parts of a list.
use Rattle.std.proofs.Common.{◌≡◌, ℕ, ◌<◌, List, [], ◌∷◌, ◌++◌, length, All, AllPairs, IsPermutation, refl, sym, ◌∙◌, subst, append_assoc, append-nil, arith}
use Rattle.std.specs.List.{AllZip}
use Rattle.std.proofs.lemmas.List.Elements.{All-nil, All-cons, All-head, All-tail, All-weaker}
use Rattle.std.proofs.lemmas.List.Kept.{AllPairs-cons}
use Rattle.std.proofs.lemmas.List.Sorted.{All-permutation, IsPermutation-append, IsPermutation-refl, IsPermutation-trans, length_permutation}
use Rattle.lethe_base.specs.Entries.{IsAscending}
use Rattle.lethe_base.specs.declared.entry.Entry.{Entry}
use Rattle.lethe_tile.specs.Woven.{joined, IsCut, ComesBefore, IsBelow, IsPaged, HaveDistinctKeys}
use Rattle.lethe_tile.proofs.Orders.{pairs_nil, pairs_head, pairs_tail, pairs_append, all_left, all_right, Across, HasOtherKey, pairs_from_other, other_from_pairs, HasLowerKey, pairs_from_ascending, ascending_from_pairs}

-- a loop that makes something of each item: those done have theirs, in their order
pub record IsGoing {A B : Type 0} (R : A → B → Type 0) (whole rest : List A) (made : List B) : Type 0 where
  pub done : List A
  pub is : done ++ rest ≡ whole
  pub each : AllZip R done made

all_zip_push : {A B : Type 0} (R : A → B → Type 0) (xs : List A) (ys : List B) (x : A) (y : B) → AllZip R xs ys → R x y → AllZip R (xs ++ x ∷ []) (ys ++ y ∷ [])
all_zip_push R [] [] x y h r = (r, tt)
all_zip_push R [] (y' ∷ ys) x y h r = absurd h
all_zip_push R (x' ∷ xs) [] x y h r = absurd h
all_zip_push R (x' ∷ xs) (y' ∷ ys) x y h r = (h.0, all_zip_push R xs ys x y h.1 r)

pub going_none : {A B : Type 0} (R : A → B → Type 0) (whole : List A) → IsGoing R whole whole []
going_none R whole = record { done = []; is = refl; each = tt }

pub going_more : {A B : Type 0} (R : A → B → Type 0) (whole rest : List A) (made : List B) (x : A) (y : B) → IsGoing R whole (x ∷ rest) made → R x y → IsGoing R whole rest (made ++ y ∷ [])
going_more R whole rest made x y before r = record {
  done = before.done ++ x ∷ [];
  is = append_assoc before.done (x ∷ []) rest ∙ before.is;
  each = all_zip_push R before.done made x y before.each r;
}

-- what is true of each item is true of the next one
pub going_next : {A B : Type 0} (R : A → B → Type 0) (P : A → Type 0) (whole rest : List A) (made : List B) (x : A) → IsGoing R whole (x ∷ rest) made → All P whole → P x
going_next R P whole rest made x before all = All-head P x rest (all_right P before.done (x ∷ rest) (subst (All P) (sym before.is) all))

pub going_all : {A B : Type 0} (R : A → B → Type 0) (whole : List A) (made : List B) → IsGoing R whole [] made → AllZip R whole made
going_all R whole made before = subst (λ xs. AllZip R xs made) (sym (append-nil before.done) ∙ before.is) before.each

-- what is true of each pair of a list is true of each pair of a part
pub parts_pairs : {X : Type 0} (R : X → X → Type 0) (parts : List (List X)) → AllPairs R (joined parts) → All (AllPairs R) parts
parts_pairs R [] h = All-nil (AllPairs R)
parts_pairs R (part ∷ parts) h =
    let both = pairs_append R part (joined parts) h in
    All-cons (AllPairs R) part parts both.0 (parts_pairs R parts both.1)

pub parts_have_distinct_keys : (parts : List (List Entry)) → HaveDistinctKeys (joined parts) → All HaveDistinctKeys parts
parts_have_distinct_keys parts h =
    All-weaker (AllPairs HasOtherKey) HaveDistinctKeys other_from_pairs parts (parts_pairs HasOtherKey parts (pairs_from_other (joined parts) h))

across_parts : {X : Type 0} (R : X → X → Type 0) (part : List X) (parts : List (List X)) → Across R part (joined parts) → All (Across R part) parts
across_parts R part [] h = All-nil (Across R part)
across_parts R part (next ∷ parts) h =
    All-cons (Across R part) next parts
    (All-weaker (λ x. All (R x) (next ++ joined parts)) (λ x. All (R x) next) (λ x. all_left (R x) next (joined parts)) part h)
    (across_parts R part parts (All-weaker (λ x. All (R x) (next ++ joined parts)) (λ x. All (R x) (joined parts)) (λ x. all_right (R x) next (joined parts)) part h))

-- of entries in order each part is below all later ones
pub parts_below : (parts : List (List Entry)) → AllPairs ComesBefore (joined parts) → AllPairs IsBelow parts
parts_below [] h = pairs_nil IsBelow
parts_below (part ∷ parts) h =
    let both = pairs_append ComesBefore part (joined parts) h in
    AllPairs-cons IsBelow part parts (across_parts ComesBefore part parts both.2) (parts_below parts both.1)

-- a part, and what a sort by the keys made of it
pub record IsSortOf (part page : List Entry) : Type 0 where
  pub same : IsPermutation part page
  pub ascending : IsAscending page

pub all_zip_weaker : {A B : Type 0} (R S : A → B → Type 0) → ((x : A) (y : B) → R x y → S x y) → (xs : List A) (ys : List B) → AllZip R xs ys → AllZip S xs ys
all_zip_weaker R S f [] [] h = tt
all_zip_weaker R S f [] (y ∷ ys) h = absurd h
all_zip_weaker R S f (x ∷ xs) [] h = absurd h
all_zip_weaker R S f (x ∷ xs) (y ∷ ys) h = (f x y h.0, all_zip_weaker R S f xs ys h.1)

pub sorts_cut : (most : ℕ) (parts pages : List (List Entry)) → AllZip IsPermutation parts pages → IsCut most parts → IsCut most pages
sorts_cut most [] [] h cut = tt
sorts_cut most [] (q ∷ qs) h cut = absurd h
sorts_cut most (p ∷ ps) [] h cut = absurd h
sorts_cut most (p ∷ []) (q ∷ []) h cut = let long : length q ≡ length p = length_permutation p q h.0 in (omega (arith, cut.0), omega (arith, cut.1))
sorts_cut most (p ∷ []) (q ∷ q' ∷ qs) h cut = absurd h.1
sorts_cut most (p ∷ p' ∷ ps) (q ∷ []) h cut = absurd h.1
sorts_cut most (p ∷ p' ∷ ps) (q ∷ q' ∷ qs) h cut = (length_permutation p q h.0 ∙ cut.0, sorts_cut most (p' ∷ ps) (q' ∷ qs) h.1 cut.1)

pub sorts_same : (parts pages : List (List Entry)) → AllZip IsPermutation parts pages → IsPermutation (joined parts) (joined pages)
sorts_same [] [] h = IsPermutation-refl []
sorts_same [] (q ∷ qs) h = absurd h
sorts_same (p ∷ ps) [] h = absurd h
sorts_same (p ∷ ps) (q ∷ qs) h = IsPermutation-append p q (joined ps) (joined qs) h.0 (sorts_same ps qs h.1)

pub sorts_ascend : (parts pages : List (List Entry)) → AllZip IsSortOf parts pages → All IsAscending pages
sorts_ascend [] [] h = All-nil IsAscending
sorts_ascend [] (q ∷ qs) h = absurd h
sorts_ascend (p ∷ ps) [] h = absurd h
sorts_ascend (p ∷ ps) (q ∷ qs) h = All-cons IsAscending q qs h.0.ascending (sorts_ascend ps qs h.1)

pub below_sorts : (p q : List Entry) → IsPermutation p q → (parts pages : List (List Entry)) → AllZip IsPermutation parts pages → All (IsBelow p) parts → All (IsBelow q) pages
below_sorts p q same [] [] h below = All-nil (IsBelow q)
below_sorts p q same [] (y ∷ ys) h below = absurd h
below_sorts p q same (x ∷ xs) [] h below = absurd h
below_sorts p q same (x ∷ xs) (y ∷ ys) h below =
    let outer : All (λ e. All (ComesBefore e) x) q = All-permutation (λ e. All (ComesBefore e) x) p q same (All-head (IsBelow p) x xs below) in
    All-cons (IsBelow q) y ys
    (All-weaker (λ e. All (ComesBefore e) x) (λ e. All (ComesBefore e) y) (λ e. All-permutation (ComesBefore e) x y h.0) q outer)
    (below_sorts p q same xs ys h.1 (All-tail (IsBelow p) x xs below))

pub sorts_below : (parts pages : List (List Entry)) → AllZip IsPermutation parts pages → AllPairs IsBelow parts → AllPairs IsBelow pages
sorts_below [] [] h below = pairs_nil IsBelow
sorts_below [] (q ∷ qs) h below = absurd h
sorts_below (p ∷ ps) [] h below = absurd h
sorts_below (p ∷ ps) (q ∷ qs) h below =
    AllPairs-cons IsBelow q qs (below_sorts p q h.0 ps qs h.1 (pairs_head IsBelow p ps below)) (sorts_below ps qs h.1 (pairs_tail IsBelow p ps below))

-- puts in the order of a tile, cut and sorted part by part
pub paged : (page : ℕ) (puts ordered : List Entry) (parts pages : List (List Entry)) → IsPermutation puts ordered → AllPairs ComesBefore ordered
    → joined parts ≡ ordered → IsCut page parts → AllZip IsSortOf parts pages → IsPaged page puts pages
paged page puts ordered parts pages same order is cut sorts =
    let same_parts : AllZip IsPermutation parts pages = all_zip_weaker IsSortOf IsPermutation (λ p q sort. sort.same) parts pages sorts in
    record {
      lengths = sorts_cut page parts pages same_parts cut;
      once = IsPermutation-trans puts (joined parts) (joined pages) (subst (IsPermutation puts) (sym is) same) (sorts_same parts pages same_parts);
      ascending = sorts_ascend parts pages sorts;
      below = sorts_below parts pages same_parts (parts_below parts (subst (AllPairs ComesBefore) (sym is) order));
    }

-- no part of a cut is empty
pub cut_some : {X : Type 0} (most : ℕ) (parts : List (List X)) → 0 < most → IsCut most parts → All (λ part. 0 < length part) parts
cut_some most [] some cut = All-nil (λ part. 0 < length part)
cut_some most (last ∷ []) some cut = All-cons (λ part. 0 < length part) last [] (omega (arith, cut.0)) (All-nil (λ part. 0 < length part))
cut_some most (part ∷ next ∷ parts) some cut = All-cons (λ p. 0 < length p) part (next ∷ parts) (omega (arith, cut.0)) (cut_some most (next ∷ parts) some cut.1)

pub slices_ascend : (slices : List (List Entry)) → IsAscending (joined slices) → All IsAscending slices
slices_ascend slices s = All-weaker (AllPairs HasLowerKey) IsAscending ascending_from_pairs slices (parts_pairs HasLowerKey slices (pairs_from_ascending (joined slices) s))
