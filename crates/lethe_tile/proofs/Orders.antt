-- The orders of entries.
use Rattle.std.proofs.Common.{◌≡◌, ℕ, suc, ◌+◌, true, false, List, [], ◌∷◌, ◌++◌, length, get_or, IsTrue, All, AllPairs, IsPermutation, refl, sym, ap, ◌∙◌, subst, arith}
use Rattle.std.proofs.lemmas.Bool.{and_parts, and_from, true≢false}
use Rattle.std.proofs.lemmas.Cmp.{nat_cmp_total, nat_list_cmp_total, on_total, then_total, eq_by_cmp_equiv}
use Rattle.std.proofs.lemmas.List.Elements.{All-nil, All-cons, All-head, All-tail, All-weaker}
use Rattle.std.proofs.lemmas.List.Kept.{AllPairs-cons, AllPairs-filter}
use Rattle.std.proofs.lemmas.List.Sorted.{ranks_by, sorted_far}
use Rattle.std.proofs.lemmas.Map.Keys.{apart_from_distinct, IsDistinct-from_apart, IsDistinct-IsPermutation}
use Rattle.std.specs.Cmp.{IsTotalOrder}
use Rattle.std.specs.FinMap.Entries.{below_all}
use Rattle.std.specs.List.{AllAdjacentBelow}
use Rattle.std.specs.List.Sorted.{IsSortedBy}
use Rattle.std.specs.Ordering.{is_lt, is_eq, ordering_reverse, ordering_then, nat_cmp}
use Rattle.std.specs.declared.cmp.Ordering.{Ordering}
use Rattle.std.specs.declared.cmp.Ordering.TheVariants.{Less, Equal, Greater}
use Rattle.lethe_base.specs.Keys.{Bytes, key_cmp, same_key}
use Rattle.lethe_base.specs.Entries.{by_key, IsAscending}
use Rattle.lethe_base.specs.declared.entry.Entry.{Entry}
use Rattle.lethe_tile.specs.Woven.{HaveDistinctKeys, weave_cmp, dkey_of, puts_of}

-- a relation of each item to all later ones, item by item

pub pairs_nil : {X : Type 0} (R : X → X → Type 0) → AllPairs R []
pairs_nil R i j d lt below = absurd (omega (arith, below))

pub pairs_head : {X : Type 0} (R : X → X → Type 0) (x : X) (xs : List X) → AllPairs R (x ∷ xs) → All (R x) xs
pairs_head R x xs h k d below = h 0 (suc k) d (omega arith) (omega arith)

pub pairs_tail : {X : Type 0} (R : X → X → Type 0) (x : X) (xs : List X) → AllPairs R (x ∷ xs) → AllPairs R xs
pairs_tail R x xs h i j d lt below = h (suc i) (suc j) d (omega arith) (omega arith)

pub all_left : {X : Type 0} (P : X → Type 0) (xs ys : List X) → All P (xs ++ ys) → All P xs
all_left P [] ys h = All-nil P
all_left P (x ∷ xs) ys h = All-cons P x xs (All-head P x (xs ++ ys) h) (all_left P xs ys (All-tail P x (xs ++ ys) h))

pub all_right : {X : Type 0} (P : X → Type 0) (xs ys : List X) → All P (xs ++ ys) → All P ys
all_right P [] ys h = h
all_right P (x ∷ xs) ys h = all_right P xs ys (All-tail P x (xs ++ ys) h)

-- each item of one list against each of another
abbrev pub Across : {X : Type 0} → (X → X → Type 0) → List X → List X → Type 0
Across R xs ys = All (λ x. All (R x) ys) xs

pub pairs_append : {X : Type 0} (R : X → X → Type 0) (xs ys : List X) → AllPairs R (xs ++ ys) → AllPairs R xs × AllPairs R ys × Across R xs ys
pairs_append R [] ys h = (pairs_nil R, h, All-nil (λ x. All (R x) ys))
pairs_append R (x ∷ xs) ys h =
    let rest = pairs_append R xs ys (pairs_tail R x (xs ++ ys) h) in
    let here : All (R x) (xs ++ ys) = pairs_head R x (xs ++ ys) h in
    (AllPairs-cons R x xs (all_left (R x) xs ys here) rest.0, rest.1, All-cons (λ x. All (R x) ys) x xs (all_right (R x) xs ys here) rest.2)

-- keys that ascend

abbrev pub HasLowerKey : Entry → Entry → Type 0
HasLowerKey e f = key_cmp e.key f.key ≡ Less

pub less_is : (r : Ordering) → IsTrue (is_lt r) → r ≡ Less
less_is Less h = refl
less_is Equal h = absurd cc
less_is Greater h = absurd cc

each_above : (x : Bytes) (es : List Entry) → IsTrue (below_all key_cmp x (by_key es)) → All (λ e. key_cmp x e.key ≡ Less) es
each_above x [] h = All-nil (λ e. key_cmp x e.key ≡ Less)
each_above x (e ∷ es) h =
    All-cons (λ e. key_cmp x e.key ≡ Less) e es (less_is _ (and_parts _ _ h).0) (each_above x es (and_parts (is_lt (key_cmp x e.key)) _ h).1)

pub pairs_from_ascending : (es : List Entry) → IsAscending es → AllPairs HasLowerKey es
pairs_from_ascending [] s = pairs_nil HasLowerKey
pairs_from_ascending (e ∷ es) s =
    AllPairs-cons HasLowerKey e es (each_above e.key es (and_parts _ _ s).0) (pairs_from_ascending es (and_parts (below_all key_cmp e.key (by_key es)) _ s).1)

all_above : (x : Bytes) (es : List Entry) → All (λ e. key_cmp x e.key ≡ Less) es → IsTrue (below_all key_cmp x (by_key es))
all_above x [] h = refl
all_above x (e ∷ es) h =
    and_from _ _ (ap is_lt (All-head (λ e. key_cmp x e.key ≡ Less) e es h)) (all_above x es (All-tail (λ e. key_cmp x e.key ≡ Less) e es h))

pub ascending_from_pairs : (es : List Entry) → AllPairs HasLowerKey es → IsAscending es
ascending_from_pairs [] h = refl
ascending_from_pairs (e ∷ es) h =
    and_from _ _ (all_above e.key es (pairs_head HasLowerKey e es h)) (ascending_from_pairs es (pairs_tail HasLowerKey e es h))

-- keys that differ

abbrev pub HasOtherKey : Entry → Entry → Type 0
HasOtherKey e f = same_key e.key f.key ≡ false

pub pairs_from_other : (es : List Entry) → HaveDistinctKeys es → AllPairs HasOtherKey es
pairs_from_other es h i j d lt below = apart_from_distinct (λ e f. same_key e.key f.key) es i j d h lt below

pub other_from_pairs : (es : List Entry) → AllPairs HasOtherKey es → HaveDistinctKeys es
other_from_pairs es h = IsDistinct-from_apart (λ e f. same_key e.key f.key) es h

pub other_from_ascending : (es : List Entry) → AllPairs HasLowerKey es → HaveDistinctKeys es
other_from_ascending es h = other_from_pairs es (λ i j d lt below. ap is_eq (h i j d lt below))

pub puts_have_distinct_keys : (es : List Entry) → IsAscending es → HaveDistinctKeys (puts_of es)
puts_have_distinct_keys es s = other_from_ascending (puts_of es) (AllPairs-filter HasLowerKey _ es (pairs_from_ascending es s))

-- sorted entries of different keys

pub key_total : IsTotalOrder (λ (e f : Entry). key_cmp e.key f.key)
key_total = on_total (λ (e : Entry). e.key) nat_list_cmp_total

pub weave_total : IsTotalOrder weave_cmp
weave_total = then_total (on_total (λ (e : Entry). dkey_of e.body) nat_cmp_total) key_total

then_equal : (r s : Ordering) → ordering_then r s ≡ Equal → is_eq s ≡ true
then_equal Less s e = absurd cc
then_equal Equal s e = ap is_eq e
then_equal Greater s e = absurd cc

pub weave_ties : (e f : Entry) → weave_cmp e f ≡ Equal → same_key e.key f.key ≡ true
weave_ties e f tied = then_equal (nat_cmp (dkey_of e.body) (dkey_of f.body)) (key_cmp e.key f.key) tied

pub key_ties : (e f : Entry) → key_cmp e.key f.key ≡ Equal → same_key e.key f.key ≡ true
key_ties e f tied = ap is_eq tied

strict : (cmp : Entry → Entry → Ordering) → IsTotalOrder cmp → ((e f : Entry) → cmp e f ≡ Equal → same_key e.key f.key ≡ true)
    → (e f : Entry) (r : Ordering) → cmp e f ≡ r → is_lt (cmp f e) ≡ false → same_key e.key f.key ≡ false → r ≡ Less
strict cmp total ties e f Less is not_above other = refl
strict cmp total ties e f Equal is not_above other = absurd (true≢false (sym (ties e f is) ∙ other))
strict cmp total ties e f Greater is not_above other =
    let below : cmp f e ≡ Less = total.antisymm f e ∙ ap ordering_reverse is in
    absurd (true≢false (sym (ap is_lt below) ∙ not_above))

-- where no two have one key, a sort leaves each below all later ones
pub sorted_strictly : (cmp : Entry → Entry → Ordering) → IsTotalOrder cmp → ((e f : Entry) → cmp e f ≡ Equal → same_key e.key f.key ≡ true)
    → (es : List Entry) → IsSortedBy (λ e f. is_lt (cmp e f)) es → HaveDistinctKeys es → AllPairs (λ e f. cmp e f ≡ Less) es
sorted_strictly cmp total ties es sorted other i j d lt below =
    let not_above = sorted_far (λ e f. is_lt (cmp e f)) (ranks_by total (λ (e : Entry). e)) es sorted i j d (omega arith) below in
    strict cmp total ties _ _ _ refl not_above (pairs_from_other es other i j d lt below)

pub key_flips : (e f : Entry) → same_key e.key f.key ≡ same_key f.key e.key
key_flips e f = (eq_by_cmp_equiv nat_list_cmp_total).symm e.key f.key

pub other_permuted : (es fs : List Entry) → IsPermutation es fs → HaveDistinctKeys es → HaveDistinctKeys fs
other_permuted es fs same other = IsDistinct-IsPermutation (λ (e f : Entry). same_key e.key f.key) key_flips es fs same other

-- where each key is below the next one, each is below all later ones
pub pairs_from_neighbours : (es : List Entry) → AllAdjacentBelow HasLowerKey es (length es) → AllPairs HasLowerKey es
pairs_from_neighbours [] next = pairs_nil HasLowerKey
pairs_from_neighbours (e ∷ []) next = AllPairs-cons HasLowerKey e [] (All-nil (HasLowerKey e)) (pairs_nil HasLowerKey)
pairs_from_neighbours (e ∷ f ∷ es) next =
    let rest = pairs_from_neighbours (f ∷ es) (λ k d below. let here : HasLowerKey (get_or (f ∷ es) k d) (get_or (e ∷ f ∷ es) (suc k + 1) d) = next (suc k) d (omega arith) in
    subst (λ (n : ℕ). HasLowerKey (get_or (f ∷ es) k d) (get_or (e ∷ f ∷ es) n d)) (let same : suc k + 1 ≡ suc (k + 1) = omega arith in same) here) in
    let here : HasLowerKey e f = next 0 e (omega arith) in
    let behind = All-weaker (HasLowerKey f) (HasLowerKey e) (λ g above. nat_list_cmp_total.trans e.key f.key g.key here above) es (pairs_head HasLowerKey f es rest) in
    AllPairs-cons HasLowerKey e (f ∷ es) (All-cons (HasLowerKey e) f es here behind) rest
