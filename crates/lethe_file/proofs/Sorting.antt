-- Entries in the order of their keys.
use Rattle.std.proofs.Common.{◌≡◌, Bool, true, false, cond, List, [], ◌∷◌, All, AllPairs, IsPermutation, refl, sym, ap, ◌∙◌}
use Rattle.std.proofs.lemmas.Bool.{true≢false}
use Rattle.std.proofs.lemmas.List.Elements.{All-nil, All-cons, All-head, All-tail, All-weaker}
use Rattle.std.proofs.lemmas.List.Kept.{AllPairs-cons}
use Rattle.std.proofs.lemmas.List.Sorted.{All-permutation, IsPermutation-append_comm, IsPermutation-append_left, IsPermutation-cons, IsPermutation-refl, IsPermutation-sym, IsPermutation-trans}
use Rattle.std.specs.Ordering.{is_lt, ordering_reverse}
use Rattle.std.specs.declared.cmp.Ordering.{Ordering}
use Rattle.std.specs.declared.cmp.Ordering.TheVariants.{Less, Equal, Greater}
use Rattle.lethe_base.specs.Entries.{IsAscending}
use Rattle.lethe_base.specs.Keys.{key_cmp}
use Rattle.lethe_base.specs.declared.entry.Entry.{Entry}
use Rattle.lethe_header.specs.Woven.{HaveDistinctKeys}
use Rattle.lethe_header.proofs.Orders.{HasLowerKey, HasOtherKey, key_ties, key_total, other_from_ascending, other_permuted, pairs_from_ascending, pairs_head, pairs_nil, pairs_tail}
use Rattle.lethe_header.proofs.Unique.{one_order}
use Rattle.lethe_file.specs.Waiting.{in_order, put_in}

swapped : (e x : Entry) (xs : List Entry) → IsPermutation (e ∷ x ∷ xs) (x ∷ e ∷ xs)
swapped e x xs = IsPermutation-append_left xs (e ∷ x ∷ []) (x ∷ e ∷ []) (IsPermutation-append_comm (e ∷ []) (x ∷ []))

put_same : (e : Entry) (xs : List Entry) → IsPermutation (e ∷ xs) (put_in e xs)
put_same e [] = IsPermutation-refl (e ∷ [])
put_same e (x ∷ xs) = by (is_lt (key_cmp e.key x.key)) (put_same e xs)
  where
    by : (b : Bool) → IsPermutation (e ∷ xs) (put_in e xs) → IsPermutation (e ∷ x ∷ xs) (cond b (e ∷ x ∷ xs) (x ∷ put_in e xs))
    by true rest = IsPermutation-refl (e ∷ x ∷ xs)
    by false rest = IsPermutation-trans (e ∷ x ∷ xs) (x ∷ e ∷ xs) (x ∷ put_in e xs) (swapped e x xs) (IsPermutation-cons x (e ∷ xs) (put_in e xs) rest)

put_pairs : (e : Entry) (xs : List Entry) → AllPairs HasLowerKey xs → All (HasOtherKey e) xs → AllPairs HasLowerKey (put_in e xs)
put_pairs e [] up other = AllPairs-cons HasLowerKey e [] (All-nil (HasLowerKey e)) up
put_pairs e (x ∷ xs) up other = by (key_cmp e.key x.key) refl (put_pairs e xs (pairs_tail HasLowerKey x xs up) (All-tail (HasOtherKey e) x xs other))
  where
    by : (r : Ordering) → key_cmp e.key x.key ≡ r → AllPairs HasLowerKey (put_in e xs) → AllPairs HasLowerKey (cond (is_lt r) (e ∷ x ∷ xs) (x ∷ put_in e xs))
    by Less is rest =
        AllPairs-cons HasLowerKey e (x ∷ xs) (All-cons (HasLowerKey e) x xs is (All-weaker (HasLowerKey x) (HasLowerKey e) (λ f below. key_total.trans e x f is below) xs (pairs_head HasLowerKey x xs up))) up
    by Equal is rest = absurd (true≢false (sym (key_ties e x is) ∙ All-head (HasOtherKey e) x xs other))
    by Greater is rest =
        let below : key_cmp x.key e.key ≡ Less = key_total.antisymm x e ∙ ap ordering_reverse is in
        AllPairs-cons HasLowerKey x (put_in e xs) (All-permutation (HasLowerKey x) (e ∷ xs) (put_in e xs) (put_same e xs) (All-cons (HasLowerKey x) e xs below (pairs_head HasLowerKey x xs up))) rest

pub in_order_same : (es : List Entry) → IsPermutation es (in_order es)
in_order_same [] = IsPermutation-refl []
in_order_same (e ∷ es) = IsPermutation-trans (e ∷ es) (e ∷ in_order es) (put_in e (in_order es)) (IsPermutation-cons e es (in_order es) (in_order_same es)) (put_same e (in_order es))

-- entries of different keys
pub in_order_pairs : (es : List Entry) → AllPairs HasOtherKey es → AllPairs HasLowerKey (in_order es)
in_order_pairs [] other = pairs_nil HasLowerKey
in_order_pairs (e ∷ es) other =
    put_pairs e (in_order es) (in_order_pairs es (pairs_tail HasOtherKey e es other)) (All-permutation (HasOtherKey e) es (in_order es) (in_order_same es) (pairs_head HasOtherKey e es other))

distinct_from_order : (es : List Entry) → IsAscending (in_order es) → HaveDistinctKeys es
distinct_from_order es up = other_permuted (in_order es) es (IsPermutation-sym es (in_order es) (in_order_same es)) (other_from_ascending (in_order es) (pairs_from_ascending (in_order es) up))

-- what a sort leaves of them
pub is_in_order : (es sorted : List Entry) → IsAscending (in_order es) → IsPermutation es sorted → (HaveDistinctKeys es → IsAscending sorted) → sorted ≡ in_order es
is_in_order es sorted up same sorts =
    one_order (λ e f. key_cmp e.key f.key) key_total sorted (in_order es) (pairs_from_ascending sorted (sorts (distinct_from_order es up))) (pairs_from_ascending (in_order es) up)
    (IsPermutation-trans sorted es (in_order es) (IsPermutation-sym es sorted same) (in_order_same es))
