-- Where a key stands among entries in the order of their keys, and what a write there makes of them.
use Rattle.std.proofs.Common.{◌≡◌, ℕ, zero, suc, ◌<◌, ◌≤◌, ◌-◌, Bool, true, false, List, [], ◌∷◌, length, get_or, set, T, Some, None, Result, Ok, Err, IfOk, IfErr, IsTrue, refl, sym, ap, ◌∙◌, subst, arith}
use Rattle.std.proofs.lemmas.Bool.{and_parts}
use Rattle.std.proofs.lemmas.Option.{get_or_from_slice_get, slice_get_within}
use Rattle.std.specs.List.{slice_get}
use Rattle.std.specs.declared.cmp.Ordering.{Ordering}
use Rattle.std.specs.declared.cmp.Ordering.TheVariants.{Less, Equal, Greater}
use Rattle.std.specs.Ordering.{ordering_index, ordering_reverse, is_lt, is_eq}
use Rattle.std.specs.Cmp.{tied_itself}
use Rattle.std.specs.Cmp.Lexicographic.{nat_list_cmp_total}
use Rattle.std.specs.FinMap as finmap
use Rattle.std.specs.FinMap.Entries.{put, below_all, is_sorted-put, find-put}
use Rattle.std.specs.List.{insert}
use Rattle.std.specs.List.Sorted.{IsSearchInRange, IsBinarySearchResult, IsNonDecreasingBy}
use Rattle.lethe_base.specs.Keys.{Bytes, key_cmp}
use Rattle.lethe_base.specs.Entries.{by_key, IsAscending, entry_of, Inserts}
use Rattle.lethe_base.specs.declared.entry.Entry.{Entry}
use Rattle.lethe_mem.specs.Places.{IsAt, IsGap}

-- keys that tie are one key
pub tied : (x y : Bytes) → key_cmp x y ≡ Equal → x ≡ y
tied = finmap.slice_cmp-IsAntisymmetric finmap.nat_cmp-IsAntisymmetric

pub own_key : (x : Bytes) → key_cmp x x ≡ Equal
own_key x = tied_itself nat_list_cmp_total x

-- the order, seen from the other side
pub turned : (x y : Bytes) (r : Ordering) → key_cmp x y ≡ r → key_cmp y x ≡ ordering_reverse r
turned x y r e = nat_list_cmp_total.antisymm y x ∙ ap ordering_reverse e

-- a test that passes, in the two forms that the lemmas on maps and the contracts have
pub to_T : (b : Bool) → IsTrue b → T b
to_T true h = tt
to_T false h = absurd cc

pub from_T : (b : Bool) → T b → IsTrue b
from_T true h = refl
from_T false h = absurd h

pub less_is : (r : Ordering) → IsTrue (is_lt r) → r ≡ Less
less_is Less h = refl
less_is Equal h = absurd cc
less_is Greater h = absurd cc

pub equal_is : (r : Ordering) → IsTrue (is_eq r) → r ≡ Equal
equal_is Less h = absurd cc
equal_is Equal h = refl
equal_is Greater h = absurd cc

-- the first key of entries in order is below the others, and the others are in order
pub above_head : (e : Entry) (es : List Entry) → IsAscending (e ∷ es) → IsTrue (below_all key_cmp e.key (by_key es))
above_head e es s = (and_parts _ _ s).0

pub tail_ascends : (e : Entry) (es : List Entry) → IsAscending (e ∷ es) → IsAscending es
tail_ascends e es s = (and_parts (below_all key_cmp e.key (by_key es)) _ s).1

-- what stands below all keys stands below each
pub each_above : (x : Bytes) (es : List Entry) (k : ℕ) (d : Entry) → IsTrue (below_all key_cmp x (by_key es)) → k < length es → key_cmp x (get_or es k d).key ≡ Less
each_above x [] k d h lt = absurd (omega arith)
each_above x (e ∷ es) zero d h lt = less_is _ (and_parts _ _ h).0
each_above x (e ∷ es) (suc k) d h lt = each_above x es k d (and_parts (is_lt (key_cmp x e.key)) _ h).1 (omega arith)

-- what a key finds where it stands
pub entry_of-at : (key : Bytes) (es : List Entry) (place : ℕ) (d : Entry) → IsAt key es place → entry_of key es ≡ Some (get_or es place d)
entry_of-at key [] place d h = absurd h
entry_of-at key (e ∷ es) zero d h = rw h refl
entry_of-at key (e ∷ es) (suc place) d h = rw h.0 (entry_of-at key es place d h.1)

-- below the first of keys in order nothing is found
pub entry_of-below : (key x : Bytes) (es : List Entry) → key_cmp key x ≡ Less → IsTrue (below_all key_cmp x (by_key es)) → entry_of key es ≡ None
entry_of-below key x [] lt h = refl
entry_of-below key x (e ∷ es) lt h =
    let lower : key_cmp key e.key ≡ Less = nat_list_cmp_total.trans key x e.key lt (less_is _ (and_parts _ _ h).0) in
    rw lower (entry_of-below key x es lt (and_parts (is_lt (key_cmp x e.key)) _ h).1)

-- nor is it at a gap
pub entry_of-gap : (key : Bytes) (es : List Entry) (place : ℕ) → IsAscending es → IsGap key es place → entry_of key es ≡ None
entry_of-gap key [] place s h = refl
entry_of-gap key (e ∷ es) zero s h = rw h (entry_of-below key e.key es h (above_head e es s))
entry_of-gap key (e ∷ es) (suc place) s h = rw h.0 (entry_of-gap key es place (tail_ascends e es s) h.1)

-- a write over the entry of the key, and one in its gap
pub by_key-set : (entry : Entry) (es : List Entry) (place : ℕ) → IsAt entry.key es place → by_key (set es place entry) ≡ put key_cmp entry.key entry (by_key es)
by_key-set entry [] place h = absurd h
by_key-set entry (e ∷ es) zero h = rw h (ap (λ k. (k, entry) ∷ by_key es) (tied entry.key e.key h))
by_key-set entry (e ∷ es) (suc place) h = rw h.0 (ap (λ rest. (e.key, e) ∷ rest) (by_key-set entry es place h.1))

pub by_key-insert : (entry : Entry) (es : List Entry) (place : ℕ) → IsGap entry.key es place → by_key (insert es place entry) ≡ put key_cmp entry.key entry (by_key es)
by_key-insert entry [] zero h = refl
by_key-insert entry [] (suc place) h = absurd h
by_key-insert entry (e ∷ es) zero h = rw h refl
by_key-insert entry (e ∷ es) (suc place) h = rw h.0 (ap (λ rest. (e.key, e) ∷ rest) (by_key-insert entry es place h.1))

-- entries by key with one put are what an insert makes
pub inserts_from_put : (entry : Entry) (old new : List Entry) → IsAscending old → by_key new ≡ put key_cmp entry.key entry (by_key old) → Inserts entry old new
inserts_from_put entry old new s e = record {
  ascending = subst (λ es. IsTrue (finmap.is_sorted key_cmp es)) (sym e) (from_T _ (is_sorted-put key_cmp nat_list_cmp_total entry.key entry (by_key old) (to_T _ s)));
  entries = λ key. ap (finmap.find key_cmp key) e ∙ find-put key_cmp nat_list_cmp_total key entry.key entry (by_key old);
}

pub inserts_at : (entry : Entry) (es : List Entry) (place : ℕ) → IsAscending es → IsAt entry.key es place → Inserts entry es (set es place entry)
inserts_at entry es place s h = inserts_from_put entry es _ s (by_key-set entry es place h)

pub inserts_gap : (entry : Entry) (es : List Entry) (place : ℕ) → IsAscending es → IsGap entry.key es place → Inserts entry es (insert es place entry)
inserts_gap entry es place s h = inserts_from_put entry es _ s (by_key-insert entry es place h)

-- the comparisons with a key rise along entries in order
two_rise : (x y k : Bytes) → key_cmp x y ≡ Less → ordering_index (key_cmp x k) ≤ ordering_index (key_cmp y k)
two_rise x y k lt = by_case (key_cmp y k) refl
  where
    by_case : (r : Ordering) → key_cmp y k ≡ r → ordering_index (key_cmp x k) ≤ ordering_index r
    by_case Less e = rw (nat_list_cmp_total.trans x y k lt e) (omega arith)
    by_case Equal e = rw (← tied y k e, lt) (omega arith)
    by_case Greater e = elim (key_cmp x k) as (λ r. ordering_index r ≤ 2) [ Less ↦ omega arith | Equal ↦ omega arith | Greater ↦ omega arith ]

rise : (k : Bytes) (es : List Entry) → IsAscending es → IsNonDecreasingBy (λ e. ordering_index (key_cmp e.key k)) es
rise k [] s i j d le lt = absurd (omega arith)
rise k (e ∷ es) s zero zero d le lt = omega arith
rise k (e ∷ es) s zero (suc j) d le lt = two_rise e.key _ k (each_above e.key es j d (above_head e es s) (omega arith))
rise k (e ∷ es) s (suc i) zero d le lt = absurd (omega arith)
rise k (e ∷ es) s (suc i) (suc j) d le lt = rise k es (tail_ascends e es s) i j d (omega arith) (omega arith)

-- from comparisons by index to the places
at_from : (k : Bytes) (es : List Entry) (place : ℕ) (d : Entry) → IsAscending es → place < length es → key_cmp (get_or es place d).key k ≡ Equal → IsAt k es place
at_from k [] place d s lt e = absurd (omega arith)
at_from k (x ∷ es) zero d s lt e = turned x.key k Equal e
at_from k (x ∷ es) (suc place) d s lt e = (
  turned x.key k Less (subst (λ key. key_cmp x.key key ≡ Less) (tied _ k e) (each_above x.key es place d (above_head x es s) (omega arith))),
  at_from k es place d (tail_ascends x es s) (omega arith) e,
)

gap_from : (k : Bytes) (es : List Entry) (place : ℕ) (d : Entry) → place ≤ length es
    → ((j : ℕ) → j < place → key_cmp (get_or es j d).key k ≡ Less) → ((j : ℕ) → place ≤ j → j < length es → key_cmp (get_or es j d).key k ≡ Greater) → IsGap k es place
gap_from k [] zero d le low high = tt
gap_from k [] (suc place) d le low high = absurd (omega arith)
gap_from k (e ∷ es) zero d le low high = turned e.key k Greater (high 0 (omega arith) (omega arith))
gap_from k (e ∷ es) (suc place) d le low high = (
  turned e.key k Less (low 0 (omega arith)),
  gap_from k es place d (omega arith) (λ j lt. low (suc j) (omega arith)) (λ j le lt. high (suc j) (omega arith) (omega arith)),
)

-- what a binary search finds
pub searched : (k : Bytes) (es : List Entry) (r : Result ℕ ℕ) → IsAscending es → IsSearchInRange r (length es) → IsBinarySearchResult (λ e. key_cmp e.key k) es r
    → IfOk r (IsAt k es) × IfErr r (IsGap k es)
searched k [] (Ok place) s within found = absurd (omega arith)
searched k (e ∷ es) (Ok place) s within found = (at_from k (e ∷ es) place e s within (found e), tt)
searched k [] (Err zero) s within parted = (tt, tt)
searched k [] (Err (suc place)) s within parted = absurd (omega arith)
searched k (e ∷ es) (Err place) s within parted =
    let point = parted (rise k (e ∷ es) s) in
    (tt, gap_from k (e ∷ es) place e within (λ j lt. point.0 j e (omega arith) lt) (λ j le lt. point.1 j e le lt))

-- a key above the last one goes behind all
pub behind_last : (k : Bytes) (es : List Entry) (last : Entry) → IsAscending es → slice_get es (length es - 1) ≡ Some last → key_cmp last.key k ≡ Less → IsGap k es (length es)
behind_last k es last s found lt =
    let within = slice_get_within es (length es - 1) last found in
    let is_last = get_or_from_slice_get es (length es - 1) last last found in
    let least : key_cmp (get_or es (length es - 1) last).key k ≡ Less = ap (λ (e : Entry). key_cmp e.key k) is_last ∙ lt in
    gap_from k es (length es) last (omega arith)
    (λ j below. lowest _ (subst (λ r. ordering_index (key_cmp (get_or es j last).key k) ≤ ordering_index r) least (rise k es s j (length es - 1) last (omega arith) (omega arith))))
    (λ j from below. absurd (omega arith))
  where
    lowest : (r : Ordering) → ordering_index r ≤ 0 → r ≡ Less
    lowest Less h = refl
    lowest Equal h = absurd (omega arith)
    lowest Greater h = absurd (omega arith)
