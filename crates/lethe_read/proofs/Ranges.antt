-- The entries of a range among entries in the order of their keys, one entry after another.
use Rattle.std.proofs.Common.{◌≡◌, ℕ, zero, suc, ◌+◌, ◌<◌, ◌≤◌, Bool, true, false, not, ◌&&◌, List, [], ◌∷◌, ◌++◌, drop, cond, Some, None, slice_get, refl, sym, ap, ◌∙◌, arith, add-one, append_assoc, append-nil}
use Rattle.std.specs.Prelude.{filter}
use Rattle.std.specs.declared.cmp.Ordering.{Ordering}
use Rattle.std.specs.declared.cmp.Ordering.TheVariants.{Less, Equal, Greater}
use Rattle.std.specs.Ordering.{is_lt, is_le, ordering_reverse}
use Rattle.std.proofs.lemmas.List.Kept.{AllPairs-filter}
use Rattle.lethe_base.specs.Keys.{Bytes, key_cmp}
use Rattle.lethe_base.specs.Entries.{IsAscending}
use Rattle.lethe_base.specs.Read.{is_between}
use Rattle.lethe_base.specs.declared.entry.Entry.{Entry}
use Rattle.lethe_mem.specs.Order.{count_below}
use Rattle.lethe_mem.proofs.Places.{turned}
use Rattle.lethe_mem.proofs.Order.{below_stands, rest_stands, nothing_stands, drop-count_below}
use Rattle.lethe_tile.proofs.Orders.{HasLowerKey, ascending_from_pairs, pairs_from_ascending}

abbrev pub entries_between : Bytes → Bytes → List Entry → List Entry
entries_between lo hi es = filter (λ entry. is_between lo hi entry.key) es

-- entries in order, some of them left out
pub between_ascends : (lo hi : Bytes) (es : List Entry) → IsAscending es → IsAscending (entries_between lo hi es)
between_ascends lo hi es ascending = ascending_from_pairs (entries_between lo hi es) (AllPairs-filter HasLowerKey (λ entry. is_between lo hi entry.key) es (pairs_from_ascending es ascending))

-- one entry more in front
pick : (lo hi : Bytes) (e : Entry) (es : List Entry) → is_between lo hi e.key ≡ true → entries_between lo hi (e ∷ es) ≡ e ∷ entries_between lo hi es
pick lo hi e es within = ap (λ b. cond b (e ∷ entries_between lo hi es) (entries_between lo hi es)) within

skip : (lo hi : Bytes) (e : Entry) (es : List Entry) → is_between lo hi e.key ≡ false → entries_between lo hi (e ∷ es) ≡ entries_between lo hi es
skip lo hi e es outside = ap (λ b. cond b (e ∷ entries_between lo hi es) (entries_between lo hi es)) outside

-- of two tests one of which fails
first_fails : (a b : Bool) → a ≡ false → a && b ≡ false
first_fails true b e = absurd (cc)
first_fails false b e = refl

second_fails : (a b : Bool) → b ≡ false → a && b ≡ false
second_fails true b e = e
second_fails false b e = refl

not_below : (r : Ordering) → is_lt r ≡ true → is_le (ordering_reverse r) ≡ false
not_below Less e = refl
not_below Equal e = absurd (cc)
not_below Greater e = absurd (cc)

not_above : (r : Ordering) → is_lt r ≡ false → is_le (ordering_reverse r) ≡ true
not_above Less e = absurd (cc)
not_above Equal e = refl
not_above Greater e = refl

-- a key below the range, past it, and in it
below_range : (lo hi key : Bytes) → is_lt (key_cmp key lo) ≡ true → is_between lo hi key ≡ false
below_range lo hi key low = first_fails _ _ (ap is_le (turned key lo (key_cmp key lo) refl) ∙ not_below (key_cmp key lo) low)

past_range : (lo hi key : Bytes) → is_lt (key_cmp key hi) ≡ false → is_between lo hi key ≡ false
past_range lo hi key high = second_fails (is_le (key_cmp lo key)) _ high

-- the order of two keys, seen from the other side
pub not_less : (x y : Bytes) → is_lt (key_cmp x y) ≡ false → is_le (key_cmp y x) ≡ true
not_less x y low = ap is_le (turned x y (key_cmp x y) refl) ∙ not_above (key_cmp x y) low

in_range : (lo hi key : Bytes) → is_lt (key_cmp key lo) ≡ false → is_lt (key_cmp key hi) ≡ true → is_between lo hi key ≡ true
in_range lo hi key low high = let from : is_le (key_cmp lo key) ≡ true = not_less key lo low in rw from high

-- the entries below the range are left out anyway
below_left_out : (lo hi : Bytes) (es : List Entry) → entries_between lo hi (filter (λ e. not (is_lt (key_cmp e.key lo))) es) ≡ entries_between lo hi es
below_left_out lo hi [] = refl
below_left_out lo hi (e ∷ es) = by_test (below_left_out lo hi es) (is_lt (key_cmp e.key lo)) refl
  where
    by_test : entries_between lo hi (filter (λ e. not (is_lt (key_cmp e.key lo))) es) ≡ entries_between lo hi es → (low : Bool) → is_lt (key_cmp e.key lo) ≡ low
        → entries_between lo hi (cond (not low) (e ∷ filter (λ e. not (is_lt (key_cmp e.key lo))) es) (filter (λ e. not (is_lt (key_cmp e.key lo))) es)) ≡ entries_between lo hi (e ∷ es)
    by_test rest true is = rest ∙ sym (skip lo hi e es (below_range lo hi e.key is))
    by_test rest false is = ap (λ l. cond (is_between lo hi e.key) (e ∷ l) l) rest

-- the entries of the range stand behind those below it
pub from_first : (lo hi : Bytes) (es : List Entry) → IsAscending es → entries_between lo hi (drop (count_below lo es) es) ≡ entries_between lo hi es
from_first lo hi es ascending = ap (entries_between lo hi) (drop-count_below lo es ascending) ∙ below_left_out lo hi es

-- no entry from such a place on is below the key
not_below_from : (key : Bytes) (es : List Entry) (place : ℕ) (e : Entry) → IsAscending es → count_below key es ≤ place → slice_get es place ≡ Some e → is_lt (key_cmp e.key key) ≡ false
not_below_from key es place e ascending from is = by_test (is_lt (key_cmp e.key key)) refl
  where
    by_test : (low : Bool) → is_lt (key_cmp e.key key) ≡ low → low ≡ false
    by_test true low = absurd (omega (arith, below_stands key es place e ascending is low))
    by_test false low = refl

drop_at : (es : List Entry) (place : ℕ) (e : Entry) → slice_get es place ≡ Some e → drop place es ≡ e ∷ drop (suc place) es
drop_at [] place e is = absurd (let clash : None ≡ Some e = is in cc)
drop_at (x ∷ es) zero e is = let same : x ≡ e = cc in ap (λ x. x ∷ es) same
drop_at (x ∷ es) (suc place) e is = drop_at es place e is

-- an entry before such a place is below the key
below_before : (key : Bytes) (es : List Entry) (place : ℕ) (e : Entry) → IsAscending es → place < count_below key es → slice_get es place ≡ Some e → is_lt (key_cmp e.key key) ≡ true
below_before key es place e ascending before is = by_test (is_lt (key_cmp e.key key)) refl
  where
    by_test : (low : Bool) → is_lt (key_cmp e.key key) ≡ low → low ≡ true
    by_test true low = refl
    by_test false low = absurd (omega (arith, rest_stands key es place e ascending is low))

-- there is an entry there
pub stands_before : (key : Bytes) (es : List Entry) (place : ℕ) → place < count_below key es → slice_get es place ≡ None → ⊥
stands_before key es place before is = absurd (omega (arith, nothing_stands key es place is))

-- one entry of the range more
pub next_in_range : (lo hi : Bytes) (es : List Entry) (place : ℕ) (e : Entry) (so_far : List Entry) → IsAscending es → count_below lo es ≤ place
    → place < count_below hi es → slice_get es place ≡ Some e → so_far ++ entries_between lo hi (drop place es) ≡ entries_between lo hi es
    → (so_far ++ e ∷ []) ++ entries_between lo hi (drop (place + 1) es) ≡ entries_between lo hi es
next_in_range lo hi es place e so_far ascending from before is all =
    let within : is_between lo hi e.key ≡ true = in_range lo hi e.key (not_below_from lo es place e ascending from is) (below_before hi es place e ascending before is) in
    let rest : entries_between lo hi (drop place es) ≡ e ∷ entries_between lo hi (drop (place + 1) es) =
    ap (entries_between lo hi) (drop_at es place e is) ∙ pick lo hi e (drop (suc place) es) within
    ∙ ap (λ n. e ∷ entries_between lo hi (drop n es)) (sym (add-one place)) in
    append_assoc so_far (e ∷ []) (entries_between lo hi (drop (place + 1) es)) ∙ ap (λ l. so_far ++ l) (sym rest) ∙ all

none_left : (lo hi : Bytes) (es : List Entry) (place : ℕ) → ((i : ℕ) (e : Entry) → place ≤ i → slice_get es i ≡ Some e → is_lt (key_cmp e.key hi) ≡ false)
    → entries_between lo hi (drop place es) ≡ []
none_left lo hi [] zero high = refl
none_left lo hi [] (suc place) high = refl
none_left lo hi (x ∷ es) zero high = skip lo hi x es (past_range lo hi x.key (high 0 x (omega arith) refl)) ∙ none_left lo hi es zero (λ i e le is. high (suc i) e (omega arith) is)
none_left lo hi (x ∷ es) (suc place) high = none_left lo hi es place (λ i e le is. high (suc i) e (omega arith) is)

-- where no entry is below the upper end any more, all are found
pub all_found : (lo hi : Bytes) (es : List Entry) (place : ℕ) (so_far : List Entry) → IsAscending es → count_below hi es ≤ place
    → so_far ++ entries_between lo hi (drop place es) ≡ entries_between lo hi es → so_far ≡ entries_between lo hi es
all_found lo hi es place so_far ascending from all =
    let none : entries_between lo hi (drop place es) ≡ [] =
    none_left lo hi es place (λ i e le is. not_below_from hi es i e ascending (omega arith) is) in
    sym (append-nil so_far) ∙ ap (λ l. so_far ++ l) (sym none) ∙ all
