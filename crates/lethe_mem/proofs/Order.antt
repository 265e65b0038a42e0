-- What the order of the keys says of counts, places and whole lists.
use Rattle.std.proofs.Common.{◌≡◌, ℕ, zero, suc, ◌<◌, ◌≤◌, Bool, true, false, not, cond, List, [], ◌∷◌, length, drop, Some, None, filter, slice_get, IsTrue, refl, sym, ap, ◌∙◌, subst, arith, map}
use Rattle.std.proofs.lemmas.Bool.{and_parts, true≢false}
use Rattle.std.specs.declared.cmp.Ordering.{Ordering}
use Rattle.std.specs.declared.cmp.Ordering.TheVariants.{Less, Equal, Greater}
use Rattle.std.specs.Ordering.{is_lt, eq_by_cmp}
use Rattle.std.specs.Cmp.Lexicographic.{nat_list_cmp_total}
use Rattle.std.specs.FinMap.Entries.{below_all, same_entries}
use Rattle.lethe_base.specs.Keys.{Bytes, key_cmp}
use Rattle.lethe_base.specs.Entries.{by_key, IsAscending, entry_of}
use Rattle.lethe_base.specs.declared.entry.Entry.{Entry}
use Rattle.lethe_mem.specs.Order.{count_below, OneList, OwnEntries}
use Rattle.lethe_mem.proofs.Places.{tied, own_key, turned, to_T, less_is, equal_is, above_head, tail_ascends}

-- entries by key give the entries back
entries_again : (es : List Entry) → map (λ p. p.1) (by_key es) ≡ es
entries_again [] = refl
entries_again (e ∷ es) = ap (λ rest. e ∷ rest) (entries_again es)

-- entries in order that answer alike are one list
pub one_list : OneList
one_list a b s t alike =
    sym (entries_again a) ∙ ap (map (λ p. p.1)) (same_entries key_cmp nat_list_cmp_total tied (by_key a) (by_key b) (to_T _ s) (to_T _ t) alike) ∙ entries_again b

-- an entry behind the first has a higher key
pub get_above : (x : Bytes) (es : List Entry) (place : ℕ) (e : Entry) → IsTrue (below_all key_cmp x (by_key es)) → slice_get es place ≡ Some e → key_cmp x e.key ≡ Less
get_above x [] place e h is = absurd cc
get_above x (y ∷ es) zero e h is =
    let same : y ≡ e = cc in
    subst (λ (z : Entry). key_cmp x z.key ≡ Less) same (less_is _ (and_parts _ _ h).0)
get_above x (y ∷ es) (suc place) e h is = get_above x es place e (and_parts (is_lt (key_cmp x y.key)) _ h).1 is

-- each entry is the entry of its key
pub entry_of-own : (es : List Entry) (place : ℕ) (e : Entry) → IsAscending es → slice_get es place ≡ Some e → entry_of e.key es ≡ Some e
entry_of-own [] place e s is = absurd cc
entry_of-own (x ∷ es) zero e s is =
    let same : x ≡ e = cc in
    subst (λ (z : Entry). entry_of z.key (x ∷ es) ≡ Some z) same (let self : entry_of x.key (x ∷ es) ≡ Some x = rw (own_key x.key) refl in self)
entry_of-own (x ∷ es) (suc place) e s is =
    let above : key_cmp e.key x.key ≡ Greater = turned x.key e.key Less (get_above x.key es place e (above_head x es s) is) in
    rw above (entry_of-own es place e (tail_ascends x es s) is)

-- where an entry with a key stands
abbrev Stands : List Entry → Bytes → Entry → Type 0
Stands es key e = (place : ℕ) × (slice_get es place ≡ Some e) × (e.key ≡ key)

stands_by_test : (x : Entry) (es : List Entry) (key : Bytes) (e : Entry) (b : Bool) → eq_by_cmp key_cmp key x.key ≡ b → cond b (Some x) (entry_of key es) ≡ Some e → (entry_of key es ≡ Some e → Stands es key e) → Stands (x ∷ es) key e
stands_by_test x es key e true t found rest =
    let same : x ≡ e = cc in
    (0, found, sym (tied key x.key (equal_is _ t) ∙ ap (λ (z : Entry). z.key) same))
stands_by_test x es key e false t found rest = let behind : Stands es key e = rest found in (suc behind.0, behind.1, behind.2)

-- the entry of a key stands in the list, under that key
pub entry_of-stands : (es : List Entry) (key : Bytes) (e : Entry) → entry_of key es ≡ Some e → Stands es key e
entry_of-stands [] key e is = absurd cc
entry_of-stands (x ∷ es) key e is = stands_by_test x es key e (eq_by_cmp key_cmp key x.key) refl is (entry_of-stands es key e)

pub own_entries : OwnEntries
own_entries = record { found = entry_of-own; stands = entry_of-stands }

-- a key above one that isn't below `lo` isn't either
stays_high : (lo x y : Bytes) (r : Ordering) → key_cmp y lo ≡ r → key_cmp x y ≡ Less → is_lt (key_cmp x lo) ≡ false → is_lt r ≡ false
stays_high lo x y Less p above high = absurd (true≢false (sym (ap is_lt (nat_list_cmp_total.trans x y lo above p)) ∙ high))
stays_high lo x y Equal p above high = refl
stays_high lo x y Greater p above high = refl

-- of entries behind one that isn't below `lo` none is
none_below : (lo x : Bytes) (es : List Entry) → is_lt (key_cmp x lo) ≡ false → IsTrue (below_all key_cmp x (by_key es)) → count_below lo es ≡ 0
none_below lo x [] high h = refl
none_below lo x (e ∷ es) high h =
    let above : key_cmp x e.key ≡ Less = less_is _ (and_parts _ _ h).0 in
    let here : is_lt (key_cmp e.key lo) ≡ false = stays_high lo x e.key (key_cmp e.key lo) refl above high in
    rw here (none_below lo x es high (and_parts (is_lt (key_cmp x e.key)) _ h).1)

-- an entry with a key below `lo` stands among the first entries, of which there are `count_below`
pub below_stands : (lo : Bytes) (es : List Entry) (place : ℕ) (e : Entry) → IsAscending es → slice_get es place ≡ Some e → is_lt (key_cmp e.key lo) ≡ true → place < count_below lo es
below_stands lo [] place e s is low = absurd cc
below_stands lo (x ∷ es) zero e s is low =
    let same : x ≡ e = cc in
    let here : is_lt (key_cmp x.key lo) ≡ true = ap (λ (z : Entry). is_lt (key_cmp z.key lo)) same ∙ low in
    rw here (omega arith)
below_stands lo (x ∷ es) (suc place) e s is low =
    let above : key_cmp x.key e.key ≡ Less = get_above x.key es place e (above_head x es s) is in
    let here : is_lt (key_cmp x.key lo) ≡ true = ap is_lt (nat_list_cmp_total.trans x.key e.key lo above (less_is _ low)) in
    let rest : place < count_below lo es = below_stands lo es place e (tail_ascends x es s) is low in
    rw here (omega arith)

one_more : (b : Bool) (x : Entry) (es : List Entry) (n : ℕ) → length es ≤ n → length (cond b (x ∷ es) es) ≤ suc n
one_more true x es n le = omega arith
one_more false x es n le = omega arith

-- and one with any other key stands behind them
pub rest_stands : (lo : Bytes) (es : List Entry) (place : ℕ) (e : Entry) → IsAscending es → slice_get es place ≡ Some e → is_lt (key_cmp e.key lo) ≡ false → count_below lo es ≤ place
rest_stands lo [] place e s is high = absurd cc
rest_stands lo (x ∷ es) zero e s is high =
    let same : x ≡ e = cc in
    let here : is_lt (key_cmp x.key lo) ≡ false = ap (λ (z : Entry). is_lt (key_cmp z.key lo)) same ∙ high in
    rw here (omega (arith, none_below lo x.key es here (above_head x es s)))
rest_stands lo (x ∷ es) (suc place) e s is high =
    one_more (is_lt (key_cmp x.key lo)) x _ place (rest_stands lo es place e (tail_ascends x es s) is high)

-- there are no more entries with keys below `lo` than entries
pub count_below-le : (lo : Bytes) (es : List Entry) → count_below lo es ≤ length es
count_below-le lo [] = omega arith
count_below-le lo (x ∷ es) = one_more (is_lt (key_cmp x.key lo)) x _ (length es) (count_below-le lo es)

-- so none stands past the end
pub nothing_stands : (lo : Bytes) (es : List Entry) (place : ℕ) → slice_get es place ≡ None → count_below lo es ≤ place
nothing_stands lo [] place is = omega arith
nothing_stands lo (x ∷ es) zero is = absurd cc
nothing_stands lo (x ∷ es) (suc place) is = one_more (is_lt (key_cmp x.key lo)) x _ place (nothing_stands lo es place is)

all_high : (lo x : Bytes) (es : List Entry) → is_lt (key_cmp x lo) ≡ false → IsTrue (below_all key_cmp x (by_key es)) → filter (λ e. not (is_lt (key_cmp e.key lo))) es ≡ es
all_high lo x [] high h = refl
all_high lo x (e ∷ es) high h =
    let above : key_cmp x e.key ≡ Less = less_is _ (and_parts _ _ h).0 in
    let here : is_lt (key_cmp e.key lo) ≡ false = stays_high lo x e.key (key_cmp e.key lo) refl above high in
    rw here (ap (λ rest. e ∷ rest) (all_high lo x es high (and_parts (is_lt (key_cmp x e.key)) _ h).1))

drop_by_test : (lo : Bytes) (x : Entry) (es : List Entry) (b : Bool) → is_lt (key_cmp x.key lo) ≡ b → IsAscending (x ∷ es)
    → drop (count_below lo es) es ≡ filter (λ e. not (is_lt (key_cmp e.key lo))) es → drop (count_below lo (x ∷ es)) (x ∷ es) ≡ filter (λ e. not (is_lt (key_cmp e.key lo))) (x ∷ es)
drop_by_test lo x es true here s rest = rw here rest
drop_by_test lo x es false here s rest = rw (here, none_below lo x.key es here (above_head x es s)) (ap (λ es. x ∷ es) (sym (all_high lo x.key es here (above_head x es s))))

-- behind the entries with keys below `lo` stand those with other keys
pub drop-count_below : (lo : Bytes) (es : List Entry) → IsAscending es → drop (count_below lo es) es ≡ filter (λ e. not (is_lt (key_cmp e.key lo))) es
drop-count_below lo [] s = refl
drop-count_below lo (x ∷ es) s = drop_by_test lo x es (is_lt (key_cmp x.key lo)) refl s (drop-count_below lo es (tail_ascends x es s))
