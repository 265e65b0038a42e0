-- Entries at indices, in the order of their keys.
use Rattle.std.proofs.Common.{◌≡◌, ℕ, zero, suc, ◌<◌, inl, inr, cond, Option, Some, List, [], ◌∷◌, ◌++◌, length, slice_get, IsTrue, refl, ap, ◌∙◌, arith}
use Rattle.std.specs.List.{cons_option}
use Rattle.std.specs.Ordering.{is_lt, is_eq}
use Rattle.std.specs.declared.cmp.Ordering.TheVariants.{Less, Greater}
use Rattle.std.specs.Cmp.Lexicographic.{nat_list_cmp_total}
use Rattle.std.specs.FinMap.Entries.{below_all}
use Rattle.std.proofs.lemmas.Bool.{and_parts, and_from}
use Rattle.std.proofs.lemmas.List.Elements.{filter_map-append}
use Rattle.lethe_base.specs.Keys.{Bytes, key_cmp, same_key}
use Rattle.lethe_base.specs.Entries.{by_key, IsAscending, entry_of}
use Rattle.lethe_base.specs.declared.entry.Entry.{Entry}
use Rattle.lethe_mem.proofs.Places.{above_head, entry_of-below, less_is, tail_ascends, turned}
use Rattle.lethe_tree.specs.Looked.{Stands}
use Rattle.lethe_tree.specs.Tree.{AllBelow, at_each}

-- the entries at indices, one by one

pub each_here : (entries : List Entry) (i : ℕ) (is : List ℕ) (e : Entry) → slice_get entries i ≡ Some e → at_each entries (i ∷ is) ≡ e ∷ at_each entries is
each_here entries i is e got = ap (λ (o : Option Entry). cons_option o (at_each entries is)) got

pub each_parts : (entries : List Entry) (xs : List ℕ) (i : ℕ) (ys : List ℕ) (e : Entry) → slice_get entries i ≡ Some e → at_each entries (xs ++ i ∷ ys) ≡ at_each entries xs ++ e ∷ at_each entries ys
each_parts entries xs i ys e got = filter_map-append (λ k. slice_get entries k) xs (i ∷ ys) ∙ ap (λ es. at_each entries xs ++ es) (each_here entries i ys e got)

pub got : (entries : List Entry) (i : ℕ) → i < length entries → (e : Entry) × (slice_get entries i ≡ Some e)
got [] i lt = absurd (omega (arith, lt))
got (e ∷ entries) zero lt = (e, refl)
got (e ∷ entries) (suc i) lt = got entries i (omega (arith, lt))

pub below_front : (n : ℕ) (xs ys : List ℕ) → AllBelow n (xs ++ ys) → AllBelow n xs
below_front n [] ys all = tt
below_front n (x ∷ xs) ys all = (all.0, below_front n xs ys all.1)

pub below_back : (n : ℕ) (xs ys : List ℕ) → AllBelow n (xs ++ ys) → AllBelow n ys
below_back n [] ys all = all
below_back n (x ∷ xs) ys all = below_back n xs ys all.1

pub stands_left : (at : ℕ) (xs ys : List ℕ) → Stands at xs → Stands at (xs ++ ys)
stands_left at [] ys h = absurd h
stands_left at (x ∷ xs) ys h = elim h [ inl a ↦ inl a | inr b ↦ inr (stands_left at xs ys b) ]

pub stands_right : (at : ℕ) (xs ys : List ℕ) → Stands at ys → Stands at (xs ++ ys)
stands_right at [] ys h = h
stands_right at (x ∷ xs) ys h = inr (stands_right at xs ys h)

-- entries in order, parted at one

under_front : (k : Bytes) (fs bs : List Entry) → IsTrue (below_all key_cmp k (by_key (fs ++ bs))) → IsTrue (below_all key_cmp k (by_key fs))
under_front k [] bs h = refl
under_front k (a ∷ fs) bs h = let p = and_parts (is_lt (key_cmp k a.key)) (below_all key_cmp k (by_key (fs ++ bs))) h in and_from _ _ p.0 (under_front k fs bs p.1)

under_at : (k : Bytes) (fs : List Entry) (e : Entry) (bs : List Entry) → IsTrue (below_all key_cmp k (by_key (fs ++ e ∷ bs))) → key_cmp k e.key ≡ Less
under_at k [] e bs h = less_is _ (and_parts (is_lt (key_cmp k e.key)) (below_all key_cmp k (by_key bs)) h).0
under_at k (a ∷ fs) e bs h = under_at k fs e bs (and_parts (is_lt (key_cmp k a.key)) (below_all key_cmp k (by_key (fs ++ e ∷ bs))) h).1

pub front_ascends : (fs bs : List Entry) → IsAscending (fs ++ bs) → IsAscending fs
front_ascends [] bs s = refl
front_ascends (a ∷ fs) bs s = and_from _ _ (under_front a.key fs bs (above_head a (fs ++ bs) s)) (front_ascends fs bs (tail_ascends a (fs ++ bs) s))

pub back_ascends : (fs bs : List Entry) → IsAscending (fs ++ bs) → IsAscending bs
back_ascends [] bs s = s
back_ascends (a ∷ fs) bs s = back_ascends fs bs (tail_ascends a (fs ++ bs) s)

-- a key below that of one is looked for before it, and one above behind it
pub entry_of-front : (key : Bytes) (fs : List Entry) (e : Entry) (bs : List Entry) → IsAscending (fs ++ e ∷ bs) → key_cmp key e.key ≡ Less → entry_of key (fs ++ e ∷ bs) ≡ entry_of key fs
entry_of-front key [] e bs s low =
    ap (λ r. cond (is_eq r) (Some e) (entry_of key bs)) low ∙ entry_of-below key e.key bs low (above_head e bs s)
entry_of-front key (a ∷ fs) e bs s low = ap (λ o. cond (same_key key a.key) (Some a) o) (entry_of-front key fs e bs (tail_ascends a (fs ++ e ∷ bs) s) low)

pub entry_of-back : (key : Bytes) (fs : List Entry) (e : Entry) (bs : List Entry) → IsAscending (fs ++ e ∷ bs) → key_cmp key e.key ≡ Greater → entry_of key (fs ++ e ∷ bs) ≡ entry_of key bs
entry_of-back key [] e bs s high = ap (λ r. cond (is_eq r) (Some e) (entry_of key bs)) high
entry_of-back key (a ∷ fs) e bs s high =
    let low : key_cmp a.key e.key ≡ Less = under_at a.key fs e bs (above_head a (fs ++ e ∷ bs) s) in
    let lower : key_cmp a.key key ≡ Less = nat_list_cmp_total.trans a.key e.key key low (turned key e.key Greater high) in
    ap (λ r. cond (is_eq r) (Some a) (entry_of key (fs ++ e ∷ bs))) (turned a.key key Less lower) ∙ entry_of-back key fs e bs (tail_ascends a (fs ++ e ∷ bs) s) high
