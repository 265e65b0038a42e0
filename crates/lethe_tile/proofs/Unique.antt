-- Entries in order are woven in one way: a cut has one form, and a page one order.
use Rattle.std.proofs.Common.{◌≡◌, ℕ, zero, suc, ◌*◌, ◌<◌, ◌≤◌, ◌⊎◌, List, [], ◌∷◌, ◌++◌, length, get_or, Some, All, AllPairs, Contains, IsPermutation, refl, sym, ap, ◌∙◌, subst, inl, inr, append-nil, length-append, arith}
use Rattle.std.specs.Cmp.{IsTotalOrder}
use Rattle.std.specs.List.{AllZip}
use Rattle.std.specs.Ordering.{ordering_reverse}
use Rattle.std.specs.declared.cmp.Ordering.{Ordering}
use Rattle.std.specs.declared.cmp.Ordering.TheVariants.{Less, Equal, Greater}
use Rattle.std.proofs.lemmas.Bool.{true≢false}
use Rattle.std.proofs.lemmas.List.Elements.{All-nil, All-cons, All-head, All-tail, All-weaker, All-append, All-contains, All-contains_itself}
use Rattle.std.proofs.lemmas.List.Kept.{AllPairs-cons}
use Rattle.std.proofs.lemmas.List.Sorted.{All-permutation, Contains-permutation, IsPermutation-append_left, IsPermutation-append_comm, IsPermutation-cons, IsPermutation-refl, IsPermutation-sym, IsPermutation-trans}
use Rattle.lethe_base.specs.Keys.{key_cmp}
use Rattle.lethe_base.specs.Entries.{IsAscending}
use Rattle.lethe_base.specs.Layout as layout
use Rattle.lethe_base.specs.declared.entry.Entry.{Entry}
use Rattle.lethe_tile.specs.Woven.{joined, IsCut, ComesBefore, IsBelow, IsPaged, IsTile, OneWeave, HaveDistinctKeys, weave_cmp, puts_of, tombs_of, page_of}
use Rattle.lethe_tile.proofs.Orders.{pairs_nil, pairs_head, pairs_tail, Across, HasOtherKey, pairs_from_ascending, pairs_from_other, puts_have_distinct_keys, other_permuted, key_total, weave_total, weave_ties}
use Rattle.lethe_tile.proofs.Pages.{parts_pairs, sorts_cut, sorts_same, below_sorts, all_zip_weaker, slices_ascend}

-- a cut

append_split : {X : Type 0} (xs ys us vs : List X) → length xs ≡ length ys → xs ++ us ≡ ys ++ vs → (xs ≡ ys) × (us ≡ vs)
append_split [] [] us vs long is = (refl, is)
append_split [] (y ∷ ys) us vs long is = absurd (omega (arith, long))
append_split (x ∷ xs) [] us vs long is = absurd (omega (arith, long))
append_split (x ∷ xs) (y ∷ ys) us vs long is =
    let first : x ≡ y = cc in
    let behind : xs ++ us ≡ ys ++ vs = cc in
    let rest = append_split xs ys us vs (omega (arith, long)) behind in
    (ap (λ z. z ∷ xs) first ∙ ap (λ zs. y ∷ zs) rest.0, rest.1)

cut_long : {X : Type 0} (most : ℕ) (part : List X) (parts : List (List X)) → IsCut most (part ∷ parts) → 0 < length (joined (part ∷ parts))
cut_long most part [] cut = omega (arith, cut.0, length-append part [])
cut_long most part (next ∷ parts) cut = omega (arith, cut_long most next parts cut.1, length-append part (joined (next ∷ parts)))

none_long : {X : Type 0} (most : ℕ) (part : List X) (parts : List (List X)) → IsCut most (part ∷ parts) → [] ≡ joined (part ∷ parts) → ⊥
none_long most part parts cut is = let long : 0 < length (joined (part ∷ parts)) = cut_long most part parts cut in let none : 0 ≡ length (joined (part ∷ parts)) = ap length is in omega arith

-- a last part is shorter than a full one with more behind it
too_long : {X : Type 0} (most : ℕ) (last part next : List X) (parts : List (List X)) → length last ≤ most → IsCut most (part ∷ next ∷ parts) → last ++ [] ≡ joined (part ∷ next ∷ parts) → ⊥
too_long most last part next parts short cut is =
    let long : 0 < length (joined (next ∷ parts)) = cut_long most next parts cut.1 in
    let same : length (last ++ []) ≡ length (part ++ joined (next ∷ parts)) = ap length is in
    omega (arith, cut.0, length-append last [], length-append part (joined (next ∷ parts)))

pub one_cut : {X : Type 0} (most : ℕ) (ps qs : List (List X)) → IsCut most ps → IsCut most qs → joined ps ≡ joined qs → ps ≡ qs
one_cut most [] [] cut cut' is = refl
one_cut most [] (q ∷ qs) cut cut' is = absurd (none_long most q qs cut' is)
one_cut most (p ∷ ps) [] cut cut' is = absurd (none_long most p ps cut (sym is))
one_cut most (p ∷ []) (q ∷ []) cut cut' is = ap (λ z. z ∷ []) (sym (append-nil p) ∙ is ∙ append-nil q)
one_cut most (p ∷ []) (q ∷ q' ∷ qs) cut cut' is = absurd (too_long most p q q' qs cut.1 cut' is)
one_cut most (p ∷ p' ∷ ps) (q ∷ []) cut cut' is = absurd (too_long most q p p' ps cut'.1 cut (sym is))
one_cut most (p ∷ p' ∷ ps) (q ∷ q' ∷ qs) cut cut' is =
    let split = append_split p q (joined (p' ∷ ps)) (joined (q' ∷ qs)) (cut.0 ∙ sym cut'.0) is in
    ap (λ z. z ∷ p' ∷ ps) split.0 ∙ ap (λ zs. q ∷ zs) (one_cut most (p' ∷ ps) (q' ∷ qs) cut.1 cut'.1 split.1)

-- an order

among_cases : {X : Type 0} (x y : X) (ys : List X) (k : ℕ) → k < length (y ∷ ys) → get_or (y ∷ ys) k x ≡ x → (y ≡ x) ⊎ Contains ys x
among_cases x y ys zero below is = inl is
among_cases x y ys (suc k) below is = inr (k, omega arith, is)

Contains-cases : {X : Type 0} (x y : X) (ys : List X) → Contains (y ∷ ys) x → (y ≡ x) ⊎ Contains ys x
Contains-cases x y ys h = among_cases x y ys h.0 h.1 h.2

not_both : (cmp : Entry → Entry → Ordering) → IsTotalOrder cmp → (x y : Entry) → cmp x y ≡ Less → cmp y x ≡ Less → ⊥
not_both cmp total x y xy yx = let turned : cmp x y ≡ Greater = total.antisymm x y ∙ ap ordering_reverse yx in cc

-- what is above the first of a list, and in it, stands behind the first
behind : (cmp : Entry → Entry → Ordering) → IsTotalOrder cmp → (x y : Entry) (xs ys : List Entry) → x ≡ y → All (λ e. cmp x e ≡ Less) xs → All (Contains (y ∷ ys)) xs → All (Contains ys) xs
behind cmp total x y xs ys same above within k d below =
    let z = get_or xs k d in
    elim (Contains-cases z y ys (within k d below)) [
      | inl is ↦ absurd (let here : cmp x z ≡ Less = above k d below in let self : cmp x x ≡ Less = subst (λ e. cmp x e ≡ Less) (sym (same ∙ is)) here in not_both cmp total x x self self)
      | inr there ↦ there
    ]

same_order : (cmp : Entry → Entry → Ordering) → IsTotalOrder cmp → (xs ys : List Entry) → AllPairs (λ e f. cmp e f ≡ Less) xs → AllPairs (λ e f. cmp e f ≡ Less) ys
    → All (Contains ys) xs → All (Contains xs) ys → xs ≡ ys
same_order cmp total [] [] o o' xy yx = refl
same_order cmp total [] (y ∷ ys) o o' xy yx = absurd (let there = All-head (Contains []) y ys yx in omega (arith, there.1))
same_order cmp total (x ∷ xs) [] o o' xy yx = absurd (let there = All-head (Contains []) x xs xy in omega (arith, there.1))
same_order cmp total (x ∷ xs) (y ∷ ys) o o' xy yx =
    let R : Entry → Entry → Type 0 = λ e f. cmp e f ≡ Less in
    let above = pairs_head R x xs o in
    let above' = pairs_head R y ys o' in
    let first : x ≡ y =
    elim (Contains-cases x y ys (All-head (Contains (y ∷ ys)) x xs xy)) [
      | inl is ↦ sym is
      | inr there ↦ elim (Contains-cases y x xs (All-head (Contains (x ∷ xs)) y ys yx)) [
        | inl is ↦ is
        | inr there' ↦ absurd (not_both cmp total x y (All-contains (R x) xs y above there') (All-contains (R y) ys x above' there))
      ]
    ]
    in
    let rest = same_order cmp total xs ys (pairs_tail R x xs o) (pairs_tail R y ys o') (behind cmp total x y xs ys first above (All-tail (Contains (y ∷ ys)) x xs xy)) (behind cmp total y x ys xs (sym first) above' (All-tail (Contains (x ∷ xs)) y ys yx)) in
    ap (λ e. e ∷ xs) first ∙ ap (λ es. y ∷ es) rest

holds_all : (xs ys : List Entry) → IsPermutation xs ys → All (Contains ys) xs
holds_all xs ys same = All-weaker (Contains xs) (Contains ys) (λ x. Contains-permutation xs ys x same) xs (All-contains_itself xs)

-- the same entries in one order are one list
pub one_order : (cmp : Entry → Entry → Ordering) → IsTotalOrder cmp → (xs ys : List Entry) → AllPairs (λ e f. cmp e f ≡ Less) xs → AllPairs (λ e f. cmp e f ≡ Less) ys → IsPermutation xs ys → xs ≡ ys
one_order cmp total xs ys o o' same = same_order cmp total xs ys o o' (holds_all xs ys same) (holds_all ys xs (IsPermutation-sym xs ys same))

-- the entries of a page in the order of a tile

record IsOrderOf (es ordered : List Entry) : Type 0 where
  same : IsPermutation es ordered
  order : AllPairs ComesBefore ordered

record Ordered (es : List Entry) : Type 0 where
  list : List Entry
  is : IsOrderOf es list

swapped : (e x : Entry) (xs : List Entry) → IsPermutation (e ∷ x ∷ xs) (x ∷ e ∷ xs)
swapped e x xs = IsPermutation-append_left xs (e ∷ x ∷ []) (x ∷ e ∷ []) (IsPermutation-append_comm (e ∷ []) (x ∷ []))

put_by : (e x : Entry) (xs : List Entry) (r : Ordering) → weave_cmp e x ≡ r → AllPairs ComesBefore (x ∷ xs) → HasOtherKey e x → Ordered (e ∷ xs) → Ordered (e ∷ x ∷ xs)
put_by e x xs Less is o other rest = record {
  list = e ∷ x ∷ xs;
  is = record {
    same = IsPermutation-refl (e ∷ x ∷ xs);
    order = AllPairs-cons ComesBefore e (x ∷ xs) (All-cons (ComesBefore e) x xs is (All-weaker (ComesBefore x) (ComesBefore e) (λ f below. weave_total.trans e x f is below) xs (pairs_head ComesBefore x xs o))) o;
  };
}
put_by e x xs Equal is o other rest = absurd (true≢false (sym (weave_ties e x is) ∙ other))
put_by e x xs Greater is o other rest =
    let below : weave_cmp x e ≡ Less = weave_total.antisymm x e ∙ ap ordering_reverse is in
    let above : All (ComesBefore x) (e ∷ xs) = All-cons (ComesBefore x) e xs below (pairs_head ComesBefore x xs o) in
    record {
      list = x ∷ rest.list;
      is = record {
        same = IsPermutation-trans (e ∷ x ∷ xs) (x ∷ e ∷ xs) (x ∷ rest.list) (swapped e x xs) (IsPermutation-cons x (e ∷ xs) rest.list rest.is.same);
        order = AllPairs-cons ComesBefore x rest.list (All-permutation (ComesBefore x) (e ∷ xs) rest.list rest.is.same above) rest.is.order;
      };
    }

put_in : (e : Entry) (xs : List Entry) → AllPairs ComesBefore xs → All (HasOtherKey e) xs → Ordered (e ∷ xs)
put_in e [] o other = record { list = e ∷ []; is = record { same = IsPermutation-refl (e ∷ []); order = AllPairs-cons ComesBefore e [] (All-nil (ComesBefore e)) o } }
put_in e (x ∷ xs) o other =
    put_by e x xs (weave_cmp e x) refl o (All-head (HasOtherKey e) x xs other) (put_in e xs (pairs_tail ComesBefore x xs o) (All-tail (HasOtherKey e) x xs other))

ordered : (es : List Entry) → AllPairs HasOtherKey es → Ordered es
ordered [] other = record { list = []; is = record { same = IsPermutation-refl []; order = pairs_nil ComesBefore } }
ordered (e ∷ es) other =
    let rest = ordered es (pairs_tail HasOtherKey e es other) in
    let put = put_in e rest.list rest.is.order (All-permutation (HasOtherKey e) es rest.list rest.is.same (pairs_head HasOtherKey e es other)) in
    record { list = put.list; is = record { same = IsPermutation-trans (e ∷ es) (e ∷ rest.list) put.list (IsPermutation-cons e es rest.list rest.is.same) put.is.same; order = put.is.order } }

record AllOrdered (pages : List (List Entry)) : Type 0 where
  lists : List (List Entry)
  each : AllZip IsOrderOf pages lists

all_ordered : (pages : List (List Entry)) → All (AllPairs HasOtherKey) pages → AllOrdered pages
all_ordered [] other = record { lists = []; each = tt }
all_ordered (page ∷ pages) other =
    let here = ordered page (All-head (AllPairs HasOtherKey) page pages other) in
    let rest = all_ordered pages (All-tail (AllPairs HasOtherKey) page pages other) in
    record { lists = here.list ∷ rest.lists; each = (here.is, rest.each) }

pairs_join : {X : Type 0} (R : X → X → Type 0) (xs ys : List X) → AllPairs R xs → AllPairs R ys → Across R xs ys → AllPairs R (xs ++ ys)
pairs_join R [] ys h k across = k
pairs_join R (x ∷ xs) ys h k across =
    AllPairs-cons R x (xs ++ ys) (All-append (R x) xs ys (pairs_head R x xs h) (All-head (λ z. All (R z) ys) x xs across))
    (pairs_join R xs ys (pairs_tail R x xs h) k (All-tail (λ z. All (R z) ys) x xs across))

across_joined : {X : Type 0} (R : X → X → Type 0) (xs : List X) (parts : List (List X)) → All (Across R xs) parts → Across R xs (joined parts)
across_joined R xs [] h = λ k d below. All-nil (R (get_or xs k d))
across_joined R xs (part ∷ parts) h =
    λ k d below. All-append (R (get_or xs k d)) part (joined parts) (All-head (Across R xs) part parts h k d below) (across_joined R xs parts (All-tail (Across R xs) part parts h) k d below)

lists_ordered : (pages lists : List (List Entry)) → AllZip IsOrderOf pages lists → AllPairs IsBelow pages → AllPairs ComesBefore (joined lists)
lists_ordered [] [] h below = pairs_nil ComesBefore
lists_ordered [] (q ∷ qs) h below = absurd h
lists_ordered (p ∷ ps) [] h below = absurd h
lists_ordered (p ∷ ps) (q ∷ qs) h below =
    let same = all_zip_weaker IsOrderOf IsPermutation (λ x y is. is.same) ps qs h.1 in
    pairs_join ComesBefore q (joined qs) h.0.order (lists_ordered ps qs h.1 (pairs_tail IsBelow p ps below))
    (across_joined ComesBefore q qs (below_sorts p q h.0.same ps qs same (pairs_head IsBelow p ps below)))

-- pages of the same entries, which ascend
same_pages : (ps qs lists : List (List Entry)) → AllZip IsPermutation ps lists → AllZip IsPermutation qs lists → All IsAscending ps → All IsAscending qs → ps ≡ qs
same_pages [] [] lists a b up up' = refl
same_pages [] (q ∷ qs) [] a b up up' = absurd b
same_pages [] (q ∷ qs) (o ∷ os) a b up up' = absurd a
same_pages (p ∷ ps) [] [] a b up up' = absurd a
same_pages (p ∷ ps) [] (o ∷ os) a b up up' = absurd b
same_pages (p ∷ ps) (q ∷ qs) [] a b up up' = absurd a
same_pages (p ∷ ps) (q ∷ qs) (o ∷ os) a b up up' =
    let first : p ≡ q = one_order (λ e f. key_cmp e.key f.key) key_total p q (pairs_from_ascending p (All-head IsAscending p ps up)) (pairs_from_ascending q (All-head IsAscending q qs up')) (IsPermutation-trans p o q a.0 (IsPermutation-sym q o b.0)) in
    ap (λ z. z ∷ ps) first ∙ ap (λ zs. q ∷ zs) (same_pages ps qs os a.1 b.1 (All-tail IsAscending p ps up) (All-tail IsAscending q qs up'))

-- the pages of a page list in the order of a tile, joined
pages_other : (page : ℕ) (puts : List Entry) (pages : List (List Entry)) → HaveDistinctKeys puts → IsPaged page puts pages → All (AllPairs HasOtherKey) pages
pages_other page puts pages other is = parts_pairs HasOtherKey pages (pairs_from_other (joined pages) (other_permuted puts (joined pages) is.once other))

pub one_paged : (page : ℕ) (puts : List Entry) (ps qs : List (List Entry)) → HaveDistinctKeys puts → IsPaged page puts ps → IsPaged page puts qs → ps ≡ qs
one_paged page puts ps qs other a b =
    let P = all_ordered ps (pages_other page puts ps other a) in
    let Q = all_ordered qs (pages_other page puts qs other b) in
    let same_p = all_zip_weaker IsOrderOf IsPermutation (λ x y is. is.same) ps P.lists P.each in
    let same_q = all_zip_weaker IsOrderOf IsPermutation (λ x y is. is.same) qs Q.lists Q.each in
    let from_p : IsPermutation puts (joined P.lists) = IsPermutation-trans puts (joined ps) (joined P.lists) a.once (sorts_same ps P.lists same_p) in
    let from_q : IsPermutation puts (joined Q.lists) = IsPermutation-trans puts (joined qs) (joined Q.lists) b.once (sorts_same qs Q.lists same_q) in
    let whole : joined P.lists ≡ joined Q.lists =
    one_order weave_cmp weave_total (joined P.lists) (joined Q.lists) (lists_ordered ps P.lists P.each a.below) (lists_ordered qs Q.lists Q.each b.below)
    (IsPermutation-trans (joined P.lists) puts (joined Q.lists) (IsPermutation-sym puts (joined P.lists) from_p) from_q)
    in
    let lists : P.lists ≡ Q.lists = one_cut page P.lists Q.lists (sorts_cut page ps P.lists same_p a.lengths) (sorts_cut page qs Q.lists same_q b.lengths) whole in
    same_pages ps qs Q.lists (subst (AllZip IsPermutation ps) lists same_p) same_q a.ascending b.ascending

-- tiles

some_is : {X : Type 0} (x y : X) → Some x ≡ Some y → x ≡ y
some_is x y e = cc

pub one_tile : (page : ℕ) (es : List Entry) (s t : layout.Tile) → IsAscending es → IsTile page es s → IsTile page es t → s ≡ t
one_tile page es s t up a b =
    let lo : s.lo ≡ t.lo = some_is _ _ (sym a.lo ∙ b.lo) in
    let hi : s.hi ≡ t.hi = some_is _ _ (sym a.hi ∙ b.hi) in
    let puts : a.pages ≡ b.pages = one_paged page (puts_of es) a.pages b.pages (puts_have_distinct_keys es up) a.paged b.paged in
    let pages : s.pages ≡ t.pages = a.is ∙ ap (λ ps. page_of (tombs_of es) ++ ps) puts ∙ sym b.is in
    λ i. record { lo = lo i; hi = hi i; pages = pages i }

tiles_are : (page : ℕ) (slices : List (List Entry)) (a b : List layout.Tile) → All IsAscending slices → AllZip (IsTile page) slices a → AllZip (IsTile page) slices b → a ≡ b
tiles_are page [] [] [] up h k = refl
tiles_are page [] [] (t ∷ ts) up h k = absurd k
tiles_are page [] (s ∷ ss) b up h k = absurd h
tiles_are page (slice ∷ slices) [] b up h k = absurd h
tiles_are page (slice ∷ slices) (s ∷ ss) [] up h k = absurd k
tiles_are page (slice ∷ slices) (s ∷ ss) (t ∷ ts) up h k =
    ap (λ z. z ∷ ss) (one_tile page slice s t (All-head IsAscending slice slices up) h.0 k.0) ∙ ap (λ zs. t ∷ zs) (tiles_are page slices ss ts (All-tail IsAscending slice slices up) h.1 k.1)

pub one_weave : OneWeave
one_weave fields entries a b up woven woven' =
    let slices : woven.slices ≡ woven'.slices = one_cut (fields.page * fields.tile) woven.slices woven'.slices woven.lengths woven'.lengths (woven.consecutive ∙ sym woven'.consecutive) in
    let each = subst (λ ss. AllZip (IsTile fields.page) ss a) slices woven.each in
    tiles_are fields.page woven'.slices a b (slices_ascend woven'.slices (subst IsAscending (sym woven'.consecutive) up)) each woven'.each
