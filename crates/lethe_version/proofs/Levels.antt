-- Lists of files, and lists of levels.
use Rattle.std.proofs.Common.{◌≡◌, ℕ, ◌+◌, ◌<◌, ◌≤◌, Bool, true, false, cond, eqb, List, [], ◌∷◌, ◌++◌, length, get_or, take, drop, map, Option, Some, None, inl, inr, refl, sym, ap, subst, ◌∙◌, arith}
use Rattle.std.specs.Prelude.{◌≢◌, filter, find}
use Rattle.std.specs.Option.{option_or}
use Rattle.std.proofs.lemmas.Bool.{cases_lt, cond-false, cond-true}
use Rattle.std.proofs.lemmas.List.{map-append, map_more, take-append-drop, drop_more, get_or-map, get_or_default, get_or_push, get_or_append_left, length-map, length_push}
use Rattle.std.proofs.lemmas.Simd.{map-map}
use Rattle.std.proofs.lemmas.List.Folds.{find-append}
use Rattle.std.specs.List.Sorted.{IsSortedBy, ties}
use Rattle.std.proofs.lemmas.List.Kept.{IsSortedBy-filter}
use Rattle.std.proofs.lemmas.List.Sorted.{IsPermutation-map, IsStrictWeakOrder-flip, ranks_by}
use Rattle.std.specs.Cmp.{IsStrictWeakOrder, nat_cmp_total}
use Rattle.std.specs.Cmp.Lexicographic.{nat_list_cmp_total}
use Rattle.std.specs.Ordering.{is_lt, nat_cmp}
use Rattle.lethe_base.specs.Keys.{key_cmp}
use Rattle.lethe_header.specs.Facts.{least_key}
use Rattle.lethe_header.specs.declared.header.Header.{Header}
use Rattle.lethe_version.specs.Order.{IsOrderedBy, comes_before, greatest_place, is_kept}

some_of : {X : Type 0} (xs : List X) → 0 < length xs → X
some_of [] lt = absurd (omega arith)
some_of (x ∷ xs) lt = x

filter-map : {S F : Type 0} (f : S → F) (p : F → Bool) (xs : List S) → filter p (map f xs) ≡ map f (filter (λ s. p (f s)) xs)
filter-map f p [] = refl
filter-map {S = S} {F = F} f p (x ∷ xs) = by (filter-map f p xs) (p (f x))
  where
    by : filter p (map f xs) ≡ map f (filter (λ s. p (f s)) xs) → (b : Bool) → cond b (f x ∷ filter p (map f xs)) (filter p (map f xs)) ≡ map f (cond b (x ∷ filter (λ s. p (f s)) xs) (filter (λ s. p (f s)) xs))
    by rest true = ap (λ (l : List F). f x ∷ l) rest
    by rest false = rest

-- items in an order, as what they stand for
pub ordered_map : {S F : Type 0} (f : S → F) (lt : F → F → Bool) (xs ys : List S) → IsOrderedBy (λ a b. lt (f a) (f b)) xs ys → IsOrderedBy lt (map f xs) (map f ys)
ordered_map {S = S} {F = F} f lt xs ys order = record {
  same = IsPermutation-map f xs ys order.same;
  sorted = λ k d low inside.
      let len : length (map f ys) ≡ length ys = length-map ys f in
      let s = some_of ys (omega (arith, inside, len)) in
      let next : get_or (map f ys) (k + 1) d ≡ f (get_or ys (k + 1) s) = get_or-map f ys (k + 1) s d (omega (arith, inside, len)) in
      let here : get_or (map f ys) k d ≡ f (get_or ys k s) = get_or-map f ys k s d (omega (arith, inside, len)) in
      ap (λ (x : F). lt x (get_or (map f ys) k d)) next ∙ ap (λ (x : F). lt (f (get_or ys (k + 1) s)) x) here ∙ order.sorted k s low (omega (arith, inside, len));
  stable = λ k d inside.
      let len : length (map f xs) ≡ length xs = length-map xs f in
      let s = some_of xs (omega (arith, inside, len)) in
      let here : get_or (map f xs) k d ≡ f (get_or xs k s) = get_or-map f xs k s d (omega (arith, inside, len)) in
      subst (λ (x : F). filter (ties lt x) (map f ys) ≡ filter (ties lt x) (map f xs)) (sym here)
      (filter-map f (ties lt (f (get_or xs k s))) ys ∙ ap (map f) (order.stable k s (omega (arith, inside, len))) ∙ sym (filter-map f (ties lt (f (get_or xs k s))) xs));
}

-- ---- a loop that makes an item for each

pub record Each {A B : Type 0} (P : ℕ → A → B → Type 0) (n : ℕ) (xs : List A) (ys : List B) : Type 0 where
  pub len : length ys ≡ n
  pub at : (k : ℕ) (a : A) (b : B) → k < n → P k (get_or xs k a) (get_or ys k b)

pub each_more : {A B : Type 0} (P : ℕ → A → B → Type 0) (n : ℕ) (xs : List A) (ys : List B) (x : A) (y : B) → Each P n xs ys → n < length xs → x ≡ get_or xs n x → P n x y → Each P (n + 1) xs (ys ++ y ∷ [])
each_more {A = A} {B = B} P n xs ys x y each inside x_is holds = record {
  len = omega (arith, length_push ys y, each.len);
  at = λ k a b lt. elim (cases_lt k n) [
    | inl before ↦ subst (P k (get_or xs k a)) (sym (get_or_append_left ys (y ∷ []) b k (omega (arith, before, each.len)))) (each.at k a b before)
    | inr behind ↦
        let same : k ≡ n = omega (arith, lt, behind) in
        let here : P n (get_or xs n a) (get_or (ys ++ y ∷ []) n b) =
        subst (λ (v : B). P n (get_or xs n a) v) (sym (get_or_push ys y b n each.len))
        (subst (λ (u : A). P n u y) (x_is ∙ get_or_default xs n x a inside) holds) in
        subst (λ (i : ℕ). P i (get_or xs i a) (get_or (ys ++ y ∷ []) i b)) (sym same) here
  ];
}

pub each_push : {A B : Type 0} (P : ℕ → A → B → Type 0) (n : ℕ) (xs : List A) (ys : List B) (x : A) (y : B) → Each P n xs ys → length xs ≡ n → P n x y → Each P (n + 1) (xs ++ x ∷ []) (ys ++ y ∷ [])
each_push {A = A} {B = B} P n xs ys x y each len holds = record {
  len = omega (arith, length_push ys y, each.len);
  at = λ k a b lt. elim (cases_lt k n) [
    | inl before ↦
        subst (P k (get_or (xs ++ x ∷ []) k a)) (sym (get_or_append_left ys (y ∷ []) b k (omega (arith, before, each.len))))
        (subst (λ (u : A). P k u (get_or ys k b)) (sym (get_or_append_left xs (x ∷ []) a k (omega (arith, before, len)))) (each.at k a b before))
    | inr behind ↦
        let same : k ≡ n = omega (arith, lt, behind) in
        let here : P n (get_or (xs ++ x ∷ []) n a) (get_or (ys ++ y ∷ []) n b) =
        subst (λ (v : B). P n (get_or (xs ++ x ∷ []) n a) v) (sym (get_or_push ys y b n each.len))
        (subst (λ (u : A). P n u y) (sym (get_or_push xs x a n len)) holds) in
        subst (λ (i : ℕ). P i (get_or (xs ++ x ∷ []) i a) (get_or (ys ++ y ∷ []) i b)) (sym same) here
  ];
}

pub each_viewed : {A B C : Type 0} (R : ℕ → A → C → Type 0) (v : B → C) (n : ℕ) (xs : List A) (ys : List B) → Each (λ k a b. R k a (v b)) n xs ys → (k : ℕ) (a : A) (c : C) → k < n → R k (get_or xs k a) (get_or (map v ys) k c)
each_viewed R v n xs ys each k a c lt =
    let inside : k < length ys = omega (arith, lt, each.len) in
    let b = some_of ys (omega (arith, inside)) in
    subst (R k (get_or xs k a)) (sym (get_or-map v ys k b c inside)) (each.at k a b lt)

pub both_viewed : {A B C D : Type 0} (R : ℕ → D → C → Type 0) (u : A → D) (v : B → C) (n : ℕ) (xs : List A) (ys : List B) → n ≤ length xs → Each (λ k a b. R k (u a) (v b)) n xs ys → (k : ℕ) (d : D) (c : C) → k < n → R k (get_or (map u xs) k d) (get_or (map v ys) k c)
both_viewed {D = D} R u v n xs ys le each k d c lt =
    let inside : k < length xs = omega (arith, lt, le) in
    let a = some_of xs (omega (arith, inside)) in
    subst (λ (x : D). R k x (get_or (map v ys) k c)) (sym (get_or-map u xs k a d inside)) (each_viewed (λ k a c. R k (u a) c) v n xs ys each k a c lt)

-- ---- the first of a number

pub found_there : {S F : Type 0} (view : S → F) (p : F → Bool) (items : List S) (i : ℕ) (item : S) → i < length items → item ≡ get_or items i item → find p (map view (take i items)) ≡ None → p (view item) ≡ true → find p (map view items) ≡ Some (view item)
found_there {S = S} {F = F} view p items i item inside is none passes =
    let parts : items ≡ take i items ++ (item ∷ drop (i + 1) items) =
    sym (take-append-drop i items) ∙ ap (λ (l : List S). take i items ++ l) (drop_more items i item inside ∙ ap (λ (s : S). s ∷ drop (i + 1) items) (sym is)) in
    ap (λ (l : List S). find p (map view l)) parts
    ∙ ap (find p) (map-append view (take i items) (item ∷ drop (i + 1) items))
    ∙ find-append p (map view (take i items)) (map view (item ∷ drop (i + 1) items))
    ∙ ap (λ (o : Option F). option_or o (find p (map view (item ∷ drop (i + 1) items)))) none
    ∙ cond-true (p (view item)) (Some (view item)) (find p (map view (drop (i + 1) items))) passes

pub found_at : {S F : Type 0} (view : S → F) (p : F → Bool) (items seen : List S) → seen ≡ items → (i : ℕ) (item : S) → i < length seen → item ≡ get_or seen i item → find p (map view (take i items)) ≡ None → p (view item) ≡ true → find p (map view items) ≡ Some (view item)
found_at {S = S} view p items seen same i item inside is none passes =
    found_there view p items i item (omega (arith, inside, ap length same)) (is ∙ ap (λ (l : List S). get_or l i item) same) none passes

pub not_found : {S F : Type 0} (view : S → F) (p : F → Bool) (items seen : List S) → seen ≡ items → (i : ℕ) (item : S) → i < length seen → item ≡ get_or seen i item → find p (map view (take i items)) ≡ None → p (view item) ≡ false → find p (map view (take (i + 1) items)) ≡ None
not_found {S = S} {F = F} view p items seen same i item inside is none fails =
    let there = is ∙ ap (λ (l : List S). get_or l i item) same in
    ap (find p) (map_more view items i item (omega (arith, inside, ap length same)) ∙ ap (λ (s : S). map view (take i items) ++ view s ∷ []) (sym there))
    ∙ find-append p (map view (take i items)) (view item ∷ [])
    ∙ ap (λ (o : Option F). option_or o (find p (view item ∷ []))) none
    ∙ cond-false (p (view item)) (Some (view item)) None fails

-- files that were shared, and then put in their order
pub ordered_from : {S F : Type 0} (view : S → F) (lt : F → F → Bool) (given : List F) (shared sorted made : List S) → map view shared ≡ given → made ≡ sorted → IsOrderedBy (λ a b. lt (view a) (view b)) shared sorted → IsOrderedBy lt given (map view made)
ordered_from {S = S} {F = F} view lt given shared sorted made given_is made_is order =
    subst (λ (l : List F). IsOrderedBy lt l (map view made)) given_is
    (subst (λ (l : List S). IsOrderedBy lt (map view shared) (map view l)) (sym made_is) (ordered_map view lt shared sorted order))

-- ---- what a level becomes

-- of the files that come into the level, `added`, and its old and new files
abbrev pub IsNext : {F : Type 0} → (F → Header) → List ℕ → List F → ℕ → List F → List F → Type 0
IsNext header gone added level old new =
    (added ≡ [] → new ≡ filter (λ one. is_kept gone (header one)) old)
    × (added ≢ [] → IsOrderedBy (λ a b. comes_before level (header a) (header b)) (filter (λ one. is_kept gone (header one)) old ++ added) new)

-- the files that weren't gone and those that come, put in their order
pub placed : {S F : Type 0} (view : S → F) (header : F → Header) (level : ℕ) (gone : List ℕ) (start old seen kept both sorted made : List S) (came : List F) → start ≡ [] → seen ≡ old → map view kept ≡ map view start ++ filter (λ one. is_kept gone (header one)) (map view seen)
    → map view both ≡ map view kept ++ came → made ≡ sorted → IsOrderedBy (λ a b. comes_before level (header (view a)) (header (view b))) both sorted
    → IsOrderedBy (λ a b. comes_before level (header a) (header b)) (filter (λ one. is_kept gone (header one)) (map view old) ++ came) (map view made)
placed {S = S} {F = F} view header level gone start old seen kept both sorted made came start_is seen_is kept_is both_is made_is order =
    let first : map view kept ≡ filter (λ one. is_kept gone (header one)) (map view old) =
    kept_is ∙ ap (λ (l : List S). map view l ++ filter (λ one. is_kept gone (header one)) (map view seen)) start_is ∙ ap (λ (l : List S). filter (λ one. is_kept gone (header one)) (map view l)) seen_is in
    let given : map view both ≡ filter (λ one. is_kept gone (header one)) (map view old) ++ came = both_is ∙ ap (λ (l : List F). l ++ came) first in
    ordered_from view (λ a b. comes_before level (header a) (header b)) (filter (λ one. is_kept gone (header one)) (map view old) ++ came) both sorted made given made_is order

-- files that come into a level, by what they stand for
pub came_as : {S N F : Type 0} (of : S → N) (comes : N → Bool) (file : N → F) (shared : List S) (added : List N) → map of shared ≡ added → map (λ s. file (of s)) (filter (λ s. comes (of s)) shared) ≡ map file (filter comes added)
came_as {N = N} of comes file shared added same =
    sym (map-map file of (filter (λ s. comes (of s)) shared)) ∙ ap (map file) (sym (filter-map of comes shared)) ∙ ap (λ (l : List N). map file (filter comes l)) same

-- a step of a loop over a list that was read
pub each_more_at : {A B : Type 0} (P : ℕ → A → B → Type 0) (items seen : List A) → seen ≡ items → (i : ℕ) (item : A) → i < length seen → item ≡ get_or seen i item → (ys ys' : List B) (y : B) → ys' ≡ ys ++ y ∷ [] → (number : ℕ) → number ≡ length ys
    → Each P i items ys → P number item y → Each P (i + 1) items ys'
each_more_at {A = A} {B = B} P items seen same i item inside is ys ys' y ys'_is number number_is each holds =
    let count : number ≡ i = number_is ∙ each.len in
    subst (λ (l : List B). Each P (i + 1) items l) (sym ys'_is)
    (each_more P i items ys item y each (omega (arith, inside, ap length same)) (is ∙ ap (λ (l : List A). get_or l i item) same) (subst (λ (n : ℕ). P n item y) count holds))

pub each_push_at : {A B : Type 0} (P : ℕ → A → B → Type 0) (xs : List A) (x : A) (ys ys' : List B) (y : B) → ys' ≡ ys ++ y ∷ [] → (number : ℕ) → number ≡ length ys → Each P (length xs) xs ys → P number x y → Each P (length (xs ++ x ∷ [])) (xs ++ x ∷ []) ys'
each_push_at {A = A} {B = B} P xs x ys ys' y ys'_is number number_is each holds =
    let count : number ≡ length xs = number_is ∙ each.len in
    let next = each_push P (length xs) xs ys x y each refl (subst (λ (n : ℕ). P n x y) count holds) in
    subst (λ (n : ℕ). Each P n (xs ++ x ∷ []) ys') (sym (length_push xs x)) (subst (λ (l : List B). Each P (length xs + 1) (xs ++ x ∷ []) l) (sym ys'_is) next)

pub all_viewed : {A B C : Type 0} (R : ℕ → A → C → Type 0) (v : B → C) (xs items : List A) (ys : List B) → xs ≡ items → Each (λ k a b. R k a (v b)) (length xs) xs ys → (k : ℕ) (a : A) (c : C) → k < length items → R k (get_or items k a) (get_or (map v ys) k c)
all_viewed {A = A} R v xs items ys same each k a c lt =
    subst (λ (l : List A). R k (get_or l k a) (get_or (map v ys) k c)) same (each_viewed R v (length xs) xs ys each k a c (omega (arith, lt, ap length same)))

-- the files that come may be written otherwise
pub next_with : {F : Type 0} (header : F → Header) (gone : List ℕ) (added given : List F) → added ≡ given → (level : ℕ) (old new : List F) → IsNext header gone added level old new → IsNext header gone given level old new
next_with {F = F} header gone added given same level old new next = subst (λ (l : List F). IsNext header gone l level old new) same next

-- ---- levels stay in order

module _ {F : Type 0} (header : F → Header) where
  weak : (b : Bool) → IsStrictWeakOrder (λ x y. cond b (is_lt (nat_cmp (greatest_place (header y)) (greatest_place (header x)))) (is_lt (key_cmp (least_key (header x).tiles) (least_key (header y).tiles))))
  weak true = IsStrictWeakOrder-flip (λ x y. is_lt (nat_cmp (greatest_place (header x)) (greatest_place (header y)))) (ranks_by nat_cmp_total (λ (f : F). greatest_place (header f)))
  weak false = ranks_by nat_list_cmp_total (λ (f : F). least_key (header f).tiles)

  kept_order : (level : ℕ) (gone : List ℕ) (files : List F) → IsSortedBy (λ a b. comes_before level (header a) (header b)) files → IsSortedBy (λ a b. comes_before level (header a) (header b)) (filter (λ one. is_kept gone (header one)) files)
  kept_order level gone files sorted = IsSortedBy-filter (λ a b. comes_before level (header a) (header b)) (weak (eqb level 0)) (λ one. is_kept gone (header one)) files sorted

  pub next_order : (gone : List ℕ) (added : List F) (level : ℕ) (old new : List F) → IsNext header gone added level old new → IsSortedBy (λ a b. comes_before level (header a) (header b)) old → IsSortedBy (λ a b. comes_before level (header a) (header b)) new
  next_order gone [] level old new next sorted = subst (λ (l : List F). IsSortedBy (λ a b. comes_before level (header a) (header b)) l) (sym (next.0 refl)) (kept_order level gone old sorted)
  next_order gone (file ∷ files) level old new next sorted = (next.1 (λ is. omega (arith, ap length is))).sorted

-- what follows for each item that was made
pub each_then : {A B C : Type 0} (R : ℕ → A → C → Type 0) (Q : ℕ → C → Type 0) (v : B → C) (xs : List A) (ys : List B) → ((k : ℕ) (a : A) (c : C) → R k a c → Q k c) → Each (λ k a b. R k a (v b)) (length xs) xs ys → (k : ℕ) (c : C) → k < length (map v ys) → Q k (get_or (map v ys) k c)
each_then R Q v xs ys follows each k c lt =
    let inside : k < length xs = omega (arith, lt, length-map ys v, each.len) in
    let a = some_of xs (omega (arith, inside)) in
    follows k (get_or xs k a) (get_or (map v ys) k c) (each_viewed R v (length xs) xs ys each k a c inside)
