-- The first item that passes a test, among items in an order: the best of those that pass.
use Rattle.std.proofs.Common.{◌≡◌, ℕ, ◌+◌, ◌<◌, Bool, true, false, cond, List, [], ◌∷◌, ◌++◌, length, take, get_or, Option, Some, None, refl, sym, ap, ◌∙◌}
use Rattle.std.proofs.lemmas.Cmp.{upto}
use Rattle.std.proofs.lemmas.List.{take_more}
use Rattle.std.specs.Cmp.{IsTotalOrder}
use Rattle.std.specs.List.{filter, find}
use Rattle.std.specs.Prelude.{◌&&◌}
use Rattle.std.specs.declared.cmp.Ordering.{Ordering}
use Rattle.std.specs.declared.cmp.Ordering.TheVariants.{Less, Equal, Greater}
use Rattle.std.specs.Ordering.{ordering_reverse, is_gt, min_by_ordering}
use Rattle.lethe_fade.specs.Ranks.{with_item, sorted_by}

-- the lesser of two, the first where they are tied
abbrev pub better : {X : Type 0} → (X → X → Ordering) → Option X → Option X → Option X
better cmp None other = other
better cmp (Some x) None = Some x
better cmp (Some x) (Some y) = Some (min_by_ordering (cmp x y) x y)

abbrev pub passing : {X : Type 0} → (X → Bool) → X → Option X
passing p x = cond (p x) (Some x) None

-- the least of the items that pass, the first of those that are tied
abbrev pub best_of : {X : Type 0} → (X → X → Ordering) → (X → Bool) → List X → Option X
best_of cmp p [] = None
best_of cmp p (x ∷ xs) = better cmp (passing p x) (best_of cmp p xs)

greater_is : (r : Ordering) → is_gt r ≡ true → r ≡ Greater
greater_is Less e = absurd cc
greater_is Equal e = absurd cc
greater_is Greater e = refl

min_first : {X : Type 0} (r : Ordering) (x y : X) → is_gt r ≡ false → min_by_ordering r x y ≡ x
min_first Less x y e = refl
min_first Equal x y e = refl
min_first Greater x y e = absurd cc

min_second : {X : Type 0} (r : Ordering) (x y : X) → is_gt r ≡ true → min_by_ordering r x y ≡ y
min_second Less x y e = absurd cc
min_second Equal x y e = absurd cc
min_second Greater x y e = refl

-- what isn't above another, seen from the other
above_back : {X : Type 0} {cmp : X → X → Ordering} (o : IsTotalOrder cmp) (x y : X) → is_gt (cmp x y) ≡ true → cmp y x ≡ Less
above_back o x y e = o.antisymm y x ∙ ap ordering_reverse (greater_is _ e)

above_trans : {X : Type 0} {cmp : X → X → Ordering} (o : IsTotalOrder cmp) (x y z : X) → is_gt (cmp x y) ≡ true → is_gt (cmp y z) ≡ true → is_gt (cmp x z) ≡ true
above_trans o x y z e f = ap is_gt (o.antisymm x z ∙ ap ordering_reverse (o.trans z y x (above_back o y z f) (above_back o x y e)))

-- none of the items is below x
abbrev pub Leads : {X : Type 0} → (X → X → Ordering) → X → List X → Type 0
Leads cmp x [] = Unit {0}
Leads cmp x (y ∷ ys) = (is_gt (cmp x y) ≡ false) × Leads cmp x ys

abbrev pub Ascends : {X : Type 0} → (X → X → Ordering) → List X → Type 0
Ascends cmp [] = Unit {0}
Ascends cmp (x ∷ xs) = Leads cmp x xs × Ascends cmp xs

leads_on : {X : Type 0} {cmp : X → X → Ordering} (o : IsTotalOrder cmp) (x y : X) (zs : List X) → is_gt (cmp x y) ≡ false → Leads cmp y zs → Leads cmp x zs
leads_on o x y [] e h = tt
leads_on o x y (z ∷ zs) e h = (upto o x y z e h.0, leads_on o x y zs e h.1)

leads_with : {X : Type 0} (cmp : X → X → Ordering) (x y : X) (zs : List X) → is_gt (cmp x y) ≡ false → Leads cmp x zs → Leads cmp x (with_item cmp y zs)
leads_with cmp x y [] e h = (e, tt)
leads_with cmp x y (z ∷ zs) e h = by_test (is_gt (cmp y z)) (leads_with cmp x y zs e h.1)
  where
    by_test : (b : Bool) → Leads cmp x (with_item cmp y zs) → Leads cmp x (cond b (z ∷ with_item cmp y zs) (y ∷ (z ∷ zs)))
    by_test true rest = (h.0, rest)
    by_test false rest = (e, h)

ascends_with : {X : Type 0} {cmp : X → X → Ordering} (o : IsTotalOrder cmp) (x : X) (ys : List X) → Ascends cmp ys → Ascends cmp (with_item cmp x ys)
ascends_with o x [] s = (tt, tt)
ascends_with {cmp = cmp} o x (y ∷ ys) s = by_test (is_gt (cmp x y)) refl (ascends_with o x ys s.1)
  where
    by_test : (b : Bool) → is_gt (cmp x y) ≡ b → Ascends cmp (with_item cmp x ys) → Ascends cmp (cond b (y ∷ with_item cmp x ys) (x ∷ (y ∷ ys)))
    by_test true e rest = (leads_with cmp y x ys (ap is_gt (above_back o x y e)) s.0, rest)
    by_test false e rest = ((e, leads_on o x y ys e s.0), s)

pub ascends_sorted : {X : Type 0} {cmp : X → X → Ordering} (o : IsTotalOrder cmp) (xs : List X) → Ascends cmp (sorted_by cmp xs)
ascends_sorted o [] = tt
ascends_sorted {cmp = cmp} o (x ∷ xs) = ascends_with o x (sorted_by cmp xs) (ascends_sorted o xs)

-- what leads others is better than the first of them that passes
first_leads : {X : Type 0} (cmp : X → X → Ordering) (p : X → Bool) (x : X) (ys : List X) → Leads cmp x ys → better cmp (Some x) (find p ys) ≡ Some x
first_leads cmp p x [] h = refl
first_leads cmp p x (y ∷ ys) h = by_test (p y) (first_leads cmp p x ys h.1)
  where
    by_test : (b : Bool) → better cmp (Some x) (find p ys) ≡ Some x → better cmp (Some x) (cond b (Some y) (find p ys)) ≡ Some x
    by_test true rest = ap Some (min_first (cmp x y) x y h.0)
    by_test false rest = rest

-- an item behind the first, by whether each passes
behind : {X : Type 0} (cmp : X → X → Ordering) (x y : X) (px py : Bool) (rest found : Option X) → is_gt (cmp x y) ≡ true → rest ≡ better cmp (cond px (Some x) None) found
    → cond py (Some y) rest ≡ better cmp (cond px (Some x) None) (cond py (Some y) found)
behind cmp x y true true rest found e h = sym (ap Some (min_second (cmp x y) x y e))
behind cmp x y false true rest found e h = refl
behind cmp x y px false rest found e h = h

ahead : {X : Type 0} (cmp : X → X → Ordering) (x : X) (px : Bool) (found : Option X) → better cmp (Some x) found ≡ Some x → cond px (Some x) found ≡ better cmp (cond px (Some x) None) found
ahead cmp x true found h = sym h
ahead cmp x false found h = refl

-- the first that passes, with one more item
find-with_item : {X : Type 0} {cmp : X → X → Ordering} (o : IsTotalOrder cmp) (p : X → Bool) (x : X) (ys : List X) → Ascends cmp ys → find p (with_item cmp x ys) ≡ better cmp (passing p x) (find p ys)
find-with_item {cmp = cmp} o p x [] s = by_test (p x)
  where
    by_test : (b : Bool) → cond b (Some x) None ≡ better cmp (cond b (Some x) None) None
    by_test true = refl
    by_test false = refl
find-with_item {cmp = cmp} o p x (y ∷ ys) s = by_test (is_gt (cmp x y)) refl (find-with_item o p x ys s.1)
  where
    by_test : (b : Bool) → is_gt (cmp x y) ≡ b → find p (with_item cmp x ys) ≡ better cmp (passing p x) (find p ys) → find p (cond b (y ∷ with_item cmp x ys) (x ∷ (y ∷ ys))) ≡ better cmp (passing p x) (find p (y ∷ ys))
    by_test true e rest = behind cmp x y (p x) (p y) (find p (with_item cmp x ys)) (find p ys) e rest
    by_test false e rest = ahead cmp x (p x) (find p (y ∷ ys)) (first_leads cmp p x (y ∷ ys) (e, leads_on o x y ys e s.0))

pub find-sorted_by : {X : Type 0} {cmp : X → X → Ordering} (o : IsTotalOrder cmp) (p : X → Bool) (xs : List X) → find p (sorted_by cmp xs) ≡ best_of cmp p xs
find-sorted_by o p [] = refl
find-sorted_by {cmp = cmp} o p (x ∷ xs) = find-with_item o p x (sorted_by cmp xs) (ascends_sorted o xs) ∙ ap (better cmp (passing p x)) (find-sorted_by o p xs)

-- of three the best is found from either side
three : {X : Type 0} {cmp : X → X → Ordering} (o : IsTotalOrder cmp) (x y z : X)
    → min_by_ordering (cmp (min_by_ordering (cmp x y) x y) z) (min_by_ordering (cmp x y) x y) z ≡ min_by_ordering (cmp x (min_by_ordering (cmp y z) y z)) x (min_by_ordering (cmp y z) y z)
three {cmp = cmp} o x y z = by_tests (is_gt (cmp x y)) (is_gt (cmp y z)) refl refl
  where
    by_tests : (a b : Bool) → is_gt (cmp x y) ≡ a → is_gt (cmp y z) ≡ b
        → min_by_ordering (cmp (min_by_ordering (cmp x y) x y) z) (min_by_ordering (cmp x y) x y) z ≡ min_by_ordering (cmp x (min_by_ordering (cmp y z) y z)) x (min_by_ordering (cmp y z) y z)
    by_tests true true e f =
        rw (min_second (cmp x y) x y e, min_second (cmp y z) y z f) (sym (min_second (cmp x z) x z (above_trans o x y z e f)))
    by_tests true false e f =
        rw (min_second (cmp x y) x y e, min_first (cmp y z) y z f) (sym (min_second (cmp x y) x y e))
    by_tests false true e f = rw (min_first (cmp x y) x y e, min_second (cmp y z) y z f) refl
    by_tests false false e f =
        rw (min_first (cmp x y) x y e, min_first (cmp y z) y z f) (min_first (cmp x z) x z (upto o x y z e f) ∙ sym (min_first (cmp x y) x y e))

better-better : {X : Type 0} {cmp : X → X → Ordering} (o : IsTotalOrder cmp) (a b c : Option X) → better cmp (better cmp a b) c ≡ better cmp a (better cmp b c)
better-better o None b c = refl
better-better o (Some x) None c = refl
better-better o (Some x) (Some y) None = refl
better-better o (Some x) (Some y) (Some z) = ap Some (three o x y z)

better-none : {X : Type 0} (cmp : X → X → Ordering) (a : Option X) → better cmp a None ≡ a
better-none cmp None = refl
better-none cmp (Some x) = refl

-- the best with one more item at the end
best_of-push : {X : Type 0} {cmp : X → X → Ordering} (o : IsTotalOrder cmp) (p : X → Bool) (xs : List X) (y : X) → best_of cmp p (xs ++ y ∷ []) ≡ better cmp (best_of cmp p xs) (passing p y)
best_of-push {cmp = cmp} o p [] y = better-none cmp (passing p y)
best_of-push {cmp = cmp} o p (x ∷ xs) y = ap (better cmp (passing p x)) (best_of-push o p xs y) ∙ sym (better-better o (passing p x) (best_of cmp p xs) (passing p y))

-- a step of a loop over the items
pub find-sorted_more : {X : Type 0} {cmp : X → X → Ordering} (o : IsTotalOrder cmp) (p : X → Bool) (xs : List X) (i : ℕ) (d : X) → i < length xs
    → find p (sorted_by cmp (take (i + 1) xs)) ≡ better cmp (find p (sorted_by cmp (take i xs))) (passing p (get_or xs i d))
find-sorted_more {cmp = cmp} o p xs i d h =
    find-sorted_by o p (take (i + 1) xs) ∙ ap (best_of cmp p) (take_more xs i d h) ∙ best_of-push o p (take i xs) (get_or xs i d)
    ∙ ap (λ found. better cmp found (passing p (get_or xs i d))) (sym (find-sorted_by o p (take i xs)))

-- the best of those that are kept is the best of those that are kept and pass
best_of-filter : {X : Type 0} (cmp : X → X → Ordering) (q p : X → Bool) (xs : List X) → best_of cmp p (filter q xs) ≡ best_of cmp (λ x. q x && p x) xs
best_of-filter cmp q p [] = refl
best_of-filter {X} cmp q p (x ∷ xs) = by_test (q x) (best_of-filter cmp q p xs)
  where
    by_test : (b : Bool) → best_of cmp p (filter q xs) ≡ best_of cmp (λ x. q x && p x) xs
        → best_of cmp p (cond b (x ∷ filter q xs) (filter q xs)) ≡ better cmp (cond (b && p x) (Some x) None) (best_of cmp (λ x. q x && p x) xs)
    by_test true rest = ap (better cmp (passing p x)) rest
    by_test false rest = rest

pub find-sorted_filter : {X : Type 0} {cmp : X → X → Ordering} (o : IsTotalOrder cmp) (q p : X → Bool) (xs : List X) → find p (sorted_by cmp (filter q xs)) ≡ find (λ x. q x && p x) (sorted_by cmp xs)
find-sorted_filter {cmp = cmp} o q p xs = find-sorted_by o p (filter q xs) ∙ best_of-filter cmp q p xs ∙ sym (find-sorted_by o (λ x. q x && p x) xs)
