-- Lists that are looked through, and items of distinct numbers.
use Rattle.std.proofs.Common.{◌≡◌, ◌≢◌, ℕ, ◌+◌, ◌<◌, ◌≤◌, Bool, true, false, cond, eqb, List, [], ◌∷◌, ◌++◌, get_or, length, map, take, refl, sym, ap, ◌∙◌, subst, arith}
use Rattle.std.specs.Prelude.{◌&&◌, Any, Contains, Some, filter, find, sum_by}
use Rattle.std.specs.List.{AllZip, list_any, range_with_len}
use Rattle.std.proofs.lemmas.Bool.{cond-true, cond-false, eq-eqb, ne_eqb}
use Rattle.std.proofs.lemmas.List.{get_or-map, length-map, map-append, take_more}
use Rattle.std.proofs.lemmas.List.Elements.{Contains-get_or}
use Rattle.std.proofs.lemmas.List.Folds.{list_any_at}
use Rattle.std.proofs.lemmas.List.FromFn.{map-range_with_len_more}
use Rattle.std.proofs.lemmas.List.Sums.{sum_by-cons}
use Rattle.lethe_cover.proofs.Common.{⊎_elim, none_in, first_is, first_or_rest}
use Rattle.lethe_cover.proofs.Lists.{Pairs, in_map, in_rest}
use Rattle.lethe_tile.proofs.Pages.{going_all, going_more}

-- Loops

-- the item at a place passes
pub any_here : {A B : Type 0} (f : A → B) (p : B → Bool) (xs : List A) (i : ℕ) (item : A) → i < length xs → item ≡ get_or xs i item → p (f item) ≡ true → true ≡ list_any p (map f xs)
any_here f p xs i item inside is passes =
    let len = length-map xs f in
    sym (list_any_at p (map f xs) i (f item) (omega (arith, inside, len)) (ap p (get_or-map f xs i item (f item) inside ∙ ap f (sym is)) ∙ passes))

pub held_here : {A B : Type 0} (f : A → B) (xs : List A) (ys : List B) → map f xs ≡ ys → (i : ℕ) (item : A) → i < length xs → item ≡ get_or xs i item → (y : B) → y ≡ f item → Contains ys y
held_here f xs ys same i item inside is y own = subst (λ l. Contains l y) same (subst (Contains (map f xs)) (ap f (sym is) ∙ sym own) (in_map f xs (get_or xs i item) (Contains-get_or xs i item inside)))

pub ranged_more : {X : Type 0} (f : ℕ → X) (n : ℕ) (xs : List X) (x : X) → xs ≡ map f (range_with_len 0 n) → x ≡ f n → xs ++ x ∷ [] ≡ map f (range_with_len 0 (n + 1))
ranged_more f n xs x before is = (λ i. before i ++ is i ∷ []) ∙ sym (map-range_with_len_more f 0 n n (omega arith))

-- one pair more, of lists that are gone through together
pub zip_more : {A B C : Type 0} (R : A → C → Type 0) (f : B → C) (items : List A) (i : ℕ) (d : A) → i < length items → (old new : List B) (other : B) → new ≡ old ++ other ∷ []
    → AllZip R (take i items) (map f old) → R (get_or items i d) (f other) → AllZip R (take (i + 1) items) (map f new)
zip_more R f items i d inside old new other pushed zipped related =
    let upto = take i items ++ get_or items i d ∷ [] in
    let all : AllZip R upto (map f old ++ f other ∷ []) = going_all R upto (map f old ++ f other ∷ []) (going_more R upto [] (map f old) (get_or items i d) (f other) (record { done = take i items; is = refl; each = zipped }) related) in
    subst (λ l. AllZip R l (map f new)) (sym (take_more items i d inside)) (subst (AllZip R upto) (sym (map-append f old (other ∷ [])) ∙ ap (map f) (sym pushed)) all)

-- Items

pub any_from : {X : Type 0} (P : X → Type 0) (xs : List X) (x : X) → Contains xs x → P x → Any P xs
any_from P xs x there holds = (there.0, x, there.1, there.2, holds)

pub from_any : {X : Type 0} (P : X → Type 0) (xs : List X) → Any P xs → (x : X) × Contains xs x × P x
from_any P xs (k, x, lt, is, holds) = (x, (k, lt, is), holds)

-- one item counts no more than all
pub one_summed : {X : Type 0} (f : X → ℕ) (xs : List X) (x : X) → Contains xs x → f x ≤ sum_by f xs
one_summed f [] x there = absurd (none_in x there)
one_summed f (first ∷ xs) x there = ⊎_elim
    (λ same. let own = ap f same in omega (arith, own, sum_by-cons f first xs))
    (λ rest. omega (arith, one_summed f xs x rest, sum_by-cons f first xs))
    (first_or_rest first xs x there)

-- items that pass either of two tests, which none passes both, have no more than all items
pub apart_sums : {X : Type 0} (f : X → ℕ) (p q : X → Bool) → ((x : X) → p x ≡ true → q x ≡ false) → (xs : List X) → sum_by f (filter p xs) + sum_by f (filter q xs) ≤ sum_by f xs
apart_sums f p q apart [] = omega arith
apart_sums f p q apart (x ∷ xs) = by (p x) refl (q x) refl (apart_sums f p q apart xs)
  where
    by : (a : Bool) → p x ≡ a → (b : Bool) → q x ≡ b → sum_by f (filter p xs) + sum_by f (filter q xs) ≤ sum_by f xs
        → sum_by f (cond a (x ∷ filter p xs) (filter p xs)) + sum_by f (cond b (x ∷ filter q xs) (filter q xs)) ≤ sum_by f (x ∷ xs)
    by true passes true also rest = absurd (let clash : true ≡ false = sym also ∙ apart x passes in cc)
    by true passes false other rest = omega (arith, rest, sum_by-cons f x xs, sum_by-cons f x (filter p xs))
    by false other true passes rest = omega (arith, rest, sum_by-cons f x xs, sum_by-cons f x (filter q xs))
    by false other false neither rest = omega (arith, rest, sum_by-cons f x xs)

pub find_some : {X : Type 0} (p : X → Bool) (xs : List X) (x : X) → find p xs ≡ Some x → Contains xs x × (p x ≡ true)
find_some p [] x is = absurd cc
find_some p (first ∷ xs) x is = by (find_some p xs x) (p first) refl is
  where
    by : (find p xs ≡ Some x → Contains xs x × (p x ≡ true)) → (b : Bool) → p first ≡ b → cond b (Some first) (find p xs) ≡ Some x → Contains (first ∷ xs) x × (p x ≡ true)
    by later true at is = let same : first ≡ x = cc in (first_is first xs x same, ap p (sym same) ∙ at)
    by later false at is = let rest = later is in (in_rest first xs x rest.0, rest.1)

pub find_there : {X : Type 0} (p : X → Bool) (xs : List X) (x : X) → Contains xs x → p x ≡ true → (y : X) × (find p xs ≡ Some y)
find_there p [] x there passes = absurd (none_in x there)
find_there {X = X} p (first ∷ xs) x there passes = by (λ rest. find_there p xs x rest passes) (p first) refl
  where
    by : (Contains xs x → (y : X) × (find p xs ≡ Some y)) → (b : Bool) → p first ≡ b → (y : X) × (cond b (Some first) (find p xs) ≡ Some y)
    by later true at = (first, refl)
    by later false at = ⊎_elim (λ same. absurd (let clash : true ≡ false = sym passes ∙ ap p (sym same) ∙ at in cc)) later (first_or_rest first xs x there)

pub filter_twice : {X : Type 0} (p q : X → Bool) (xs : List X) → filter (λ x. p x && q x) xs ≡ filter q (filter p xs)
filter_twice p q [] = refl
filter_twice p q (x ∷ xs) = by (p x) refl (filter_twice p q xs)
  where
    by : (b : Bool) → p x ≡ b → filter (λ x. p x && q x) xs ≡ filter q (filter p xs) → cond (b && q x) (x ∷ filter (λ x. p x && q x) xs) (filter (λ x. p x && q x) xs) ≡ filter q (cond b (x ∷ filter p xs) (filter p xs))
    by true at rest = ap (λ l. cond (q x) (x ∷ l) l) rest
    by false at rest = rest

pub pairs_weaker : {X : Type 0} (R Q : X → X → Type 0) (xs : List X) → ((a b : X) → R a b → Q a b) → Pairs R xs → Pairs Q xs
pairs_weaker R Q [] weaker pairs = tt
pairs_weaker R Q (x ∷ xs) weaker pairs = ((λ y there. weaker x y (pairs.0 y there)), pairs_weaker R Q xs weaker pairs.1)

-- Distinct numbers

module _ {X : Type 0} (number : X → ℕ) where
  abbrev pub AreApart : List X → Type 0
  AreApart xs = Pairs (λ a b. number a ≢ number b) xs

  pub one_numbered : (xs : List X) → AreApart xs → (a b : X) → Contains xs a → Contains xs b → number a ≡ number b → a ≡ b
  one_numbered [] pairs a b left right same = absurd (none_in a left)
  one_numbered (x ∷ xs) pairs a b left right same = grind (arith, first_or_rest x xs a left, first_or_rest x xs b right, pairs.0 a, pairs.0 b, one_numbered xs pairs.1 a b)

  none_numbered : (xs : List X) (n : ℕ) → ((x : X) → Contains xs x → number x ≢ n) → filter (λ x. eqb (number x) n) xs ≡ []
  none_numbered [] n other = refl
  none_numbered (x ∷ xs) n other =
      cond-false (eqb (number x) n) (x ∷ filter (λ x. eqb (number x) n) xs) (filter (λ x. eqb (number x) n) xs) (ne_eqb (number x) n (other x (first_is x xs x refl)))
      ∙ none_numbered xs n (λ y there. other y (in_rest x xs y there))

  -- the one item of a number, with those before and behind it
  pub record IsAmong (xs : List X) (x : X) : Type 0 where
    pub before : List X
    pub behind : List X
    pub are : xs ≡ before ++ (x ∷ behind)
    pub alone : filter (λ y. eqb (number y) (number x)) xs ≡ x ∷ []

  pub among : (xs : List X) (x : X) → AreApart xs → Contains xs x → IsAmong xs x
  among [] x pairs there = absurd (none_in x there)
  among (first ∷ xs) x pairs there = ⊎_elim here (λ inside. later inside (among xs x pairs.1 inside)) (first_or_rest first xs x there)
    where
      here : first ≡ x → IsAmong (first ∷ xs) x
      here same =
          let kept = filter (λ y. eqb (number y) (number x)) xs in
          record {
            before = [];
            behind = xs;
            are = ap (λ y. y ∷ xs) same;
            alone = cond-true (eqb (number first) (number x)) (first ∷ kept) kept (eq-eqb (number first) (number x) (ap number same))
                ∙ (λ i. same i ∷ none_numbered xs (number x) (λ y inside is. pairs.0 y inside (ap number same ∙ sym is)) i);
          }

      later : Contains xs x → IsAmong xs x → IsAmong (first ∷ xs) x
      later inside rest =
          let kept = filter (λ y. eqb (number y) (number x)) xs in
          record {
            before = first ∷ rest.before;
            behind = rest.behind;
            are = ap (λ l. first ∷ l) rest.are;
            alone = cond-false (eqb (number first) (number x)) (first ∷ kept) kept (ne_eqb (number first) (number x) (pairs.0 x inside)) ∙ rest.alone;
          }
