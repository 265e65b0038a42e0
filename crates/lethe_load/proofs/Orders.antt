-- Items that may each stand behind those before it, looked at one after the other.
use Rattle.std.proofs.Common.{◌≡◌, ℕ, ◌+◌, ◌<◌, ◌≤◌, List, [], ◌∷◌, ◌++◌, length, get_or, take, drop, sym, ap, subst, ◌∙◌}
use Rattle.std.specs.List.{AllZip}
use Rattle.std.proofs.lemmas.List.{take-append-drop, drop_more, take_more, take_all}
use Rattle.lethe_header.specs.Headers.{EachFollows}
use Rattle.lethe_header.proofs.Follows.{follows_one}
use Rattle.lethe_load.specs.Damaged.{IsFirstBad}

pub taken_more : {A : Type 0} (items : List A) (i : ℕ) (item : A) → i < length items → item ≡ get_or items i item → take (i + 1) items ≡ take i items ++ item ∷ []
taken_more items i item lt is = take_more items i item lt ∙ ap (λ x. take i items ++ x ∷ []) (sym is)

module _ {A : Type 0} (Good : List A → A → Type 0) where
  pub follows_more : (items : List A) (i : ℕ) (item : A) → i < length items → item ≡ get_or items i item → EachFollows Good (take i items) → Good (take i items) item → EachFollows Good (take (i + 1) items)
  follows_more items i item lt is each good = subst (EachFollows Good) (sym (taken_more items i item lt is)) (follows_one Good (take i items) item each good)

  pub first_bad : (items : List A) (i : ℕ) (item : A) → i < length items → item ≡ get_or items i item → EachFollows Good (take i items) → (Good (take i items) item → ⊥) → IsFirstBad Good items (take i items) item
  first_bad items i item lt is each bad = record {
    behind = drop (i + 1) items;
    split = sym (take-append-drop i items) ∙ ap (λ (l : List A). take i items ++ l) (drop_more items i item lt ∙ ap (λ x. x ∷ drop (i + 1) items) (sym is));
    good = each;
    is = bad;
  }

pub zip_pushed : {A B : Type 0} (R : A → B → Type 0) (xs : List A) (ys : List B) (x : A) (y : B) → AllZip R xs ys → R x y → AllZip R (xs ++ x ∷ []) (ys ++ y ∷ [])
zip_pushed R [] [] x y all r = (r, tt)
zip_pushed R [] (b ∷ ys) x y all r = absurd all
zip_pushed R (a ∷ xs) [] x y all r = absurd all
zip_pushed R (a ∷ xs) (b ∷ ys) x y all r = (all.0, zip_pushed R xs ys x y all.1 r)

-- one pair more, of lists that were gone through together
pub zip_more : {A B : Type 0} (R : A → B → Type 0) (items : List A) (i : ℕ) (item : A) (old new : List B) (other : B) → i < length items → item ≡ get_or items i item → new ≡ old ++ other ∷ [] → AllZip R (take i items) old → R item other → AllZip R (take (i + 1) items) new
zip_more R items i item old new other lt is pushed all r =
    subst (λ l. AllZip R l new) (sym (taken_more items i item lt is)) (subst (AllZip R (take i items ++ item ∷ [])) (sym pushed) (zip_pushed R (take i items) old item other all r))

pub zip_none : {A B : Type 0} (R : A → B → Type 0) (ys : List B) → ys ≡ [] → AllZip R [] ys
zip_none R ys none = subst (AllZip R []) (sym none) tt

pub zip_all : {A B : Type 0} (R : A → B → Type 0) (xs : List A) (i : ℕ) (ys : List B) → length xs ≤ i → AllZip R (take i xs) ys → AllZip R xs ys
zip_all R xs i ys le all = subst (λ l. AllZip R l ys) (take_all i xs le) all
