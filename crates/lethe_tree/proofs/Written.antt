-- A slice in which one was written.
use Rattle.std.proofs.Common.{◌≡◌, ◌≢◌, ℕ, ◌+◌, ◌<◌, zero, suc, max, Option, Some, None, List, [], ◌∷◌, ◌++◌, length, refl, ap, slice_set, arith}
use Rattle.std.specs.Prelude.{slice_get}
use Rattle.lethe_tree.specs.declared.link.Link.{Link}
use Rattle.lethe_tree.specs.Shape.{Shape, Leaf, Fork, Lies, height, link_of, root_of, size}

pub same_set : {X : Type 0} (xs : List X) (i : ℕ) (x : X) → i < length xs → slice_get (slice_set xs i x) i ≡ Some x
same_set [] i x lt = absurd (omega (arith, lt))
same_set (y ∷ ys) zero x lt = refl
same_set (y ∷ ys) (suc i) x lt = same_set ys i x (omega (arith, lt))

pub other_set : {X : Type 0} (xs : List X) (i j : ℕ) (x : X) → j ≢ i → slice_get (slice_set xs i x) j ≡ slice_get xs j
other_set [] i j x other = refl
other_set (y ∷ ys) zero zero x other = absurd (other refl)
other_set (y ∷ ys) zero (suc j) x other = refl
other_set (y ∷ ys) (suc i) zero x other = refl
other_set (y ∷ ys) (suc i) (suc j) x other = other_set ys i j x (λ same. other (ap suc same))

pub link_is : (left right : Option ℕ) (h s : ℕ) (l r : Shape) → left ≡ root_of l → right ≡ root_of r → h ≡ max (height l) (height r) + 1 → s ≡ size l + size r + 1
    → record { left = left; right = right; height = h; size = s } ≡ link_of l r
link_is left right h s l r a b c d = cc

pub none_of : {X : Type 0} (o : Option X) → ((x : X) → o ≡ Some x → ⊥) → o ≡ None
none_of None not = refl
none_of (Some x) not = absurd (not x refl)

pub get_front : {X : Type 0} (xs : List X) (i : ℕ) (ys : List X) (x : X) → slice_get xs i ≡ Some x → slice_get (xs ++ ys) i ≡ Some x
get_front [] i ys x is = absurd cc
get_front (y ∷ xs) zero ys x is = is
get_front (y ∷ xs) (suc i) ys x is = get_front xs i ys x is

pub get_new : {X : Type 0} (xs : List X) (x : X) → slice_get (xs ++ x ∷ []) (length xs) ≡ Some x
get_new [] x = refl
get_new (y ∷ xs) x = get_new xs x

pub lies_more : (links more : List Link) (t : Shape) → Lies links t → Lies (links ++ more) t
lies_more links more Leaf lies = tt
lies_more links more (Fork l i r) lies = (get_front links i more (link_of l r) lies.0, (lies_more links more l lies.1.0, lies_more links more r lies.1.1))
