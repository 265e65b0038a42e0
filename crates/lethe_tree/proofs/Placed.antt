-- Looking for a place in a tree.
use Rattle.std.proofs.Common.{◌≡◌, ℕ, zero, suc, ◌+◌, ◌-◌, ◌<◌, ◌≤◌, Option, Some, None, List, [], ◌∷◌, ◌++◌, length, slice_get, sym, refl, ap, ◌∙◌, arith}
use Rattle.lethe_tree.specs.declared.link.Link.{Link}
use Rattle.lethe_tree.specs.Shape.{Shape, Leaf, Fork, Lies, height, link_of, order, root_of, size}
use Rattle.lethe_tree.proofs.Rotations.{length_is}

get_left : (xs ys : List ℕ) (n : ℕ) → n < length xs → slice_get (xs ++ ys) n ≡ slice_get xs n
get_left [] ys n lt = absurd (omega (arith, lt))
get_left (x ∷ xs) ys zero lt = refl
get_left (x ∷ xs) ys (suc n) lt = get_left xs ys n (omega (arith, lt))

get_middle : (xs : List ℕ) (i : ℕ) (ys : List ℕ) (n : ℕ) → n ≡ length xs → slice_get (xs ++ i ∷ ys) n ≡ Some i
get_middle [] i ys n is = ap (slice_get (i ∷ ys)) is
get_middle (x ∷ xs) i ys zero is = absurd (omega (arith, is))
get_middle (x ∷ xs) i ys (suc n) is = get_middle xs i ys n (omega (arith, is))

get_right : (xs : List ℕ) (i : ℕ) (ys : List ℕ) (n k : ℕ) → n ≡ length xs + 1 + k → slice_get (xs ++ i ∷ ys) n ≡ slice_get ys k
get_right [] i ys zero k is = absurd (omega (arith, is))
get_right [] i ys (suc n) k is = let same : n ≡ k = omega (arith, is) in ap (slice_get ys) same
get_right (x ∷ xs) i ys zero k is = absurd (omega (arith, is))
get_right (x ∷ xs) i ys (suc n) k is = get_right xs i ys n k (omega (arith, is))

-- how far a look for a place has come
pub record IsSeeking (links : List Link) (t : Shape) (place : ℕ) (at : Option ℕ) (left rest : ℕ) : Type 0 where
  pub below : Shape
  pub lies : Lies links below
  pub at_is : at ≡ root_of below
  pub enough : height below ≤ left
  pub same : slice_get (order below) rest ≡ slice_get (order t) place

pub begins_at : (links : List Link) (t : Shape) (place : ℕ) (from : Option ℕ) → Lies links t → from ≡ root_of t → height t ≤ 128 → IsSeeking links t place from 128 place
begins_at links t place from lies is low = record { below = t; lies = lies; at_is = is; enough = low; same = refl }

module _ (links : List Link) (t : Shape) (place : ℕ) (at : Option ℕ) (left rest : ℕ) where
  pub nowhere : IsSeeking links t place at left rest → at ≡ None → None ≡ slice_get (order t) place
  nowhere seeking none = by seeking.below seeking.at_is seeking.same
    where
      by : (below : Shape) → at ≡ root_of below → slice_get (order below) rest ≡ slice_get (order t) place → None ≡ slice_get (order t) place
      by Leaf is same = same
      by (Fork l i r) is same = absurd cc

  pub no_depth : IsSeeking links t place at left rest → left ≡ 0 → None ≡ slice_get (order t) place
  no_depth seeking none = by seeking.below seeking.enough seeking.same
    where
      by : (below : Shape) → height below ≤ left → slice_get (order below) rest ≡ slice_get (order t) place → None ≡ slice_get (order t) place
      by Leaf enough same = same
      by (Fork l i r) enough same = absurd (omega (arith, enough, none))

  module _ (here : ℕ) where
    pub linked_here : IsSeeking links t place at left rest → at ≡ Some here → slice_get links here ≡ None → ⊥
    linked_here seeking some none = by seeking.below seeking.lies seeking.at_is
      where
        by : (below : Shape) → Lies links below → at ≡ root_of below → ⊥
        by Leaf lies is = cc
        by (Fork l i r) lies is = let there = lies.0 in let same : i ≡ here = cc in let e = ap (slice_get links) same in cc

    module _ (link : Link) (before : ℕ) where
      -- the size of the left side is told
      pub stands_here : IsSeeking links t place at left rest → at ≡ Some here → slice_get links here ≡ Some link → ((s : Shape) → Lies links s → link.left ≡ root_of s → before ≡ size s) → rest ≡ before → Some here ≡ slice_get (order t) place
      stands_here seeking some link_at told is = by seeking.below seeking.lies seeking.at_is seeking.same
        where
          by : (below : Shape) → Lies links below → at ≡ root_of below → slice_get (order below) rest ≡ slice_get (order t) place → Some here ≡ slice_get (order t) place
          by Leaf lies at_is same = absurd cc
          by (Fork l i r) lies at_is same =
              let same_i : i ≡ here = cc in
              let link_is : link ≡ link_of l r = let there = lies.0 in let x = ap (slice_get links) same_i in cc in
              let n = told l lies.1.0 (ap (λ (k : Link). k.left) link_is) in
              let x = length_is l in
              ap Some (sym same_i) ∙ (sym (get_middle (order l) i (order r) rest (omega (arith, x, n, is))) ∙ same)

      pub seeks_left : IsSeeking links t place at left rest → at ≡ Some here → slice_get links here ≡ Some link → ((s : Shape) → Lies links s → link.left ≡ root_of s → before ≡ size s) → rest < before → IsSeeking links t place link.left (left - 1) rest
      seeks_left seeking some link_at told is = by seeking.below seeking.lies seeking.at_is seeking.enough seeking.same
        where
          by : (below : Shape) → Lies links below → at ≡ root_of below → height below ≤ left → slice_get (order below) rest ≡ slice_get (order t) place → IsSeeking links t place link.left (left - 1) rest
          by Leaf lies at_is enough same = absurd cc
          by (Fork l i r) lies at_is enough same =
              let same_i : i ≡ here = cc in
              let link_is : link ≡ link_of l r = let there = lies.0 in let x = ap (slice_get links) same_i in cc in
              let n = told l lies.1.0 (ap (λ (k : Link). k.left) link_is) in
              let x = length_is l in
              record {
                below = l;
                lies = lies.1.0;
                at_is = ap (λ (k : Link). k.left) link_is;
                enough = grind arith;
                same = sym (get_left (order l) (i ∷ order r) rest (omega (arith, x, n, is))) ∙ same;
              }

      pub seeks_right : IsSeeking links t place at left rest → at ≡ Some here → slice_get links here ≡ Some link → ((s : Shape) → Lies links s → link.left ≡ root_of s → before ≡ size s) → before < rest → IsSeeking links t place link.right (left - 1) (rest - (before + 1))
      seeks_right seeking some link_at told is = by seeking.below seeking.lies seeking.at_is seeking.enough seeking.same
        where
          by : (below : Shape) → Lies links below → at ≡ root_of below → height below ≤ left → slice_get (order below) rest ≡ slice_get (order t) place → IsSeeking links t place link.right (left - 1) (rest - (before + 1))
          by Leaf lies at_is enough same = absurd cc
          by (Fork l i r) lies at_is enough same =
              let same_i : i ≡ here = cc in
              let link_is : link ≡ link_of l r = let there = lies.0 in let x = ap (slice_get links) same_i in cc in
              let n = told l lies.1.0 (ap (λ (k : Link). k.left) link_is) in
              let x = length_is l in
              record {
                below = r;
                lies = lies.1.1;
                at_is = ap (λ (k : Link). k.right) link_is;
                enough = grind arith;
                same = sym (get_right (order l) i (order r) rest (rest - (before + 1)) (omega (arith, x, n, is))) ∙ same;
              }
