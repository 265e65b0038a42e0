-- Two sides under a node become one balanced tree.
use Rattle.std.proofs.Common.{◌≡◌, ℕ, ◌+◌, ◌<◌, ◌≤◌, Option, Some, None, List, [], ◌∷◌, ◌++◌, length, sym, refl, ap, ◌∙◌, subst, arith, append_assoc, length-append}
use Rattle.std.specs.Prelude.{slice_get}
use Rattle.lethe_tree.specs.declared.link.Link.{Link}
use Rattle.lethe_tree.specs.Settled.{IsJoined, IsReady, IsSettled}
use Rattle.lethe_tree.specs.Shape.{Shape, Leaf, Fork, Lies, NotIn, height, link_of, order, root_of, size}
use Rattle.lethe_tree.proofs.Lists.{Disjoint, notin_parts, notin_join, apart_split, disjoint_parts, not_of, stays}

pub height_le-size : (t : Shape) → height t ≤ size t
height_le-size Leaf = omega arith
height_le-size (Fork l i r) = let a = height_le-size l in let b = height_le-size r in grind arith

pub length_is : (t : Shape) → length (order t) ≡ size t
length_is Leaf = refl
length_is (Fork l i r) = omega (arith, length-append (order l) (i ∷ order r), length_is l, length_is r)

-- no rotation
pub level : (old new : List Link) (left : Option ℕ) (top : ℕ) (right : Option ℕ) (l r : Shape) → IsReady old left top right l r → height l ≤ height r + 1 → height r ≤ height l + 1
    → IsJoined old new top left right → IsSettled old new l top r top
level old new left top right l r ready a b joined =
    let s = apart_split (order l) (top ∷ order r) ready.apart in
    let there = joined.there l r ready.lies_left ready.lies_right ready.left_is ready.right_is (omega (arith, ready.few)) in
    record {
      tree = Fork l top r;
      lies = (there, (stays old new top joined.beside l s.1.1.0 ready.lies_left, stays old new top joined.beside r s.1.0.0 ready.lies_right));
      root_is = refl;
      balanced = ((a, b), (ready.balanced_left, ready.balanced_right));
      same = refl;
      size_is = refl;
      height_is = grind arith;
      beside = λ i h. let p = notin_parts i (order l) (top ∷ order r) h in joined.beside i (λ same. p.1.0 (sym same));
    }

-- the left side is too high, and its own left one no lower than its right one
pub once_left : (old mid new : List Link) (left right : Option ℕ) (a top : ℕ) (x y r : Shape) → IsReady old left top right (Fork x a y) r → height (Fork x a y) ≡ height r + 2 → height y ≤ height x
    → IsJoined old mid top (root_of y) right → IsJoined mid new a (root_of x) (Some top) → IsSettled old new (Fork x a y) top r a
once_left old mid new left right a top x y r ready high no_lower one two =
    let s = apart_split (order x ++ a ∷ order y) (top ∷ order r) ready.apart in
    let t = notin_parts top (order x) (a ∷ order y) s.1.1.0 in
    let e = apart_split (order x) (a ∷ order y) s.0 in
    let lies_x = ready.lies_left.1.0 in
    let lies_y = ready.lies_left.1.1 in
    let low = one.there y r lies_y ready.lies_right refl ready.right_is (omega (arith, ready.few)) in
    let mid_x = stays old mid top one.beside x t.0 lies_x in
    let mid_y = stays old mid top one.beside y t.1.1 lies_y in
    let mid_r = stays old mid top one.beside r s.1.0.0 ready.lies_right in
    let lower : Lies mid (Fork y top r) = (low, (mid_y, mid_r)) in
    let upper = two.there x (Fork y top r) mid_x lower refl refl (omega (arith, ready.few)) in
    let other : NotIn a (order y ++ top ∷ order r) = notin_join a (order y) (top ∷ order r) e.1.0.0 ((λ same. t.1.0 (sym same)), not_of a (order x) (order y) (order r) s.1.1.1) in
    record {
      tree = Fork x a (Fork y top r);
      lies = (upper, (stays mid new a two.beside x e.1.1.0 mid_x, stays mid new a two.beside (Fork y top r) other lower));
      root_is = refl;
      balanced = let b = ready.balanced_left.0 in (grind arith, (ready.balanced_left.1.0, (grind arith, (ready.balanced_left.1.1, ready.balanced_right))));
      same = sym (append_assoc (order x) (a ∷ order y) (top ∷ order r));
      size_is = omega arith;
      height_is = let b = ready.balanced_left.0 in grind arith;
      beside = λ i h.
          let p = notin_parts i (order x ++ a ∷ order y) (top ∷ order r) h in
          let q = notin_parts i (order x) (a ∷ order y) p.0 in
          two.beside i (λ same. q.1.0 (sym same)) ∙ one.beside i (λ same. p.1.0 (sym same));
    }

-- the left side is too high, and its own right one higher than its left one
pub twice_left : (old first second new : List Link) (left right : Option ℕ) (a b top : ℕ) (x u v r : Shape) → IsReady old left top right (Fork x a (Fork u b v)) r
    → height (Fork x a (Fork u b v)) ≡ height r + 2 → height x < height (Fork u b v)
    → IsJoined old first a (root_of x) (root_of u) → IsJoined first second top (root_of v) right → IsJoined second new b (Some a) (Some top) → IsSettled old new (Fork x a (Fork u b v)) top r b
twice_left old first second new left right a b top x u v r ready high lower one two three =
    let s = apart_split (order x ++ a ∷ (order u ++ b ∷ order v)) (top ∷ order r) ready.apart in
    let e = apart_split (order x) (a ∷ (order u ++ b ∷ order v)) s.0 in
    let f = apart_split (order u) (b ∷ order v) e.1.0.1 in
    -- a stands in none of u, v, and b is another; the same of top
    let a_in = notin_parts a (order u) (b ∷ order v) e.1.0.0 in
    let top_in = notin_parts top (order x) (a ∷ (order u ++ b ∷ order v)) s.1.1.0 in
    let top_y = notin_parts top (order u) (b ∷ order v) top_in.1.1 in
    let a_r = not_of a (order x) (order u ++ b ∷ order v) (order r) s.1.1.1 in
    let b_r = not_of b (order x ++ a ∷ order u) (order v) (order r) (subst (λ l. Disjoint l (order r)) (sym (append_assoc (order x) (a ∷ order u) (b ∷ order v))) s.1.1.1) in
    let b_x = notin_of_disjoint (order x) a (order u) b (order v) e.1.1 in
    let lies_x = ready.lies_left.1.0 in
    let lies_u = ready.lies_left.1.1.1.0 in
    let lies_v = ready.lies_left.1.1.1.1 in
    let lies_r = ready.lies_right in
    let at_a = one.there x u lies_x lies_u refl refl (omega (arith, ready.few)) in
    let first_x = stays old first a one.beside x e.1.1.0 lies_x in
    let first_u = stays old first a one.beside u a_in.0 lies_u in
    let first_v = stays old first a one.beside v a_in.1.1 lies_v in
    let first_r = stays old first a one.beside r a_r lies_r in
    let low : Lies first (Fork x a u) = (at_a, (first_x, first_u)) in
    let at_top = two.there v r first_v first_r refl ready.right_is (omega (arith, ready.few)) in
    let second_v = stays first second top two.beside v top_y.1.1 first_v in
    let second_r = stays first second top two.beside r s.1.0.0 first_r in
    let second_low = stays first second top two.beside (Fork x a u) (notin_join top (order x) (a ∷ order u) top_in.0 (top_in.1.0, top_y.0)) low in
    let high_side : Lies second (Fork v top r) = (at_top, (second_v, second_r)) in
    let at_b = three.there (Fork x a u) (Fork v top r) second_low high_side refl refl (omega (arith, ready.few)) in
    let b_low : NotIn b (order x ++ a ∷ order u) = notin_join b (order x) (a ∷ order u) b_x ((λ same. a_in.1.0 (sym same)), f.1.1.0) in
    let b_high : NotIn b (order v ++ top ∷ order r) = notin_join b (order v) (top ∷ order r) f.1.0.0 ((λ same. top_y.1.0 (sym same)), b_r) in
    record {
      tree = Fork (Fork x a u) b (Fork v top r);
      lies = (at_b, (stays second new b three.beside (Fork x a u) b_low second_low, stays second new b three.beside (Fork v top r) b_high high_side));
      root_is = refl;
      balanced =
          let c = ready.balanced_left.0 in
          let d = ready.balanced_left.1.1.0 in
          (grind arith, ((grind arith, (ready.balanced_left.1.0, ready.balanced_left.1.1.1.0)), (grind arith, (ready.balanced_left.1.1.1.1, ready.balanced_right))));
      same = regrouped (order x) a (order u) b (order v) (top ∷ order r);
      size_is = omega arith;
      height_is = let c = ready.balanced_left.0 in let d = ready.balanced_left.1.1.0 in grind arith;
      beside = λ i h.
          let p = notin_parts i (order x ++ a ∷ (order u ++ b ∷ order v)) (top ∷ order r) h in
          let q = notin_parts i (order x) (a ∷ (order u ++ b ∷ order v)) p.0 in
          let w = notin_parts i (order u) (b ∷ order v) q.1.1 in
          three.beside i (λ same. w.1.0 (sym same)) ∙ (two.beside i (λ same. p.1.0 (sym same)) ∙ one.beside i (λ same. q.1.0 (sym same)));
    }
  where
    notin_of_disjoint : (xs : List ℕ) (a : ℕ) (us : List ℕ) (b : ℕ) (vs : List ℕ) → Disjoint xs (a ∷ (us ++ b ∷ vs)) → NotIn b xs
    notin_of_disjoint xs a us b vs d = behind us d.1
      where
        behind : (us : List ℕ) → Disjoint xs (us ++ b ∷ vs) → NotIn b xs
        behind [] d = d.0
        behind (y ∷ ys) d = behind ys d.1

    regrouped : (xs : List ℕ) (a : ℕ) (us : List ℕ) (b : ℕ) (vs ws : List ℕ) → (xs ++ a ∷ us) ++ b ∷ (vs ++ ws) ≡ (xs ++ a ∷ (us ++ b ∷ vs)) ++ ws
    regrouped xs a us b vs ws = append_assoc xs (a ∷ us) (b ∷ (vs ++ ws)) ∙ (ap (λ l. xs ++ a ∷ l) (sym (append_assoc us (b ∷ vs) ws)) ∙ sym (append_assoc xs (a ∷ (us ++ b ∷ vs)) ws))

-- the mirror images

pub once_right : (old mid new : List Link) (left right : Option ℕ) (a top : ℕ) (l x y : Shape) → IsReady old left top right l (Fork x a y) → height (Fork x a y) ≡ height l + 2 → height x ≤ height y
    → IsJoined old mid top left (root_of x) → IsJoined mid new a (Some top) (root_of y) → IsSettled old new l top (Fork x a y) a
once_right old mid new left right a top l x y ready high no_lower one two =
    let s = apart_split (order l) (top ∷ (order x ++ a ∷ order y)) ready.apart in
    let t = notin_parts top (order x) (a ∷ order y) s.1.0.0 in
    let e = apart_split (order x) (a ∷ order y) s.1.0.1 in
    let d = disjoint_parts (order l) (order x) (a ∷ order y) s.1.1.1 in
    let lies_x = ready.lies_right.1.0 in
    let lies_y = ready.lies_right.1.1 in
    let low = one.there l x ready.lies_left lies_x ready.left_is refl (omega (arith, ready.few)) in
    let mid_l = stays old mid top one.beside l s.1.1.0 ready.lies_left in
    let mid_x = stays old mid top one.beside x t.0 lies_x in
    let mid_y = stays old mid top one.beside y t.1.1 lies_y in
    let lower : Lies mid (Fork l top x) = (low, (mid_l, mid_x)) in
    let upper = two.there (Fork l top x) y lower mid_y refl refl (omega (arith, ready.few)) in
    let other : NotIn a (order l ++ top ∷ order x) = notin_join a (order l) (top ∷ order x) d.1.0 ((λ same. t.1.0 (sym same)), e.1.1.0) in
    record {
      tree = Fork (Fork l top x) a y;
      lies = (upper, (stays mid new a two.beside (Fork l top x) other lower, stays mid new a two.beside y e.1.0.0 mid_y));
      root_is = refl;
      balanced = let b = ready.balanced_right.0 in (grind arith, ((grind arith, (ready.balanced_left, ready.balanced_right.1.0)), ready.balanced_right.1.1));
      same = append_assoc (order l) (top ∷ order x) (a ∷ order y);
      size_is = omega arith;
      height_is = let b = ready.balanced_right.0 in grind arith;
      beside = λ i h.
          let p = notin_parts i (order l) (top ∷ (order x ++ a ∷ order y)) h in
          let q = notin_parts i (order x) (a ∷ order y) p.1.1 in
          two.beside i (λ same. q.1.0 (sym same)) ∙ one.beside i (λ same. p.1.0 (sym same));
    }

pub twice_right : (old first second new : List Link) (left right : Option ℕ) (a b top : ℕ) (l u v y : Shape) → IsReady old left top right l (Fork (Fork u b v) a y)
    → height (Fork (Fork u b v) a y) ≡ height l + 2 → height y < height (Fork u b v)
    → IsJoined old first top left (root_of u) → IsJoined first second a (root_of v) (root_of y) → IsJoined second new b (Some top) (Some a) → IsSettled old new l top (Fork (Fork u b v) a y) b
twice_right old first second new left right a b top l u v y ready high lower one two three =
    let s = apart_split (order l) (top ∷ ((order u ++ b ∷ order v) ++ a ∷ order y)) ready.apart in
    let t = notin_parts top (order u ++ b ∷ order v) (a ∷ order y) s.1.0.0 in
    let tu = notin_parts top (order u) (b ∷ order v) t.0 in
    let e = apart_split (order u ++ b ∷ order v) (a ∷ order y) s.1.0.1 in
    let au = notin_parts a (order u) (b ∷ order v) e.1.1.0 in
    let f = apart_split (order u) (b ∷ order v) e.0 in
    let d = disjoint_parts (order l) (order u ++ b ∷ order v) (a ∷ order y) s.1.1.1 in
    let du = disjoint_parts (order l) (order u) (b ∷ order v) d.0 in
    let b_y = not_of b (order u) (order v) (order y) e.1.1.1 in
    let lies_l = ready.lies_left in
    let lies_u = ready.lies_right.1.0.1.0 in
    let lies_v = ready.lies_right.1.0.1.1 in
    let lies_y = ready.lies_right.1.1 in
    let at_top = one.there l u lies_l lies_u ready.left_is refl (omega (arith, ready.few)) in
    let first_l = stays old first top one.beside l s.1.1.0 lies_l in
    let first_u = stays old first top one.beside u tu.0 lies_u in
    let first_v = stays old first top one.beside v tu.1.1 lies_v in
    let first_y = stays old first top one.beside y t.1.1 lies_y in
    let low : Lies first (Fork l top u) = (at_top, (first_l, first_u)) in
    let at_a = two.there v y first_v first_y refl refl (omega (arith, ready.few)) in
    let second_low = stays first second a two.beside (Fork l top u) (notin_join a (order l) (top ∷ order u) d.1.0 ((λ same. t.1.0 (sym same)), au.0)) low in
    let second_v = stays first second a two.beside v au.1.1 first_v in
    let second_y = stays first second a two.beside y e.1.0.0 first_y in
    let high_side : Lies second (Fork v a y) = (at_a, (second_v, second_y)) in
    let at_b = three.there (Fork l top u) (Fork v a y) second_low high_side refl refl (omega (arith, ready.few)) in
    let b_low : NotIn b (order l ++ top ∷ order u) = notin_join b (order l) (top ∷ order u) du.1.0 ((λ same. tu.1.0 (sym same)), f.1.1.0) in
    let b_high : NotIn b (order v ++ a ∷ order y) = notin_join b (order v) (a ∷ order y) f.1.0.0 ((λ same. au.1.0 (sym same)), b_y) in
    record {
      tree = Fork (Fork l top u) b (Fork v a y);
      lies = (at_b, (stays second new b three.beside (Fork l top u) b_low second_low, stays second new b three.beside (Fork v a y) b_high high_side));
      root_is = refl;
      balanced =
          let c = ready.balanced_right.0 in
          let g = ready.balanced_right.1.0.0 in
          (grind arith, ((grind arith, (ready.balanced_left, ready.balanced_right.1.0.1.0)), (grind arith, (ready.balanced_right.1.0.1.1, ready.balanced_right.1.1))));
      same = append_assoc (order l) (top ∷ order u) (b ∷ (order v ++ a ∷ order y)) ∙ ap (λ z. order l ++ top ∷ z) (sym (append_assoc (order u) (b ∷ order v) (a ∷ order y)));
      size_is = omega arith;
      height_is = let c = ready.balanced_right.0 in let g = ready.balanced_right.1.0.0 in grind arith;
      beside = λ i h.
          let p = notin_parts i (order l) (top ∷ ((order u ++ b ∷ order v) ++ a ∷ order y)) h in
          let q = notin_parts i (order u ++ b ∷ order v) (a ∷ order y) p.1.1 in
          let w = notin_parts i (order u) (b ∷ order v) q.0 in
          three.beside i (λ same. w.1.0 (sym same)) ∙ (two.beside i (λ same. q.1.0 (sym same)) ∙ one.beside i (λ same. p.1.0 (sym same)));
    }

-- by what the links say

module _ (old : List Link) (left : Option ℕ) (top : ℕ) (right : Option ℕ) (a : ℕ) (link : Link) (hx hy : ℕ) where
  pub lean_left_once : (mid new : List Link) (l r : Shape) → IsReady old left top right l r → height l ≡ height r + 2 → left ≡ Some a → slice_get old a ≡ Some link
      → ((t : Shape) → Lies old t → link.left ≡ root_of t → hx ≡ height t) → ((t : Shape) → Lies old t → link.right ≡ root_of t → hy ≡ height t) → hy ≤ hx
      → IsJoined old mid top link.right right → IsJoined mid new a link.left (Some top) → IsSettled old new l top r a
  lean_left_once mid new Leaf r ready high some at x_is y_is no_lower one two = absurd (let none = ready.left_is in cc)
  lean_left_once mid new (Fork x i y) r ready high some at x_is y_is no_lower one two =
      let here : i ≡ a = let is = ready.left_is in cc in
      let link_is : link ≡ link_of x y = let is = ready.lies_left.0 in let there : slice_get old i ≡ Some link = ap (slice_get old) here ∙ at in cc in
      let ex = x_is x ready.lies_left.1.0 (ap (λ (k : Link). k.left) link_is) in
      let ey = y_is y ready.lies_left.1.1 (ap (λ (k : Link). k.right) link_is) in
      let one_is = subst (λ (k : Link). IsJoined old mid top k.right right) link_is one in
      let two_is = subst (λ (k : Link). IsJoined mid new a k.left (Some top)) link_is two in
      subst (λ k. IsSettled old new (Fork x i y) top r k) here
      (once_left old mid new left right i top x y r ready high (omega (arith, ex, ey, no_lower)) one_is (subst (λ k. IsJoined mid new k (root_of x) (Some top)) (sym here) two_is))

  pub lean_right_once : (mid new : List Link) (l r : Shape) → IsReady old left top right l r → height r ≡ height l + 2 → right ≡ Some a → slice_get old a ≡ Some link
      → ((t : Shape) → Lies old t → link.right ≡ root_of t → hy ≡ height t) → ((t : Shape) → Lies old t → link.left ≡ root_of t → hx ≡ height t) → hx ≤ hy
      → IsJoined old mid top left link.left → IsJoined mid new a (Some top) link.right → IsSettled old new l top r a
  lean_right_once mid new l Leaf ready high some at y_is x_is no_lower one two = absurd (let none = ready.right_is in cc)
  lean_right_once mid new l (Fork x i y) ready high some at y_is x_is no_lower one two =
      let here : i ≡ a = let is = ready.right_is in cc in
      let link_is : link ≡ link_of x y = let is = ready.lies_right.0 in let there : slice_get old i ≡ Some link = ap (slice_get old) here ∙ at in cc in
      let ex = x_is x ready.lies_right.1.0 (ap (λ (k : Link). k.left) link_is) in
      let ey = y_is y ready.lies_right.1.1 (ap (λ (k : Link). k.right) link_is) in
      let one_is = subst (λ (k : Link). IsJoined old mid top left k.left) link_is one in
      let two_is = subst (λ (k : Link). IsJoined mid new a (Some top) k.right) link_is two in
      subst (λ k. IsSettled old new l top (Fork x i y) k) here
      (once_right old mid new left right i top l x y ready high (omega (arith, ex, ey, no_lower)) one_is (subst (λ k. IsJoined mid new k (Some top) (root_of y)) (sym here) two_is))

  module _ (b : ℕ) (inner : Link) where
    pub lean_left_twice : (first second new : List Link) (l r : Shape) → IsReady old left top right l r → height l ≡ height r + 2 → left ≡ Some a → slice_get old a ≡ Some link
        → ((t : Shape) → Lies old t → link.left ≡ root_of t → hx ≡ height t) → ((t : Shape) → Lies old t → link.right ≡ root_of t → hy ≡ height t) → hx < hy
        → link.right ≡ Some b → slice_get old b ≡ Some inner
        → IsJoined old first a link.left inner.left → IsJoined first second top inner.right right → IsJoined second new b (Some a) (Some top) → IsSettled old new l top r b
    lean_left_twice first second new Leaf r ready high some at x_is y_is lower some_b at_b one two three = absurd (let none = ready.left_is in cc)
    lean_left_twice first second new (Fork x i Leaf) r ready high some at x_is y_is lower some_b at_b one two three =
        let here : i ≡ a = let is = ready.left_is in cc in
        let link_is : link ≡ link_of x Leaf = let is = ready.lies_left.0 in let there : slice_get old i ≡ Some link = ap (slice_get old) here ∙ at in cc in
        let none : link.right ≡ None = ap (λ (k : Link). k.right) link_is in
        absurd cc
    lean_left_twice first second new (Fork x i (Fork u j v)) r ready high some at x_is y_is lower some_b at_b one two three =
        let here : i ≡ a = let is = ready.left_is in cc in
        let link_is : link ≡ link_of x (Fork u j v) = let is = ready.lies_left.0 in let there : slice_get old i ≡ Some link = ap (slice_get old) here ∙ at in cc in
        let right_is : link.right ≡ Some j = ap (λ (k : Link). k.right) link_is in
        let inner_here : j ≡ b = cc in
        let inner_is : inner ≡ link_of u v = let is = ready.lies_left.1.1.0 in let there : slice_get old j ≡ Some inner = ap (slice_get old) inner_here ∙ at_b in cc in
        let ex = x_is x ready.lies_left.1.0 (ap (λ (k : Link). k.left) link_is) in
        let ey = y_is (Fork u j v) ready.lies_left.1.1 right_is in
        let one_a = subst (λ (k : Link). IsJoined old first a k.left inner.left) link_is one in
        let one_b = subst (λ (k : Link). IsJoined old first a (root_of x) k.left) inner_is one_a in
        let one_is = subst (λ k. IsJoined old first k (root_of x) (root_of u)) (sym here) one_b in
        let two_is = subst (λ (k : Link). IsJoined first second top k.right right) inner_is two in
        let three_is = subst (λ k. IsJoined second new j (Some k) (Some top)) (sym here) (subst (λ k. IsJoined second new k (Some a) (Some top)) (sym inner_here) three) in
        subst (λ k. IsSettled old new (Fork x i (Fork u j v)) top r k) inner_here
        (twice_left old first second new left right i j top x u v r ready high (omega (arith, ex, ey, lower)) one_is two_is three_is)

    pub lean_right_twice : (first second new : List Link) (l r : Shape) → IsReady old left top right l r → height r ≡ height l + 2 → right ≡ Some a → slice_get old a ≡ Some link
        → ((t : Shape) → Lies old t → link.right ≡ root_of t → hy ≡ height t) → ((t : Shape) → Lies old t → link.left ≡ root_of t → hx ≡ height t) → hy < hx
        → link.left ≡ Some b → slice_get old b ≡ Some inner
        → IsJoined old first top left inner.left → IsJoined first second a inner.right link.right → IsJoined second new b (Some top) (Some a) → IsSettled old new l top r b
    lean_right_twice first second new l Leaf ready high some at y_is x_is lower some_b at_b one two three = absurd (let none = ready.right_is in cc)
    lean_right_twice first second new l (Fork Leaf i y) ready high some at y_is x_is lower some_b at_b one two three =
        let here : i ≡ a = let is = ready.right_is in cc in
        let link_is : link ≡ link_of Leaf y = let is = ready.lies_right.0 in let there : slice_get old i ≡ Some link = ap (slice_get old) here ∙ at in cc in
        let none : link.left ≡ None = ap (λ (k : Link). k.left) link_is in
        absurd cc
    lean_right_twice first second new l (Fork (Fork u j v) i y) ready high some at y_is x_is lower some_b at_b one two three =
        let here : i ≡ a = let is = ready.right_is in cc in
        let link_is : link ≡ link_of (Fork u j v) y = let is = ready.lies_right.0 in let there : slice_get old i ≡ Some link = ap (slice_get old) here ∙ at in cc in
        let left_is : link.left ≡ Some j = ap (λ (k : Link). k.left) link_is in
        let inner_here : j ≡ b = cc in
        let inner_is : inner ≡ link_of u v = let is = ready.lies_right.1.0.0 in let there : slice_get old j ≡ Some inner = ap (slice_get old) inner_here ∙ at_b in cc in
        let ex = x_is (Fork u j v) ready.lies_right.1.0 left_is in
        let ey = y_is y ready.lies_right.1.1 (ap (λ (k : Link). k.right) link_is) in
        let one_is = subst (λ (k : Link). IsJoined old first top left k.left) inner_is one in
        let two_a = subst (λ (k : Link). IsJoined first second a k.right link.right) inner_is two in
        let two_b = subst (λ (k : Link). IsJoined first second a (root_of v) k.right) link_is two_a in
        let two_is = subst (λ k. IsJoined first second k (root_of v) (root_of y)) (sym here) two_b in
        let three_is = subst (λ k. IsJoined second new j (Some top) (Some k)) (sym here) (subst (λ k. IsJoined second new k (Some top) (Some a)) (sym inner_here) three) in
        subst (λ k. IsSettled old new l top (Fork (Fork u j v) i y) k) inner_here
        (twice_right old first second new left right i j top l u v y ready high (omega (arith, ex, ey, lower)) one_is two_is three_is)
