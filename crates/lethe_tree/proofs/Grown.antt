-- A node that is hung in.
use Rattle.std.proofs.Common.{◌≡◌, ℕ, ◌-◌, ◌≤◌, Bool, true, false, Option, Some, None, List, [], ◌∷◌, ◌++◌, sym, refl, ap, ◌∙◌, subst, arith}
use Rattle.std.specs.Prelude.{slice_get}
use Rattle.lethe_tree.specs.declared.link.Link.{Link}
use Rattle.lethe_tree.specs.Grown.{IsGrown, MayGrow, put}
use Rattle.lethe_tree.specs.Settled.{IsReady, IsSettled}
use Rattle.lethe_tree.specs.Shape.{Shape, Leaf, Fork, NotIn, Apart, height, link_of, order, root_of}
use Rattle.lethe_tree.proofs.Lists.{Disjoint, apart_split, apart_put, lies_beside, notin_parts, notin_put, put_left, put_right, turns_left, turns_right}
use Rattle.lethe_tree.proofs.Growth.{heights, heights_right}

pub alone_grown : (old : List Link) (test : ℕ → Bool) (from : Option ℕ) (new : ℕ) (t : Shape) → MayGrow old test from new t → from ≡ None → IsGrown old old test t new new
alone_grown old test from new Leaf may none = record {
  tree = Fork Leaf new Leaf;
  lies = (may.alone, (tt, tt));
  root_is = refl;
  balanced = ((omega arith, omega arith), (tt, tt));
  same = refl;
  size_is = refl;
  not_lower = omega arith;
  at_most_one = omega arith;
  beside = λ i a b. refl;
}
alone_grown old test from new (Fork l i r) may none = absurd (let is = may.from_is in cc)

module _ (old mid now : List Link) (test : ℕ → Bool) (new top side root depth : ℕ) where
  left_case : (l r : Shape) → MayGrow old test (Some top) new (Fork l top r) → height (Fork l top r) ≤ depth → test top ≡ true
      → ((s : Shape) → MayGrow old test (root_of l) new s → height s ≤ depth - 1 → IsGrown old mid test s new side)
      → ((s u : Shape) → IsReady mid (Some side) top (root_of r) s u → IsSettled mid now s top u root) → IsGrown old now test (Fork l top r) new root
  left_case l r may low below grown settled =
      let s = apart_split (order l) (top ∷ order r) may.apart in
      let n = notin_parts new (order l) (top ∷ order r) may.other in
      let few = may.few in
      let g = grown l (record { lies = may.lies.1.0; from_is = refl; balanced = may.balanced.1.0; apart = s.0; other = n.0; alone = may.alone; few = omega arith; turns = turns_left test (order l) (top ∷ order r) may.turns })
      (grind arith) in
      let is : order g.tree ++ top ∷ order r ≡ put test new (order l ++ top ∷ order r) =
      ap (λ z. z ++ top ∷ order r) g.same ∙ sym (put_left test new top (order l) (order r) below) in
      let a = may.balanced.0 in
      let x = g.not_lower in
      let y = g.at_most_one in
      let z = g.size_is in
      let ready : IsReady mid (Some side) top (root_of r) g.tree r = record {
        lies_left = g.lies;
        lies_right = lies_beside old mid (order l) new g.beside r s.1.1.1 n.1.1 may.lies.1.1;
        left_is = sym g.root_is;
        right_is = refl;
        balanced_left = g.balanced;
        balanced_right = may.balanced.1.1;
        differ = (omega (arith, a.0, a.1, x, y), omega (arith, a.0, a.1, x, y));
        apart = subst Apart (sym is) (apart_put test new (order l ++ top ∷ order r) may.other may.apart);
        few = omega (arith, z, few);
      } in
      let st = settled g.tree r ready in
      let h = heights (height l) (height r) (height g.tree) (height st.tree) a.0 a.1 x y st.height_is in
      record {
        tree = st.tree;
        lies = st.lies;
        root_is = st.root_is;
        balanced = st.balanced;
        same = st.same ∙ is;
        size_is = omega (arith, st.size_is, z);
        not_lower = h.0;
        at_most_one = omega (arith, h.1);
        beside = λ i other differs.
            let p = notin_parts i (order l) (top ∷ order r) other in
            st.beside i (subst (NotIn i) (sym is) (notin_put test i new (order l ++ top ∷ order r) (λ same. differs (sym same)) other)) ∙ g.beside i p.0 differs;
      }

  right_case : (l r : Shape) → MayGrow old test (Some top) new (Fork l top r) → height (Fork l top r) ≤ depth → test top ≡ false
      → ((s : Shape) → MayGrow old test (root_of r) new s → height s ≤ depth - 1 → IsGrown old mid test s new side)
      → ((s u : Shape) → IsReady mid (root_of l) top (Some side) s u → IsSettled mid now s top u root) → IsGrown old now test (Fork l top r) new root
  right_case l r may low below grown settled =
      let s = apart_split (order l) (top ∷ order r) may.apart in
      let n = notin_parts new (order l) (top ∷ order r) may.other in
      let few = may.few in
      let g = grown r (record { lies = may.lies.1.1; from_is = refl; balanced = may.balanced.1.1; apart = s.1.0.1; other = n.1.1; alone = may.alone; few = omega arith; turns = (turns_right test (order l) (top ∷ order r) may.turns).1 })
      (grind arith) in
      let is : order l ++ top ∷ order g.tree ≡ put test new (order l ++ top ∷ order r) =
      ap (λ z. order l ++ top ∷ z) g.same ∙ sym (put_right test new top (order l) (order r) below may.turns) in
      let a = may.balanced.0 in
      let x = g.not_lower in
      let y = g.at_most_one in
      let z = g.size_is in
      let ready : IsReady mid (root_of l) top (Some side) l g.tree = record {
        lies_left = lies_beside old mid (order r) new g.beside l (flipped (order l) (order r) s.1.1.1) n.0 may.lies.1.0;
        lies_right = g.lies;
        left_is = refl;
        right_is = sym g.root_is;
        balanced_left = may.balanced.1.0;
        balanced_right = g.balanced;
        differ = (omega (arith, a.0, a.1, x, y), omega (arith, a.0, a.1, x, y));
        apart = subst Apart (sym is) (apart_put test new (order l ++ top ∷ order r) may.other may.apart);
        few = omega (arith, z, few);
      } in
      let st = settled l g.tree ready in
      let h = heights_right (height l) (height r) (height g.tree) (height st.tree) a.0 a.1 x y st.height_is in
      record {
        tree = st.tree;
        lies = st.lies;
        root_is = st.root_is;
        balanced = st.balanced;
        same = st.same ∙ is;
        size_is = omega (arith, st.size_is, z);
        not_lower = h.0;
        at_most_one = omega (arith, h.1);
        beside = λ i other differs.
            let p = notin_parts i (order l) (top ∷ order r) other in
            st.beside i (subst (NotIn i) (sym is) (notin_put test i new (order l ++ top ∷ order r) (λ same. differs (sym same)) other)) ∙ g.beside i p.1.1 differs;
      }
    where
      flipped : (xs ys : List ℕ) → Disjoint xs ys → Disjoint ys xs
      flipped [] ys d = tt
      flipped (x ∷ xs) ys d = (first ys d, flipped xs ys (rest ys d))
        where
          first : (ys : List ℕ) → Disjoint (x ∷ xs) ys → NotIn x ys
          first [] d = tt
          first (y ∷ ys) d = ((λ same. d.0.0 (sym same)), first ys d.1)

          rest : (ys : List ℕ) → Disjoint (x ∷ xs) ys → Disjoint xs ys
          rest [] d = tt
          rest (y ∷ ys) d = (d.0.1, rest ys d.1)

  module _ (from : Option ℕ) (link : Link) where
    pub left_grown : (t : Shape) → MayGrow old test from new t → height t ≤ depth → from ≡ Some top → slice_get old top ≡ Some link → test top ≡ true
        → ((s : Shape) → MayGrow old test link.left new s → height s ≤ depth - 1 → IsGrown old mid test s new side)
        → ((s u : Shape) → IsReady mid (Some side) top link.right s u → IsSettled mid now s top u root) → IsGrown old now test t new root
    left_grown Leaf may low some at below grown settled = absurd (let is = may.from_is in cc)
    left_grown (Fork l i r) may low some at below grown settled =
        let here : top ≡ i = let is = may.from_is in cc in
        let link_is : link ≡ link_of l r = let is = may.lies.0 in let there : slice_get old i ≡ Some link = sym (ap (slice_get old) here) ∙ at in cc in
        subst (λ k. IsGrown old now test (Fork l k r) new root) here
        (left_case l r (subst (λ k. MayGrow old test (Some top) new (Fork l k r)) (sym here) (subst (λ o. MayGrow old test o new (Fork l i r)) some may)) low below
        (subst (λ (k : Link). (s : Shape) → MayGrow old test k.left new s → height s ≤ depth - 1 → IsGrown old mid test s new side) link_is grown)
        (subst (λ (k : Link). (s u : Shape) → IsReady mid (Some side) top k.right s u → IsSettled mid now s top u root) link_is settled))

    pub right_grown : (t : Shape) → MayGrow old test from new t → height t ≤ depth → from ≡ Some top → slice_get old top ≡ Some link → test top ≡ false
        → ((s : Shape) → MayGrow old test link.right new s → height s ≤ depth - 1 → IsGrown old mid test s new side)
        → ((s u : Shape) → IsReady mid link.left top (Some side) s u → IsSettled mid now s top u root) → IsGrown old now test t new root
    right_grown Leaf may low some at below grown settled = absurd (let is = may.from_is in cc)
    right_grown (Fork l i r) may low some at below grown settled =
        let here : top ≡ i = let is = may.from_is in cc in
        let link_is : link ≡ link_of l r = let is = may.lies.0 in let there : slice_get old i ≡ Some link = sym (ap (slice_get old) here) ∙ at in cc in
        subst (λ k. IsGrown old now test (Fork l k r) new root) here
        (right_case l r (subst (λ k. MayGrow old test (Some top) new (Fork l k r)) (sym here) (subst (λ o. MayGrow old test o new (Fork l i r)) some may)) low below
        (subst (λ (k : Link). (s : Shape) → MayGrow old test k.right new s → height s ≤ depth - 1 → IsGrown old mid test s new side) link_is grown)
        (subst (λ (k : Link). (s u : Shape) → IsReady mid k.left top (Some side) s u → IsSettled mid now s top u root) link_is settled))
