-- Looking for a key in a tree.
use Rattle.std.proofs.Common.{◌≡◌, ℕ, ◌+◌, ◌-◌, ◌<◌, ◌≤◌, inl, inr, Bool, true, false, ltb, Option, Some, None, List, ◌∷◌, length, slice_get, sym, refl, ap, ◌∙◌, subst, arith}
use Rattle.std.specs.Prelude.{◌^◌, ◌*◌}
use Rattle.std.specs.declared.cmp.Ordering.{Ordering}
use Rattle.std.specs.declared.cmp.Ordering.TheVariants.{Less, Equal, Greater}
use Rattle.std.proofs.Math.Pow.{pow_mono, pow-lt}
use Rattle.std.proofs.lemmas.Bool.{ltb-true, ltb-false}
use Rattle.std.proofs.Math.Nat.{mul-le-mul_left, mul-le-mul_right, pow-succ', pow-zero}
use Rattle.lethe_base.specs.Keys.{Bytes, key_cmp}
use Rattle.lethe_base.specs.Entries.{IsAscending, entry_of}
use Rattle.lethe_base.specs.declared.entry.Entry.{Entry}
use Rattle.lethe_mem.proofs.Places.{tied}
use Rattle.lethe_tree.specs.declared.link.Link.{Link}
use Rattle.lethe_tree.specs.Shape.{Shape, Leaf, Fork, IsBalanced, height, link_of, order, size}
use Rattle.lethe_tree.specs.Looked.{IsFound, MayLook, Stands, below_of, by_side, looks, side_of}
use Rattle.lethe_tree.specs.Tree.{at_each}
use Rattle.lethe_tree.proofs.Growth.{many}
use Rattle.lethe_tree.proofs.Ordered.{back_ascends, below_back, below_front, each_parts, entry_of-back, entry_of-front, front_ascends, stands_left, stands_right, got}
use Rattle.lethe_mem.proofs.Places.{tail_ascends}
use Rattle.lethe_tree.proofs.Rotations.{length_is}

-- how far a look has come: what is found below is what is found
pub record IsLooking (links : List Link) (entries : List Entry) (key : Bytes) (t : Shape) (at : Option ℕ) (left steps first : ℕ) : Type 0 where
  pub rest : Shape
  pub may : MayLook links entries at rest
  pub same : entry_of key (at_each entries (order rest)) ≡ entry_of key (at_each entries (order t))
  pub stands : (i : ℕ) → Stands i (order rest) → Stands i (order t)
  pub cost : steps + height rest ≤ first + height t
  pub each : steps + looks entries key rest ≡ first + looks entries key t
  pub later : first ≤ steps
  pub enough : height rest ≤ left

-- no balanced tree of indices is higher than that
pub low_enough : (t : Shape) → IsBalanced t → size t < 2 ^ 64 → height t ≤ 128
low_enough t balanced few = tested (ltb 128 (height t)) refl
  where
    low : ltb 128 (height t) ≡ true → height t ≤ 128
    low high =
        let lt = ltb-true 128 (height t) high in
        let a : 2 ^ 128 < 2 ^ height t = pow-lt {i = 128} {j = height t} lt in
        let b = many t balanced in
        let c : (size t + 1) * (size t + 1) ≤ 2 ^ 64 * (size t + 1) = mul-le-mul_right {m = size t + 1} {n = 2 ^ 64} (size t + 1) (omega (arith, few)) in
        let d : 2 ^ 64 * (size t + 1) ≤ 2 ^ 64 * 2 ^ 64 = mul-le-mul_left {m = size t + 1} {n = 2 ^ 64} (2 ^ 64) (omega (arith, few)) in
        absurd (omega (arith, a, b, c, d))

    tested : (b : Bool) → ltb 128 (height t) ≡ b → height t ≤ 128
    tested true e = low e
    tested false e = ltb-false 128 (height t) e

pub begins : (links : List Link) (entries : List Entry) (key : Bytes) (t : Shape) (from : Option ℕ) (first : ℕ) → MayLook links entries from t → IsLooking links entries key t from 128 first first
begins links entries key t from first may = record {
  rest = t;
  may = may;
  same = refl;
  stands = λ i h. h;
  cost = omega arith;
  each = refl;
  later = omega arith;
  enough = low_enough t may.balanced may.few;
}

looks_at : (entries : List Entry) (key : Bytes) (l : Shape) (i : ℕ) (r : Shape) (e : Entry) (o : Ordering) → slice_get entries i ≡ Some e → key_cmp key e.key ≡ o
    → looks entries key (Fork l i r) ≡ by_side o (looks entries key l) (looks entries key r) + 1
looks_at entries key l i r e o some is =
    ap (λ x. below_of key x (looks entries key l) (looks entries key r) + 1) some ∙ ap (λ x. by_side x (looks entries key l) (looks entries key r) + 1) is

square : (n : ℕ) → n ^ 2 ≡ n * n
square n = pow-succ' n 1 ∙ ap (λ k. n * k) (pow-succ' n 0 ∙ (ap (λ k. n * k) (pow-zero n) ∙ omega arith))

squared : (t : Shape) → (length (order t) + 1) ^ 2 ≡ (size t + 1) * (size t + 1)
squared t = ap (λ n. (n + 1) ^ 2) (length_is t) ∙ square (size t + 1)

module _ (links : List Link) (entries : List Entry) (key : Bytes) (t : Shape) (at : Option ℕ) (left steps first : ℕ) where
  pub no_more : IsLooking links entries key t at left steps first → at ≡ None → IsFound entries key (order t) None
  no_more looking none = by looking.rest looking.may looking.same
    where
      by : (rest : Shape) → MayLook links entries at rest → entry_of key (at_each entries (order rest)) ≡ entry_of key (at_each entries (order t)) → IsFound entries key (order t) None
      by Leaf may same = sym same
      by (Fork l i r) may same = absurd (let is = may.from_is in cc)

  pub no_height : IsLooking links entries key t at left steps first → left ≡ 0 → IsFound entries key (order t) None
  no_height looking none = by looking.rest looking.enough looking.same
    where
      by : (rest : Shape) → height rest ≤ left → entry_of key (at_each entries (order rest)) ≡ entry_of key (at_each entries (order t)) → IsFound entries key (order t) None
      by Leaf enough same = sym same
      by (Fork l i r) enough same = absurd (omega (arith, enough, none))

  pub each_at_leaf : IsLooking links entries key t at left steps first → at ≡ None → steps ≡ first + looks entries key t
  each_at_leaf looking none = by looking.rest looking.may looking.each
    where
      by : (rest : Shape) → MayLook links entries at rest → steps + looks entries key rest ≡ first + looks entries key t → steps ≡ first + looks entries key t
      by Leaf may each = omega (arith, each)
      by (Fork l i r) may each = absurd (let is = may.from_is in cc)

  pub each_at_end : IsLooking links entries key t at left steps first → left ≡ 0 → steps ≡ first + looks entries key t
  each_at_end looking none = by looking.rest looking.enough looking.each
    where
      by : (rest : Shape) → height rest ≤ left → steps + looks entries key rest ≡ first + looks entries key t → steps ≡ first + looks entries key t
      by Leaf enough each = omega (arith, each)
      by (Fork l i r) enough each = absurd (omega (arith, enough, none))

  pub few_steps : IsBalanced t → IsLooking links entries key t at left steps first → 2 ^ (steps - first) ≤ (length (order t) + 1) ^ 2
  few_steps balanced looking =
      let a = pow_mono {i = steps - first} {j = height t} (omega (arith, looking.cost)) in
      let b = many t balanced in
      omega (arith, a, b, squared t)

  module _ (here : ℕ) where
    -- one node is looked at
    pub there : IsLooking links entries key t at left steps first → at ≡ Some here → slice_get links here ≡ None → ⊥
    there looking some none = by looking.rest looking.may
      where
        by : (rest : Shape) → MayLook links entries at rest → ⊥
        by Leaf may = let is = may.from_is in cc
        by (Fork l i r) may = let is = may.from_is in let lies = may.lies.0 in let same : i ≡ here = cc in let e = ap (slice_get links) same in cc

    pub keyed : IsLooking links entries key t at left steps first → at ≡ Some here → slice_get entries here ≡ None → ⊥
    keyed looking some none = by looking.rest looking.may
      where
        by : (rest : Shape) → MayLook links entries at rest → ⊥
        by Leaf may = let is = may.from_is in cc
        by (Fork l i r) may =
            let is = may.from_is in
            let same : i ≡ here = cc in
            let e = got entries i (below_back (length entries) (order l) (i ∷ order r) may.known).0 in
            let some_is : slice_get entries here ≡ Some e.0 = ap (slice_get entries) (sym same) ∙ e.1 in
            cc

    pub found_here : (e : Entry) → IsLooking links entries key t at left steps first → at ≡ Some here → slice_get entries here ≡ Some e → key_cmp key e.key ≡ Equal → IsFound entries key (order t) (Some here)
    found_here e looking some is equal = by looking.rest looking.may looking.stands
      where
        by : (rest : Shape) → MayLook links entries at rest → ((i : ℕ) → Stands i (order rest) → Stands i (order t)) → IsFound entries key (order t) (Some here)
        by Leaf may stands = absurd (let none = may.from_is in cc)
        by (Fork l i r) may stands = let at_is = may.from_is in let same : i ≡ here = cc in (e, is, sym (tied key e.key equal), stands here (stands_right here (order l) (i ∷ order r) (inl same)))

    pub counted : IsLooking links entries key t at left steps first → at ≡ Some here → steps + 1 ≤ first + height t
    counted looking some = by looking.rest looking.may looking.cost
      where
        by : (rest : Shape) → MayLook links entries at rest → steps + height rest ≤ first + height t → steps + 1 ≤ first + height t
        by Leaf may cost = absurd (let none = may.from_is in cc)
        by (Fork l i r) may cost = grind arith

    pub few_counted : (now : ℕ) → IsBalanced t → IsLooking links entries key t at left steps first → at ≡ Some here → now ≡ steps + 1 → 2 ^ (now - first) ≤ (length (order t) + 1) ^ 2
    few_counted now balanced looking some is =
        let a = pow_mono {i = now - first} {j = height t} (omega (arith, counted looking some, is)) in
        let b = many t balanced in
        omega (arith, a, b, squared t)

    pub each_here : (e : Entry) (now : ℕ) → IsLooking links entries key t at left steps first → at ≡ Some here → slice_get entries here ≡ Some e → key_cmp key e.key ≡ Equal → now ≡ steps + 1 → now ≡ first + looks entries key t
    each_here e now looking some key_is equal is = by looking.rest looking.may looking.each
      where
        by : (rest : Shape) → MayLook links entries at rest → steps + looks entries key rest ≡ first + looks entries key t → now ≡ first + looks entries key t
        by Leaf may each = absurd (let none = may.from_is in cc)
        by (Fork l i r) may each =
            let at_is = may.from_is in
            let same : i ≡ here = cc in
            let one = looks_at entries key l i r e Equal (ap (slice_get entries) same ∙ key_is) equal in
            is ∙ (sym (ap (λ n. steps + n) one) ∙ each)

    module _ (link : Link) (e : Entry) where
      pub goes_left : IsLooking links entries key t at left steps first → at ≡ Some here → slice_get links here ≡ Some link → slice_get entries here ≡ Some e → key_cmp key e.key ≡ Less
          → IsLooking links entries key t link.left (left - 1) (steps + 1) first
      goes_left looking some at_is key_is below = by looking.rest looking.may looking.same looking.stands looking.cost looking.each looking.enough
        where
          by : (rest : Shape) → MayLook links entries at rest → entry_of key (at_each entries (order rest)) ≡ entry_of key (at_each entries (order t)) → ((i : ℕ) → Stands i (order rest) → Stands i (order t))
              → steps + height rest ≤ first + height t → steps + looks entries key rest ≡ first + looks entries key t → height rest ≤ left → IsLooking links entries key t link.left (left - 1) (steps + 1) first
          by Leaf may found stands cost each enough = absurd (let none = may.from_is in cc)
          by (Fork l i r) may found stands cost each enough =
              let is = may.from_is in
              let same : i ≡ here = cc in
              let link_is : link ≡ link_of l r = let lies = may.lies.0 in let x = ap (slice_get links) same in cc in
              let parts = each_parts entries (order l) i (order r) e (ap (slice_get entries) same ∙ key_is) in
              let rising = subst IsAscending parts may.ascending in
              let few = may.few in
              record {
                rest = l;
                may = record { lies = may.lies.1.0; from_is = ap (λ (k : Link). k.left) link_is; balanced = may.balanced.1.0; ascending = front_ascends (at_each entries (order l)) (e ∷ at_each entries (order r)) rising; known = below_front (length entries) (order l) (i ∷ order r) may.known; few = omega arith };
                same = sym (entry_of-front key (at_each entries (order l)) e (at_each entries (order r)) rising below) ∙ (ap (entry_of key) (sym parts) ∙ found);
                stands = λ k h. stands k (stands_left k (order l) (i ∷ order r) h);
                cost = grind arith;
                each = let one = looks_at entries key l i r e Less (ap (slice_get entries) same ∙ key_is) below in omega (arith, one, each);
                later = let x = looking.later in omega (arith, x);
                enough = grind arith;
              }

      pub goes_right : IsLooking links entries key t at left steps first → at ≡ Some here → slice_get links here ≡ Some link → slice_get entries here ≡ Some e → key_cmp key e.key ≡ Greater
          → IsLooking links entries key t link.right (left - 1) (steps + 1) first
      goes_right looking some at_is key_is above = by looking.rest looking.may looking.same looking.stands looking.cost looking.each looking.enough
        where
          by : (rest : Shape) → MayLook links entries at rest → entry_of key (at_each entries (order rest)) ≡ entry_of key (at_each entries (order t)) → ((i : ℕ) → Stands i (order rest) → Stands i (order t))
              → steps + height rest ≤ first + height t → steps + looks entries key rest ≡ first + looks entries key t → height rest ≤ left → IsLooking links entries key t link.right (left - 1) (steps + 1) first
          by Leaf may found stands cost each enough = absurd (let none = may.from_is in cc)
          by (Fork l i r) may found stands cost each enough =
              let is = may.from_is in
              let same : i ≡ here = cc in
              let link_is : link ≡ link_of l r = let lies = may.lies.0 in let x = ap (slice_get links) same in cc in
              let parts = each_parts entries (order l) i (order r) e (ap (slice_get entries) same ∙ key_is) in
              let rising = subst IsAscending parts may.ascending in
              let few = may.few in
              record {
                rest = r;
                may = record { lies = may.lies.1.1; from_is = ap (λ (k : Link). k.right) link_is; balanced = may.balanced.1.1; ascending = tail_ascends e (at_each entries (order r)) (back_ascends (at_each entries (order l)) (e ∷ at_each entries (order r)) rising); known = (below_back (length entries) (order l) (i ∷ order r) may.known).1; few = omega arith };
                same = sym (entry_of-back key (at_each entries (order l)) e (at_each entries (order r)) rising above) ∙ (ap (entry_of key) (sym parts) ∙ found);
                stands = λ k h. stands k (stands_right k (order l) (i ∷ order r) (inr h));
                cost = grind arith;
                each = let one = looks_at entries key l i r e Greater (ap (slice_get entries) same ∙ key_is) above in omega (arith, one, each);
                later = let x = looking.later in omega (arith, x);
                enough = grind arith;
              }

      pub goes_on : (side : Option ℕ) (r : Ordering) → IsLooking links entries key t at left steps first → at ≡ Some here → slice_get links here ≡ Some link → slice_get entries here ≡ Some e → key_cmp key e.key ≡ r → side_of link r ≡ Some side
          → IsLooking links entries key t side (left - 1) (steps + 1) first
      goes_on side Less looking some at_is key_is stands is = let same : link.left ≡ side = cc in subst (λ o. IsLooking links entries key t o (left - 1) (steps + 1) first) same (goes_left looking some at_is key_is stands)
      goes_on side Equal looking some at_is key_is stands is = absurd cc
      goes_on side Greater looking some at_is key_is stands is = let same : link.right ≡ side = cc in subst (λ o. IsLooking links entries key t o (left - 1) (steps + 1) first) same (goes_right looking some at_is key_is stands)

      pub ends_here : (r : Ordering) → key_cmp key e.key ≡ r → side_of link r ≡ None → key_cmp key e.key ≡ Equal
      ends_here Less stands is = absurd cc
      ends_here Equal stands is = stands
      ends_here Greater stands is = absurd cc
