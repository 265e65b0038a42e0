-- The order of keys, ranges of them, and lists of ranges that ascend.
use Rattle.std.proofs.Common.{◌≡◌, true, IsTrue, List, [], ◌∷◌, fold, Contains, refl, ap, subst, arith}
use Rattle.std.specs.Ordering.{ord_min, ord_max}
use Rattle.std.proofs.lemmas.Bool.{and_from}
use Rattle.std.proofs.lemmas.Cmp.{alike_right}
use Rattle.lethe_moves.proofs.Common.{⊎_elim, nat_list_cmp_total, is_le, Less, Bytes, key_cmp, none_in, first_is, first_or_rest, KeyRange, joined, overlaps, key_itself, key_upto, IsWithin}
use Rattle.lethe_cover.proofs.Lists.{Pairs, in_rest}

abbrev pub IsUpto : Bytes → Bytes → Type 0
IsUpto a b = IsTrue (is_le (key_cmp a b))

pub not_less : (a b : Bytes) → key_cmp a b ≡ Less → IsUpto b a → ⊥
not_less a b less upto = grind (arith, nat_list_cmp_total.antisymm b a)

pub less_upto : (a b c : Bytes) → key_cmp a b ≡ Less → IsUpto b c → key_cmp a c ≡ Less
less_upto a b c less upto = grind (arith, nat_list_cmp_total.trans a b c less, alike_right nat_list_cmp_total b c a)

pub upto_less : (a b c : Bytes) → IsUpto a b → key_cmp b c ≡ Less → key_cmp a c ≡ Less
upto_less a b c upto less = grind (arith, nat_list_cmp_total.trans a b c, nat_list_cmp_total.congr a b c)

-- the second range lies within the first
abbrev pub Spans : KeyRange → KeyRange → Type 0
Spans outer inner = IsUpto outer.lo inner.lo × IsUpto inner.hi outer.hi

pub spans_through : (a b c : KeyRange) → Spans a b → Spans b c → Spans a c
spans_through a b c ab bc = (key_upto a.lo b.lo c.lo ab.0 bc.0, key_upto c.hi b.hi a.hi bc.1 ab.1)

pub joined_spans : (a b : KeyRange) → Spans (joined a b) a × Spans (joined a b) b
joined_spans a b = (((low a.lo b.lo).0, (high a.hi b.hi).0), ((low a.lo b.lo).1, (high a.hi b.hi).1))
  where
    low : (x y : Bytes) → IsUpto (ord_min key_cmp x y) x × IsUpto (ord_min key_cmp x y) y
    low x y = grind (arith, key_itself x, key_itself y, nat_list_cmp_total.antisymm x y)

    high : (x y : Bytes) → IsUpto x (ord_max key_cmp x y) × IsUpto y (ord_max key_cmp x y)
    high x y = grind (arith, key_itself x, key_itself y, nat_list_cmp_total.antisymm x y)

-- ranges with a key in common overlap
pub overlap_at : (a b : KeyRange) (key : Bytes) → IsWithin a.lo a.hi key → IsWithin b.lo b.hi key → overlaps a b ≡ true
overlap_at a b key one two = and_from (is_le (key_cmp a.lo b.hi)) (is_le (key_cmp b.lo a.hi)) (key_upto a.lo key b.hi one.0 two.1) (key_upto b.lo key a.hi two.0 one.1)

-- of items whose ranges ascend, the first has the least key and the last the greatest
module _ {X : Type 0} (lo hi : X → Bytes) where
  abbrev AreRanges : List X → Type 0
  AreRanges xs = (x : X) → Contains xs x → IsUpto (lo x) (hi x)

  abbrev Rise : List X → Type 0
  Rise xs = Pairs (λ x y. key_cmp (hi x) (lo y) ≡ Less) xs

  rises : (key : Bytes) (xs : List X) → AreRanges xs → Rise xs → ((x : X) → Contains xs x → key_cmp key (lo x) ≡ Less) → IsUpto key (fold (λ before x. hi x) key xs)
  rises key [] ranges rise above = key_itself key
  rises key (x ∷ xs) ranges rise above =
      let first = first_is x xs x refl in
      key_upto key (hi x) (fold (λ before x. hi x) (hi x) xs) (key_upto key (lo x) (hi x) (ap is_le (above x first)) (ranges x first))
      (rises (hi x) xs (λ y there. ranges y (in_rest x xs y there)) rise.1 rise.0)

  pub highest : (key : Bytes) (xs : List X) → AreRanges xs → Rise xs → (x : X) → Contains xs x → IsUpto (hi x) (fold (λ before x. hi x) key xs)
  highest key [] ranges rise x there = absurd (none_in x there)
  highest key (first ∷ xs) ranges rise x there =
      let behind = λ (y : X) (there : Contains xs y). ranges y (in_rest first xs y there) in
      ⊎_elim (λ same. subst (λ x. IsUpto (hi x) (fold (λ before x. hi x) (hi first) xs)) same (rises (hi first) xs behind rise.1 rise.0))
      (highest (hi first) xs behind rise.1 x) (first_or_rest first xs x there)

  pub lowest : (first : X) (xs : List X) → AreRanges (first ∷ xs) → Rise (first ∷ xs) → (x : X) → Contains (first ∷ xs) x → IsUpto (lo first) (lo x)
  lowest first xs ranges rise x there = ⊎_elim (λ same. subst (λ x. IsUpto (lo first) (lo x)) same (key_itself (lo first)))
      (λ rest. key_upto (lo first) (hi first) (lo x) (ranges first (first_is first xs first refl)) (ap is_le (rise.0 x rest))) (first_or_rest first xs x there)
