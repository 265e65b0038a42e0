-- Files that ascend, split by a range of keys: those below it, those that overlap it, and those above it.
use Rattle.std.proofs.Common.{◌≡◌, ◌⊎◌, inl, inr, Bool, true, false, List, [], ◌∷◌, ◌++◌, refl, sym, ap, ◌∙◌, subst, arith}
use Rattle.std.specs.Prelude.{◌&&◌, All, Contains, filter}
use Rattle.std.specs.Ordering.{is_le}
use Rattle.std.specs.declared.cmp.Ordering.{Ordering}
use Rattle.std.specs.declared.cmp.Ordering.TheVariants.{Less, Equal, Greater}
use Rattle.std.proofs.lemmas.Bool.{and_from, cond-false, cond-true}
use Rattle.std.proofs.lemmas.List.Elements.{All-cons, All-nil}
use Rattle.lethe_base.specs.Keys.{Bytes, key_cmp}
use Rattle.lethe_cover.proofs.Common.{⊎_elim, first_is, first_or_rest, nat_list_cmp_total}
use Rattle.lethe_cover.proofs.Lists.{Pairs, all_from, in_rest}
use Rattle.lethe_fade.specs.Spans.{KeyRange, overlaps}
use Rattle.lethe_fade.proofs.MeetingLaws.{key_upto}
use Rattle.lethe_moves.proofs.KeyOrder.{IsUpto, less_upto, not_less, upto_less}

-- Tests

pub and_false : (a b : Bool) → b ≡ false → (a && b) ≡ false
and_false true b is = is
and_false false b is = refl

is_false : (b : Bool) → (b ≡ true → ⊥) → b ≡ false
is_false true no_way = absurd (no_way refl)
is_false false no_way = refl

less_or_upto : (a b : Bytes) → (key_cmp a b ≡ Less) ⊎ IsUpto b a
less_or_upto a b = by (key_cmp a b) refl
  where
    by : (o : Ordering) → key_cmp a b ≡ o → (key_cmp a b ≡ Less) ⊎ IsUpto b a
    by Less at = inl at
    by Equal at = inr (grind (arith, nat_list_cmp_total.antisymm a b))
    by Greater at = inr (grind (arith, nat_list_cmp_total.antisymm a b))

module _ {X : Type 0} (range : X → KeyRange) (keys : KeyRange) where
  abbrev pub AreRanges : List X → Type 0
  AreRanges xs = (x : X) → Contains xs x → IsUpto (range x).lo (range x).hi

  abbrev pub Rise : List X → Type 0
  Rise xs = Pairs (λ a b. key_cmp (range a).hi (range b).lo ≡ Less) xs

  abbrev pub IsLower : X → Type 0
  IsLower x = key_cmp (range x).hi keys.lo ≡ Less

  abbrev pub IsHigher : X → Type 0
  IsHigher x = key_cmp keys.hi (range x).lo ≡ Less

  abbrev pub does_meet : X → Bool
  does_meet x = overlaps keys (range x)

  pub lower_clear : (x : X) → IsLower x → does_meet x ≡ false
  lower_clear x lower = ap (λ b. b && is_le (key_cmp (range x).lo keys.hi)) (is_false (is_le (key_cmp keys.lo (range x).hi)) (not_less (range x).hi keys.lo lower))

  pub higher_clear : (x : X) → IsHigher x → does_meet x ≡ false
  higher_clear x higher = and_false (is_le (key_cmp keys.lo (range x).hi)) (is_le (key_cmp (range x).lo keys.hi)) (is_false (is_le (key_cmp (range x).lo keys.hi)) (not_less keys.hi (range x).lo higher))

  pub none_meet : (xs : List X) → ((x : X) → Contains xs x → does_meet x ≡ false) → filter does_meet xs ≡ []
  none_meet [] clear = refl
  none_meet (x ∷ xs) clear =
      cond-false (does_meet x) (x ∷ filter does_meet xs) (filter does_meet xs) (clear x (first_is x xs x refl)) ∙ none_meet xs (λ y there. clear y (in_rest x xs y there))

  all_higher : (x : X) (xs : List X) → AreRanges (x ∷ xs) → Rise (x ∷ xs) → IsHigher x → (y : X) → Contains (x ∷ xs) y → IsHigher y
  all_higher x xs ranges rise higher y there = ⊎_elim (λ same. subst IsHigher same higher)
      (λ rest. upto_less keys.hi (range x).hi (range y).lo (ap is_le (less_upto keys.hi (range x).lo (range x).hi higher (ranges x (first_is x xs x refl)))) (rise.0 y rest))
      (first_or_rest x xs y there)

  -- where none of them lies below
  record IsBegun (xs : List X) : Type 0 where
    higher : List X
    are : xs ≡ filter does_meet xs ++ higher
    above : All IsHigher higher

  from_here : (xs : List X) → AreRanges xs → Rise xs → ((x : X) → Contains xs x → IsUpto keys.lo (range x).hi) → IsBegun xs
  from_here [] ranges rise reach = record { higher = []; are = refl; above = All-nil IsHigher }
  from_here (x ∷ xs) ranges rise reach = ⊎_elim end
      (λ upto. meets upto (from_here xs (λ y there. ranges y (in_rest x xs y there)) rise.1 (λ y there. reach y (in_rest x xs y there)))) (less_or_upto keys.hi (range x).lo)
    where
      end : IsHigher x → IsBegun (x ∷ xs)
      end higher =
          let each = all_higher x xs ranges rise higher in
          let none : filter does_meet (x ∷ xs) ≡ [] = none_meet (x ∷ xs) (λ y there. higher_clear y (each y there)) in
          record { higher = x ∷ xs; are = ap (λ l. l ++ (x ∷ xs)) (sym none); above = all_from IsHigher (x ∷ xs) each }

      meets : IsUpto (range x).lo keys.hi → IsBegun xs → IsBegun (x ∷ xs)
      meets upto more =
          let kept : filter does_meet (x ∷ xs) ≡ x ∷ filter does_meet xs = cond-true (does_meet x) (x ∷ filter does_meet xs) (filter does_meet xs)
          (and_from (is_le (key_cmp keys.lo (range x).hi)) (is_le (key_cmp (range x).lo keys.hi)) (reach x (first_is x xs x refl)) upto) in
          record { higher = more.higher; are = ap (λ l. x ∷ l) more.are ∙ ap (λ l. l ++ more.higher) (sym kept); above = more.above }

  pub record IsParted (xs : List X) : Type 0 where
    pub lower : List X
    pub higher : List X
    pub are : xs ≡ lower ++ (filter does_meet xs ++ higher)
    pub below : All IsLower lower
    pub above : All IsHigher higher

  pub parted : (xs : List X) → AreRanges xs → Rise xs → IsParted xs
  parted [] ranges rise = record { lower = []; higher = []; are = refl; below = All-nil IsLower; above = All-nil IsHigher }
  parted (x ∷ xs) ranges rise = ⊎_elim (λ lower. low lower (parted xs (λ y there. ranges y (in_rest x xs y there)) rise.1)) high (less_or_upto (range x).hi keys.lo)
    where
      low : IsLower x → IsParted xs → IsParted (x ∷ xs)
      low lower rest =
          let kept : filter does_meet (x ∷ xs) ≡ filter does_meet xs = cond-false (does_meet x) (x ∷ filter does_meet xs) (filter does_meet xs) (lower_clear x lower) in
          record {
            lower = x ∷ rest.lower;
            higher = rest.higher;
            are = ap (λ l. x ∷ l) rest.are ∙ ap (λ l. x ∷ (rest.lower ++ (l ++ rest.higher))) (sym kept);
            below = All-cons IsLower x rest.lower lower rest.below;
            above = rest.above;
          }

      high : IsUpto keys.lo (range x).hi → IsParted (x ∷ xs)
      high upto =
          let begun = from_here (x ∷ xs) ranges rise (λ y there. ⊎_elim (λ same. subst (λ y. IsUpto keys.lo (range y).hi) same upto)
          (λ rest. key_upto keys.lo (range x).hi (range y).hi upto (key_upto (range x).hi (range y).lo (range y).hi (ap is_le (rise.0 y rest)) (ranges y there)))
          (first_or_rest x xs y there)) in
          record { lower = []; higher = begun.higher; are = begun.are; below = All-nil IsLower; above = begun.above }
