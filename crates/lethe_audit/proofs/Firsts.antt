-- The first item that isn't good is one.
use Rattle.std.proofs.Common.{◌≡◌, List, [], ◌∷◌, ◌++◌, All, refl, sym, subst, ◌∙◌, arith}
use Rattle.std.specs.Prelude.{Contains}
use Rattle.std.proofs.lemmas.List.Elements.{All-head, All-tail, All-contains, Contains-append_right}
use Rattle.lethe_audit.specs.Firsts.{IsFirstBut}

module _ {A : Type 0} (Good : A → Type 0) where
  one_split : (before other behind after : List A) (x y : A) → before ++ x ∷ behind ≡ other ++ y ∷ after → All Good before → All Good other → (Good x → ⊥) → (Good y → ⊥) → x ≡ y
  one_split [] [] behind after x y e xs ys no_x no_y = cc
  one_split [] (o ∷ other) behind after x y e xs ys no_x no_y = let same : o ≡ x = cc in absurd (no_x (subst Good same (All-head Good o other ys)))
  one_split (b ∷ before) [] behind after x y e xs ys no_x no_y = let same : b ≡ y = cc in absurd (no_y (subst Good same (All-head Good b before xs)))
  one_split (b ∷ before) (o ∷ other) behind after x y e xs ys no_x no_y =
      let tails : before ++ x ∷ behind ≡ other ++ y ∷ after = cc in
      one_split before other behind after x y tails (All-tail Good b before xs) (All-tail Good o other ys) no_x no_y

  pub one_first : (items : List A) (x y : A) → IsFirstBut Good items x → IsFirstBut Good items y → x ≡ y
  one_first items x y first second = one_split first.before second.before first.behind second.behind x y (sym first.split ∙ second.split) first.good second.good first.bad second.bad

  pub none_first : (items : List A) (x : A) → All Good items → IsFirstBut Good items x → ⊥
  none_first items x all first =
      first.bad (All-contains Good items x all (subst (λ l. Contains l x) (sym first.split) (Contains-append_right first.before (x ∷ first.behind) x (0, omega arith, refl))))
