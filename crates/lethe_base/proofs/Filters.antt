-- What a filter keeps.
use Rattle.std.proofs.Common.{◌≡◌, ◌⊎◌, inl, inr, ℕ, ◌+◌, ◌<◌, Bool, true, false, cond, List, [], ◌∷◌, ◌++◌, filter, length, take, drop, All, Contains, refl, sym, ap, ◌∙◌, subst, arith}
use Rattle.std.specs.List.{AllWithin}
use Rattle.std.proofs.lemmas.Bool.{cond_both}
use Rattle.std.proofs.lemmas.List.{get_or-drop, get_or-take, length-drop, length-take, take-append-drop}
use Rattle.std.proofs.lemmas.List.Elements.{All-contains, All-contains_itself, All-filter, All-head, All-tail, Contains-append_right, filter-append, filter_passes}
use Rattle.lethe_base.proofs.LayoutLaws.{none_in}
use Rattle.lethe_base.proofs.Newest.{first_is, first_or_rest}

module _ {X : Type 0} (p : X → Bool) where
  pub from_filter : (xs : List X) (x : X) → Contains (filter p xs) x → Contains xs x × (p x ≡ true)
  from_filter xs x there = (
    All-contains (Contains xs) (filter p xs) x (All-filter p (Contains xs) xs (All-contains_itself xs)) there,
    All-contains (λ y. p y ≡ true) (filter p xs) x (filter_passes p xs) there,
  )

  pub in_filter : (xs : List X) (x : X) → Contains xs x → p x ≡ true → Contains (filter p xs) x
  in_filter [] x there passes = absurd (none_in x there)
  in_filter (first ∷ xs) x there passes = by (first_or_rest first xs x there) (λ rest. in_filter xs x rest passes)
    where
      by : (first ≡ x) ⊎ Contains xs x → (Contains xs x → Contains (filter p xs) x) → Contains (filter p (first ∷ xs)) x
      by (inl same) kept = subst (λ b. Contains (cond b (first ∷ filter p xs) (filter p xs)) x) (sym (ap p same ∙ passes)) (first_is first (filter p xs) x same)
      by (inr rest) kept = cond_both (p first) (first ∷ filter p xs) (filter p xs) (λ list. Contains list x) (λ at. Contains-append_right (first ∷ []) (filter p xs) x (kept rest)) (λ at. kept rest)

  pub filter_all : (xs : List X) → All (λ x. p x ≡ true) xs → filter p xs ≡ xs
  filter_all [] all = refl
  filter_all (x ∷ xs) all = ap (λ b. cond b (x ∷ filter p xs) (filter p xs)) (All-head (λ x. p x ≡ true) x xs all) ∙ ap (λ xs. x ∷ xs) (filter_all xs (All-tail (λ x. p x ≡ true) x xs all))

  pub filter_none : (xs : List X) → All (λ x. p x ≡ false) xs → filter p xs ≡ []
  filter_none [] all = refl
  filter_none (x ∷ xs) all = ap (λ b. cond b (x ∷ filter p xs) (filter p xs)) (All-head (λ x. p x ≡ false) x xs all) ∙ filter_none xs (All-tail (λ x. p x ≡ false) x xs all)

  -- where those in front of a place fail and those from there on pass, these are what is kept
  pub filter_parted : (xs : List X) (at : ℕ) → AllWithin (λ x. p x ≡ false) xs 0 at → AllWithin (λ x. p x ≡ true) xs at (length xs) → filter p xs ≡ drop at xs
  filter_parted xs at fail pass = ap (filter p) (sym (take-append-drop at xs)) ∙ filter-append p (take at xs) (drop at xs) ∙ (λ i. front i ++ back i)
    where
      front : filter p (take at xs) ≡ []
      front = filter_none (take at xs) (λ k d within. let lt : k < at = omega (arith, within, length-take at xs) in subst (λ x. p x ≡ false) (sym (get_or-take at xs k d lt)) (fail k d (omega arith) lt))

      back : filter p (drop at xs) ≡ drop at xs
      back = filter_all (drop at xs) (λ k d within. subst (λ x. p x ≡ true) (sym (get_or-drop at xs k d)) (pass (at + k) d (omega arith) (omega (arith, within, length-drop at xs))))
