-- Lists, and lists each two items of which are related.
use Rattle.std.proofs.Common.{◌≡◌, ◌⊎◌, suc, ◌<◌, List, [], ◌∷◌, ◌++◌, map, flat_map, length, get_or, All, AllPairs, Contains, refl, sym, ap, ◌∙◌, subst, arith}
use Rattle.std.proofs.Math.ListN.{get_or-map}
use Rattle.std.proofs.lemmas.List.Elements.{Contains-append_cases, Contains-get_or}
use Rattle.std.proofs.lemmas.List.Kept.{AllPairs-cons}
use Rattle.lethe_cover.proofs.Common.{⊎_elim, Contains-append_left, Contains-append_right, length-map, none_in, first_is, first_or_rest}

pub in_rest : {X : Type 0} (x : X) (xs : List X) (y : X) → Contains xs y → Contains (x ∷ xs) y
in_rest x xs y there = Contains-append_right (x ∷ []) xs y there

pub map_from : {X Y : Type 0} (f : X → Y) (xs : List X) (y : Y) → Contains (map f xs) y → (x : X) × Contains xs x × (f x ≡ y)
map_from f [] y there = absurd (none_in y there)
map_from f (x ∷ xs) y there = ⊎_elim (λ same. (x, first_is x xs x refl, same)) (λ rest. let found = map_from f xs y rest in (found.0, in_rest x xs found.0 found.1, found.2))
    (first_or_rest (f x) (map f xs) y there)

pub in_map : {X Y : Type 0} (f : X → Y) (xs : List X) (x : X) → Contains xs x → Contains (map f xs) (f x)
in_map f xs x there = (there.0, omega (arith, length-map xs f, there.1), get_or-map f xs there.0 x ∙ ap f there.2)

pub flat_in : {X Y : Type 0} (f : X → List Y) (xs : List X) (x : X) (y : Y) → Contains xs x → Contains (f x) y → Contains (flat_map f xs) y
flat_in f [] x y there is = absurd (none_in x there)
flat_in f (first ∷ xs) x y there is = ⊎_elim (λ same. Contains-append_left (f first) (flat_map f xs) y (subst (λ x. Contains (f x) y) (sym same) is))
    (λ rest. Contains-append_right (f first) (flat_map f xs) y (flat_in f xs x y rest is)) (first_or_rest first xs x there)

pub flat_from : {X Y : Type 0} (f : X → List Y) (xs : List X) (y : Y) → Contains (flat_map f xs) y → (x : X) × Contains xs x × Contains (f x) y
flat_from f [] y there = absurd (none_in y there)
flat_from f (first ∷ xs) y there = ⊎_elim (λ here. (first, first_is first xs first refl, here)) (λ rest. let found = flat_from f xs y rest in (found.0, in_rest first xs found.0 found.1, found.2))
    (Contains-append_cases (f first) (flat_map f xs) y there)

pub in_middle : {X : Type 0} (before xs behind : List X) (x : X) → Contains xs x → Contains (before ++ (xs ++ behind)) x
in_middle before xs behind x there = Contains-append_right before (xs ++ behind) x (Contains-append_left xs behind x there)

pub only_in : {X : Type 0} (x y : X) → Contains (x ∷ []) y → x ≡ y
only_in x y there = ⊎_elim (λ same. same) (λ none. absurd (none_in y none)) (first_or_rest x [] y there)

pub all_from : {X : Type 0} (P : X → Type 0) (xs : List X) → ((x : X) → Contains xs x → P x) → All P xs
all_from P xs each = λ k d within. each (get_or xs k d) (Contains-get_or xs k d within)

-- what is in a list stays where others take the place of some, or is one of these
pub swapped : {X : Type 0} (before gone come behind : List X) (x : X) → Contains (before ++ (gone ++ behind)) x → Contains (before ++ (come ++ behind)) x ⊎ Contains gone x
swapped before gone come behind x there = grind (
  arith,
  Contains-append_cases before (gone ++ behind) x there,
  Contains-append_cases gone behind x,
  Contains-append_left before (come ++ behind) x,
  Contains-append_right before (come ++ behind) x,
  Contains-append_right come behind x,
)

abbrev pub Pairs : {X : Type 0} → (X → X → Type 0) → List X → Type 0
Pairs R [] = Unit {0}
Pairs R (x ∷ xs) = ((y : _) → Contains xs y → R x y) × Pairs R xs

module _ {X : Type 0} (R : X → X → Type 0) where
  pub pairs_from : (xs : List X) → AllPairs R xs → Pairs R xs
  pairs_from [] pairs = tt
  pairs_from (x ∷ xs) pairs = (
    (λ y there. let within : there.0 < length xs = there.1 in subst (R x) there.2 (pairs 0 (suc there.0) y (omega arith) (omega arith))),
    pairs_from xs (λ i j d before within. pairs (suc i) (suc j) d (omega arith) (omega arith)),
  )

  pub pairs_to : (xs : List X) → Pairs R xs → AllPairs R xs
  pairs_to [] pairs = λ i j d before within. absurd (omega arith)
  pairs_to (x ∷ xs) pairs = AllPairs-cons R x xs (all_from (R x) xs pairs.0) (pairs_to xs pairs.1)

  pub pairs_append : (xs ys : List X) → Pairs R xs → Pairs R ys → ((x y : X) → Contains xs x → Contains ys y → R x y) → Pairs R (xs ++ ys)
  pairs_append [] ys first second across = second
  pairs_append (x ∷ xs) ys first second across = (
    (λ y there. ⊎_elim (first.0 y) (across x y (first_is x xs x refl)) (Contains-append_cases xs ys y there)),
    pairs_append xs ys first.1 second (λ a b left. across a b (in_rest x xs a left)),
  )

  pub pairs_parts : (xs ys : List X) → Pairs R (xs ++ ys) → Pairs R xs × Pairs R ys × ((x y : X) → Contains xs x → Contains ys y → R x y)
  pairs_parts [] ys pairs = (tt, pairs, λ x y left. absurd (none_in x left))
  pairs_parts (x ∷ xs) ys pairs = let more = pairs_parts xs ys pairs.1 in (
    ((λ y left. pairs.0 y (Contains-append_left xs ys y left)), more.0),
    more.1,
    λ a b left right. ⊎_elim (λ same. subst (λ x. R x b) same (pairs.0 b (Contains-append_right xs ys b right))) (λ rest. more.2 a b rest right) (first_or_rest x xs a left),
  )

  -- other items in the place of some
  pub spliced : (before gone come behind : List X) → Pairs R (before ++ (gone ++ behind)) → Pairs R come → ((x y : X) → Contains before x → Contains come y → R x y)
      → ((x y : X) → Contains come x → Contains behind y → R x y) → Pairs R (before ++ (come ++ behind))
  spliced before gone come behind pairs new left right =
      let outer = pairs_parts before (gone ++ behind) pairs in
      pairs_append before (come ++ behind) outer.0 (pairs_append come behind new (pairs_parts gone behind outer.1).1 right)
      (λ x y one two. ⊎_elim (left x y one) (λ old. outer.2 x y one (Contains-append_right gone behind y old)) (Contains-append_cases come behind y two))

  pub pairs_map : {Y : Type 0} (f : Y → X) (ys : List Y) → Pairs (λ a b. R (f a) (f b)) ys → Pairs R (map f ys)
  pairs_map f [] pairs = tt
  pairs_map f (y ∷ ys) pairs = ((λ x there. let from = map_from f ys x there in subst (R (f y)) from.2 (pairs.0 from.0 from.1)), pairs_map f ys pairs.1)

  pub pairs_unmap : {Y : Type 0} (f : Y → X) (ys : List Y) → Pairs R (map f ys) → Pairs (λ a b. R (f a) (f b)) ys
  pairs_unmap f [] pairs = tt
  pairs_unmap f (y ∷ ys) pairs = ((λ z there. pairs.0 (f z) (in_map f ys z there)), pairs_unmap f ys pairs.1)
