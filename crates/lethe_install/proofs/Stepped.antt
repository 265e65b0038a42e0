-- One item more of a list.
use Rattle.std.proofs.Common.{◌≡◌, ◌<◌, ◌+◌, ℕ, Bool, true, false, cond, List, [], ◌∷◌, ◌++◌, append-nil, length, get_or, map, take, sym, ap, ◌∙◌}
use Rattle.std.specs.Prelude.{filter}
use Rattle.std.proofs.lemmas.List.{map-append, take_more}
use Rattle.std.proofs.lemmas.List.Elements.{filter-append}

map_more : {X Y : Type 0} (f : X → Y) (xs : List X) (i : ℕ) (x : X) → i < length xs → x ≡ get_or xs i x → map f (take (i + 1) xs) ≡ map f (take i xs) ++ f x ∷ []
map_more f xs i x inside is = ap (map f) (take_more xs i x inside) ∙ map-append f (take i xs) (get_or xs i x ∷ []) ∙ ap (λ y. map f (take i xs) ++ f y ∷ []) (sym is)

module _ {X Y : Type 0} (f : X → Y) (p : Y → Bool) (xs : List X) (i : ℕ) (x : X) (inside : i < length xs) (is : x ≡ get_or xs i x) where
  either : (b : Bool) → p (f x) ≡ b → filter p (map f (take (i + 1) xs)) ≡ filter p (map f (take i xs)) ++ cond b (f x ∷ []) []
  either b at = ap (filter p) (map_more f xs i x inside is) ∙ filter-append p (map f (take i xs)) (f x ∷ []) ∙ ap (λ b. filter p (map f (take i xs)) ++ cond b (f x ∷ []) []) at

  pub one_more : p (f x) ≡ true → filter p (map f (take (i + 1) xs)) ≡ filter p (map f (take i xs)) ++ f x ∷ []
  one_more at = either true at

  pub none_more : p (f x) ≡ false → filter p (map f (take (i + 1) xs)) ≡ filter p (map f (take i xs))
  none_more at = either false at ∙ append-nil (filter p (map f (take i xs)))
