-- What lies beside what is stored, and the bytes that it has in a directory.
use Rattle.std.proofs.Common.{◌≡◌, ◌≢◌, ◌<◌, inl, inr, ℕ, true, List, [], ◌∷◌, ◌++◌, map, Option, Some, refl, sym, ap, ◌∙◌, subst, append_assoc}
use Rattle.std.specs.Prelude.{All, AllPairs, Contains, IsPermutation, unwrap_or}
use Rattle.std.specs.Bool.{Decides}
use Rattle.std.proofs.lemmas.Cmp.{eq_by_cmp_equiv}
use Rattle.std.proofs.lemmas.List.{map-append}
use Rattle.std.proofs.lemmas.List.Elements.{All-contains, All-head, All-nil, All-tail}
use Rattle.std.proofs.lemmas.List.Sorted.{All-permutation, Contains-permutation, IsPermutation-append_left, IsPermutation-append_right, IsPermutation-map, IsPermutation-trans}
use Rattle.std.proofs.lemmas.Map.Keys.{IsDistinct-IsPermutation}
use Rattle.std.proofs.lemmas.Map.Made.{AllPairs-from_IsDistinct, IsDistinct-from_AllPairs}
use Rattle.lethe_base.specs.Names.{name_total}
use Rattle.lethe_base.specs.declared.name.Kind.TheVariants.{Page}
use Rattle.lethe_base.specs.declared.name.Name.{Name}
use Rattle.lethe_disk.specs.Directory.{Directory, content}
use Rattle.lethe_disk.proofs.Objects.{same_name, same_name_itself, same_name_true}
use Rattle.lethe_stored.specs.Encodes.{HasObject}
use Rattle.lethe_stored.specs.Stored.{IsCited, Stored}
use Rattle.lethe_stored.proofs.Lists.{all_left, from_map, no_pairs}
use Rattle.lethe_tile.proofs.Orders.{pairs_append}
use Rattle.lethe_advance.specs.Settled.{AreDrawn, AreUncited, HasOnly, names_in}
use Rattle.lethe_core.specs.Flights.{AreFlights, flying_by, with_pages_of, without}
use Rattle.lethe_core.specs.View.{Flying, beside_at, loose_in, named_in}
use Rattle.lethe_core.proofs.Flying.{loose_pages, loose_parts}

-- the names of objects that are read under these names are these names
pub names_named : (d : Directory) (names : List Name) → names_in (named_in d names) ≡ names
names_named d [] = refl
names_named d (name ∷ names) = ap (λ l. name ∷ l) (names_named d names)

-- objects that are there are read as they are
pub named_names : (d : Directory) (objects : List (Name × List ℕ)) → All (HasObject d) objects → named_in d (names_in objects) ≡ objects
named_names d [] there = refl
named_names d (named ∷ objects) there =
    let here : content d named.0 ≡ named.1 = ap (λ (o : Option (List ℕ)). unwrap_or o []) (All-head (HasObject d) named objects there) in
    let rest = named_names d objects (All-tail (HasObject d) named objects there) in
    λ i. (named.0, here i) ∷ rest i

-- the names of what lies beside what is stored
pub names_beside_at : (d : Directory) (retired : List Name) (flights : List Flying) → names_in (beside_at d retired flights) ≡ retired ++ names_in (loose_in flights)
names_beside_at d retired flights = map-append (λ (named : Name × List ℕ). named.0) (named_in d retired) (loose_in flights) ∙ ap (λ l. l ++ names_in (loose_in flights)) (names_named d retired)

-- where the retired pages are those of a list that is there, they are read as that list has them
pub named_left : (d : Directory) (retired : List Name) (left : List (Name × List ℕ)) → All (HasObject d) left → retired ≡ names_in left → named_in d retired ≡ left
named_left d retired left there same = ap (named_in d) same ∙ named_names d left there

-- the retired pages lie in another directory as they lay in the first
pub named_stays : (d c : Directory) (retired : List Name) → All (HasObject c) (named_in d retired) → named_in c retired ≡ named_in d retired
named_stays d c retired there = named_left c retired (named_in d retired) there (sym (names_named d retired))

-- and so does all that lies beside what is stored
pub beside_stays : (d c : Directory) (retired : List Name) (flights : List Flying) → All (HasObject c) (beside_at d retired flights) → beside_at c retired flights ≡ beside_at d retired flights
beside_stays d c retired flights there = ap (λ l. l ++ loose_in flights) (named_stays d c retired (all_left (HasObject c) (named_in d retired) (loose_in flights) there))

-- what is cited isn't among what isn't
pub cited_apart : (s : Stored) (objects : List (Name × List ℕ)) → AreUncited s objects → (name : Name) → IsCited s name → Contains (names_in objects) name → ⊥
cited_apart s objects uncited name cited there =
    let named = from_map (λ (named : Name × List ℕ). named.0) objects name there in
    All-contains (λ (named : Name × List ℕ). IsCited s named.0 → ⊥) objects named.0 uncited named.1 (subst (IsCited s) (sym named.2) cited)

-- Numbers that were drawn

-- no name is drawn
pub none_drawn : (next : ℕ) → AreDrawn next []
none_drawn next = record { each = All-nil (λ (name : Name). (name.kind ≡ Page) × (name.no < next)); once = no_pairs (λ (a b : Name). a ≢ b) }

-- those of the names in front
pub drawn_front : (next : ℕ) (front behind : List Name) → AreDrawn next (front ++ behind) → AreDrawn next front
drawn_front next front behind is = record {
  each = all_left (λ (name : Name). (name.kind ≡ Page) × (name.no < next)) front behind is.each;
  once = (pairs_append (λ (a b : Name). a ≢ b) front behind is.once).0;
}

-- In another order

name_decides : (a b : Name) → Decides (same_name a b) (a ≡ b)
name_decides a b = (same_name_true a b, λ same. subst (λ n. same_name a n ≡ true) same (same_name_itself a))

-- names each of which stands once
pub once_permuted : (xs ys : List Name) → IsPermutation xs ys → AllPairs (λ a b. a ≢ b) xs → AllPairs (λ a b. a ≢ b) ys
once_permuted xs ys moved once =
    AllPairs-from_IsDistinct name_decides ys (IsDistinct-IsPermutation same_name (eq_by_cmp_equiv name_total).symm xs ys moved (IsDistinct-from_AllPairs name_decides xs once))

pub names_permuted : (xs ys : List (Name × List ℕ)) → IsPermutation xs ys → IsPermutation (names_in xs) (names_in ys)
names_permuted xs ys moved = IsPermutation-map (λ (named : Name × List ℕ). named.0) xs ys moved

pub drawn_permuted : (next : ℕ) (xs ys : List Name) → IsPermutation xs ys → AreDrawn next xs → AreDrawn next ys
drawn_permuted next xs ys moved is = record {
  each = All-permutation (λ (name : Name). (name.kind ≡ Page) × (name.no < next)) xs ys moved is.each;
  once = once_permuted xs ys moved is.once;
}

pub only_permuted : (s : Stored) (xs ys : List (Name × List ℕ)) (d : Directory) → IsPermutation xs ys → HasOnly s xs d → HasOnly s ys d
only_permuted s xs ys d moved is = record {
  only = λ name there. elim (is.only name there) [
    | inl cited ↦ inl cited
    | inr loose ↦ inr (Contains-permutation (names_in xs) (names_in ys) name (names_permuted xs ys moved) loose)
  ];
  there = All-permutation (HasObject d) xs ys moved is.there;
}

pub uncited_permuted : (s : Stored) (xs ys : List (Name × List ℕ)) → IsPermutation xs ys → AreUncited s xs → AreUncited s ys
uncited_permuted s xs ys moved is = All-permutation (λ (named : Name × List ℕ). IsCited s named.0 → ⊥) xs ys moved is

-- The pages of one job, behind all that lies beside what is stored but that

-- what stays where the pages of the job of a number go
abbrev pub beside_without : Directory → List Name → ℕ → List Flying → List (Name × List ℕ)
beside_without d retired number flights = beside_at d retired (without number flights)

module _ (d : Directory) (retired : List Name) (number : ℕ) (flights : List Flying) (flying : Flying) (are : AreFlights flights) (is : flying_by number flights ≡ Some flying) where
  pub beside_parts : IsPermutation (beside_without d retired number flights ++ flying.written) (beside_at d retired flights)
  beside_parts = subst (λ l. IsPermutation l (beside_at d retired flights)) (sym (append_assoc (named_in d retired) (loose_in (without number flights)) flying.written))
      (IsPermutation-append_right (named_in d retired) (loose_in (without number flights) ++ flying.written) (loose_in flights) (loose_parts number flights flying are is))

  -- with more pages of the job, behind all that was there
  pub beside_more : (pages : List (Name × List ℕ)) → IsPermutation (beside_at d retired flights ++ pages) (beside_at d retired (with_pages_of number pages flights))
  beside_more pages =
      let here = named_in d retired in
      subst (λ l. IsPermutation l (beside_at d retired (with_pages_of number pages flights))) (sym (append_assoc here (loose_in flights) pages))
      (IsPermutation-append_right here (loose_in flights ++ pages) (loose_in (with_pages_of number pages flights)) (loose_pages number flights flying pages are is))

  -- and behind its own
  pub beside_pages : (pages : List (Name × List ℕ)) → IsPermutation (beside_without d retired number flights ++ (flying.written ++ pages)) (beside_at d retired (with_pages_of number pages flights))
  beside_pages pages =
      let others = beside_without d retired number flights in
      let written = flying.written in
      subst (λ l. IsPermutation l (beside_at d retired (with_pages_of number pages flights))) (append_assoc others written pages)
      (IsPermutation-trans ((others ++ written) ++ pages) (beside_at d retired flights ++ pages) (beside_at d retired (with_pages_of number pages flights))
      (IsPermutation-append_left pages (others ++ written) (beside_at d retired flights) beside_parts) (beside_more pages))
