-- Names that are put in a set of names.
use Rattle.std.proofs.Common.{◌≡◌, Bool, true, false, List, [], ◌∷◌, ◌++◌, IsTrue, ◌↔◌, inl, inr, refl, sym, subst, ◌∙◌, arith}
use Rattle.std.specs.Prelude.{Contains}
use Rattle.std.specs.BTreeSet.{BTreeSet, Updates, contains}
use Rattle.std.specs.Ordering.{is_eq}
use Rattle.std.specs.declared.cmp.Ordering.{Ordering}
use Rattle.std.specs.declared.cmp.Ordering.TheVariants.{Less, Equal, Greater}
use Rattle.std.proofs.lemmas.List.Elements.{Contains-append_left, Contains-push, Contains-push_cases}
use Rattle.std.proofs.lemmas.Map.Views.{btree_set_contains_iff}
use Rattle.lethe_base.specs.Names.{name_cmp, name_same, name_total}
use Rattle.lethe_base.specs.declared.name.Name.{Name}

tie : (x y : Name) → is_eq (name_cmp x y) ≡ true → x ≡ y
tie x y h = by (name_cmp x y) refl h
  where
    by : (r : Ordering) → name_cmp x y ≡ r → is_eq r ≡ true → x ≡ y
    by Less e h = absurd cc
    by Equal e h = name_same x y e
    by Greater e h = absurd cc

-- the set has the names of a list
abbrev pub Has : BTreeSet Name → List Name → Type 0
Has set names = (name : Name) → IsTrue (contains name_cmp set name) ↔ Contains names name

pub one_more : (names : List Name) (s t : BTreeSet Name) (name : Name) → Has s names → Updates name_cmp s t name true → Has t (names ++ name ∷ [])
one_more names s t name before put other = (to (is_eq (name_cmp name other)) refl, from)
  where
    to : (b : Bool) → is_eq (name_cmp name other) ≡ b → IsTrue (contains name_cmp t other) → Contains (names ++ name ∷ []) other
    to true e h = subst (Contains (names ++ name ∷ [])) (tie name other e) (Contains-push names name)
    to false e h = Contains-append_left names (name ∷ []) other ((before other).0 (sym (put.2 other e) ∙ h))

    stays : (b : Bool) → is_eq (name_cmp name other) ≡ b → Contains names other → IsTrue (contains name_cmp t other)
    stays true e h = subst (λ n. IsTrue (contains name_cmp t n)) (tie name other e) put.1
    stays false e h = put.2 other e ∙ (before other).1 h

    from : Contains (names ++ name ∷ []) other → IsTrue (contains name_cmp t other)
    from there =
        elim (Contains-push_cases names name other there)
        [ inl was ↦ stays (is_eq (name_cmp name other)) refl was | inr same ↦ subst (λ n. IsTrue (contains name_cmp t n)) same put.1 ]

-- no key, no name
pub none_has : (set : BTreeSet Name) → set.keys ≡ [] → Has set []
none_has set none name = (λ there. absurd (none_of (subst (λ l. Contains l name) none ((btree_set_contains_iff name_total name_same set name).0 there))), λ there. absurd (none_of there))
  where
    none_of : Contains [] name → ⊥
    none_of there = let lt = there.1 in absurd (omega arith)
