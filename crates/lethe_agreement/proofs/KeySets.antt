-- Keys that are put in a set of keys.
use Rattle.std.proofs.Common.{◌≡◌, Bool, true, false, List, [], ◌∷◌, ◌++◌, IsTrue, ◌↔◌, ◌⊎◌, inl, inr, refl, sym, subst, ◌∙◌}
use Rattle.std.specs.Prelude.{Contains}
use Rattle.std.specs.BTreeSet.{BTreeSet, Updates, contains}
use Rattle.std.specs.Cmp.Lexicographic.{nat_list_cmp_total}
use Rattle.std.specs.Ordering.{is_eq}
use Rattle.std.specs.declared.cmp.Ordering.{Ordering}
use Rattle.std.specs.declared.cmp.Ordering.TheVariants.{Less, Equal, Greater}
use Rattle.std.proofs.lemmas.List.Elements.{Contains-append_left, Contains-push, Contains-push_cases}
use Rattle.std.proofs.lemmas.Map.Lookups.{exact_bytes}
use Rattle.std.proofs.lemmas.Map.Views.{btree_set_contains_iff}
use Rattle.lethe_base.specs.Keys.{Bytes, key_cmp}

-- a test of a key says whether it is there
pub has : (keys : BTreeSet Bytes) (key : Bytes) → IsTrue (contains key_cmp keys key) ↔ Contains keys.keys key
has keys key = btree_set_contains_iff nat_list_cmp_total exact_bytes keys key

tie : (x y : Bytes) → is_eq (key_cmp x y) ≡ true → x ≡ y
tie x y h = by (key_cmp x y) refl h
  where
    by : (r : Ordering) → key_cmp x y ≡ r → is_eq r ≡ true → x ≡ y
    by Less e h = absurd cc
    by Equal e h = exact_bytes x y e
    by Greater e h = absurd cc

-- what is in the set: some keys, and those of a list
abbrev pub Has : BTreeSet Bytes → (Bytes → Type 0) → List Bytes → Type 0
Has keys old more = (key : Bytes) → Contains keys.keys key ↔ (old key ⊎ Contains more key)

pub one_more : (old : Bytes → Type 0) (more : List Bytes) (s t : BTreeSet Bytes) (key : Bytes) → Has s old more → Updates key_cmp s t key true → Has t old (more ++ key ∷ [])
one_more old more s t key before put other = (to (is_eq (key_cmp key other)) refl, from)
  where
    to : (b : Bool) → is_eq (key_cmp key other) ≡ b → Contains t.keys other → old other ⊎ Contains (more ++ key ∷ []) other
    to true e h = inr (subst (Contains (more ++ key ∷ [])) (tie key other e) (Contains-push more key))
    to false e h =
        let was : IsTrue (contains key_cmp s other) = sym (put.2 other e) ∙ (has t other).1 h in
        elim ((before other).0 ((has s other).0 was)) [ inl o ↦ inl o | inr m ↦ inr (Contains-append_left more (key ∷ []) other m) ]

    stays : (b : Bool) → is_eq (key_cmp key other) ≡ b → Contains s.keys other → Contains t.keys other
    stays true e h = subst (Contains t.keys) (tie key other e) ((has t key).0 put.1)
    stays false e h = (has t other).0 (put.2 other e ∙ (has s other).1 h)

    from : old other ⊎ Contains (more ++ key ∷ []) other → Contains t.keys other
    from (inl o) = stays (is_eq (key_cmp key other)) refl ((before other).1 (inl o))
    from (inr m) =
        elim (Contains-push_cases more key other m)
        [ inl there ↦ stays (is_eq (key_cmp key other)) refl ((before other).1 (inr there)) | inr same ↦ subst (Contains t.keys) same ((has t key).0 put.1) ]
