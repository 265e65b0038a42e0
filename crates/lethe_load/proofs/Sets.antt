-- Numbers that are put in a set of numbers.
use Rattle.std.proofs.Common.{◌≡◌, ℕ, Bool, true, false, ◌↔◌, ◌⊎◌, IsTrue, inl, inr, refl, sym, subst, ◌∙◌}
use Rattle.std.specs.Prelude.{Contains}
use Rattle.std.specs.BTreeSet.{BTreeSet, Updates, contains}
use Rattle.std.specs.Cmp.{nat_cmp_total}
use Rattle.std.specs.Ordering.{is_eq, nat_cmp}
use Rattle.std.specs.declared.cmp.Ordering.{Ordering}
use Rattle.std.specs.declared.cmp.Ordering.TheVariants.{Less, Equal, Greater}
use Rattle.std.proofs.lemmas.Map.Lookups.{exact_unsigned}
use Rattle.std.proofs.lemmas.Map.Views.{btree_set_contains_iff}

-- a test of a number says whether it is there
pub has : (s : BTreeSet ℕ) (number : ℕ) → IsTrue (contains nat_cmp s number) ↔ Contains s.keys number
has s number = btree_set_contains_iff nat_cmp_total exact_unsigned s number

tie : (x y : ℕ) → is_eq (nat_cmp x y) ≡ true → x ≡ y
tie x y h = by (nat_cmp x y) refl h
  where
    by : (r : Ordering) → nat_cmp x y ≡ r → is_eq r ≡ true → x ≡ y
    by Less e h = absurd cc
    by Equal e h = exact_unsigned x y e
    by Greater e h = absurd cc

pub one_more : (s t : BTreeSet ℕ) (new : ℕ) → Updates nat_cmp s t new true → (number : ℕ) → Contains t.keys number ↔ (Contains s.keys number ⊎ (new ≡ number))
one_more s t new put number = (to (is_eq (nat_cmp new number)) refl, from)
  where
    to : (b : Bool) → is_eq (nat_cmp new number) ≡ b → Contains t.keys number → Contains s.keys number ⊎ (new ≡ number)
    to true e h = inr (tie new number e)
    to false e h = inl ((has s number).0 (sym (put.2 number e) ∙ (has t number).1 h))

    stays : (b : Bool) → is_eq (nat_cmp new number) ≡ b → Contains s.keys number → Contains t.keys number
    stays true e h = subst (Contains t.keys) (tie new number e) ((has t new).0 put.1)
    stays false e h = (has t number).0 (put.2 number e ∙ (has s number).1 h)

    from : Contains s.keys number ⊎ (new ≡ number) → Contains t.keys number
    from (inl old) = stays (is_eq (nat_cmp new number)) refl old
    from (inr same) = subst (Contains t.keys) same ((has t new).0 put.1)
