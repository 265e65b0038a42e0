-- Pairs one after another.
use Rattle.std.proofs.Common.{◌≡◌, ℕ, ◌-◌, ◌<◌, true, List, [], ◌∷◌, ◌++◌, length, get_or, inl, inr, refl, sym, ap, ◌∙◌, subst, arith}
use Rattle.std.specs.Prelude.{IsTrue, slice_get}
use Rattle.std.specs.Cmp.Lexicographic.{nat_list_cmp_total}
use Rattle.std.specs.BTreeMap.Comparable.{le_lt_trans}
use Rattle.std.specs.Ordering.{is_le, is_lt}
use Rattle.std.specs.declared.cmp.Ordering.{Ordering}
use Rattle.std.specs.declared.cmp.Ordering.TheVariants.{Less, Equal, Greater}
use Rattle.std.proofs.lemmas.Bool.{and_from, cases_lt}
use Rattle.std.proofs.lemmas.List.Elements.{All-nil, All-push}
use Rattle.std.proofs.lemmas.List.Quantifiers.{all_pairs_push}
use Rattle.std.proofs.lemmas.Option.{slice_get-get_or}
use Rattle.lethe_base.specs.Keys.{Bytes, key_cmp}
use Rattle.lethe_base.specs.Read.{is_between}
use Rattle.lethe_read.specs.Between.{AreListedBetween, AreListedFrom, comes_next, is_last_below}

less_is : (r : Ordering) → is_lt r ≡ true → r ≡ Less
less_is Less is = refl
less_is Equal is = cc
less_is Greater is = cc

pub none_listed : (lo hi : Bytes) (pairs : List (Bytes × ℕ × Bytes)) → pairs ≡ [] → AreListedBetween lo hi pairs
none_listed lo hi pairs none = subst (AreListedBetween lo hi) (sym none) (record {
  ascending = λ i j d before within. absurd (omega (arith, within));
  within = All-nil (λ (pair : Bytes × ℕ × Bytes). IsTrue (is_between lo hi pair.0));
})

module _ (lo : Bytes) where
  pub none_from : (pairs : List (Bytes × ℕ × Bytes)) → pairs ≡ [] → AreListedFrom lo pairs
  none_from pairs none = subst (AreListedFrom lo) (sym none) (record {
    ascending = λ i j d before within. absurd (omega (arith, within));
    from = All-nil (λ (pair : Bytes × ℕ × Bytes). IsTrue (is_le (key_cmp lo pair.0)));
  })

  module _ (pairs : List (Bytes × ℕ × Bytes)) (are : AreListedFrom lo pairs) where
    -- what is behind the last is behind each
    above_each : (key : Bytes) → ((d : Bytes × ℕ × Bytes) → 0 < length pairs → key_cmp (get_or pairs (length pairs - 1) d).0 key ≡ Less) → (k : ℕ) (d : Bytes × ℕ × Bytes) → k < length pairs
        → key_cmp (get_or pairs k d).0 key ≡ Less
    above_each key above k d within =
        let n = length pairs - 1 in
        let last : key_cmp (get_or pairs n d).0 key ≡ Less = above d (omega arith) in
        elim (cases_lt k n) [
          | inl before ↦ nat_list_cmp_total.trans (get_or pairs k d).0 (get_or pairs n d).0 key (are.ascending k n d before (omega arith)) last
          | inr from ↦ let same : k ≡ n = omega arith in ap (λ k. key_cmp (get_or pairs k d).0 key) same ∙ last
        ]

    module _ (next : Bytes × ℕ × Bytes) (comes : comes_next lo (slice_get pairs (length pairs - 1)) next.0 ≡ true) where
      last_below : (d : Bytes × ℕ × Bytes) → 0 < length pairs → key_cmp (get_or pairs (length pairs - 1) d).0 next.0 ≡ Less
      last_below d some = less_is _ (ap (λ last. comes_next lo last next.0) (sym (slice_get-get_or pairs (length pairs - 1) d (omega arith))) ∙ comes)

      from_least : (pairs' : List (Bytes × ℕ × Bytes)) → pairs' ≡ pairs → IsTrue (is_le (key_cmp lo next.0))
      from_least [] same = subst (λ (pairs : List (Bytes × ℕ × Bytes)). comes_next lo (slice_get pairs (length pairs - 1)) next.0 ≡ true) (sym same) comes
      from_least (first ∷ others) same =
          let some : 0 < length pairs = let long = ap (λ (l : List (Bytes × ℕ × Bytes)). length l) same in omega (arith, long) in
          let low : IsTrue (is_le (key_cmp lo (get_or pairs (length pairs - 1) next).0)) = are.from (length pairs - 1) next (omega arith) in
          ap is_le (le_lt_trans nat_list_cmp_total lo (get_or pairs (length pairs - 1) next).0 next.0 low (last_below next some))

      pub pair_listed : AreListedFrom lo (pairs ++ next ∷ [])
      pair_listed = record {
        ascending = all_pairs_push (λ (pair later : Bytes × ℕ × Bytes). key_cmp pair.0 later.0 ≡ Less) pairs next are.ascending (above_each next.0 last_below);
        from = All-push (λ (pair : Bytes × ℕ × Bytes). IsTrue (is_le (key_cmp lo pair.0))) pairs next are.from (from_least pairs refl);
      }

    -- where the last one is below an end, all are
    pub listed_between : (hi : Bytes) → is_last_below (slice_get pairs (length pairs - 1)) hi ≡ true → AreListedBetween lo hi pairs
    listed_between hi ends = record {
      ascending = are.ascending;
      within = λ k d within.
          let last = λ (d : Bytes × ℕ × Bytes) (some : 0 < length pairs). less_is _ (ap (λ last. is_last_below last hi) (sym (slice_get-get_or pairs (length pairs - 1) d (omega (arith, some)))) ∙ ends) in
          and_from (is_le (key_cmp lo (get_or pairs k d).0)) (is_lt (key_cmp (get_or pairs k d).0 hi)) (are.from k d within) (ap is_lt (above_each hi last k d within));
    }
