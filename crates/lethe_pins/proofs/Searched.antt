-- A search for a name among names that ascend.
use Rattle.std.proofs.Common.{◌≡◌, ℕ, ◌+◌, ◌<◌, ◌≤◌, false, List, length, get_or, Result, Ok, Err, sym, ap, ◌∙◌, arith, inl, inr}
use Rattle.std.specs.Prelude.{is_ok}
use Rattle.std.specs.List.Sorted.{IsBinarySearchResult, IsSearchInRange}
use Rattle.std.specs.Ordering.{is_lt, is_eq, ordering_reverse}
use Rattle.std.proofs.lemmas.Bool.{cases_lt}
use Rattle.std.proofs.lemmas.List.Folds.{list_any_at, list_any_none}
use Rattle.std.proofs.lemmas.List.Sorted.{searchable_from_sorted}
use Rattle.lethe_base.specs.declared.name.Name.{Name}
use Rattle.lethe_base.specs.Names.{name_cmp, name_eq, name_eq_ties, name_total}
use Rattle.lethe_pins.specs.Held.{Ascend, has_name}

-- what a search among the names answers
pub has_by_search : (names : List Name) (name : Name) (r : Result ℕ ℕ) → Ascend names → IsSearchInRange r (length names) → IsBinarySearchResult (λ y. name_cmp y name) names r → is_ok r ≡ has_name names name
has_by_search names name (Ok i) rise bound at =
    sym (list_any_at (λ other. name_eq other name) names i name bound (name_eq_ties (get_or names i name) name ∙ ap is_eq (at name)))
has_by_search names name (Err i) rise bound at =
    sym (list_any_none (λ other. name_eq other name) names (λ k d lt. name_eq_ties (get_or names k d) name ∙ other k d lt))
  where
    not_less : (k : ℕ) (d : Name) → 0 ≤ k → k + 1 < length names → is_lt (name_cmp (get_or names (k + 1) d) (get_or names k d)) ≡ false
    not_less k d low lt = ap is_lt (name_total.antisymm (get_or names (k + 1) d) (get_or names k d) ∙ ap ordering_reverse (rise k (k + 1) d (omega arith) lt))

    other : (k : ℕ) (d : Name) → k < length names → is_eq (name_cmp (get_or names k d) name) ≡ false
    other k d lt =
        let point = at (searchable_from_sorted name_total (λ n. n) names name not_less) in
        elim (cases_lt k i) [
          | inl before ↦ ap is_eq (point.0 k d (omega arith) before)
          | inr behind ↦ ap is_eq (point.1 k d behind lt)
        ]
