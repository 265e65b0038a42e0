-- A search for a name among those of a directory, which ascend.
use Rattle.std.proofs.Common.{◌≡◌, ℕ, ◌+◌, ◌<◌, ◌≤◌, true, false, List, [], ◌∷◌, length, get_or, map, Result, Ok, Err, IsTrue, ◌↔◌, AllPairs, All, refl, sym, ap, subst, ◌∙◌, arith, inl, inr}
use Rattle.std.specs.Prelude.{Contains, IsSome, is_ok, Bool, T}
use Rattle.std.specs.Cmp.{tied_itself}
use Rattle.std.specs.FinMap.{keys, entries, entries_sorted}
use Rattle.std.specs.FinMap.Entries.{below_all, is_sorted}
use Rattle.std.specs.List.Sorted.{IsBinarySearchResult, IsSearchInRange}
use Rattle.std.specs.Ordering.{is_lt, ordering_reverse}
use Rattle.std.specs.declared.cmp.Ordering.TheVariants.{Less, Equal, Greater}
use Rattle.std.proofs.lemmas.Bool.{and_parts, cases_lt}
use Rattle.std.proofs.lemmas.List.Elements.{All-nil, All-cons}
use Rattle.std.proofs.lemmas.List.Kept.{AllPairs-cons}
use Rattle.std.proofs.lemmas.List.Sorted.{searchable_from_sorted}
use Rattle.lethe_base.specs.declared.name.Name.{Name}
use Rattle.lethe_base.specs.Names.{name_cmp, name_total, name_same}
use Rattle.lethe_tile.proofs.Orders.{less_is, pairs_nil}
use Rattle.lethe_disk.specs.Directory.{Directory, object}
use Rattle.lethe_commit.proofs.Listed.{listed}

from_T : (b : Bool) → T b → b ≡ true
from_T true h = refl
from_T false h = absurd h

abbrev Before : Name → Name → Type 0
Before a b = name_cmp a b ≡ Less

each_behind : (name : Name) (es : List (Name × List ℕ)) → IsTrue (below_all name_cmp name es) → All (Before name) (map (λ e. e.0) es)
each_behind name [] h = All-nil (Before name)
each_behind name (e ∷ es) h =
    All-cons (Before name) e.0 (map (λ e. e.0) es) (less_is _ (and_parts _ _ h).0) (each_behind name es (and_parts (is_lt (name_cmp name e.0)) _ h).1)

names_rise : (es : List (Name × List ℕ)) → IsTrue (is_sorted name_cmp es) → AllPairs Before (map (λ e. e.0) es)
names_rise [] h = pairs_nil Before
names_rise (e ∷ es) h =
    AllPairs-cons Before e.0 (map (λ e. e.0) es) (each_behind e.0 es (and_parts _ _ h).0) (names_rise es (and_parts (below_all name_cmp e.0 es) _ h).1)

keys_rise : (d : Directory) → AllPairs Before (keys d)
keys_rise d = names_rise (entries d) (from_T _ (entries_sorted d))

-- what a search among all names answers
pub found_listed : (names : List Name) (d : Directory) (name : Name) (r : Result ℕ ℕ) → names ≡ keys d → IsSearchInRange r (length names) → IsBinarySearchResult (λ y. name_cmp y name) names r → IsTrue (is_ok r) ↔ IsSome (object d name)
found_listed names d name (Ok i) is bound at =
    let found : get_or names i name ≡ name = name_same (get_or names i name) name (at name) in
    let there : Contains (keys d) name = subst (λ l. Contains l name) is (i, bound, found) in
    (λ h. (listed d name).0 there, λ h. refl)
found_listed names d name (Err i) is bound at =
    (λ h. absurd cc, λ there. absurd (missing (subst (λ l. Contains l name) (sym is) ((listed d name).1 there))))
  where
    rise : AllPairs Before names
    rise = subst (AllPairs Before) (sym is) (keys_rise d)

    not_less : (k : ℕ) (e : Name) → 0 ≤ k → k + 1 < length names → is_lt (name_cmp (get_or names (k + 1) e) (get_or names k e)) ≡ false
    not_less k e low lt = ap is_lt (name_total.antisymm (get_or names (k + 1) e) (get_or names k e) ∙ ap ordering_reverse (rise k (k + 1) e (omega arith) lt))

    missing : Contains names name → ⊥
    missing (k, lt, here) =
        let point = at (searchable_from_sorted name_total (λ n. n) names name not_less) in
        let tie : name_cmp (get_or names k name) name ≡ Equal = ap (λ n. name_cmp n name) here ∙ tied_itself name_total name in
        elim (cases_lt k i) [
          | inl before ↦ let less : name_cmp (get_or names k name) name ≡ Less = point.0 k name (omega arith) before in cc
          | inr behind ↦ let more : name_cmp (get_or names k name) name ≡ Greater = point.1 k name behind lt in cc
        ]
