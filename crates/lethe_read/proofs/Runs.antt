-- Cursors that are read one after another, the last first.
use Rattle.std.proofs.Common.{◌≡◌, ℕ, ◌+◌, ◌-◌, ◌<◌, List, [], ◌∷◌, ◌++◌, length, get_or, set, take, reverse, All, ⊎_elim, refl, sym, ap, subst, ◌∙◌, arith}
use Rattle.std.specs.Prelude.{Any, flat_map, sum_by}
use Rattle.std.proofs.lemmas.List.{length-set, reverse-append, take-set, take_all, take_more, take_more_set}
use Rattle.std.proofs.lemmas.List.Elements.{All-get_or, All-nil, All-push, All-take}
use Rattle.std.proofs.lemmas.List.Sums.{sum_by_push}
use Rattle.lethe_base.specs.Entries.{IsAscending}
use Rattle.lethe_base.specs.declared.entry.Entry.{Entry}
use Rattle.lethe_tile.proofs.Orders.{Across, HasLowerKey, ascending_from_pairs, pairs_from_ascending, pairs_tail}
use Rattle.lethe_file.proofs.Unique.{pairs_join}
use Rattle.lethe_read.specs.Parts.{IsRun}
use Rattle.lethe_read.proofs.Adding.{Any-cases, Any-left, only_of}

-- what is left of cursors with one more that is read first
pub left_push : {C : Type 0} (left : C → List Entry) (front : List C) (x : C) → flat_map left (reverse (front ++ x ∷ [])) ≡ left x ++ flat_map left (reverse front)
left_push left front x = ap (flat_map left) (reverse-append front (x ∷ []))

pub run_none : {C : Type 0} (tells : Type 0) (sound : C → Type 0) (left : C → List Entry) (run : List C) → run ≡ [] → tells → IsRun tells sound left run
run_none tells sound left run none told = subst (IsRun tells sound left) (sym none) (record { told = told; each = All-nil sound; ascending = refl })

-- one more that is read first, whose entries stand below those of the others
pub run_push : {C : Type 0} (tells : Type 0) (sound : C → Type 0) (left : C → List Entry) (run more : List C) (x : C) → more ≡ run ++ x ∷ [] → IsRun tells sound left run → sound x → IsAscending (left x)
    → Across HasLowerKey (left x) (flat_map left (reverse run)) → IsRun tells sound left more
run_push tells sound left run more x is before own ascending across =
    subst (IsRun tells sound left) (sym is) (record {
      told = before.told;
      each = All-push sound run x before.each own;
      ascending = subst IsAscending (sym (left_push left run x)) (ascending_from_pairs (left x ++ flat_map left (reverse run))
          (pairs_join HasLowerKey (left x) (flat_map left (reverse run)) (pairs_from_ascending (left x) ascending) (pairs_from_ascending (flat_map left (reverse run)) before.ascending) across));
    })

-- without the first entry they still ascend
pub rest_ascends : (entry : Entry) (old new : List Entry) → old ≡ entry ∷ new → IsAscending old → IsAscending new
rest_ascends entry old new is ascending = ascending_from_pairs new (pairs_tail HasLowerKey entry new (pairs_from_ascending (entry ∷ new) (subst IsAscending is ascending)))

-- x is the last of the cursors
module _ {C : Type 0} (xs : List C) (len : ℕ) (x : C) (some : 0 < len) (count : len ≡ length xs) (is : x ≡ get_or xs (len - 1) x) where
  abbrev before : List C
  before = take (len - 1) xs

  up_to_last : len - 1 + 1 ≡ length xs
  up_to_last = omega arith

  whole : xs ≡ before ++ x ∷ []
  whole = sym (take_all (len - 1 + 1) xs (omega arith)) ∙ take_more xs (len - 1) x (omega arith) ∙ ap (λ z. before ++ z ∷ []) (sym is)

  with_last : (y : C) → set xs (len - 1) y ≡ before ++ y ∷ []
  with_last y = sym (take_all (len - 1 + 1) (set xs (len - 1) y) (omega (arith, length-set xs (len - 1) y))) ∙ take_more_set xs (len - 1) y (omega arith)

  pub of_last : (P : C → Type 0) → All P xs → P x
  of_last P all = subst P (sym is) (All-get_or P xs (len - 1) x (omega arith) all)

  pub any_last : (P : C → Type 0) → P x → Any P xs
  any_last P holds = (len - 1, x, omega arith, sym is, holds)

  -- it gave an entry
  pub left_given : (left : C → List Entry) (y : C) (entry : Entry) → left x ≡ entry ∷ left y → flat_map left (reverse xs) ≡ entry ∷ flat_map left (reverse (set xs (len - 1) y))
  left_given left y entry given =
      ap (λ l. flat_map left (reverse l)) whole ∙ left_push left before x ∙ ap (λ l. l ++ flat_map left (reverse before)) given
      ∙ ap (λ l. entry ∷ l) (sym (ap (λ l. flat_map left (reverse l)) (with_last y) ∙ left_push left before y))

  pub any_with : (P : C → Type 0) (y : C) → (P y → P x) → Any P (set xs (len - 1) y) → Any P xs
  any_with P y fewer any =
      ⊎_elim (λ earlier. subst (Any P) (sym whole) (Any-left P before (x ∷ []) earlier)) (λ last. any_last P (fewer (only_of P y last)))
      (Any-cases P before (y ∷ []) (subst (Any P) (with_last y) any))

  -- it has come to its end, and is taken off
  module _ (y : C) (rest : List C) (taken : rest ≡ take (len - 1) (set xs (len - 1) y)) where
    rest_is : rest ≡ before
    rest_is = taken ∙ take-set xs (len - 1) y

    pub left_taken : (left : C → List Entry) → left x ≡ [] → flat_map left (reverse rest) ≡ flat_map left (reverse xs)
    left_taken left none =
        ap (λ l. flat_map left (reverse l)) rest_is
        ∙ sym (ap (λ l. flat_map left (reverse l)) whole ∙ left_push left before x ∙ ap (λ l. l ++ flat_map left (reverse before)) none)

    pub all_taken : (P : C → Type 0) → All P xs → All P rest
    all_taken P all = subst (All P) (sym rest_is) (All-take P (len - 1) xs all)

    pub any_taken : (P : C → Type 0) → Any P rest → Any P xs
    any_taken P any = subst (Any P) (sym whole) (Any-left P before (x ∷ []) (subst (Any P) rest_is any))

    pub sum_taken : (f : C → ℕ) → sum_by f xs ≡ sum_by f rest + f x
    sum_taken f = ap (sum_by f) whole ∙ sum_by_push f before x ∙ ap (λ l. sum_by f l + f x) (sym rest_is)
