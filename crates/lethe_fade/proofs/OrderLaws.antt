-- The files of a level in an order are the same files.
use Rattle.std.proofs.Common.{Bool, true, false, cond, List, [], ◌∷◌, IsTrue, arith}
use Rattle.std.specs.Cmp.{IsTotalOrder}
use Rattle.std.specs.List.{All, AllPairs, filter}
use Rattle.std.specs.List.Sorted.{IsPermutation}
use Rattle.std.proofs.lemmas.List.Elements.{All-cons}
use Rattle.std.proofs.lemmas.List.Kept.{AllPairs-cons}
use Rattle.std.proofs.lemmas.List.Sorted.{IsPermutation-refl, IsPermutation-cons, IsPermutation-insert, IsPermutation-trans}
use Rattle.std.specs.declared.cmp.Ordering.{Ordering}
use Rattle.std.specs.Ordering.{is_le, is_gt}
use Rattle.lethe_base.specs.declared.shape.FileFacts.{FileFacts}
use Rattle.lethe_fade.specs.Ranks.{with_item, sorted_by, file_cmp, IsInOrder, FilesComeInOrder}
use Rattle.lethe_fade.specs.Expired.{ExpiredComeInOrder, expired_cmp, is_expired}
use Rattle.lethe_fade.specs.Sweeps.{SweepsComeInOrder, is_unswept}
use Rattle.lethe_fade.proofs.MeetingLaws.{upto_is}
use Rattle.lethe_fade.proofs.Ranking.{expired_total, file_total}
use Rattle.lethe_fade.proofs.Sorting.{Leads, Ascends, ascends_sorted}

exchanged : {X : Type 0} (x y : X) (ys : List X) → IsPermutation (x ∷ (y ∷ ys)) (y ∷ (x ∷ ys))
exchanged x y ys = IsPermutation-insert (y ∷ ys) 1 x

permutation_with : {X : Type 0} (cmp : X → X → Ordering) (x : X) (ys : List X) → IsPermutation (x ∷ ys) (with_item cmp x ys)
permutation_with cmp x [] = IsPermutation-refl (x ∷ [])
permutation_with cmp x (y ∷ ys) = by_test (is_gt (cmp x y)) (permutation_with cmp x ys)
  where
    by_test : (b : Bool) → IsPermutation (x ∷ ys) (with_item cmp x ys) → IsPermutation (x ∷ (y ∷ ys)) (cond b (y ∷ with_item cmp x ys) (x ∷ (y ∷ ys)))
    by_test true rest = IsPermutation-trans (x ∷ (y ∷ ys)) (y ∷ (x ∷ ys)) (y ∷ with_item cmp x ys) (exchanged x y ys) (IsPermutation-cons y (x ∷ ys) (with_item cmp x ys) rest)
    by_test false rest = IsPermutation-refl (x ∷ (y ∷ ys))

permutation_sorted : {X : Type 0} (cmp : X → X → Ordering) (xs : List X) → IsPermutation xs (sorted_by cmp xs)
permutation_sorted cmp [] = IsPermutation-refl []
permutation_sorted cmp (x ∷ xs) =
    IsPermutation-trans (x ∷ xs) (x ∷ sorted_by cmp xs) (with_item cmp x (sorted_by cmp xs)) (IsPermutation-cons x xs (sorted_by cmp xs) (permutation_sorted cmp xs)) (permutation_with cmp x (sorted_by cmp xs))

all_from : {X : Type 0} (cmp : X → X → Ordering) (x : X) (ys : List X) → Leads cmp x ys → All (λ y. IsTrue (is_le (cmp x y))) ys
all_from cmp x [] h = λ i d lt. absurd (omega arith)
all_from cmp x (y ∷ ys) h = All-cons (λ y. IsTrue (is_le (cmp x y))) y ys (upto_is _ h.0) (all_from cmp x ys h.1)

pairs_from : {X : Type 0} (cmp : X → X → Ordering) (xs : List X) → Ascends cmp xs → AllPairs (λ x y. IsTrue (is_le (cmp x y))) xs
pairs_from cmp [] s = λ i j d lt h. absurd (omega arith)
pairs_from cmp (x ∷ xs) s = AllPairs-cons (λ x y. IsTrue (is_le (cmp x y))) x xs (all_from cmp x xs s.0) (pairs_from cmp xs s.1)

in_order : (cmp : FileFacts → FileFacts → Ordering) → IsTotalOrder cmp → (files : List FileFacts) → IsInOrder cmp files (sorted_by cmp files)
in_order cmp total files = record {
  same = permutation_sorted cmp files;
  ascending = pairs_from cmp (sorted_by cmp files) (ascends_sorted total files);
}

pub files_come_in_order : FilesComeInOrder
files_come_in_order order next files = in_order (file_cmp order next) (file_total order next) files

pub expired_come_in_order : ExpiredComeInOrder
expired_come_in_order fields clock level files = in_order expired_cmp expired_total (filter (is_expired fields clock level) files)

pub sweeps_come_in_order : SweepsComeInOrder
sweeps_come_in_order place files = in_order expired_cmp expired_total (filter (is_unswept place) files)
