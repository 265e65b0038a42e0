-- The orders of the files of a level are total, and a loop over them finds the first one that passes.
use Rattle.std.proofs.Common.{◌≡◌, ℕ, ◌+◌, ◌<◌, Bool, true, false, cond, List, [], ◌∷◌, length, take, get_or, map, Option, Some, None, refl, ap, ◌∙◌}
use Rattle.std.proofs.lemmas.Cmp.{nat_cmp_total, on_total, then_total, back_total}
use Rattle.std.specs.Cmp.{IsTotalOrder}
use Rattle.std.specs.List.{find}
use Rattle.std.specs.Option.{option_map}
use Rattle.std.specs.declared.cmp.Ordering.{Ordering}
use Rattle.std.specs.declared.cmp.Ordering.TheVariants.{Less, Equal, Greater}
use Rattle.std.specs.Ordering.{ordering_reverse, min_by_ordering}
use Rattle.lethe_base.specs.declared.config.Pick.{Pick}
use Rattle.lethe_base.specs.declared.config.Pick.TheVariants.{So, Sd}
use Rattle.lethe_base.specs.declared.shape.FileFacts.{FileFacts}
use Rattle.lethe_fade.specs.declared.rank.Age.{Age}
use Rattle.lethe_fade.specs.declared.rank.Rank.{Rank}
use Rattle.lethe_fade.specs.Ranks.{age_cmp, oldest_cmp, rank_cmp, rank_of, file_cmp, lesser_of, sorted_by}
use Rattle.lethe_fade.specs.Candidates.{merge_plan}
use Rattle.lethe_fade.specs.Expired.{age_of, expired_cmp}
use Rattle.lethe_fade.proofs.Sorting.{better, find-sorted_more}

oldest_antisymm : (a b : Option ℕ) → oldest_cmp a b ≡ ordering_reverse (oldest_cmp b a)
oldest_antisymm None None = refl
oldest_antisymm None (Some b) = refl
oldest_antisymm (Some a) None = refl
oldest_antisymm (Some a) (Some b) = nat_cmp_total.antisymm a b

oldest_trans : (a b c : Option ℕ) → oldest_cmp a b ≡ Less → oldest_cmp b c ≡ Less → oldest_cmp a c ≡ Less
oldest_trans None None c e f = absurd cc
oldest_trans None (Some b) c e f = absurd cc
oldest_trans (Some a) None None e f = absurd cc
oldest_trans (Some a) None (Some c) e f = absurd cc
oldest_trans (Some a) (Some b) None e f = refl
oldest_trans (Some a) (Some b) (Some c) e f = nat_cmp_total.trans a b c e f

oldest_congr : (a b c : Option ℕ) → oldest_cmp a b ≡ Equal → oldest_cmp a c ≡ oldest_cmp b c
oldest_congr None None c e = refl
oldest_congr None (Some b) c e = absurd cc
oldest_congr (Some a) None c e = absurd cc
oldest_congr (Some a) (Some b) None e = refl
oldest_congr (Some a) (Some b) (Some c) e = nat_cmp_total.congr a b c e

oldest_total : IsTotalOrder oldest_cmp
oldest_total = record { antisymm = oldest_antisymm; trans = oldest_trans; congr = oldest_congr }

pub rank_total : (order : Pick) → IsTotalOrder (rank_cmp order)
rank_total So = then_total (on_total (λ (r : Rank). r.below) nat_cmp_total) (then_total (on_total (λ (r : Rank). r.tombs) (back_total nat_cmp_total)) (on_total (λ (r : Rank). r.no) nat_cmp_total))
rank_total Sd = then_total (on_total (λ (r : Rank). r.tombs) (back_total nat_cmp_total)) (then_total (on_total (λ (r : Rank). r.oldest) oldest_total) (on_total (λ (r : Rank). r.no) nat_cmp_total))

pub file_total : (order : Pick) (next : List FileFacts) → IsTotalOrder (file_cmp order next)
file_total order next = on_total (rank_of next) (rank_total order)

pub age_total : IsTotalOrder age_cmp
age_total = then_total (on_total (λ (a : Age). a.oldest) oldest_total) (then_total (on_total (λ (a : Age). a.tombs) (back_total nat_cmp_total)) (on_total (λ (a : Age). a.no) nat_cmp_total))

pub expired_total : IsTotalOrder expired_cmp
expired_total = on_total age_of age_total

-- what items are ranked by, for any such
module _ {X R : Type 0} (rank : X → R) (cmp : R → R → Ordering) where
  abbrev by_rank : X → X → Ordering
  by_rank x y = cmp (rank x) (rank y)

  -- items go by their ranks
  rank-min : (r : Ordering) (x y : X) → rank (min_by_ordering r x y) ≡ min_by_ordering r (rank x) (rank y)
  rank-min Less x y = refl
  rank-min Equal x y = refl
  rank-min Greater x y = refl

  rank-better : (a : Option X) (y : X) → option_map rank (better by_rank a (Some y)) ≡ Some (lesser_of cmp (option_map rank a) (rank y))
  rank-better None y = refl
  rank-better (Some x) y = ap Some (rank-min (by_rank x y) x y)

  -- the rank of the first of some items that passes
  abbrev pub first_ranked : (X → Bool) → List X → Option R
  first_ranked p xs = option_map rank (find p (sorted_by by_rank xs))

  rank-passing : (a : Option X) (y : X) (b : Bool) → option_map rank (better by_rank a (cond b (Some y) None)) ≡ cond b (Some (lesser_of cmp (option_map rank a) (rank y))) (option_map rank a)
  rank-passing a y true = rank-better a y
  rank-passing None y false = refl
  rank-passing (Some x) y false = refl

  -- a step of a loop over the items
  pub first_ranked_more : IsTotalOrder cmp → (p : X → Bool) (xs : List X) (i : ℕ) (d : X) → i < length xs
      → first_ranked p (take (i + 1) xs) ≡ cond (p (get_or xs i d)) (Some (lesser_of cmp (first_ranked p (take i xs)) (rank (get_or xs i d)))) (first_ranked p (take i xs))
  first_ranked_more o p xs i d h =
      ap (option_map rank) (find-sorted_more (on_total rank o) p xs i d h) ∙ rank-passing (find p (sorted_by by_rank (take i xs))) (get_or xs i d) (p (get_or xs i d))

abbrev pub first_rank : Pick → List FileFacts → (FileFacts → Bool) → List FileFacts → Option Rank
first_rank order next = first_ranked (rank_of next) (rank_cmp order)

abbrev pub first_age : (FileFacts → Bool) → List FileFacts → Option Age
first_age = first_ranked age_of age_cmp

-- the first of mapped items, and what is read of it
pub find-map : {X Y Z : Type 0} (f : X → Y) (g : Y → Z) (p : Y → Bool) (xs : List X) → option_map g (find p (map f xs)) ≡ option_map (λ x. g (f x)) (find (λ x. p (f x)) xs)
find-map f g p [] = refl
find-map f g p (x ∷ xs) = by_test (p (f x)) (find-map f g p xs)
  where
    by_test : (b : Bool) → option_map g (find p (map f xs)) ≡ option_map (λ x. g (f x)) (find (λ x. p (f x)) xs) → option_map g (cond b (Some (f x)) (find p (map f xs))) ≡ option_map (λ x. g (f x)) (cond b (Some x) (find (λ x. p (f x)) xs))
    by_test true rest = refl
    by_test false rest = rest

-- the plan of the file that a rank is of
pub plan-rank : (next : List FileFacts) (o : Option FileFacts) → option_map (λ (r : Rank). merge_plan r.no) (option_map (rank_of next) o) ≡ option_map (λ (f : FileFacts). merge_plan f.no) o
plan-rank next None = refl
plan-rank next (Some x) = refl

pub plan-age : (o : Option FileFacts) → option_map (λ (a : Age). merge_plan a.no) (option_map age_of o) ≡ option_map (λ (f : FileFacts). merge_plan f.no) o
plan-age None = refl
plan-age (Some x) = refl
