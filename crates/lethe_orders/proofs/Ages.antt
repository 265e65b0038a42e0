-- The first of a level's expired files, as a loop over the files finds it.
use Rattle.std.proofs.Common.{◌≡◌, ℕ, ◌+◌, ◌<◌, ◌≤◌, Bool, true, false, cond, List, [], ◌∷◌, length, take, get_or, Option, Some, None, refl, sym, ap, ◌∙◌}
use Rattle.std.specs.Prelude.{◌&&◌, slice_get}
use Rattle.std.specs.Cmp.{IsTotalOrder}
use Rattle.std.specs.List.{filter, find}
use Rattle.std.specs.Option.{option_map}
use Rattle.std.specs.declared.cmp.Ordering.{Ordering}
use Rattle.std.proofs.lemmas.Cmp.{on_total}
use Rattle.std.proofs.lemmas.List.{take_all}
use Rattle.lethe_base.specs.declared.shape.FileFacts.{FileFacts}
use Rattle.lethe_fade.specs.Expired.{expired_cmp}
use Rattle.lethe_fade.specs.Ranks.{age_cmp, sorted_by}
use Rattle.lethe_fade.proofs.Ranking.{age_total, expired_total, first_ranked, first_ranked_more}
use Rattle.lethe_fade.proofs.Sorting.{find-sorted_filter}
use Rattle.lethe_orders.specs.declared.age.Age.{Age}
use Rattle.lethe_orders.specs.Firsts.{older_of, ranked}

abbrev pub aged : FileFacts → Age
aged file = record { oldest = file.oldest; tombs = file.tombs; no = file.no }

abbrev pub compare : Age → Age → Ordering
compare a b = age_cmp (ranked a) (ranked b)

compare_total : IsTotalOrder compare
compare_total = on_total ranked age_total

abbrev pub first_age : (FileFacts → Bool) → List FileFacts → Option Age
first_age = first_ranked aged compare

-- a step of the loop
pub record AgeStep (p : FileFacts → Bool) (files : List FileFacts) (place : ℕ) (file : FileFacts) (oldest : Option Age) : Type 0 where
  pub taken : p file ≡ true → Some (older_of oldest (aged file)) ≡ first_age p (take (place + 1) files)
  pub passed : p file ≡ false → oldest ≡ first_age p (take (place + 1) files)

module _ (p : FileFacts → Bool) (files : List FileFacts) (place : ℕ) (file : FileFacts) (oldest : Option Age) (within : place < length files) (is : file ≡ get_or files place file)
    (e : oldest ≡ first_age p (take place files)) where
  age_more : cond (p file) (Some (older_of oldest (aged file))) oldest ≡ first_age p (take (place + 1) files)
  age_more =
      let step = first_ranked_more aged compare compare_total p files place file within in
      let here = rw (← is) at step in
      rw e (sym here)

  pub age_step : AgeStep p files place file oldest
  age_step = record {
    taken = λ passes. sym (ap (λ b. cond b (Some (older_of oldest (aged file))) oldest) passes) ∙ age_more;
    passed = λ fails. sym (ap (λ b. cond b (Some (older_of oldest (aged file))) oldest) fails) ∙ age_more;
  }

-- behind the last file

first_any : {X : Type 0} (xs : List X) → find (λ x. true) xs ≡ slice_get xs 0
first_any [] = refl
first_any (x ∷ xs) = refl

find_kept : {X : Type 0} (p : X → Bool) (xs : List X) → find (λ x. p x && true) xs ≡ find p xs
find_kept p [] = refl
find_kept {X} p (x ∷ xs) = by (p x) (find_kept p xs)
  where
    by : (b : Bool) → find (λ y. p y && true) xs ≡ find p xs → cond (b && true) (Some x) (find (λ y. p y && true) xs) ≡ cond b (Some x) (find p xs)
    by true rest = refl
    by false rest = rest

first_kept : (p : FileFacts → Bool) (files : List FileFacts) → find p (sorted_by expired_cmp files) ≡ slice_get (sorted_by expired_cmp (filter p files)) 0
first_kept p files = sym (find_kept p (sorted_by expired_cmp files)) ∙ sym (find-sorted_filter expired_total p (λ file. true) files) ∙ first_any (sorted_by expired_cmp (filter p files))

named : (o : Option FileFacts) → option_map (λ (a : Age). a.no) (option_map aged o) ≡ option_map (λ (f : FileFacts). f.no) o
named None = refl
named (Some file) = refl

pub age_result : (p : FileFacts → Bool) (files : List FileFacts) (place : ℕ) (oldest : Option Age) → length files ≤ place → oldest ≡ first_age p (take place files)
    → option_map (λ (a : Age). a.no) oldest ≡ option_map (λ (f : FileFacts). f.no) (slice_get (sorted_by expired_cmp (filter p files)) 0)
age_result p files place oldest end e =
    ap (option_map (λ (a : Age). a.no)) (e ∙ ap (first_age p) (take_all place files end))
    ∙ named (find p (sorted_by expired_cmp files))
    ∙ ap (option_map (λ (f : FileFacts). f.no)) (first_kept p files)
