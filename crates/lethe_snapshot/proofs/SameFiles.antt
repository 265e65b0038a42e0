-- The same files, shared.
use Rattle.std.proofs.Common.{◌≡◌, ◌<◌, true, List, [], length, append-nil, get_or, Result, Ok, Err, refl, ◌∙◌, subst, arith}
use Rattle.std.specs.Prelude.{IfOk}
use Rattle.std.specs.List.Sorted.{IsPermutation}
use Rattle.std.proofs.lemmas.List.Sorted.{IsPermutation-trans}
use Rattle.lethe_stored.specs.Files.{Parts}
use Rattle.lethe_stored.specs.Levels.{HasFiles}
use Rattle.lethe_stored.specs.Stored.{Stored}
use Rattle.lethe_stored.proofs.Lists.{all_from}
use Rattle.lethe_version.specs.Order.{is_kept}
use Rattle.lethe_advance.specs.Shown.{AreLevelsWith, parts_without}
use Rattle.lethe_advance.proofs.Lists.{filter_all}
use Rattle.lethe_snapshot.specs.Points.{AreSameFiles}

-- what follows of three facts of the value of a result
pub ok_all : {T E : Type 0} {P Q S : T → Type 0} (result : Result T E) (R : T → Type 0) → IfOk result P → IfOk result Q → IfOk result S → ((x : T) → P x → Q x → S x → R x) → IfOk result R
ok_all (Ok x) R p q s goes = goes x p q s
ok_all (Err e) R p q s goes = tt

-- nothing goes
all_stay : (files : List Parts) → parts_without [] files ≡ files
all_stay files = filter_all (λ (file : Parts). is_kept [] file.header) files (all_from (λ (file : Parts). is_kept [] file.header ≡ true) files (λ file there. refl))

-- levels that nothing left and nothing came into have the same files
pub unchanged_files : (old new : List (List Parts)) → AreLevelsWith [] [] old new → AreSameFiles old new
unchanged_files old new made = record {
  count = made.count;
  each = λ level inside.
      let stay = append-nil (parts_without [] (get_or old level [])) ∙ all_stay (get_or old level []) in
      subst (λ l. IsPermutation l (get_or new level [])) stay (made.each level inside);
}

pub same_files : (s : Stored) (old new : List (List Parts)) → AreLevelsWith [] [] old new → HasFiles s old → HasFiles s new
same_files s old new made has = record {
  count = made.count ∙ has.count;
  each = λ level lt.
      let count = made.count in
      let inside : level < length old = omega (arith, count, lt) in
      IsPermutation-trans _ _ _ (has.each level inside) ((unchanged_files old new made).each level inside);
}
