-- The first changes of a history, and what they leave.
use Rattle.std.proofs.Common.{◌≡◌, ℕ, take, [], ◌∷◌, Some, ap, sym, ◌∙◌, length, arith}
use Rattle.std.specs.Prelude.{codes}
use Rattle.std.specs.FinMap as finmap
use Rattle.std.proofs.lemmas.List.{take_all}
use Rattle.std.specs.Cmp.Lexicographic.{nat_list_cmp_total}
use Rattle.lethe_base.specs.History.{Change, History, after, change_at}
use Rattle.lethe_base.specs.Read as answers
use Rattle.lethe_test_client.specs.Scripts.{the_put}

pub take_one : (h : History) (x : Change) → change_at h 1 ≡ Some x → take 1 h ≡ x ∷ []
take_one [] x is = cc
take_one (y ∷ h) x is = let same : y ≡ x = cc in ap (λ c. c ∷ []) same

pub take_two : (h : History) (x z : Change) → change_at h 1 ≡ Some x → change_at h 2 ≡ Some z → take 2 h ≡ x ∷ z ∷ []
take_two [] x z is then = cc
take_two (y ∷ []) x z is then = cc
take_two (y ∷ w ∷ h) x z is then = let one : y ≡ x = cc in let two : w ≡ z = cc in ap (λ c. c ∷ w ∷ []) one ∙ ap (λ c. x ∷ c ∷ []) two

-- a history is what it begins with, where that is as long
pub whole : (h : History) (n : ℕ) (front : History) → take n h ≡ front → length h ≡ n → h ≡ front
whole h n front is long = sym (take_all n h (omega (arith, long))) ∙ is

pub found_put : answers.answer (after (the_put ∷ [])) (answers.Get (codes "a")) ≡ answers.Found (Some (5, codes "x"))
found_put = ap answers.Found (finmap.get-insert nat_list_cmp_total finmap.empty (codes "a") (5, codes "x") (codes "a"))
