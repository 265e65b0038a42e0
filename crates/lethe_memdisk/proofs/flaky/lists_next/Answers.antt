use Rattle.std.proofs.Common.{◌≡◌, ◌<◌, ◌+◌, ℕ, false, List, sym, get_or, arith}
use Rattle.std.specs.Prelude.{◌==◌}
use Rattle.std.specs.List.{list_any}
use Rattle.std.proofs.lemmas.List.Elements.{All-from_get_or}
use Rattle.std.proofs.lemmas.List.Folds.{list_any_none}
use Rattle.lethe_memdisk.proofs.flaky.lists_next.Goals as goal

-- a number above all of a list isn't in it
above_all : (xs : List ℕ) (big : ℕ) → ((i : ℕ) → get_or xs i 0 < big) → list_any (λ n. n == big) xs ≡ false
above_all xs big below = list_any_none (λ n. n == big) xs (All-from_get_or (λ n. (n == big) ≡ false) xs 0 (λ i within. let lt = below i in grind arith))

pub returns-in-None : goal.returns-in-None
returns-in-None c = λ count is. let at_end = c.in-None.ensures in sym (above_all c.args.listed.now (count + 1) (λ i. let fits = c.type_inv.listed i in grind arith))
