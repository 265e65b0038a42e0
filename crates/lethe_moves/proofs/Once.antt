-- No run has a key twice.
use Rattle.std.proofs.Common.{◌≡◌, ◌⊎◌, List, [], ◌∷◌, map, Contains, sym, subst, arith}
use Rattle.lethe_cover.proofs.Common.{⊎_elim, File, Layout, runs_of, entries_of, none_in, first_or_rest}
use Rattle.std.proofs.lemmas.List.Elements.{Contains-append_cases}
use Rattle.lethe_cover.specs.Reads.{AreOnce}
use Rattle.lethe_cover.proofs.FilesInRuns.{runs_file}
use Rattle.lethe_moves.specs.Files.{IsTiled}
use Rattle.lethe_moves.specs.Merges.{IsBelow}
use Rattle.lethe_moves.specs.Ordered.{IsOrdered}
use Rattle.lethe_moves.proofs.Apart.{below_apart}
use Rattle.lethe_moves.proofs.Orders.{AreOrdered, order_from, rise_in}
use Rattle.lethe_cover.proofs.Lists.{Pairs, flat_in, map_from}
use Rattle.lethe_moves.proofs.Tiled.{file_once}

-- two items are one, or they are related
one_or_two : {X : Type 0} (R : X → X → Type 0) (xs : List X) → Pairs R xs → (x y : X) → Contains xs x → Contains xs y → (x ≡ y) ⊎ (R x y ⊎ R y x)
one_or_two R [] pairs x y left right = absurd (none_in x left)
one_or_two R (first ∷ xs) pairs x y left right = grind (arith, first_or_rest first xs x left, first_or_rest first xs y right, pairs.0 x, pairs.0 y, one_or_two R xs pairs.1 x y)

-- the files of a run ascend: it is a file of level 0, or another level
run_ascends : (levels : List (List File)) → AreOrdered levels → (run : List File) → Contains (runs_of levels) run → Pairs IsBelow run
run_ascends [] order run there = absurd (none_in run there)
run_ascends (newest ∷ deeper) order run there = ⊎_elim (λ first. subst (Pairs IsBelow) (map_from (λ file. file ∷ []) newest run first).2 ((λ other is. absurd (none_in other is)), tt))
    (rise_in deeper run order.below) (Contains-append_cases (map (λ file. file ∷ []) newest) deeper run there)

pub once_in_runs : (l : Layout) → IsOrdered l → AreOnce (runs_of l.levels)
once_in_runs l ordered run there entry other is it same =
    ⊎_elim (λ one. file_once is.file (tiled is.file is.there) entry other is.spelled (subst (λ file. Contains (entries_of file) other) (sym one) it.spelled) same)
    (⊎_elim (λ below. absurd (below_apart is.file it.file (tiled is.file is.there) (tiled it.file it.there) below entry other is.spelled it.spelled same))
    (λ above. absurd (below_apart it.file is.file (tiled it.file it.there) (tiled is.file is.there) above other entry it.spelled is.spelled (sym same))))
    (one_or_two IsBelow run (run_ascends l.levels order run there) is.file it.file is.there it.there)
  where
    order : AreOrdered l.levels
    order = order_from l ordered

    tiled : (file : File) → Contains run file → IsTiled file
    tiled file at = order.tiled file (runs_file l.levels file (flat_in (λ files. files) (runs_of l.levels) run file there at))
