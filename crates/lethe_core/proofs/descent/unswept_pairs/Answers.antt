use Rattle.std.proofs.Common.{◌≡◌, ◌+◌, map, take, length, [], ◌∷◌, ◌++◌, sym, ap, ◌∙◌, arith}
use Rattle.std.specs.Prelude.{nat_lt, sum_by}
use Rattle.std.proofs.lemmas.List.{map_more}
use Rattle.std.proofs.lemmas.List.Sums.{length-filter, sum_by-append, sum_by-cons}
use Rattle.lethe_base.specs.declared.pending.Pending.{Pending}
use Rattle.lethe_job.specs.Tasks.{plain_file}
use Rattle.lethe_core.specs.Descent.{unswept_pairs}
use Rattle.lethe_core.proofs.Unswept.{unswept}
use Rattle.lethe_core.proofs.descent.unswept_pairs.Goals as goal

pub loop-file-preserved : goal.loop-file-preserved
loop-file-preserved g c =
    let erases = c.args.erases.now in
    let done = map plain_file (take c.loop-file.file-index c.args.files.now) in
    let file = plain_file c.file-item.result in
    let more : map plain_file (take (c.loop-file.file-index + 1) c.args.files.now) ≡ done ++ file ∷ [] =
    map_more plain_file c.args.files.now c.loop-file.file-index c.file-item.result c.loop-file-test.true ∙ ap (λ f. done ++ plain_file f ∷ []) (sym c.file-item.is) in
    let sum : unswept_pairs (map plain_file (take (c.loop-file.file-index + 1) c.args.files.now)) erases ≡ unswept_pairs done erases + unswept erases file =
    omega (arith, ap (sum_by (unswept erases)) more, sum_by-append (unswept erases) done (file ∷ []), sum_by-cons (unswept erases) file []) in
    let above : length c.erases_above-unswept.result.now ≡ unswept erases file =
    ap length c.erases_above-unswept.ensures ∙ length-filter (λ (erase : Pending). nat_lt file.swept erase.seq) erases in
    omega (arith, c.loop-file.invariant, c.saturating_add-pairs.ensures, sum, above)
