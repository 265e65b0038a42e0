use Rattle.std.proofs.Common.{◌∷◌, [], Bool, map, take, sym, ap, ◌∙◌}
use Rattle.std.specs.Prelude.{filter}
use Rattle.std.proofs.lemmas.List.{map-append}
use Rattle.lethe_job.specs.Tasks.{plain_file}
use Rattle.lethe_stored.specs.Files.{StoredFile}
use Rattle.lethe_install.specs.Inputs.{is_above, number_of}
use Rattle.lethe_install.proofs.Stepped.{none_more, one_more}
use Rattle.lethe_install.proofs.inputs.numbers_above.Goals as goal
use Rattle.lethe_install.proofs.inputs.numbers_above.Goals.{then-is_above+in_ok-push, else-is_above}

pub loop-file-preserved : goal.loop-file-preserved
loop-file-preserved g c =
    let test : StoredFile → Bool = is_above c.args.level (map plain_file c.args.sources.now) in
    let files = c.args.files.now in
    let place = c.loop-file.file-index in
    let before = filter test (map plain_file (take place files)) in
    elim c.if-is_above.branch [
      | then-is_above+in_ok-push w ↦
          let more = one_more plain_file test files place c.file-item.result c.loop-file-test.true c.file-item.is (sym c.is_above.ensures ∙ w.if-is_above.true) in
          let mapped = ap (map number_of) more ∙ map-append number_of before (plain_file c.file-item.result ∷ []) in
          cc (mapped, c.loop-file.invariant, w.in_ok-push.ensures.items, w.no.ensures, w.numbers-is)
      | else-is_above w ↦
          let same = ap (map number_of) (none_more plain_file test files place c.file-item.result c.loop-file-test.true c.file-item.is (sym c.is_above.ensures ∙ w.if-is_above.false)) in
          cc (same, c.loop-file.invariant, w.numbers-is)
    ]
