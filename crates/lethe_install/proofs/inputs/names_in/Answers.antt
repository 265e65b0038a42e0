use Rattle.std.proofs.Common.{◌≡◌, ◌++◌, ◌∷◌, [], Bool, append-nil, map, take, sym, ap, ◌∙◌}
use Rattle.std.specs.Prelude.{flat_map, filter}
use Rattle.std.proofs.lemmas.List.Concat.{flat_map-append}
use Rattle.lethe_job.specs.Tasks.{plain_file}
use Rattle.lethe_stored.specs.Files.{StoredFile}
use Rattle.lethe_install.specs.Inputs.{names_of}
use Rattle.lethe_install.specs.Placed.{is_among}
use Rattle.lethe_install.proofs.Stepped.{none_more, one_more}
use Rattle.lethe_install.proofs.inputs.names_in.Goals as goal
use Rattle.lethe_install.proofs.inputs.names_in.Goals.{then-contains+in_ok-add_names, else-contains}

pub loop-file-preserved : goal.loop-file-preserved
loop-file-preserved g c =
    let test : StoredFile → Bool = λ file. is_among c.args.numbers.now file.header.no in
    let files = c.args.files.now in
    let place = c.loop-file.file-index in
    let file : StoredFile = plain_file c.file-item.result in
    let before = filter test (map plain_file (take place files)) in
    let told : c.contains.result ≡ test file = c.contains.ensures.value ∙ ap (is_among c.args.numbers.now) c.no.ensures in
    elim c.if-contains.branch [
      | then-contains+in_ok-add_names w ↦
          let more = one_more plain_file test files place c.file-item.result c.loop-file-test.true c.file-item.is (sym told ∙ w.if-contains.true) in
          let mapped = ap (flat_map names_of) more ∙ flat_map-append names_of before (file ∷ []) ∙ ap (λ l. flat_map names_of before ++ l) (append-nil (names_of file)) in
          cc (mapped, c.loop-file.invariant, w.in_ok-add_names.ensures, w.names-is)
      | else-contains w ↦
          let same = ap (flat_map names_of) (none_more plain_file test files place c.file-item.result c.loop-file-test.true c.file-item.is (sym told ∙ w.if-contains.false)) in
          cc (same, c.loop-file.invariant, w.names-is)
    ]
