use Rattle.std.proofs.Common.{refl, sym, ap, ◌∙◌}
use Rattle.std.specs.Option.{option_map}
use Rattle.lethe_stored.specs.Files.{StoredFile}
use Rattle.lethe_version.proofs.Levels.{found_at, not_found}
use Rattle.lethe_job.specs.Chosen.{is_named}
use Rattle.lethe_job.specs.Tasks.{plain_file}
use Rattle.lethe_job.proofs.inputs.level_named.Goals as goal

pub returns-then-is_named : goal.returns-then-is_named
returns-then-is_named g c =
    let files = c.args.files.now in
    sym (ap (option_map (λ (file : StoredFile). file.level)) (found_at plain_file (is_named c.args.levels c.args.number) files files refl c.loop-file.file-index c.file-item.result c.loop-file-test.true c.file-item.is c.loop-file.invariant (sym c.is_named.ensures ∙ c.if-is_named.true)))

pub loop-file-preserved : goal.loop-file-preserved
loop-file-preserved g c =
    let files = c.args.files.now in
    not_found plain_file (is_named c.args.levels c.args.number) files files refl c.loop-file.file-index c.file-item.result c.loop-file-test.true c.file-item.is c.loop-file.invariant (sym c.is_named.ensures ∙ c.if-is_named.false)
