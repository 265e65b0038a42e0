use Rattle.std.proofs.Common.{map, refl, ap, ◌∙◌, arith, subst}
use Rattle.std.specs.List.{AllZip}
use Rattle.std.proofs.lemmas.List.{take_all}
use Rattle.lethe_sweeps.specs.Shown.{parts_by_level, parts_in}
use Rattle.lethe_version.specs.Versions.{levels_of}
use Rattle.lethe_job.specs.Tasks.{IsCitedAs, plain_file}
use Rattle.lethe_job.proofs.Cited.{cited_as, cited_more}
use Rattle.lethe_job.proofs.Listed.{zip_more}
use Rattle.lethe_job.proofs.filed.cited_files.Goals as goal

pub loop-one-preserved : goal.loop-one-preserved
loop-one-preserved g c =
    let file = c.in_ok-cited_file.field-0 in
    let is = c.in_ok-cited_file.ensures in
    let levels = levels_of c.args.version.now in
    record {
      stored = λ s coherent are held. ap (map plain_file) c.in_ok-push.ensures.items
          ∙ cited_more s coherent plain_file parts_in c.args.cited.now are levels held c.loop-one.one-index _ c.loop-one-test.true c.loop-one.files.items (c.loop-one.invariant.stored s coherent are held)
          file file.file.file.value is.level is.swept is.no refl is.low is.there;
      each = zip_more (IsCitedAs (parts_by_level c.args.version.now)) plain_file c.args.cited.now c.loop-one.one-index _ c.loop-one-test.true c.loop-one.files.items c.push.new.self.items file
          c.in_ok-push.ensures.items c.loop-one.invariant.each
          (cited_as parts_in levels _ (plain_file file) file.file.file.value is.level is.swept is.no refl is.low is.there);
    }

pub returns-clause-each : goal.returns-clause-each
returns-clause-each g c =
    subst (λ cited. AllZip (IsCitedAs (parts_by_level c.args.version.now)) cited (map plain_file c.loop-one.files.items)) (take_all c.loop-one.one-index c.args.cited.now (omega (arith, c.loop-one-test.false))) c.loop-one.invariant.each
