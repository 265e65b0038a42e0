use Rattle.std.proofs.Common.{[], map, subst, ap}
use Rattle.std.proofs.lemmas.Result.{IfOk-weaker}
use Rattle.lethe_version.specs.Versions.{levels_of}
use Rattle.lethe_advance.specs.Shown.{AreLevelsWith, new_parts, parts_by_level, parts_in}
use Rattle.lethe_advance.proofs.Opened.{levels_with}
use Rattle.lethe_snapshot.proofs.SameFiles.{ok_all, same_files, unchanged_files}
use Rattle.lethe_snapshot.proofs.sharing.share.Goals as goal

pub returns-clause-levels : goal.returns-clause-levels
returns-clause-levels g c =
    let old = levels_of c.args.version.now in
    ok_all c.with.result (λ next. AreLevelsWith [] [] (parts_by_level c.args.version.now) (parts_by_level next)) c.with.ensures.count c.with.ensures.others c.with.ensures.files
    (λ next count others files.
    let made = levels_with (λ new. new.level) (λ new. new.file) parts_in [] c.new.result.items old (levels_of next) count others (λ level given here some. (files level given here some).same) in
    subst (λ added. AreLevelsWith [] added (map (map parts_in) old) (map (map parts_in) (levels_of next))) (ap (map new_parts) c.new.ensures.items) made)

pub returns-clause-files : goal.returns-clause-files
returns-clause-files g c = λ s has. IfOk-weaker c.with.result _ _ (λ next made. same_files s (parts_by_level c.args.version.now) (parts_by_level next) made has) (returns-clause-levels g c)

pub returns-clause-same : goal.returns-clause-same
returns-clause-same g c = IfOk-weaker c.with.result _ _ (λ next made. unchanged_files (parts_by_level c.args.version.now) (parts_by_level next) made) (returns-clause-levels g c)
