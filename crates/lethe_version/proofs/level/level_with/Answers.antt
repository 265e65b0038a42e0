use Rattle.std.proofs.Common.{ap}
use Rattle.lethe_version.specs.NewFiles.{shared_in}
use Rattle.lethe_version.proofs.Levels.{placed}
use Rattle.lethe_version.proofs.level.level_with.Goals as goal

pub returns-clause-there : goal.returns-clause-there
returns-clause-there g c = λ _.
    placed (λ one. one.file.value) (λ file. file.header) c.args.number c.args.gone.now c.new-files.result.items c.args.old.now.files.items c.deref.result.now c.add_others.new.files.items c.add_new.new.files.items c.in_ok-ordered.field-0.items c.of-2.result.files.items
    (shared_in c.args.number c.args.added.now) c.new-files.ensures.items c.deref.ensures.value c.in_ok-add_others.ensures c.in_ok-add_new.ensures (ap (λ v. v.items) c.of-2.ensures) c.in_ok-ordered.ensures
