use Rattle.std.proofs.Common.{ap}
use Rattle.lethe_version.specs.Order.{comes_before}
use Rattle.lethe_version.proofs.Levels.{ordered_from}
use Rattle.lethe_version.proofs.level.level_of.Goals as goal

pub returns : goal.returns
returns g c =
    ordered_from (λ one. one.file.value) (λ a b. comes_before c.args.number a.header b.header) c.args.files.items c.in_ok-shared.field-0.items c.in_ok-files.files.items c.of.result.files.items
    c.in_ok-shared.ensures (ap (λ v. v.items) c.of.ensures) c.in_ok-files.ensures
