use Rattle.std.proofs.Common.{ap, sym, ◌∙◌}
use Rattle.std.specs.FinMap.{remove}
use Rattle.lethe_disk.specs.Directory.{object}
use Rattle.lethe_memdisk.proofs.Maps.{directory_removed, object_of, held}
use Rattle.lethe_memdisk.proofs.objects.Objects.remove.Goals as goal

pub returns-clause-removed : goal.returns-clause-removed
returns-clause-removed c =
    ap held c.remove.ensures.value ∙ sym (object_of c.self.inside.map c.args.name) ∙ ap (λ d. object d c.args.name) c.self.view_is

pub returns-clause-rest : goal.returns-clause-rest
returns-clause-rest c =
    directory_removed c.self.inside.map c.remove.new.self c.args.name c.remove.ensures.updates ∙ ap (λ d. remove d c.args.name) c.self.view_is
