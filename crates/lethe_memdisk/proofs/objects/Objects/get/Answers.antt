use Rattle.std.proofs.Common.{Some, ap, sym, ◌∙◌}
use Rattle.lethe_disk.specs.Directory.{object}
use Rattle.lethe_memdisk.proofs.Maps.{object_of, held}
use Rattle.lethe_memdisk.proofs.objects.Objects.get.Goals as goal

pub returns-in-Some : goal.returns-in-Some
returns-in-Some c =
    ap Some c.as_slice.ensures.value ∙ ap held c.in-Some.ensures.value ∙ sym (object_of c.self.inside.map c.args.name) ∙ ap (λ d. object d c.args.name) c.self.view_is

pub returns-in-None : goal.returns-in-None
returns-in-None c =
    ap held c.in-None.ensures.value ∙ sym (object_of c.self.inside.map c.args.name) ∙ ap (λ d. object d c.args.name) c.self.view_is
