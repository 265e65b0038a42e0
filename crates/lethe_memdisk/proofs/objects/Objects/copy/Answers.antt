use Rattle.std.proofs.Common.{◌∙◌}
use Rattle.lethe_memdisk.proofs.Maps.{directory_cloned, same_items}
use Rattle.lethe_memdisk.proofs.objects.Objects.copy.Goals as goal

pub returns : goal.returns
returns c =
    directory_cloned _ _ c.self.inside.map c.in_ok-clone.field-0 c.in_ok-clone.ensures.cases (λ p q same. same) (λ v w same. same_items _ (λ x y is. is) v.items w.items same.0) ∙ c.self.view_is
