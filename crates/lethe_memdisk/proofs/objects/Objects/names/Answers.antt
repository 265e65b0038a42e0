use Rattle.std.proofs.Common.{◌≡◌, ◌++◌, [], ap, sym, ◌∙◌, rules}
use Rattle.std.specs.FinMap.{keys}
use Rattle.std.specs.BTreeMap as tree
use Rattle.lethe_memdisk.proofs.Maps.{keys_of_map}
use Rattle.lethe_memdisk.proofs.objects.Objects.names.Goals as goal

pub loop-name-init : goal.loop-name-init
loop-name-init c =
    let none : c.in_ok-names.names.items ≡ [] = search rules in
    let all : c.into_iter-name-iterator.result ≡ tree.keys c.self.inside.map = search rules in
    ap (λ l. l ++ c.into_iter-name-iterator.result) none ∙ all ∙ sym (keys_of_map c.self.inside.map c.keys-name-items.ensures.ordered) ∙ ap keys c.self.view_is
