use Rattle.std.proofs.Common.{◌≡◌, ℕ, List, Some, None, ap, sym, ◌∙◌}
use Rattle.std.specs.Prelude.{Option, IsSome}
use Rattle.lethe_disk.specs.Directory.{object}
use Rattle.std.specs.FinMap.{insert}
use Rattle.lethe_memdisk.proofs.Maps.{directory_inserted, object_of, held}
use Rattle.lethe_memdisk.proofs.objects.Objects.insert.Goals as goal

pub returns-in-Ok-clause-ok : goal.returns-in-Ok-clause-ok
returns-in-Ok-clause-ok c =
    directory_inserted c.self.inside.map c.insert.new.self c.args.name c.args.bytes c.in-Ok.ensures.updates ∙ ap (λ d. insert d c.args.name c.args.bytes.items) c.self.view_is

pub returns-clause-present : goal.returns-clause-present
returns-clause-present c = λ here.
    let none : object c.args.self.now c.args.name ≡ None = ap (λ d. object d c.args.name) (sym c.self.view_is) ∙ object_of c.self.inside.map c.args.name ∙ ap held c.in-Err.ensures.absent in
    absurd (not_there (object c.args.self.now c.args.name) none here)
  where
    not_there : (o : Option (List ℕ)) → o ≡ None → IsSome o → ⊥
    not_there None none here = cc
    not_there (Some x) none here = cc
