use Rattle.std.proofs.Common.{ℕ, List, Option, refl, sym, subst}
use Rattle.lethe_due.specs.Due.{Due}
use Rattle.lethe_orders.specs.Changes.{ChangesAt, IsFileLinked, IsTimeLinked, IsWithFile}
use Rattle.lethe_orders.proofs.Linking.{changed_stand, linked_stands, none_changes}
use Rattle.lethe_orders.proofs.orders.Orders.link.Goals as goal

pub returns-in-Some-clause-stand : goal.returns-in-Some-clause-stand
returns-in-Some-clause-stand g c =
    let new = c.link_at.new.lists.items in
    let file = c.args.file.now in
    let level = c.args.level in
    let changes : ChangesAt level (IsFileLinked file) c.self.inside.lists.items new =
    subst (λ (o : Option ℕ). ChangesAt level (IsTimeLinked file.no o) c.self.inside.lists.items new) (sym c.in-Some.is) c.link_at.ensures.linked
    in
    λ shape after stand shapes.
    changed_stand level shape after c.args.self.now new (IsWithFile file) (IsFileLinked file) (linked_stands file) stand shapes
    (subst (λ (l : List Due). ChangesAt level (IsFileLinked file) l new) c.self.view_is changes)

pub returns-in_default-clause-stand : goal.returns-in_default-clause-stand
returns-in_default-clause-stand g c =
    let file = c.args.file.now in
    let level = c.args.level in
    let same : (due : Due) → IsFileLinked file due due = λ due. subst (λ (o : Option ℕ). IsTimeLinked file.no o due due) (sym c.in_default.is) refl in
    λ shape after stand shapes.
    changed_stand level shape after c.args.self.now c.args.self.now (IsWithFile file) (IsFileLinked file) (linked_stands file) stand shapes
    (none_changes level (IsFileLinked file) c.args.self.now same)
