use Rattle.std.proofs.Common.{List, subst}
use Rattle.lethe_due.specs.Due.{Due}
use Rattle.lethe_orders.specs.Changes.{ChangesAt, IsUnlinked, IsWithoutFile}
use Rattle.lethe_orders.proofs.Linking.{changed_stand, unlinked_stands}
use Rattle.lethe_orders.proofs.orders.Orders.unlink.Goals as goal

pub returns-clause-stand : goal.returns-clause-stand
returns-clause-stand g c =
    let new = c.unlink_at.new.lists.items in
    let no = c.args.no in
    let level = c.args.level in
    λ shape after stand shapes.
    changed_stand level shape after c.args.self.now new (IsWithoutFile no) (IsUnlinked no) (unlinked_stands no) stand shapes
    (subst (λ (l : List Due). ChangesAt level (IsUnlinked no) l new) c.self.view_is c.unlink_at.ensures.unlinked)
