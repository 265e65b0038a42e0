use Rattle.std.proofs.Common.{List, subst}
use Rattle.lethe_due.specs.Due.{Due}
use Rattle.lethe_orders.specs.Changes.{KeepFiles}
use Rattle.lethe_orders.proofs.Linking.{kept_stand}
use Rattle.lethe_orders.proofs.orders.Orders.reserve.Goals as goal

pub returns-clause-stand : goal.returns-clause-stand
returns-clause-stand c =
    let new = c.reserve_each.new.lists.items in
    λ shape stand. kept_stand shape c.args.self.now new (subst (λ (l : List Due). KeepFiles l new) c.self.view_is c.reserve_each.ensures.kept) stand
