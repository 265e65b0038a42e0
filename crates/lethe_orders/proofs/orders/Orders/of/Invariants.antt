use Rattle.lethe_orders.proofs.orders.Orders.of.Given as goal

abbrev pub ghosts-lists_of : goal.ghosts-lists_of
ghosts-lists_of a = record { name = a.blank.name; parts = a.blank.parts }
