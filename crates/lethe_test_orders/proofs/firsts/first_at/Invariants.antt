use Rattle.lethe_test_orders.proofs.firsts.first_at.Given as goal

abbrev pub ghosts-first_in : goal.ghosts-first_in
ghosts-first_in g a = record { name = a.blank.name; parts = a.blank.parts }
