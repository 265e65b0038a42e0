use Rattle.lethe_test_orders.proofs.links.files_without_a_time_and_of_the_last_level_are_not_linked.Given as goal

abbrev pub ghosts-are_not_linked : goal.ghosts-are_not_linked
ghosts-are_not_linked g a = record { name = a.blank.name; parts = a.blank.parts }
