use Rattle.lethe_test_tree.proofs.keys.a_key_that_comes_again_replaces_its_entry.Given as goal

abbrev pub ghosts-check_replaced : goal.ghosts-check_replaced
ghosts-check_replaced g a = record { name = a.blank.name; parts = a.blank.parts }
