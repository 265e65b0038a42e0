use Rattle.lethe_test_orders.proofs.links.a_file_that_goes_is_no_more_due.Given as goal

abbrev pub ghosts-goes_and_comes : goal.ghosts-goes_and_comes
ghosts-goes_and_comes g a = record { name = a.blank.name; parts = a.blank.parts }
