use Rattle.lethe_test_due.proofs.due.the_least_and_the_greatest_time.Given as goal

abbrev pub ghosts-both_ends : goal.ghosts-both_ends
ghosts-both_ends g a = record { name = a.blank.name; parts = a.blank.parts }
