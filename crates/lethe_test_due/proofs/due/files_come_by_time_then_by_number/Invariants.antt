use Rattle.lethe_test_due.proofs.due.files_come_by_time_then_by_number.Given as goal

abbrev pub ghosts-by_time : goal.ghosts-by_time
ghosts-by_time g a = record { name = a.blank.name; parts = a.blank.parts }
