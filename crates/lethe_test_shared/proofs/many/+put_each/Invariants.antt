use Rattle.lethe_test_shared.proofs.many.+put_each.Given as goal

abbrev pub decreases-put_each : goal.decreases-put_each
decreases-put_each g l = l.count
