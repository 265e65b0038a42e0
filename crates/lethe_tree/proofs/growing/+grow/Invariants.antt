use Rattle.lethe_tree.proofs.growing.+grow.Given as goal

abbrev pub decreases-grow : goal.decreases-grow
decreases-grow a = a.depth
