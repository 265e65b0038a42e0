use Rattle.lethe_tree.proofs.tree_buffer.TreeBufferBuffer.insert.Given as goal

abbrev pub ghosts-spot_of : goal.ghosts-spot_of
ghosts-spot_of a = record { name = a.blank.name; parts = a.blank.parts }
