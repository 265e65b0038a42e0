use Rattle.lethe_dirdisk.proofs.folder.Folder.sync_changes.Given as goal

abbrev pub decreases-loop-name : goal.decreases-loop-name
decreases-loop-name l = goal.left-loop-name l
