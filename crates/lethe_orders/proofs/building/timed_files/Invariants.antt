use Rattle.std.proofs.Common.{◌≡◌, take}
use Rattle.lethe_orders.specs.Standing.{timed}
use Rattle.lethe_orders.proofs.building.timed_files.Given as goal

abbrev pub invariant-loop-file : goal.invariant-loop-file
invariant-loop-file l = l.order.items ≡ timed (take l.file-index l.files)
