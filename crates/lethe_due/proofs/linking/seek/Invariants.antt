use Rattle.std.proofs.Common.{◌≡◌, ◌+◌, List, ℕ, None}
use Rattle.slab.specs.Slab.{get}
use Rattle.lethe_due.specs.declared.due_file.DueFile.{DueFile}
use Rattle.lethe_due.specs.Linked.{Passed, Path, stops_at}
use Rattle.lethe_due.proofs.linking.seek.Given as goal

abbrev pub invariant-loop-place : goal.invariant-loop-place
invariant-loop-place g l =
    ((cells : List (ℕ × DueFile)) → Path (get l.nodes) l.fn.first cells None → Passed (get l.nodes) l.fn.first cells (stops_at l.stop) l.behind l.from l.place)
    × (l.steps ≡ l.fn.steps + l.place)
