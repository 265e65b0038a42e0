use Rattle.std.specs.Prelude.{◌≡◌, ◌++◌, map, take}
use Rattle.lethe_stored.specs.Stored.{segment_name}
use Rattle.lethe_recover.proofs.cited.push_segments.Given as goal

abbrev pub invariant-loop-segment : goal.invariant-loop-segment
invariant-loop-segment l = l.names.items ≡ l.initial.names.items ++ map segment_name (take l.segment-index l.segments)
