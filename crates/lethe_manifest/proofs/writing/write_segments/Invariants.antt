use Rattle.std.proofs.Common.{◌≡◌, ◌++◌, take}
use Rattle.std.specs.List.{flat_map}
use Rattle.std.specs.Int.{to_be_bytes, w64}
use Rattle.lethe_manifest.proofs.writing.write_segments.Given as goal

-- those so far, behind their number
abbrev pub invariant-loop-segment : goal.invariant-loop-segment
invariant-loop-segment l = l.out.items ≡ l.initial.out.items ++ flat_map (to_be_bytes w64) (take l.segment-index l.segments)
