use Rattle.std.proofs.Common.{ℕ, ◌+◌, ◌-◌, length}
use Rattle.lethe_manifest.specs.Parts.{segment_at}
use Rattle.lethe_manifest.proofs.Items.{IsReadTo}
use Rattle.lethe_manifest.proofs.parts.read_segments.Given as goal

abbrev pub invariant-segments : goal.invariant-segments
invariant-segments l = IsReadTo (segment_at l.next) (λ (segment : ℕ). 0) l.count l.bytes (l.start + 1) l.segments.items 0 l.at

abbrev pub decreases-segments : goal.decreases-segments
decreases-segments l = l.count - length l.segments.items
