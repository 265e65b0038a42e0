use Rattle.std.proofs.Common.{◌+◌, ◌-◌, length}
use Rattle.lethe_base.specs.declared.pending.Pending.{Pending}
use Rattle.lethe_manifest.specs.Parts.{erase_at}
use Rattle.lethe_manifest.proofs.Items.{IsReadTo}
use Rattle.lethe_manifest.proofs.parts.read_erases.Given as goal

abbrev pub invariant-erases : goal.invariant-erases
invariant-erases l = IsReadTo erase_at (λ (erase : Pending). erase.seq) l.count l.bytes (l.start + 4) l.erases.items l.last l.at

abbrev pub decreases-erases : goal.decreases-erases
decreases-erases l = l.count - length l.erases.items
