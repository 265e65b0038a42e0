use Rattle.std.proofs.Common.{◌+◌, ◌-◌, length}
use Rattle.lethe_manifest.specs.Parts.{file_at}
use Rattle.lethe_manifest.specs.declared.manifest.Cited.{Cited}
use Rattle.lethe_manifest.proofs.Items.{IsReadTo}
use Rattle.lethe_manifest.proofs.parts.read_files.Given as goal

abbrev pub invariant-files : goal.invariant-files
invariant-files l = IsReadTo (file_at l.next l.levels) (λ (file : Cited). file.level) l.count l.bytes (l.start + 4) l.files.items l.last l.at

abbrev pub decreases-files : goal.decreases-files
decreases-files l = l.count - length l.files.items
