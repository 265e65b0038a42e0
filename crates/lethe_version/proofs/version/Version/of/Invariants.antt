use Rattle.std.proofs.Common.{map, length}
use Rattle.lethe_version.specs.Order.{IsOrderedBy, comes_before}
use Rattle.lethe_version.proofs.Levels.{Each}
use Rattle.lethe_version.proofs.version.Version.of.Given as goal

abbrev pub invariant-loop-files : goal.invariant-loop-files
invariant-loop-files g l = Each (λ k files level. IsOrderedBy (λ a b. comes_before k a.header b.header) files.items (map (λ one. one.file.value) level.files.items)) (length l.yielded) l.yielded l.made.items
