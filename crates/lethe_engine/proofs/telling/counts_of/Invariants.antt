use Rattle.std.proofs.Common.{◌≡◌, take}
use Rattle.std.specs.Prelude.{sum_by}
use Rattle.lethe_header.specs.Facts.{lines_of, tombs_in}
use Rattle.lethe_engine.specs.Capped.{capped}
use Rattle.lethe_engine.proofs.telling.counts_of.Given as goal

abbrev pub invariant-loop-file : goal.invariant-loop-file
invariant-loop-file g l = l.tombs ≡ capped (sum_by (λ shared. tombs_in (lines_of shared.file.value.header.tiles)) (take l.file-index l.files))
