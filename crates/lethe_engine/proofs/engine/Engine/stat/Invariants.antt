use Rattle.std.proofs.Common.{◌≡◌, take, length}
use Rattle.std.specs.Prelude.{sum_by, flat_map}
use Rattle.lethe_header.specs.Facts.{lines_of, tombs_in}
use Rattle.lethe_version.specs.Versions.{levels_of}
use Rattle.lethe_engine.specs.Capped.{capped}
use Rattle.lethe_engine.proofs.engine.Engine.stat.Given as goal

abbrev pub invariant-loop-level : goal.invariant-loop-level
invariant-loop-level g l = record {
  files : l.files ≡ capped (length (flat_map (λ files. files) (take l.level (levels_of l.self.core.version))));
  tombs : l.tombs ≡ capped (sum_by (λ file. tombs_in (lines_of file.header.tiles)) (flat_map (λ files. files) (take l.level (levels_of l.self.core.version))));
}
