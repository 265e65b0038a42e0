use Rattle.std.proofs.Common.{◌≡◌, map, take}
use Rattle.std.specs.List.{AllZip}
use Rattle.lethe_stored.specs.Levels.{HasFiles}
use Rattle.lethe_stored.specs.Stored.{Stored, IsCoherent}
use Rattle.lethe_sweeps.specs.Shown.{parts_by_level}
use Rattle.lethe_job.specs.Tasks.{IsCitedAs, plain_file}
use Rattle.lethe_job.proofs.filed.cited_files.Given as goal

abbrev pub invariant-loop-one : goal.invariant-loop-one
invariant-loop-one g l = record {
  stored : (s : Stored) → IsCoherent s → s.manifest.files ≡ l.cited → HasFiles s (parts_by_level l.version) → map plain_file l.files.items ≡ take l.one-index s.files;
  each : AllZip (IsCitedAs (parts_by_level l.version)) (take l.one-index l.cited) (map plain_file l.files.items);
}
