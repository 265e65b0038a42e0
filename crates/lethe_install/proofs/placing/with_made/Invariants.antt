use Rattle.std.proofs.Common.{◌≡◌, take}
use Rattle.std.specs.Prelude.{filter}
use Rattle.lethe_install.specs.Placed.{is_before, is_behind, stays}
use Rattle.lethe_install.proofs.placing.with_made.Given as goal

abbrev pub invariant-loop-file : goal.invariant-loop-file
invariant-loop-file l = record {
  files : l.files.items ≡ filter (is_before l.level l.above) (filter (stays l.gone) (take l.file-index l.old));
  behind : l.behind.items ≡ filter (is_behind l.level l.above) (filter (stays l.gone) (take l.file-index l.old));
}
