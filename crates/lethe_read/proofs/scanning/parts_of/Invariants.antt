use Rattle.std.proofs.Common.{take}
use Rattle.std.specs.Prelude.{flat_map}
use Rattle.lethe_version.specs.Versions.{levels_of}
use Rattle.lethe_read.proofs.Filed.{AddsFiles, AwaitsFiles, GivesFiles}
use Rattle.lethe_read.proofs.scanning.parts_of.Given as goal

-- parts for the files of the levels so far
abbrev pub invariant-loop-level : goal.invariant-loop-level
invariant-loop-level g l = record {
  adds : AddsFiles g.D.Disk l.lo l.hi (flat_map (λ files. files) (take l.level (levels_of l.version))) l.initial.parts.items l.parts.items;
  awaits : AwaitsFiles g.D.Disk l.lo l.hi (flat_map (λ files. files) (take l.level (levels_of l.version))) l.initial.parts.items l.parts.items;
  gives : GivesFiles g.D.Disk l.lo l.hi (flat_map (λ files. files) (take l.level (levels_of l.version))) l.initial.parts.items l.parts.items;
}
