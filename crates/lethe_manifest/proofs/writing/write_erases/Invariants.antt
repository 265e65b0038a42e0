use Rattle.std.proofs.Common.{◌≡◌, ◌++◌, take}
use Rattle.std.specs.List.{flat_map}
use Rattle.lethe_base.specs.Erases.{erase_bytes}
use Rattle.lethe_manifest.proofs.writing.write_erases.Given as goal

-- those so far, behind their number
abbrev pub invariant-loop-erase : goal.invariant-loop-erase
invariant-loop-erase l = l.out.items ≡ l.initial.out.items ++ flat_map erase_bytes (take l.erase-index l.erases)
