use Rattle.std.proofs.Common.{◌≡◌, drop}
use Rattle.std.specs.List.{fold}
use Rattle.lethe_memdisk.specs.Undo.{tear}
use Rattle.lethe_memdisk.proofs.crash.tear_all.Given as goal

abbrev pub invariant-loop-call : goal.invariant-loop-call
invariant-loop-call l = fold (tear l.fill l.keep) l.objects (drop l.call-index l.calls) ≡ fold (tear l.fill l.keep) l.initial.objects l.calls
