use Rattle.std.proofs.Common.{◌≢◌, take, All}
use Rattle.lethe_base.specs.declared.shape.FileFacts.{FileFacts}
use Rattle.lethe_test_orders.proofs.apart.is_in.Given as goal

abbrev pub invariant-loop-file : goal.invariant-loop-file
invariant-loop-file l = All (λ (f : FileFacts). f.no ≢ l.no) (take l.file-index l.files)
