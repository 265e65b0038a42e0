use Rattle.std.proofs.Common.{All}
use Rattle.lethe_build.specs.Drafts.{IsDraft}
use Rattle.lethe_test_files.proofs.build.build_files.Given as goal

abbrev pub invariant-loop-draft : goal.invariant-loop-draft
invariant-loop-draft g l = All IsDraft l.draft-iterator.rest.items
