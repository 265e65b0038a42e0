use Rattle.std.proofs.Common.{◌≤◌, Option, Some, None, length, arith}
use Rattle.lethe_sweep_task.specs.Drafted.{new_pages, numbers_of}
use Rattle.lethe_swept.specs.declared.draft.SweptDraft.{SweptDraft}
use Rattle.lethe_install.proofs.sweeping.installing_sweep.Goals as goal

-- it takes at least a number for each page
pages_numbered : (draft : Option SweptDraft) → length (new_pages draft) ≤ numbers_of draft
pages_numbered None = omega arith
pages_numbered (Some draft) = omega arith

pub overflow_sub-objects : goal.overflow_sub-objects
overflow_sub-objects g c =
    let few = pages_numbered c.args.draft in
    omega (arith, few, c.requires.some, c.count_numbers.ensures)
