-- What a task claims.
use Rattle.std.specs.Prelude.{◌≡◌, None, IsSome}
use Rattle.lethe_fade.specs.Claims.{claim_at, claim_over}
use Rattle.lethe_fade.specs.declared.claim.Claim.{Claim}
use Rattle.lethe_job.specs.Chosen.{hull_in, range_in}
use Rattle.lethe_job.specs.Tasks.{merge_inputs}
use Rattle.lethe_job.specs.Works.{Merges, PlainTask, Sweeps}

-- a merge claims its level and the next one, with the keys of all that it takes; a sweep claims its file's level and keys
abbrev pub claim_of_task : PlainTask → Claim
claim_of_task (Merges task) = claim_at task.level (hull_in (merge_inputs task))
claim_of_task (Sweeps task) = claim_over task.file.level task.file.level (range_in task.file)

-- its plan names a merge, or a sweep, as it is one
abbrev pub IsOfItsKind : PlainTask → Type 0
IsOfItsKind (Merges task) = task.plan.erase ≡ None
IsOfItsKind (Sweeps task) = IsSome task.plan.erase
