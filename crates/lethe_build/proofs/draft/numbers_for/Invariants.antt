use Rattle.std.proofs.Common.{◌≡◌, ◌-◌, ◌^◌, min, sum_by, take}
use Rattle.lethe_build.specs.Drafts.{numbers_for}
use Rattle.lethe_build.proofs.draft.numbers_for.Given as goal

abbrev pub invariant-loop-draft : goal.invariant-loop-draft
invariant-loop-draft l = l.numbers ≡ min (2 ^ 64 - 1) (sum_by numbers_for (take l.draft-index l.drafts))
