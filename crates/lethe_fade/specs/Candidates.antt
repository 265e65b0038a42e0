-- The jobs that may be chosen.
use Rattle.std.specs.Prelude.{ℕ, ◌+◌, Bool, not, List, [], ◌∷◌, ◌++◌, None}
use Rattle.std.specs.List.{list_any}
use Rattle.lethe_base.specs.declared.shape.FileFacts.{FileFacts}
use Rattle.lethe_fade.specs.declared.claim.Claim.{Claim}
use Rattle.lethe_fade.specs.declared.plan.Plan.{Plan}
use Rattle.lethe_fade.specs.Spans.{KeyRange}
use Rattle.lethe_fade.specs.Claims.{meets, merge_claim}

-- a job that may be chosen
pub record Candidate : Type 0 where
  pub plan : Plan
  pub claim : Claim

abbrev pub merge_plan : ℕ → Plan
merge_plan number = record { file = number; erase = None }

-- the merge that a file's number names, of sources with these keys
abbrev pub merge_named : ℕ → ℕ → KeyRange → List FileFacts → Candidate
merge_named number level sources next = record { plan = merge_plan number; claim = merge_claim level sources next }

-- whether a candidate's claim meets none of these
abbrev pub is_free : List Claim → Candidate → Bool
is_free claims candidate = not (list_any (meets candidate.claim) claims)

-- the files of the first of some levels
abbrev pub first_files : List (List FileFacts) → List FileFacts
first_files [] = []
first_files (files ∷ deeper) = files

-- Those of some levels, the first of which has that number, lowest level first. Of a level they are told by its number, its files and those of the next level.
abbrev pub merges_from : (ℕ → List FileFacts → List FileFacts → List Candidate) → ℕ → List (List FileFacts) → List Candidate
merges_from merges level [] = []
merges_from merges level (files ∷ deeper) = merges level files (first_files deeper) ++ merges_from merges (level + 1) deeper
