-- The claim of the job that a plan names, given the shape.
use Rattle.std.specs.Prelude.{◌≡◌, ℕ, ◌+◌, false, ◌==◌, if◌then◌else◌, List, [], ◌∷◌, find, Option, Some, None, option_map}
use Rattle.std.specs.List.{list_any}
use Rattle.std.specs.Option.{option_or}
use Rattle.lethe_base.specs.Shapes.{IsValidShape}
use Rattle.lethe_base.specs.declared.config.Fields.{Fields}
use Rattle.lethe_base.specs.declared.shape.FileFacts.{FileFacts}
use Rattle.lethe_base.specs.declared.shape.Shape.{Shape}
use Rattle.lethe_fade.specs.declared.claim.Claim.{Claim}
use Rattle.lethe_fade.specs.declared.plan.Plan.{Plan}
use Rattle.lethe_fade.specs.Spans.{range_of, hull_of}
use Rattle.lethe_fade.specs.Claims.{meets, IsProper, merge_claim}
use Rattle.lethe_fade.specs.Candidates.{first_files}
use Rattle.lethe_fade.specs.Sweeps.{sweep_claim}
use Rattle.lethe_fade.specs.Choice.{choice}

-- of a file among the files of its level: a sweep claims its level and keys, a merge of level 0 takes all files there, and another merge the file
abbrev pub job_claim : Option ℕ → ℕ → List FileFacts → List FileFacts → FileFacts → Claim
job_claim (Some place) level files next file = sweep_claim level file
job_claim None level files next file = if level == 0 then merge_claim 0 (hull_of files) next else merge_claim level (range_of file) next

-- of the file with the plan's number, in levels the first of which has that number
abbrev pub claim_in : Plan → ℕ → List (List FileFacts) → Option Claim
claim_in plan level [] = None
claim_in plan level (files ∷ deeper) =
    option_or (option_map (job_claim plan.erase level files (first_files deeper)) (find (λ file. file.no == plan.file) files)) (claim_in plan (level + 1) deeper)

-- none where no file has the plan's number
abbrev pub claim_of : Shape → Plan → Option Claim
claim_of shape plan = claim_in plan 0 shape.levels

-- a plan has a claim, of a level and a key at least, which meets none of those that stand
pub record IsFreePlan (shape : Shape) (claims : List Claim) (plan : Plan) : Type 0 where
  pub claim : Claim
  pub is : claim_of shape plan ≡ Some claim
  pub proper : IsProper claim
  pub free : list_any (meets claim) claims ≡ false

abbrev pub ChoiceIsFree : Type 0
ChoiceIsFree = (fields : Fields) (shape : Shape) (clock : ℕ) (claims : List Claim) (plan : Plan) → IsValidShape shape → choice fields shape clock claims ≡ Some plan → IsFreePlan shape claims plan
