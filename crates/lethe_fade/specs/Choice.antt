-- The choice of a job: the first candidate whose claim meets none of those that stand.
use Rattle.std.specs.Prelude.{◌≡◌, ℕ, min, ◌==◌, if◌then◌else◌, List, [], ◌∷◌, ◌++◌, map, fold, find, Option, IsSome, option_map}
use Rattle.lethe_base.specs.declared.config.Fields.{Fields}
use Rattle.lethe_base.specs.declared.config.Pick.{Pick}
use Rattle.lethe_base.specs.declared.shape.FileFacts.{FileFacts}
use Rattle.lethe_base.specs.declared.shape.Shape.{Shape}
use Rattle.lethe_fade.specs.declared.claim.Claim.{Claim}
use Rattle.lethe_fade.specs.declared.plan.Plan.{Plan}
use Rattle.lethe_fade.specs.Saturation.{is_saturated}
use Rattle.lethe_fade.specs.Spans.{range_of, hull_of}
use Rattle.lethe_fade.specs.Ranks.{file_cmp, sorted_by}
use Rattle.lethe_fade.specs.Candidates.{Candidate, is_free, merge_named, merges_from}
use Rattle.lethe_fade.specs.Expired.{expired}
use Rattle.lethe_fade.specs.Sweeps.{sweeps}
use Rattle.lethe_fade.specs.Due.{due}

-- level 0 is merged as a whole, and the least of its numbers names the merge
abbrev pub whole_merges : List FileFacts → List FileFacts → List Candidate
whole_merges [] next = []
whole_merges (first ∷ others) next = merge_named (fold (λ least file. min least file.no) first.no others) 0 (hull_of (first ∷ others)) next ∷ []

-- another level gives a merge of each of its files, in the order of `so` or `sd`
abbrev pub file_merges : Pick → ℕ → List FileFacts → List FileFacts → List Candidate
file_merges order level files next = map (λ file. merge_named file.no level (range_of file) next) (sorted_by (file_cmp order next) files)

-- a level that isn't saturated gives none
abbrev pub level_merges : Fields → ℕ → List FileFacts → List FileFacts → List Candidate
level_merges fields level files next =
    if is_saturated fields level files then (if level == 0 then whole_merges files next else file_merges fields.pick level files next) else []

-- the merges of the saturated levels
abbrev pub candidates : Fields → Shape → List Candidate
candidates fields shape = merges_from (level_merges fields) 0 shape.levels

-- the merges of the expired files come first, then the sweeps
abbrev pub choice : Fields → Shape → ℕ → List Claim → Option Plan
choice fields shape clock claims = option_map (λ candidate. candidate.plan) (find (is_free claims) (expired fields clock shape ++ (sweeps shape ++ candidates fields shape)))

abbrev pub DueIsFirst : Type 0
DueIsFirst = (fields : Fields) (shape : Shape) (clock : ℕ) → IsSome (due fields shape clock) → choice fields shape clock [] ≡ due fields shape clock
