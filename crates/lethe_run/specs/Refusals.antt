-- Which line is the first that tells of a change that failed or wasn't made, or of a read that wasn't answered.
use Rattle.std.specs.Prelude.{◌≡◌, ℕ, suc, true, false, List, ◌∷◌, ◌++◌, length, Option, Some, None}
use Rattle.std.specs.List.{flat_map, list_any}
use Rattle.lethe_run.specs.declared.reply.Line.{Line}
use Rattle.lethe_run.specs.Transcript.{is_refusal}

-- the one of this number, from 1 on, tells so, and none before it
pub record IsFirst (lines : List Line) (number : ℕ) : Type 0 where
  pub before : List Line
  pub line : Line
  pub behind : List Line
  pub are : lines ≡ before ++ line ∷ behind
  pub at : number ≡ suc (length before)
  pub none : list_any is_refusal before ≡ false
  pub tells : is_refusal line ≡ true

-- it is that of this number, or none tells so
abbrev pub IsFirstOr : List Line → Option ℕ → Type 0
IsFirstOr lines None = list_any is_refusal lines ≡ false
IsFirstOr lines (Some number) = IsFirst lines number

-- the lines of all phases, one behind another
abbrev pub all_of : List (List Line) → List Line
all_of lines = flat_map (λ phase. phase) lines

-- of the lines of all phases, the one of this number, from 1 on, is the first that tells so
abbrev pub IsFirstRefusal : List (List Line) → ℕ → Type 0
IsFirstRefusal lines number = IsFirst (all_of lines) number
