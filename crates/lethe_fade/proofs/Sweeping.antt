-- What the loops over files that are still to be swept find, as candidates.
use Rattle.std.proofs.Common.{◌≡◌, ℕ, ◌+◌, ◌<◌, ◌≤◌, Bool, true, false, not, List, ◌∷◌, ◌++◌, length, drop, get_or, Option, sym, ap, ◌∙◌, arith}
use Rattle.std.specs.List.{find, list_any}
use Rattle.std.specs.Option.{option_map}
use Rattle.std.proofs.lemmas.Bool.Decides.{nat_tests}
use Rattle.std.proofs.lemmas.List.{drop_more}
use Rattle.lethe_base.specs.declared.shape.FileFacts.{FileFacts}
use Rattle.lethe_fade.specs.declared.claim.Claim.{Claim}
use Rattle.lethe_fade.specs.declared.plan.Plan.{Plan}
use Rattle.lethe_fade.specs.Spans.{KeyRange, range_of}
use Rattle.lethe_fade.specs.Claims.{claim_over, meets}
use Rattle.lethe_fade.specs.Candidates.{Candidate, is_free}
use Rattle.lethe_fade.specs.Sweeps.{is_unswept, sweep_of, sweeps_from, sweeps_in}
use Rattle.lethe_fade.proofs.Chosen.{Step, found_first, found_later}

-- those from a level on: its own, and those from the next one on
sweeps-drop : (place : ℕ) (levels : List (List FileFacts)) (level : ℕ) (files : List FileFacts) → level < length levels → files ≡ get_or levels level files
    → sweeps_from place level (drop level levels) ≡ sweeps_in place level files ++ sweeps_from place (level + 1) (drop (level + 1) levels)
sweeps-drop place levels level files within is =
    ap (sweeps_from place level) (drop_more levels level files within ∙ ap (λ files. files ∷ drop (level + 1) levels) (sym is))

-- a level with a sweep that is free decides, and where it has none the later levels do
pub sweep_step : (p : Candidate → Bool) (place : ℕ) (levels : List (List FileFacts)) (level : ℕ) (files : List FileFacts) (plan : Option Plan)
    → level < length levels → files ≡ get_or levels level files → plan ≡ option_map (λ (c : Candidate). c.plan) (find p (sweeps_in place level files))
    → Step (λ level files next. sweeps_in place level files) levels p level plan
sweep_step p place levels level files plan within is e =
    let split = sweeps-drop place levels level files within is in
    let later_sweeps = sweeps_from place (level + 1) (drop (level + 1) levels) in
    record {
      found = λ some. rw split (found_first p (sweeps_in place level files) later_sweeps plan e some);
      later = λ none. rw split (found_later p (sweeps_in place level files) later_sweeps plan e none);
    }

pub is_free_sweep : (place level : ℕ) (claims : List Claim) (file : FileFacts) (keys : KeyRange) (free is : Bool)
    → keys ≡ range_of file → free ≡ not (list_any (meets (claim_over level level keys)) claims) → free ≡ is → is_free claims (sweep_of place level file) ≡ is
is_free_sweep place level claims file keys free is same tested e =
    ap (λ keys. not (list_any (meets (claim_over level level keys)) claims)) (sym same) ∙ sym tested ∙ e

pub unswept : (place : ℕ) (file : FileFacts) → file.swept < place → is_unswept place file ≡ true
unswept place file h = grind (arith, nat_tests)

pub swept : (place : ℕ) (file : FileFacts) → place ≤ file.swept → is_unswept place file ≡ false
swept place file h = grind (arith, nat_tests)
