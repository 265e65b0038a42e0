-- What a loop over files finds that keeps some of them and looks for the oldest whose job is free, as candidates.
use Rattle.std.proofs.Common.{◌≡◌, ℕ, ◌+◌, ◌<◌, ◌≤◌, Bool, true, false, cond, List, length, take, get_or, map, Option, Some, None, refl, sym, ap, ◌∙◌}
use Rattle.std.specs.Prelude.{◌&&◌}
use Rattle.std.specs.List.{filter, find}
use Rattle.std.specs.Option.{option_map}
use Rattle.std.proofs.lemmas.List.{take_all}
use Rattle.lethe_base.specs.declared.shape.FileFacts.{FileFacts}
use Rattle.lethe_fade.specs.declared.claim.Claim.{Claim}
use Rattle.lethe_fade.specs.declared.plan.Plan.{Plan}
use Rattle.lethe_fade.specs.declared.rank.Age.{Age}
use Rattle.lethe_fade.specs.Ranks.{age_cmp, lesser_of, sorted_by}
use Rattle.lethe_fade.specs.Candidates.{Candidate, is_free}
use Rattle.lethe_fade.specs.Expired.{age_of, expired_cmp}
use Rattle.lethe_fade.proofs.Sorting.{find-sorted_filter}
use Rattle.lethe_fade.proofs.Ranking.{age_total, expired_total, find-map, first_age, first_ranked_more}

-- the jobs of the files that are kept, oldest first
abbrev pub jobs_of : (FileFacts → Bool) → (FileFacts → Candidate) → List FileFacts → List Candidate
jobs_of kept job files = map job (sorted_by expired_cmp (filter kept files))

named_alike : (plan : ℕ → Plan) (job : FileFacts → Candidate) (o : Option FileFacts) → ((file : FileFacts) → plan file.no ≡ (job file).plan)
    → option_map (λ (a : Age). plan a.no) (option_map age_of o) ≡ option_map (λ (file : FileFacts). (job file).plan) o
named_alike plan job None same = refl
named_alike plan job (Some file) same = ap Some (same file)

module _ (kept : FileFacts → Bool) (job : FileFacts → Candidate) (claims : List Claim) where
  abbrev pub is_kept_and_free : FileFacts → Bool
  is_kept_and_free file = kept file && is_free claims (job file)

  -- what the loop has found behind the last file
  pub oldest_result : (plan : ℕ → Plan) → ((file : FileFacts) → plan file.no ≡ (job file).plan) → (files : List FileFacts) (i : ℕ) (oldest : Option Age)
      → length files ≤ i → oldest ≡ first_age is_kept_and_free (take i files)
      → option_map (λ (a : Age). plan a.no) oldest ≡ option_map (λ (c : Candidate). c.plan) (find (is_free claims) (jobs_of kept job files))
  oldest_result plan same files i oldest end e =
      ap (option_map (λ (a : Age). plan a.no)) (e ∙ ap (first_age is_kept_and_free) (take_all i files end))
      ∙ named_alike plan job (find is_kept_and_free (sorted_by expired_cmp files)) same
      ∙ ap (option_map (λ (file : FileFacts). (job file).plan)) (sym (find-sorted_filter expired_total kept (λ file. is_free claims (job file)) files))
      ∙ sym (find-map job (λ (c : Candidate). c.plan) (is_free claims) (sorted_by expired_cmp (filter kept files)))

  -- a step of the loop
  module _ (files : List FileFacts) (i : ℕ) (file : FileFacts) (oldest : Option Age) (within : i < length files) (is : file ≡ get_or files i file)
      (e : oldest ≡ first_age is_kept_and_free (take i files)) where
    oldest_more : cond (is_kept_and_free file) (Some (lesser_of age_cmp oldest (age_of file))) oldest ≡ first_age is_kept_and_free (take (i + 1) files)
    oldest_more =
        let step = first_ranked_more age_of age_cmp age_total is_kept_and_free files i file within in
        let here = rw (← is) at step in
        rw e (sym here)

    pub record OldestStep : Type 0 where
      pub taken : is_kept_and_free file ≡ true → Some (lesser_of age_cmp oldest (age_of file)) ≡ first_age is_kept_and_free (take (i + 1) files)
      pub passed : is_kept_and_free file ≡ false → oldest ≡ first_age is_kept_and_free (take (i + 1) files)

    pub oldest_step : OldestStep
    oldest_step = record {
      taken = λ passes. sym (ap (λ b. cond b (Some (lesser_of age_cmp oldest (age_of file))) oldest) passes) ∙ oldest_more;
      passed = λ fails. sym (ap (λ b. cond b (Some (lesser_of age_cmp oldest (age_of file))) oldest) fails) ∙ oldest_more;
    }
