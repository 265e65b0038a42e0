-- A task stays one while the outcome of another is installed beside it, whose claim doesn't meet its own.
use Rattle.std.proofs.Common.{◌≡◌, ℕ, false, ◌++◌, sym, ap, ◌∙◌, subst}
use Rattle.lethe_fade.specs.Claims.{claim_at, claim_over, meets}
use Rattle.lethe_fade.specs.declared.claim.Claim.{Claim}
use Rattle.lethe_follows.specs.Merged.{Beside, StoredMerge, erases_upto, inputs_of, merging_manifest_with}
use Rattle.lethe_follows.proofs.MergeRising.{merged_rises}
use Rattle.lethe_follows.proofs.Renewed.{all_pending, is_renewed, renewed}
use Rattle.lethe_manifest.specs.declared.manifest.Manifest.{Manifest}
use Rattle.lethe_stored.specs.Files.{StoredFile}
use Rattle.lethe_stored.specs.Levels.{AreRising}
use Rattle.lethe_stored.specs.Stored.{Stored, IsCoherent, count_of, pending_of}
use Rattle.lethe_sweep_task.specs.Outcome.{PlainSweep}
use Rattle.lethe_sweeps.specs.Swept.{StoredSweep}
use Rattle.lethe_sweeps.proofs.SweptRising.{swept_rises}
use Rattle.lethe_job.specs.Chosen.{hull_in, range_in}
use Rattle.lethe_job.specs.Claims.{claim_of_task}
use Rattle.lethe_job.specs.SweepTasks.{IsSweepTask}
use Rattle.lethe_job.specs.Tasks.{IsMergeTask, PlainMerge}
use Rattle.lethe_job.specs.Works.{IsTaskFor, Merges, PlainTask, Sweeps}
use Rattle.lethe_install.specs.Outcomes.{IsInstalledWith, IsMergeInstalledWith, IsSweepInstalledWith}
use Rattle.lethe_install.proofs.MergeStays.{merge_stays, merge_then}
use Rattle.lethe_install.proofs.MergeSwaps.{merge_swaps}
use Rattle.lethe_install.proofs.OtherStep.{IsStep}
use Rattle.lethe_install.proofs.Remembering.{count_renewed}
use Rattle.lethe_install.proofs.SweepStays.{sweep_stays, sweep_then}
use Rattle.lethe_install.proofs.SweepSwaps.{sweep_swaps}

-- What they claim

merge_claims : (s : Stored) (m : StoredMerge) (task : PlainMerge) → IsMergeTask s m task → claim_of_task (Merges task) ≡ claim_at m.level (hull_in (inputs_of m))
merge_claims s m task is = λ i. claim_at (is.level i) (hull_in (is.sources i ++ is.met i))

sweep_claims : (s : Stored) (w : StoredSweep) (task : PlainSweep) → IsSweepTask s w task → claim_of_task (Sweeps task) ≡ claim_over w.file.level w.file.level (range_in w.file)
sweep_claims s w task is = ap (λ (file : StoredFile). claim_over file.level file.level (range_in file)) (sym is.file)

-- Either stays

either_stays : (s t : Stored) (task : PlainTask) (claim : Claim) → IsCoherent s → IsCoherent t → IsStep claim s t → IsTaskFor s task → meets claim (claim_of_task task) ≡ false → IsTaskFor t task
either_stays s t (Merges task) claim coherent after step is apart =
    let free = subst (λ own. meets claim own ≡ false) (merge_claims s is.0 task is.1) apart in
    (merge_then s t coherent after claim step is.0 task is.1 free, merge_stays s t coherent after claim step is.0 task is.1 free)
either_stays s t (Sweeps task) claim coherent after step is apart =
    let free = subst (λ own. meets claim own ≡ false) (sweep_claims s is.0 task is.1) apart in
    (sweep_then s t coherent after claim step is.0 task is.1 free, sweep_stays s t coherent after claim step is.0 task is.1 free)

-- The manifest beside another job

module _ (s t : Stored) (number : ℕ) (manifest : t.manifest ≡ merging_manifest_with Beside s t.files number) (frozen : t.frozen ≡ s.frozen) (active : t.active ≡ s.active) where
  same_stored : renewed Beside s t.files number ≡ t
  same_stored = is_renewed Beside s t number manifest frozen active

  same_pending : pending_of t ≡ pending_of s
  same_pending = ap pending_of (sym same_stored) ∙ all_pending s t.files number

  same_count : count_of t ≡ count_of s
  same_count = ap count_of (sym same_stored) ∙ count_renewed Beside s t.files number

-- Beside either

module _ (s t : Stored) (task : PlainTask) (coherent : IsCoherent s) (rising : AreRising s.files) (is : IsTaskFor s task) (after : IsCoherent t) where
  beside_merge : (other : PlainMerge) → IsMergeInstalledWith Beside s other t → meets (claim_of_task (Merges other)) (claim_of_task task) ≡ false → IsTaskFor t task
  beside_merge other installed apart =
      let m = installed.m in
      let begun = installed.tasked.merge in
      let merged = installed.merged_is in
      let applied = erases_upto other.upto (pending_of s) in
      either_stays s t task (claim_at m.level (hull_in (inputs_of m))) coherent after (record {
        swaps = merge_swaps Beside s coherent m begun applied other.alone other.upto t merged;
        config = ap (λ (manifest : Manifest). manifest.config) merged.manifest;
        pending = same_pending s t merged.number merged.manifest merged.frozen merged.active;
        count = same_count s t merged.number merged.manifest merged.frozen merged.active;
        rising = merged_rises s coherent rising m begun applied other.alone other.upto t merged;
      }) is (subst (λ claim. meets claim (claim_of_task task) ≡ false) (merge_claims s m other installed.tasked) apart)

  beside_sweep : (other : PlainSweep) → IsSweepInstalledWith Beside s other t → meets (claim_of_task (Sweeps other)) (claim_of_task task) ≡ false → IsTaskFor t task
  beside_sweep other installed apart =
      let w = installed.w in
      let begun = installed.tasked.sweep in
      let swept = installed.swept_is in
      either_stays s t task (claim_over w.file.level w.file.level (range_in w.file)) coherent after (record {
        swaps = sweep_swaps Beside s w other.erase other.alone begun t swept;
        config = ap (λ (manifest : Manifest). manifest.config) swept.manifest;
        pending = same_pending s t swept.number swept.manifest swept.frozen swept.active;
        count = same_count s t swept.number swept.manifest swept.frozen swept.active;
        rising = swept_rises s coherent rising w other.erase other.alone begun t swept;
      }) is (subst (λ claim. meets claim (claim_of_task task) ≡ false) (sweep_claims s w other installed.tasked) apart)

pub stays_beside : (s t : Stored) (task other : PlainTask) → IsCoherent s → AreRising s.files → IsTaskFor s task → meets (claim_of_task other) (claim_of_task task) ≡ false
    → IsInstalledWith Beside s other t → IsCoherent t → IsTaskFor t task
stays_beside s t task (Merges other) coherent rising is apart installed after = beside_merge s t task coherent rising is after other installed apart
stays_beside s t task (Sweeps other) coherent rising is apart installed after = beside_sweep s t task coherent rising is after other installed apart
