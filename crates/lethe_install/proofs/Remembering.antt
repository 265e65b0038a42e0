-- What is remembered of the outcome of a job.
use Rattle.std.proofs.Common.{◌≡◌, ℕ, List, refl, sym, ◌∙◌, subst, arith}
use Rattle.lethe_follows.specs.Merged.{Company, merging_manifest_with}
use Rattle.lethe_follows.proofs.Renewed.{is_renewed, renewed, renewed_pending}
use Rattle.lethe_job.specs.Works.{Merges, PlainTask, Sweeps}
use Rattle.lethe_state.specs.Left.{installed}
use Rattle.lethe_state.specs.Remembered.{IsCurrent, Remembers}
use Rattle.lethe_state.specs.declared.state.State.{State}
use Rattle.lethe_stored.specs.Files.{Parts, StoredFile}
use Rattle.lethe_stored.specs.Levels.{HasFiles}
use Rattle.lethe_stored.specs.Stored.{Stored, IsCoherent, count_of}
use Rattle.lethe_install.specs.Outcomes.{IsInstalledWith}
use Rattle.lethe_install.proofs.Keeping.{staying_beside}

-- with these files, under the manifest that cites them
module _ (company : Company) (s : Stored) (files : List StoredFile) (number : ℕ) where
  abbrev t : Stored
  t = renewed company s files number

  pub count_renewed : count_of t ≡ count_of s
  count_renewed = omega arith

  module _ (state : State) (levels next : List (List Parts)) (is : Remembers s state levels) (current : IsCurrent s state) where
    renewed_remembered : IsCoherent t → HasFiles t next → Remembers t (installed company t.manifest state) next × IsCurrent t (installed company t.manifest state)
    renewed_remembered coherent has =
        let counts : state.count ≡ count_of t = current.count ∙ sym count_renewed in (
          record {
            coherent = coherent;
            manifest = refl;
            pending = staying_beside company s files number state levels is coherent ∙ sym (renewed_pending s files number company);
            active = is.active;
            records = is.records;
            oldest = is.oldest;
            firsts = is.firsts;
            frozen = is.frozen;
            frozen_oldest = is.frozen_oldest;
            frozen_firsts = is.frozen_firsts;
            files = has;
            counted = omega (arith, counts);
          },
          record { runs = current.runs; count = counts },
        )

module _ (company : Company) (s t : Stored) (state : State) (levels next : List (List Parts)) (is : Remembers s state levels) (current : IsCurrent s state) where
  remembered : (number : ℕ) → t.manifest ≡ merging_manifest_with company s t.files number → t.frozen ≡ s.frozen → t.active ≡ s.active → IsCoherent t → HasFiles t next
      → Remembers t (installed company t.manifest state) next × IsCurrent t (installed company t.manifest state)
  remembered number manifest frozen active =
      subst (λ u. IsCoherent u → HasFiles u next → Remembers u (installed company u.manifest state) next × IsCurrent u (installed company u.manifest state))
      (is_renewed company s t number manifest frozen active)
      (renewed_remembered company s t.files number state levels next is current)

  pub install_remembered : (task : PlainTask) → IsInstalledWith company s task t → IsCoherent t → HasFiles t next
      → Remembers t (installed company t.manifest state) next × IsCurrent t (installed company t.manifest state)
  install_remembered (Merges task) outcome = let is = outcome.merged_is in remembered is.number is.manifest is.frozen is.active
  install_remembered (Sweeps task) outcome = let is = outcome.swept_is in remembered is.number is.manifest is.frozen is.active
