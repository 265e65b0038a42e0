-- What is stored with the manifest of a job that is installed: all erases that were pending stay beside another job, and of the last one's those that are kept.
use Rattle.std.proofs.Common.{◌≡◌, ℕ, List, ◌++◌, sym, ap, ◌∙◌, subst}
use Rattle.std.specs.Prelude.{filter_map}
use Rattle.std.proofs.lemmas.List.Elements.{Contains-append_right}
use Rattle.lethe_base.specs.Spent.{done_upto}
use Rattle.lethe_stored.specs.Files.{StoredFile}
use Rattle.lethe_stored.specs.Stored.{Stored, erase_of, layout_of, pending_of, records_of}
use Rattle.lethe_follows.specs.Leaving.{first_erase, kept_erases, kept_of, let_go}
use Rattle.lethe_follows.specs.Merged.{Company, Last, Beside, erases_kept, erases_with, merging_manifest_with}
use Rattle.lethe_follows.proofs.Erases.{in_order_again}
use Rattle.lethe_follows.proofs.LettingGo.{pending_kept}

abbrev pub renewed : Company → Stored → List StoredFile → ℕ → Stored
renewed company s files number = record { manifest = merging_manifest_with company s files number; frozen = s.frozen; active = s.active; files = files }

-- that is what is stored then
pub is_renewed : (company : Company) (s t : Stored) (number : ℕ) → t.manifest ≡ merging_manifest_with company s t.files number → t.frozen ≡ s.frozen → t.active ≡ s.active
    → renewed company s t.files number ≡ t
is_renewed company s t number manifest frozen active = λ i. record { manifest = sym manifest i; frozen = sym frozen i; active = sym active i; files = t.files }

module _ (s : Stored) (files : List StoredFile) (number : ℕ) where
  -- with all erases that were pending
  abbrev all : Stored
  all = renewed Beside s files number

  pub all_pending : pending_of all ≡ pending_of s
  all_pending = in_order_again (s.manifest.erases ++ filter_map erase_of (records_of s)) (filter_map erase_of (records_of s))
      (λ erase there. Contains-append_right s.manifest.erases (filter_map erase_of (records_of s)) erase there)

  kept_all : kept_erases all ≡ erases_kept s files
  kept_all = ap (λ pending. kept_of pending (done_upto (layout_of (record s { files = files }))) (first_erase s)) all_pending

  -- where no other job is in flight, those leave that are spent
  pub last_left : let_go all ≡ renewed Last s files number
  last_left = λ i. record { manifest = record (merging_manifest_with Beside s files number) { erases = kept_all i }; frozen = s.frozen; active = s.active; files = files }

  pub renewed_pending : (company : Company) → pending_of (renewed company s files number) ≡ erases_with company s files
  renewed_pending Last = ap pending_of (sym last_left) ∙ pending_kept all ∙ kept_all
  renewed_pending Beside = all_pending

  -- what is true with all of them, and without those that leave, is true then
  pub renewed_has : (company : Company) (P : Stored → Type 0) → P all → (P all → P (let_go all)) → P (renewed company s files number)
  renewed_has Last P has leave = subst P last_left (leave has)
  renewed_has Beside P has leave = has
