-- The erases that stay beside the files of a job, by what is remembered.
use Rattle.std.proofs.Common.{◌≡◌, ℕ, List, map, refl}
use Rattle.lethe_base.specs.Spent.{done_upto}
use Rattle.lethe_base.specs.declared.pending.Pending.{Pending}
use Rattle.lethe_follows.specs.Leaving.{first_erase}
use Rattle.lethe_follows.specs.Merged.{Beside, Company, Last, erases_with, merging_manifest_with}
use Rattle.lethe_follows.proofs.LettingGo.{kept_are_erases}
use Rattle.lethe_follows.proofs.Renewed.{renewed}
use Rattle.lethe_manifest.specs.Manifests.{AreErases, HasSpelling}
use Rattle.lethe_manifest.specs.declared.manifest.Manifest.{Manifest}
use Rattle.lethe_state.specs.Left.{HasOtherFiles, staying_with}
use Rattle.lethe_state.specs.Remembered.{Remembers}
use Rattle.lethe_state.specs.declared.state.State.{State}
use Rattle.lethe_state.proofs.Left.{kept_remembered}
use Rattle.lethe_stored.specs.Files.{Parts, StoredFile, cited_of}
use Rattle.lethe_stored.specs.Stored.{Stored, IsCoherent, layout_of, pending_of}

with_erases : (m : Manifest) → HasSpelling m → (erases : List Pending) → AreErases erases → HasSpelling (record m { erases = erases })
with_erases m spelled erases are = record {
  no = spelled.no;
  config = spelled.config;
  clock = spelled.clock;
  count = spelled.count;
  next = spelled.next;
  certificate = spelled.certificate;
  erases = are;
  segments = spelled.segments;
  files = spelled.files;
}

are_erases : (company : Company) (s : Stored) (files : List StoredFile) → AreErases (pending_of s) → AreErases (erases_with company s files)
are_erases Last s files all = kept_are_erases (done_upto (layout_of (record s { files = files }))) (first_erase s) (pending_of s) all
are_erases Beside s files all = all

module _ (company : Company) (s : Stored) (files : List StoredFile) (number : ℕ) where
  abbrev manifest : Manifest
  manifest = merging_manifest_with company s files number

  -- with whatever erases the manifest has a spelling, it has one with those that stay
  pub staying_spelled : AreErases (pending_of s) → (erases : List Pending) → HasSpelling (record manifest { erases = erases }) → HasSpelling manifest
  staying_spelled all erases spelled = with_erases (record manifest { erases = erases }) spelled (erases_with company s files) (are_erases company s files all)

  -- what is stored next, with the erases that the manifest had before
  abbrev with_old : Stored
  with_old = record { manifest = record manifest { erases = s.manifest.erases }; frozen = s.frozen; active = s.active; files = files }

  -- the files came, and the same erases are pending
  other_files : IsCoherent s → IsCoherent (renewed company s files number) → HasOtherFiles s with_old
  other_files before coherent = record {
    coherent = record {
      spelled = with_erases manifest coherent.spelled s.manifest.erases (before.spelled).erases;
      cites = coherent.cites;
      once = coherent.once;
      active = coherent.active;
      frozen = coherent.frozen;
      files = coherent.files;
      each = coherent.each;
      files_once = coherent.files_once;
      pages_once = coherent.pages_once;
    };
    frozen = refl;
    active = refl;
    pending = refl;
  }

pub staying_beside : (company : Company) (s : Stored) (files : List StoredFile) (number : ℕ) (state : State) (levels : List (List Parts)) → Remembers s state levels
    → IsCoherent (renewed company s files number) → staying_with company state (map cited_of files) ≡ erases_with company s files
staying_beside Last s files number state levels is coherent = kept_remembered s (with_old Last s files number) state levels is (other_files Last s files number is.coherent coherent)
staying_beside Beside s files number state levels is coherent = is.pending
