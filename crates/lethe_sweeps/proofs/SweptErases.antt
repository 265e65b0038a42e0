-- The erases that are pending once a sweep is installed.
use Rattle.std.proofs.Common.{◌≡◌, Bool, ap, ◌∙◌, sym}
use Rattle.lethe_base.specs.declared.pending.Pending.{Pending}
use Rattle.lethe_stored.specs.Stored.{Stored, pending_of}
use Rattle.lethe_follows.specs.Leaving.{let_go}
use Rattle.lethe_follows.specs.Merged.{Company, Beside, erases_with}
use Rattle.lethe_follows.proofs.Renewed.{all_pending, is_renewed, last_left, renewed, renewed_pending}
use Rattle.lethe_sweeps.specs.Swept.{IsSwept, IsSweptWith, StoredSweep}

module _ {company : Company} (s : Stored) (w : StoredSweep) (erase : Pending) (alone : Bool) (t : Stored) (is : IsSweptWith company s w erase alone t) where
  -- what is stored with all erases that were pending before
  abbrev pub with_all : Stored
  with_all = renewed Beside s t.files is.number

  pub pending_all : pending_of with_all ≡ pending_of s
  pending_all = all_pending s t.files is.number

  pub swept_is : renewed company s t.files is.number ≡ t
  swept_is = is_renewed company s t is.number is.manifest is.frozen is.active

  pub swept_pending : pending_of t ≡ erases_with company s t.files
  swept_pending = ap pending_of (sym swept_is) ∙ renewed_pending s t.files is.number company

-- of these, those that are spent leave where no other job is in flight
pub left_is : (s : Stored) (w : StoredSweep) (erase : Pending) (alone : Bool) (t : Stored) (is : IsSwept s w erase alone t) → let_go (with_all s w erase alone t is) ≡ t
left_is s w erase alone t is = last_left s t.files is.number ∙ swept_is s w erase alone t is
