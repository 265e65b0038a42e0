-- The erases that are pending once a merge is installed.
use Rattle.std.proofs.Common.{◌≡◌, ℕ, Bool, List, sym, ap, ◌∙◌}
use Rattle.lethe_base.specs.declared.pending.Pending.{Pending}
use Rattle.lethe_stored.specs.Stored.{Stored, pending_of}
use Rattle.lethe_follows.specs.Merged.{Company, IsMergedWith, StoredMerge, erases_with}
use Rattle.lethe_follows.proofs.Renewed.{is_renewed, renewed_pending}

-- all that were pending stay beside another job, and of the last one's those that are kept
pub merged_pending : {company : Company} (s : Stored) (m : StoredMerge) (applied : List Pending) (alone : Bool) (upto : ℕ) (t : Stored)
    → IsMergedWith company s m applied alone upto t → pending_of t ≡ erases_with company s t.files
merged_pending {company = company} s m applied alone upto t is =
    ap pending_of (sym (is_renewed company s t is.number is.manifest is.frozen is.active)) ∙ renewed_pending s t.files is.number company
