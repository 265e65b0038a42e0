-- What a history comes to whose last change may have failed, and which histories a disk is left for.
use Rattle.std.specs.Prelude.{◌≡◌, ◌⊎◌, Bool, true, false, not, [], ◌∷◌, ◌++◌, filter, map, Option, Some, None}
use Rattle.lethe_base.specs.History.{History, Change}
use Rattle.lethe_base.specs.declared.call.Call.{Call}
use Rattle.lethe_base.specs.declared.call.Call.TheVariants.{Put, Delete, Erase, Tick, Work}
use Rattle.lethe_base.specs.declared.call.Did.{Did}
use Rattle.lethe_base.specs.declared.call.Did.TheVariants.{Done, Failed}
use Rattle.lethe_base.specs.declared.config.Fields.{Fields}
use Rattle.lethe_disk.specs.Directory.{Directory}
use Rattle.lethe_disk.specs.Disk.{Seen, Image}
use Rattle.lethe_stored.specs.Kept.{IsKept}

abbrev pub is_done : Did → Bool
is_done Done = true
is_done (Failed before after) = false

abbrev pub is_work : Call → Bool
is_work (Put key dkey value) = false
is_work (Delete key) = false
is_work (Erase range) = false
is_work (Tick to) = false
is_work Work = true

-- the change, carried out
abbrev pub as_done : Change → Change
as_done change = record change { did = Done }

-- without what failed
abbrev pub without_failed : History → History
without_failed h = filter (λ change. is_done change.did) h

-- with what failed carried out; failed work isn't, since it changes nothing
abbrev pub with_failed_done : History → History
with_failed_done h = map as_done (filter (λ change. not (is_work change.call)) h)

-- what a crash may make of the history
abbrev pub IsOutcome : History → History → Type 0
IsOutcome h outcome = (outcome ≡ without_failed h) ⊎ (outcome ≡ with_failed_done h)

-- the history, or the history with the change carried out, if there is one
abbrev pub IsHistoryOr : History → Option Change → History → Type 0
IsHistoryOr h None g = g ≡ h
IsHistoryOr h (Some change) g = (g ≡ h) ⊎ (g ≡ h ++ as_done change ∷ [])

-- kept for the history, or for it with the change carried out
abbrev pub IsKeptOr : Fields → History → Option Change → Directory → Type 0
IsKeptOr config h change d = (g : History) × IsHistoryOr h change g × IsKept config d g

-- the directory and each image are
pub record IsLeft (config : Fields) (disk : Seen) (h : History) (change : Option Change) : Type 0 where
  pub now : IsKeptOr config h change disk.directory
  pub images : (c : Directory) → Image disk c → IsKeptOr config h change c
