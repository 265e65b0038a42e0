-- Why nothing is read.
use Rattle.std.specs.Prelude.{◌≡◌, ◌≢◌, ℕ, List, None}
use Rattle.lethe_base.specs.Counts.{Rose}
use Rattle.lethe_base.specs.declared.config.Fields.{Fields}
use Rattle.lethe_base.specs.declared.name.Name.{Name}
use Rattle.lethe_disk.specs.Directory.{Directory, object}
use Rattle.lethe_segment.specs.declared.record.Record.{Record}
use Rattle.lethe_segment.specs.declared.replaying.SegmentRefused.{SegmentRefused}
use Rattle.lethe_segment.specs.declared.replaying.SegmentRefused.TheVariants as segment
use Rattle.lethe_commit.specs.Switch.{manifest_name}
use Rattle.lethe_stored.specs.Stored.{segment_name}
use Rattle.lethe_manifest.specs.declared.manifest.Manifest.{Manifest}
use Rattle.lethe_load.specs.declared.refused.RecoverRefused.{RecoverRefused}
use Rattle.lethe_load.specs.declared.refused.RecoverRefused.TheVariants.{Damaged, Fault, NoMemory, OtherConfig}
use Rattle.lethe_load.specs.Damaged.{IsSpelled, IsGated, IsReplayed, IsSoundSegment, IsDamaged}

-- the manifest that counts has another configuration, and this is it
pub record HasOtherConfig (config : Fields) (d : Directory) (kept : Fields) : Type 0 where
  pub manifest : Manifest
  pub gated : IsGated d manifest
  pub kept_is : manifest.config ≡ kept
  pub other : kept ≢ config

-- A refusal has its reason in the directory; a fault and want of memory have none there.
abbrev pub HasReason : Fields → Directory → RecoverRefused → Type 0
HasReason config d (Damaged name) = IsDamaged config d name
HasReason config d (Fault before now) = ⊥
HasReason config d NoMemory = ⊥
HasReason config d (OtherConfig kept) = HasOtherConfig config d kept

-- The disk failed, and these are its counts of faults before and after, or there was no memory.
abbrev pub IsInterrupted : ℕ → ℕ → RecoverRefused → Type 0
IsInterrupted before now (Damaged name) = ⊥
IsInterrupted before now (Fault told_before told_now) = (told_before ≡ before) × (told_now ≡ now) × Rose before now
IsInterrupted before now NoMemory = Unit {0}
IsInterrupted before now (OtherConfig kept) = ⊥

-- Why a call that reads was refused: of a disk that tells what it holds, a damaged object is one of which that is said.
abbrev pub MayFail : Type 0 → (Name → Type 0) → ℕ → ℕ → RecoverRefused → Type 0
MayFail Tells IsBad before now (Damaged name) = Tells → IsBad name
MayFail Tells IsBad before now (Fault told_before told_now) = IsInterrupted before now (Fault told_before told_now)
MayFail Tells IsBad before now NoMemory = Unit {0}
MayFail Tells IsBad before now (OtherConfig kept) = ⊥

-- the same of a call that looks at the configuration too
abbrev pub MayRefuse : Type 0 → Fields → Directory → ℕ → ℕ → RecoverRefused → Type 0
MayRefuse Tells config d before now (Damaged name) = Tells → IsDamaged config d name
MayRefuse Tells config d before now (Fault told_before told_now) = IsInterrupted before now (Fault told_before told_now)
MayRefuse Tells config d before now NoMemory = Unit {0}
MayRefuse Tells config d before now (OtherConfig kept) = Tells → HasOtherConfig config d kept

-- What is bad of an object.

abbrev pub IsMissing : Directory → Name → Name → Type 0
IsMissing d name bad = (bad ≡ name) × (object d name ≡ None)

abbrev pub IsUnspelled : Directory → ℕ → Name → Type 0
IsUnspelled d number bad = (bad ≡ manifest_name number) × ((m : Manifest) → IsSpelled d number m → ⊥)

abbrev pub IsUnreplayed : Directory → ℕ → Name → Type 0
IsUnreplayed d number bad = (bad ≡ segment_name number) × ((records : List Record) → IsReplayed d number records → ⊥)

-- of a segment behind these
abbrev pub IsUnsound : Directory → List ℕ → ℕ → Name → Type 0
IsUnsound d before number bad = (bad ≡ segment_name number) × (IsSoundSegment d before number → ⊥)

-- why a segment of this name isn't read that can't be replayed
abbrev pub refusal_of : Name → SegmentRefused → RecoverRefused
refusal_of name (segment.Header at) = Damaged name
refusal_of name (segment.Record at) = Damaged name
refusal_of name (segment.Order at) = Damaged name
refusal_of name segment.NoMemory = NoMemory
