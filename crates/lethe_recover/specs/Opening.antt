-- A store that was opened, and why one wasn't.
use Rattle.std.specs.Prelude.{◌≡◌, ◌⊎◌, ◌+◌, ℕ, [], length, Option, None}
use Rattle.lethe_base.specs.Counts.{Rose}
use Rattle.lethe_base.specs.Limits.{max_place}
use Rattle.lethe_base.specs.History.{History, Change}
use Rattle.lethe_base.specs.declared.config.Fields.{Fields}
use Rattle.lethe_disk.specs.Directory.{Directory}
use Rattle.lethe_disk.specs.Disk.{Seen}
use Rattle.lethe_disk.specs.declared.disk.Disk.{Ghosts}
use Rattle.lethe_manifest.specs.Manifests.{HasSpelling}
use Rattle.lethe_commit.specs.Append.{EndsAt}
use Rattle.lethe_commit.specs.Switch.{HasGreatest}
use Rattle.lethe_version.specs.Versions.{levels_of}
use Rattle.lethe_stored.specs.Stored.{Stored, IsCoherent, pending_of, records_in, segment_name}
use Rattle.lethe_stored.specs.Encodes.{Encodes}
use Rattle.lethe_stored.specs.Kept.{IsFor, IsKept}
use Rattle.lethe_stored.specs.Left.{IsHistoryOr, IsKeptOr}
use Rattle.lethe_stored.specs.Levels.{AreRising, HasFiles}
use Rattle.lethe_advance.specs.Settled.{IsSettled, HasOnly}
use Rattle.lethe_advance.specs.Untorn.{IsUntorn}
use Rattle.lethe_advance.specs.Shown.{parts_by_level}
use Rattle.lethe_load.specs.Damaged.{IsDamaged}
use Rattle.lethe_load.specs.Refused.{HasOtherConfig}
use Rattle.lethe_load.specs.declared.refused.RecoverRefused.{RecoverRefused}
use Rattle.lethe_load.specs.declared.refused.RecoverRefused.TheVariants as refused
use Rattle.lethe_recover.specs.Flushing.{IsShort}
use Rattle.lethe_recover.specs.Reopening.{IsOpenedAs}
use Rattle.lethe_recover.specs.declared.opening.OpenWhy.{OpenWhy}
use Rattle.lethe_recover.specs.declared.opening.OpenWhy.TheVariants.{Damaged, OtherConfig, Fault, Exhausted, NoMemory}
use Rattle.lethe_recover.specs.declared.opened.Opened.{Opened}

-- what is told of an opened store is so
pub record IsTold {D Page Port : Type 0} {kind : Ghosts D Page Port} (opened : Opened D Page Port kind) (s : Stored) : Type 0 where
  pub manifest : opened.manifest ≡ s.manifest
  pub files : HasFiles s (parts_by_level opened.version)
  -- the journal is one segment without records
  pub frozen : s.frozen ≡ None
  pub active : s.active.records ≡ []
  pub erases : s.manifest.erases ≡ pending_of s

-- what is told of a store can be written, and it is of the configuration
pub record IsSpellable {D Page Port : Type 0} {kind : Ghosts D Page Port} (config : Fields) (opened : Opened D Page Port kind) : Type 0 where
  pub manifest : HasSpelling opened.manifest
  pub config_is : opened.manifest.config ≡ config
  pub segments : length opened.manifest.segments ≡ 1
  pub levels : length (levels_of opened.version) ≡ config.levels + 1

-- The disk has one store of the configuration, untorn, and nothing else, as it is told. Behind level 0 the files of a level ascend.
pub record IsOpened {D Page Port : Type 0} {kind : Ghosts D Page Port} (config : Fields) (start : Directory) (disk : Seen) (opened : Opened D Page Port kind) : Type 0 where
  pub s : Stored
  -- it is what was stored at the start, reopened, or new
  pub opened_as : IsOpenedAs config start s
  pub settled : IsSettled disk s
  pub only : HasOnly s [] disk.directory
  pub untorn : IsUntorn s disk.directory
  pub rising : AreRising s.files
  pub config_is : s.manifest.config ≡ config
  pub told : IsTold opened s
  -- and the first record can be appended behind the segment's head
  pub ends : EndsAt disk (segment_name s.active.no) s.active.no [] 11

-- And it stands for the history that the directory was kept for: the one that the disk was left for, or that with the change carried out.
pub record IsResumed {D Page Port : Type 0} {kind : Ghosts D Page Port} (config : Fields) (h : History) (change : Option Change) (start : Directory) (disk : Seen) (opened : Opened D Page Port kind) : Type 0 where
  pub history : History
  pub either : IsHistoryOr h change history
  pub was : IsKept config start history
  pub is : IsOpened config start disk opened
  pub stands : IsFor history is.s

-- what a crash leaves while a store is opened: what the disk was left for, or where there was no gate a new store of the asked configuration
abbrev pub IsKeptInOpening : Fields → Fields → History → Option Change → Directory → Directory → Type 0
IsKeptInOpening kept config h change start d = IsKeptOr kept h change d ⊎ (HasGreatest None start × IsKept config d [])

-- The next number is so great that those of the files of the journal's records, the segment's and the manifest's can't be drawn.
pub record IsExhausted (d : Directory) : Type 0 where
  pub s : Stored
  pub coherent : IsCoherent s
  pub encodes : Encodes d s
  pub short : IsShort s.manifest (records_in s.frozen) s.active.records (pending_of s)

-- A refusal has its reason: in the directory, in the count of faults, or want of memory.
abbrev pub MayNotOpen : Type 0 → Fields → Directory → ℕ → ℕ → OpenWhy → Type 0
MayNotOpen Tells config d before now (Damaged name) = Tells → IsDamaged config d name
MayNotOpen Tells config d before now (OtherConfig kept) = Tells → HasOtherConfig config d kept
MayNotOpen Tells config d before now (Fault told_before told_now) = (told_before ≡ before) × (told_now ≡ now) × Rose before now
MayNotOpen Tells config d before now (Exhausted last) = (last ≡ max_place) × (Tells → IsExhausted d)
MayNotOpen Tells config d before now NoMemory = Unit {0}

-- why nothing was opened behind the look at the directory: the disk failed, numbers ran out, or there was no memory
abbrev pub IsCut : Type 0 → ℕ → ℕ → OpenWhy → Type 0
IsCut IsFull before now (Damaged name) = ⊥
IsCut IsFull before now (OtherConfig kept) = ⊥
IsCut IsFull before now (Fault told_before told_now) = (told_before ≡ before) × (told_now ≡ now) × Rose before now
IsCut IsFull before now (Exhausted last) = (last ≡ max_place) × IsFull
IsCut IsFull before now NoMemory = Unit {0}

-- the same refusal with the count of faults from an earlier start on
abbrev pub since_start : ℕ → RecoverRefused → OpenWhy
since_start before (refused.Damaged name) = Damaged name
since_start before (refused.Fault told_before now) = Fault before now
since_start before refused.NoMemory = NoMemory
since_start before (refused.OtherConfig kept) = OtherConfig kept
