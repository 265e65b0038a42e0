-- Freezing, flushing, and making room.
use Rattle.std.specs.Prelude.{◌≡◌, ◌≢◌, ◌⊎◌, ◌↔◌, ◌<◌, ◌≤◌, ℕ, ◌+◌, Bool, IsTrue, IsSome, List, [], length, map, sum_by, All, Option, Some, None}
use Rattle.lethe_base.specs.Layout.{files_of}
use Rattle.lethe_base.specs.Limits.{max_place}
use Rattle.lethe_base.specs.declared.entry.Entry.{Entry}
use Rattle.lethe_build.specs.Built.{most_numbers}
use Rattle.lethe_build.specs.Drafts.{AreDraftsOf, numbers_for}
use Rattle.lethe_build.specs.declared.draft.Draft.{Draft}
use Rattle.lethe_manifest.specs.Manifests.{HasSpelling}
use Rattle.lethe_manifest.specs.declared.manifest.Manifest.{Manifest}
use Rattle.lethe_mem.specs.Buffered.{Buffered}
use Rattle.lethe_merge.specs.Merge.{merged}
use Rattle.lethe_moves.specs.Files.{IsClearOf}
use Rattle.lethe_moves.specs.Flushes.{span_of, frozen_entries}
use Rattle.lethe_follows.specs.Filed.{flushed, AreInOrder, AreNewFiles}
use Rattle.lethe_follows.specs.Woven.{AreWovenOf}
use Rattle.lethe_stored.specs.Files.{StoredFile, file_of}
use Rattle.lethe_stored.specs.Stored.{Stored, pending_of, count_of, layout_of, froze}
use Rattle.lethe_advance.specs.declared.new_header.NewHeader.{NewHeader}
use Rattle.lethe_advance.specs.declared.step.Step.{Step}
use Rattle.lethe_state.specs.Clock.{Clock, clock_of}
use Rattle.lethe_state.specs.Firsts.{no_firsts}
use Rattle.lethe_state.specs.declared.state.State.{State}

-- the active segment has fewer records than a buffer may have
abbrev pub HasRoom : Stored → Type 0
HasRoom s = length s.active.records < s.manifest.config.buffer

-- The active segment was frozen: an empty one has a number that wasn't drawn before, and the manifest the one behind it.
pub record IsFrozen (s t : Stored) : Type 0 where
  pub segment : ℕ
  pub drawn : s.manifest.next ≤ segment
  pub is : t ≡ froze s segment (segment + 1)

-- The frozen segment was flushed: files of level 0 have what is left of its newest entries, woven by the configuration, alone exactly where no
-- file overlaps their keys.
pub record IsFlushed (s t : Stored) : Type 0 where
  pub made : List StoredFile
  pub number : ℕ
  pub is : t ≡ flushed s made number
  pub new : AreNewFiles s.manifest.next number made
  pub order : AreInOrder made
  pub later : s.manifest.next ≤ number
  pub alone : Bool
  pub clear : IsTrue alone ↔ ((frozen_entries (layout_of s) ≢ []) × All (IsClearOf (span_of (frozen_entries (layout_of s)))) (files_of (layout_of s)))
  pub files : AreWovenOf s.manifest.config (merged (frozen_entries (layout_of s)) (pending_of s) alone) (count_of s) (map file_of made)

-- the frozen segment was flushed, if there was one
abbrev pub IsUnfrozen : Stored → Stored → Type 0
IsUnfrozen s t = ((s.frozen ≡ None) × (t ≡ s)) ⊎ (IsSome s.frozen × IsFlushed s t)

-- Where there is room nothing was done; else the frozen segment was flushed, if there was one, and the active one was frozen.
abbrev pub IsRoomMade : Stored → Stored → Type 0
IsRoomMade s t = (HasRoom s × (t ≡ s)) ⊎ ((HasRoom s → ⊥) × (middle : Stored) × IsUnfrozen s middle × IsFrozen middle t)

-- how many entries the frozen buffer has
abbrev pub frozen_len : Option Buffered → ℕ
frozen_len None = 0
frozen_len (Some buffer) = length buffer.entries

-- the numbers of a segment and a manifest can't be drawn
abbrev pub IsShortToFreeze : State → Type 0
IsShortToFreeze state = max_place ≤ state.next + 1

abbrev pub buffered : Option Buffered → List Entry
buffered None = []
buffered (Some buffer) = buffer.entries

-- the drafts of the files that the frozen buffer becomes
pub record AreDrafted (state : State) (drafts : List Draft) : Type 0 where
  pub alone : Bool
  pub are : AreDraftsOf state.manifest.config (merged (buffered state.frozen) state.pending alone) drafts
  pub few : sum_by numbers_for drafts ≤ most_numbers (frozen_len state.frozen)

-- the numbers of these files' objects and so many more can't be drawn
pub record IsShortBy (more : ℕ) (state : State) : Type 0 where
  pub drafts : List Draft
  pub drafted : AreDrafted state drafts
  pub short : max_place ≤ state.next + sum_by numbers_for drafts + more

-- neither those nor a manifest's
abbrev pub IsShortToFlush : State → Type 0
IsShortToFlush state = IsShortBy 0 state

-- On any disk: the step's manifest has a spelling, cites so many segments, keeps the configuration and has this clock. Each number that was drawn is one of an
-- object or the manifest's, which is the last, and files come in levels that there are.
pub record IsStepFrom (segments : ℕ) (clock : Clock) (state : State) (headers : List NewHeader) (step : Step) : Type 0 where
  pub spelled : HasSpelling step.manifest
  pub segments_are : length step.manifest.segments ≡ segments
  pub config : step.manifest.config ≡ state.manifest.config
  pub clock_is : clock_of step.manifest ≡ clock
  pub levels : All (λ new. new.level ≤ state.manifest.config.levels) headers
  pub numbers : step.manifest.no ≡ state.next + length step.objects.items
  pub next : step.manifest.next ≡ step.manifest.no + 1

-- the active buffer is the frozen one, and an empty one is active, under this manifest
pub record IsFrozenWith (manifest : Manifest) (old new : State) : Type 0 where
  pub manifest_is : new.manifest ≡ manifest
  pub count : new.count ≡ old.count
  pub pending : new.pending ≡ old.pending
  pub active : new.active.entries ≡ []
  pub records : new.records ≡ 0
  pub end_is : new.end ≡ 11
  pub oldest : new.oldest ≡ None
  pub firsts : new.firsts ≡ no_firsts
  pub frozen : new.frozen ≡ Some old.active
  pub frozen_oldest : new.frozen_oldest ≡ old.oldest
  pub frozen_firsts : new.frozen_firsts ≡ old.firsts
  pub stopped : new.stopped ≡ old.stopped
  pub next : new.next ≡ manifest.next

-- another manifest counts
abbrev pub under : Manifest → State → State
under manifest state = record state { manifest = manifest; next = manifest.next }

-- the frozen buffer is gone, under this manifest
abbrev pub unfrozen : Manifest → State → State
unfrozen manifest state = record (under manifest state) { frozen = None; frozen_oldest = None; frozen_firsts = no_firsts }
