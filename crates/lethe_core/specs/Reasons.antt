-- Why a change or work is refused.
use Rattle.std.specs.Prelude.{◌≡◌, ◌⊎◌, ℕ, ◌+◌, Option, Some, None}
use Rattle.lethe_base.specs.Counts.{Rose}
use Rattle.lethe_base.specs.Limits.{max_place}
use Rattle.lethe_base.specs.declared.name.Name.{Name}
use Rattle.lethe_base.specs.declared.refused.Refused.{Refused}
use Rattle.lethe_base.specs.declared.refused.Refused.TheVariants.{Fault, Stopped, Backwards, Pinned, NothingDue, Cancelled, Exhausted, ReadFault, NoMemory, Damaged}
use Rattle.lethe_disk.specs.declared.disk.Disk.{Ghosts}
use Rattle.lethe_mem.specs.Buffered.{Buffered}
use Rattle.lethe_version.specs.Versions.{IsDamagedInAny}
use Rattle.lethe_state.specs.Room.{IsShortBy, IsShortToFreeze}
use Rattle.lethe_state.specs.declared.state.State.{State}
use Rattle.lethe_core.specs.Merges.{IsShortToMerge}
use Rattle.lethe_core.specs.View.{View}
use Rattle.lethe_core.specs.declared.holding.Core.{Core}

-- Why a change or work was refused that reads no file, by the disk's counts of faults before and now: an earlier one failed, the places are used up or
-- numbers are short, the disk failed in this call, or there was no memory.
abbrev pub HasReason : Type 0 → State → ℕ → ℕ → Refused → Type 0
HasReason Short state before now (Fault place told_before told_now) =
    (state.stopped ≡ None) × (place ≡ state.count + 1) × (told_before ≡ before) × (told_now ≡ now) × Rose before now
HasReason Short state before now (Stopped at) = state.stopped ≡ Some at
HasReason Short state before now (Exhausted last) = (state.stopped ≡ None) × (last ≡ max_place) × ((state.count ≡ max_place) ⊎ Short)
HasReason Short state before now NoMemory = Unit {0}
HasReason Short state before now (Backwards clock) = ⊥
HasReason Short state before now (Pinned pin limit) = ⊥
HasReason Short state before now NothingDue = ⊥
HasReason Short state before now (Cancelled begun other) = ⊥
HasReason Short state before now (ReadFault told_before told_now) = ⊥
HasReason Short state before now (Damaged name) = ⊥

-- Why reading files was refused, by the port's counts of faults before and now: a fetch failed, or on a disk that tells nothing a page isn't the one that was written.
abbrev pub IsUnreadable : Type 0 → Type 0 → ℕ → ℕ → Refused → Type 0
IsUnreadable Tells PortsFail before now (ReadFault told_before told_now) = PortsFail × (told_before ≡ before) × (told_now ≡ now) × Rose before now
IsUnreadable Tells PortsFail before now (Damaged name) = Tells → ⊥
IsUnreadable Tells PortsFail before now (Fault place told_before told_now) = ⊥
IsUnreadable Tells PortsFail before now (Stopped at) = ⊥
IsUnreadable Tells PortsFail before now (Exhausted last) = ⊥
IsUnreadable Tells PortsFail before now NoMemory = ⊥
IsUnreadable Tells PortsFail before now (Backwards clock) = ⊥
IsUnreadable Tells PortsFail before now (Pinned pin limit) = ⊥
IsUnreadable Tells PortsFail before now NothingDue = ⊥
IsUnreadable Tells PortsFail before now (Cancelled begun other) = ⊥

-- a page of one of its files is told as damaged by the name: it is another one than was written
abbrev pub HasDamagedPage : {D Page Port : Type 0} {disk : Ghosts D Page Port} → Core D Page Port disk → Name → Type 0
HasDamagedPage core name = IsDamagedInAny core.version name

-- the same refusal of several reads, with the count of a port's faults before the first of them
abbrev pub told_since : ℕ → Refused → Refused
told_since earlier (ReadFault before now) = ReadFault earlier now
told_since earlier why = why

-- Numbers run out for making room: those of a segment and a manifest, and where a buffer is frozen first those of its files' objects and of the
-- manifest that cites them.
abbrev pub IsShortFor : Option Buffered → State → Type 0
IsShortFor None state = IsShortToFreeze state
IsShortFor (Some buffer) state = IsShortBy 2 state

abbrev pub IsShort : State → Type 0
IsShort state = IsShortFor state.frozen state

-- they ran out before room was made, or for a merge behind that
abbrev pub IsShortOfRoom : Type 0 → State → View → Type 0
IsShortOfRoom Tells old new = IsShort old ⊎ IsShortToMerge Tells new
