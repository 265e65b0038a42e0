-- What a tick does before the clock moves.
use Rattle.std.specs.Prelude.{◌≡◌, ◌≢◌, ◌⊎◌, ℕ, List, []}
use Rattle.lethe_follows.specs.Young.{AreYoung}
use Rattle.lethe_stored.specs.Stored.{Stored, IsCoherent}
use Rattle.lethe_state.specs.Room.{IsFrozen, IsShortToFlush, IsShortToFreeze, IsUnfrozen}
use Rattle.lethe_core.specs.Merges.{AreSomeOutcomesBy, IsShortToMergeBy, Outcome, due_choice}
use Rattle.lethe_core.specs.View.{View}

-- the active segment was frozen where it has a record
abbrev pub IsFrozenIfAny : Stored → Stored → Type 0
IsFrozenIfAny s t = ((s.active.records ≡ []) × (t ≡ s)) ⊎ ((s.active.records ≢ []) × IsFrozen s t)

-- Both segments were flushed: the frozen one, if there was one, and the active one, where it has a record. Each step left a store whose parts agree.
pub record AreBuffersFlushed (s t : Stored) : Type 0 where
  pub unfrozen : Stored
  pub first : IsUnfrozen s unfrozen
  pub unfrozen_coherent : IsCoherent unfrozen
  pub frozen : Stored
  pub second : IsFrozenIfAny unfrozen frozen
  pub frozen_coherent : IsCoherent frozen
  pub last : IsUnfrozen frozen t
  pub coherent : IsCoherent t

-- Of these steps the first was done, and maybe the second.
abbrev pub AreFlushedInPart : Stored → Stored → Type 0
AreFlushedInPart s t = (middle : Stored) × IsUnfrozen s middle × ((t ≡ middle) ⊎ IsFrozenIfAny middle t)

-- Where a record is as old at a time as level 0 may have it both segments were flushed, and elsewhere nothing was done.
abbrev pub IsRipened : ℕ → Stored → Stored → Type 0
IsRipened to s t = (AreYoung s to × (t ≡ s)) ⊎ ((AreYoung s to → ⊥) × AreBuffersFlushed s t)

-- of that some was done, but for its last step
abbrev pub IsRipenedInPart : ℕ → Stored → Stored → Type 0
IsRipenedInPart to s t = (t ≡ s) ⊎ ((AreYoung s to → ⊥) × AreFlushedInPart s t)

-- Some of a tick's steps were done, but not the last, which moves the clock.
abbrev pub IsTickedInPart : ℕ → Stored → Stored → Type 0
IsTickedInPart to s t = IsRipenedInPart to s t ⊎ ((ripe : Stored) × (outcomes : List Outcome) × IsRipened to s ripe × AreSomeOutcomesBy (due_choice to) ripe outcomes t)

-- the numbers that one of its steps draws can't be drawn: those of a flush, of a freeze or a manifest, or of a merge or a sweep that is due
abbrev pub IsShortToTick : Type 0 → ℕ → View → Type 0
IsShortToTick Tells to view = IsShortToFlush view.state ⊎ IsShortToFreeze view.state ⊎ IsShortToMergeBy (due_choice to) Tells view
