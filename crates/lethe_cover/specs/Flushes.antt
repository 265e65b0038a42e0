-- A flush: the frozen segment goes, and what is left of its buffer comes as the newest files of level 0.
use Rattle.std.specs.Prelude.{◌≡◌, Bool, IsTrue, List, [], ◌∷◌, ◌++◌, map, length, All, AllPairs, None}
use Rattle.lethe_base.specs.History.{History}
use Rattle.lethe_base.specs.Layout.{Layout, File, buffer_of, frozen_records}
use Rattle.lethe_base.specs.Held.{InBuffer, InFiles, IsFiled}
use Rattle.lethe_base.specs.NewerAbove.{IsOver}
use Rattle.lethe_base.specs.declared.entry.Entry.{Entry}
use Rattle.lethe_cover.specs.Outcomes.{IsOutcome}

-- the levels with these files in level 0, before the others there
abbrev pub with_newest : List File → List (List File) → List (List File)
with_newest made [] = made ∷ []
with_newest made (newest ∷ deeper) = (made ++ newest) ∷ deeper

-- the layout without its frozen segment, and with the files that were made of it
abbrev pub flushed : Layout → List File → Layout
flushed l made = record l { frozen = None; levels = with_newest made l.levels }

-- the files have what is left of the frozen buffer, where the pending erases are applied
pub record IsFlush (h : History) (l : Layout) (alone : Bool) (made : List File) : Type 0 where
  pub outcome : IsOutcome l.pending (IsTrue alone) (InBuffer (buffer_of (frozen_records l))) (InFiles made)
  pub swept : All (λ file. file.swept ≡ length h) made
  pub order : AllPairs IsOver (map (λ file. file ∷ []) made)
  -- alone, they share no key with another file
  pub apart : IsTrue alone → (entry other : Entry) → InBuffer (buffer_of (frozen_records l)) entry → IsFiled l other → other.key ≡ entry.key → ⊥
