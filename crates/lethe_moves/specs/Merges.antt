-- A merge: files of a level, and the files of the next that overlap them, go, and what is left of their entries comes as files of
-- the next level.
use Rattle.std.specs.Prelude.{◌≡◌, ◌≢◌, ◌⊎◌, ℕ, ◌≤◌, Bool, IsTrue, List, [], ◌∷◌, ◌++◌, flat_map, length, All, AllPairs}
use Rattle.std.specs.declared.cmp.Ordering.TheVariants.{Less}
use Rattle.lethe_base.specs.Keys.{key_cmp}
use Rattle.lethe_base.specs.History.{History}
use Rattle.lethe_base.specs.Layout.{Layout, File, entries_of, files_of}
use Rattle.lethe_base.specs.Held.{InFiles, Holds}
use Rattle.lethe_base.specs.declared.entry.Entry.{Entry}
use Rattle.lethe_base.specs.declared.pending.Pending.{Pending}
use Rattle.lethe_fade.specs.Spans.{overlaps}
use Rattle.lethe_cover.specs.Outcomes.{IsApplied}
use Rattle.lethe_merge.specs.Merge.{merged}
use Rattle.lethe_moves.specs.Files.{IsClearOf, keys_of, hull_of_files}
use Rattle.lethe_moves.specs.Made.{AreMade, AreNew}

pub record Merge : Type 0 where
  -- the levels above the sources' level
  pub above : List (List File)
  -- of the sources' level, the files before the sources, the sources, and the files behind them
  pub newer : List File
  pub sources : List File
  pub older : List File
  -- of the next level, the files below the sources' keys, those that overlap them, and those above
  pub lower : List File
  pub met : List File
  pub higher : List File
  -- the levels below the next
  pub deeper : List (List File)
  pub made : List File

abbrev pub levels_before : Merge → List (List File)
levels_before m = m.above ++ ((m.newer ++ (m.sources ++ m.older)) ∷ ((m.lower ++ (m.met ++ m.higher)) ∷ m.deeper))

abbrev pub levels_then : Merge → List (List File)
levels_then m = m.above ++ ((m.newer ++ m.older) ∷ ((m.lower ++ (m.made ++ m.higher)) ∷ m.deeper))

abbrev pub inputs_of : Merge → List File
inputs_of m = m.sources ++ m.met

-- of level 0 all files but those that came since the merge began, and of another level one
abbrev pub IsWhole : Merge → Type 0
IsWhole m = ((m.above ≡ []) × (m.older ≡ []) × (m.sources ≢ [])) ⊎ ((m.above ≢ []) × (length m.sources ≡ 1))

-- every key of the first file is below every key of the second
abbrev pub IsBelow : File → File → Type 0
IsBelow file other = key_cmp (keys_of file).hi (keys_of other).lo ≡ Less

-- Erases are applied, and the outputs count as swept up to a place. The outputs are alone where no deeper file overlaps the inputs.
pub record Merges (threshold : ℕ) (h : History) (l : Layout) (applied : List Pending) (swept : ℕ) (m : Merge) : Type 0 where
  pub levels : l.levels ≡ levels_before m
  pub sources : IsWhole m
  pub lower : All (λ file. key_cmp (keys_of file).hi (hull_of_files m.sources).lo ≡ Less) m.lower
  pub met : All (λ file. IsTrue (overlaps (hull_of_files m.sources) (keys_of file))) m.met
  pub higher : All (λ file. key_cmp (hull_of_files m.sources).hi (keys_of file).lo ≡ Less) m.higher
  pub alone : Bool
  pub clear : IsTrue alone → All (IsClearOf (hull_of_files (inputs_of m))) (flat_map (λ files. files) m.deeper)
  -- nothing lies below the last level
  pub bottom : m.deeper ≡ [] → IsTrue alone
  pub made : AreMade (merged (flat_map entries_of (inputs_of m)) applied alone) swept m.made
  pub ascending : AllPairs IsBelow m.made
  pub new : AreNew (files_of l) m.made
  pub applies : IsApplied threshold h l.clock (Holds l) l.pending applied (InFiles (inputs_of m)) swept
  pub upto : swept ≤ length h
  -- no place of an input is above that
  pub low : (entry : Entry) → InFiles (inputs_of m) entry → entry.seq ≤ swept
