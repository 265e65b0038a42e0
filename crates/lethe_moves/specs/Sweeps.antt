-- A sweep: a file goes, and what an erase leaves of it comes in its place, in a new file or in none.
use Rattle.std.specs.Prelude.{◌≡◌, ◌≤◌, ◌<◌, Bool, IsTrue, List, [], ◌∷◌, ◌++◌, flat_map, All, Contains, Option, Some, IfSome}
use Rattle.std.specs.List.{cons_option}
use Rattle.lethe_base.specs.History.{History}
use Rattle.lethe_base.specs.Layout.{Layout, File, entries_of, files_of}
use Rattle.lethe_base.specs.Held.{InFiles}
use Rattle.lethe_base.specs.declared.entry.Entry.{Entry}
use Rattle.lethe_base.specs.declared.pending.Pending.{Pending}
use Rattle.lethe_cover.specs.Sweeps.{swept_of}
use Rattle.lethe_moves.specs.Files.{IsTiled, IsWithin, IsClearOf, keys_of}
use Rattle.lethe_moves.specs.Made.{AreNew}

pub record Sweep : Type 0 where
  -- the levels above the file's level
  pub above : List (List File)
  -- of the file's level, the files before it, the file, and those behind it
  pub before : List File
  pub file : File
  pub behind : List File
  pub deeper : List (List File)
  pub made : Option File

abbrev pub made_files : Sweep → List File
made_files s = cons_option s.made []

abbrev pub levels_before : Sweep → List (List File)
levels_before s = s.above ++ ((s.before ++ s.file ∷ s.behind) ∷ s.deeper)

abbrev pub levels_then : Sweep → List (List File)
levels_then s = s.above ++ ((s.before ++ (made_files s ++ s.behind)) ∷ s.deeper)

-- the files that lie below the swept one: those of deeper levels, and in level 0 the older ones
abbrev pub below_of : List (List File) → List File → List (List File) → List File
below_of [] behind deeper = behind ++ flat_map (λ files. files) deeper
below_of (level ∷ above) behind deeper = flat_map (λ files. files) deeper

-- The erase is pending, and it is the oldest pending one that the file isn't swept of. Alone, where no file below overlaps the
-- file, what it matches is dropped.
pub record SweepsFile (h : History) (l : Layout) (erase : Pending) (s : Sweep) : Type 0 where
  pub levels : l.levels ≡ levels_before s
  pub pending : Contains l.pending erase
  pub due : s.file.swept < erase.seq
  pub oldest : (other : Pending) → Contains l.pending other → s.file.swept < other.seq → erase.seq ≤ other.seq
  pub alone : Bool
  pub clear : IsTrue alone → All (IsClearOf (keys_of s.file)) (below_of s.above s.behind s.deeper)
  pub bottom : s.deeper ≡ [] → IsTrue alone
  pub from : (output : Entry) → InFiles (made_files s) output → (entry : Entry) × Contains (entries_of s.file) entry × (swept_of alone erase entry ≡ Some output)
  pub kept : (entry output : Entry) → Contains (entries_of s.file) entry → swept_of alone erase entry ≡ Some output → InFiles (made_files s) output
  pub tiled : All IsTiled (made_files s)
  -- it has no key outside the file's
  pub inside : IfSome s.made (λ made. IsWithin (keys_of s.file).lo (keys_of s.file).hi (keys_of made).lo × IsWithin (keys_of s.file).lo (keys_of s.file).hi (keys_of made).hi)
  pub swept : IfSome s.made (λ made. made.swept ≡ erase.seq)
  pub new : AreNew (files_of l) (made_files s)
