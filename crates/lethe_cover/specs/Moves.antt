-- A merge or a sweep: files are taken from runs, and what is left of their entries comes back in files of the lowest of these.
use Rattle.std.specs.Prelude.{◌≡◌, ◌⊎◌, ℕ, ◌≤◌, Bool, IsTrue, List, ◌++◌, flat_map, length, AllPairs, Contains}
use Rattle.lethe_base.specs.History.{History}
use Rattle.lethe_base.specs.Layout.{Layout, File, runs_of, entries_of}
use Rattle.lethe_base.specs.Held.{InFiles, Holds}
use Rattle.lethe_base.specs.NewerAbove.{IsOver}
use Rattle.lethe_base.specs.declared.entry.Entry.{Entry}
use Rattle.lethe_base.specs.declared.pending.Pending.{Pending}
use Rattle.lethe_cover.specs.Outcomes.{IsOutcome, IsApplied}

-- the files of some runs
abbrev pub files_in : List (List File) → List File
files_in runs = flat_map (λ files. files) runs

-- the files share no key
abbrev pub IsApart : File → File → Type 0
IsApart file other = (entry below : Entry) → Contains (entries_of file) entry → Contains (entries_of other) below → entry.key ≡ below.key → ⊥

-- runs from newest to oldest: those above, those that files are taken from, the one behind them, which takes the outputs, and those below
pub record Move : Type 0 where
  pub above : List (List File)
  pub here : List (List File)
  pub next : List (List File)
  pub below : List (List File)
  -- the two in the middle after the move
  pub here_then : List (List File)
  pub next_then : List (List File)
  pub taken : List File
  pub made : List File

abbrev pub runs_before : Move → List (List File)
runs_before m = m.above ++ (m.here ++ (m.next ++ m.below))

abbrev pub runs_then : Move → List (List File)
runs_then m = m.above ++ (m.here_then ++ (m.next_then ++ m.below))

pub record IsMove (alone : Bool) (m : Move) : Type 0 where
  -- each file stays or is taken, and none comes but those that are made
  pub taken_from : (file : File) → Contains m.taken file → Contains (files_in m.here) file ⊎ Contains (files_in m.next) file
  pub here_split : (file : File) → Contains (files_in m.here) file → Contains (files_in m.here_then) file ⊎ Contains m.taken file
  pub here_from : (file : File) → Contains (files_in m.here_then) file → Contains (files_in m.here) file
  pub next_split : (file : File) → Contains (files_in m.next) file → Contains (files_in m.next_then) file ⊎ Contains m.taken file
  pub next_from : (file : File) → Contains (files_in m.next_then) file → Contains (files_in m.next) file ⊎ Contains m.made file
  pub made_there : (file : File) → Contains m.made file → Contains (files_in m.next_then) file
  pub made_new : (file : File) → Contains m.made file → Contains (files_in (runs_before m)) file → ⊥
  -- what stays of a run shares no key with what is taken from it, and what stays of the lower run with nothing that is taken
  pub here_apart : (file other : File) → Contains (files_in m.here_then) file → Contains m.taken other → Contains (files_in m.here) other → IsApart file other
  pub next_apart : (file other : File) → Contains (files_in m.next_then) file → Contains (files_in m.next) file → Contains m.taken other → IsApart file other
  -- alone, nothing below shares a key with what is taken
  pub alone_apart : IsTrue alone → (file other : File) → Contains (files_in m.below) file → Contains m.taken other → IsApart file other
  pub here_order : AllPairs IsOver m.here_then
  pub next_order : AllPairs IsOver m.next_then

-- the move of files turns the layout's levels into those, and what is made is an outcome of what is taken, swept up to a place
pub record Moves (threshold : ℕ) (h : History) (l : Layout) (levels : List (List File)) (alone : Bool) (applied : List Pending) (swept : ℕ) (m : Move) : Type 0 where
  pub is : IsMove alone m
  pub before : runs_of l.levels ≡ runs_before m
  pub afterwards : runs_of levels ≡ runs_then m
  pub outcome : IsOutcome applied (IsTrue alone) (InFiles m.taken) (InFiles m.made)
  pub applies : IsApplied threshold h l.clock (Holds l) l.pending applied (InFiles m.taken) swept
  pub made_swept : (file : File) → Contains m.made file → file.swept ≡ swept
  pub upto : swept ≤ length h
  -- what is taken has no place above that
  pub low : (entry : Entry) → InFiles m.taken entry → entry.seq ≤ swept
