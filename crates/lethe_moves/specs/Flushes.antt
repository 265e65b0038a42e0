-- A flush: the frozen segment goes, and what is left of its buffer comes as files of level 0.
use Rattle.std.specs.Prelude.{Bool, IsTrue, List, [], ◌∷◌, fold, length, All}
use Rattle.std.specs.FinMap as finmap
use Rattle.lethe_base.specs.Keys.{Bytes}
use Rattle.lethe_base.specs.History.{History}
use Rattle.lethe_base.specs.Layout.{Layout, File, buffer_of, frozen_records, files_of}
use Rattle.lethe_base.specs.declared.entry.Entry.{Entry}
use Rattle.lethe_fade.specs.Spans.{KeyRange}
use Rattle.lethe_merge.specs.Merge.{merged}
use Rattle.lethe_moves.specs.Files.{IsClearOf}
use Rattle.lethe_moves.specs.Made.{AreMade, AreNew}

abbrev pub first_key : List Entry → Bytes
first_key [] = []
first_key (entry ∷ entries) = entry.key

abbrev pub last_key : List Entry → Bytes
last_key entries = fold (λ before entry. entry.key) [] entries

-- the keys of entries that ascend, of which there has to be one
abbrev pub span_of : List Entry → KeyRange
span_of entries = record { lo = first_key entries; hi = last_key entries }

-- the entries of the frozen buffer, in the order of their keys
abbrev pub frozen_entries : Layout → List Entry
frozen_entries l = finmap.values (buffer_of (frozen_records l))

-- The files have what is left of the frozen buffer, where the pending erases are applied. Whether they are alone is
-- decided by all of the buffer's keys, before any entry is dropped.
pub record Flushes (h : History) (l : Layout) (files : List File) : Type 0 where
  pub alone : Bool
  pub clear : IsTrue alone → All (IsClearOf (span_of (frozen_entries l))) (files_of l)
  pub made : AreMade (merged (frozen_entries l) l.pending alone) (length h) files
  pub new : AreNew (files_of l) files
