-- What a read finds in the parts of a layout, from newest to oldest.
use Rattle.std.specs.Prelude.{◌≡◌, List, [], ◌∷◌, flat_map, Contains, Option, None, option_and_then}
use Rattle.std.specs.Option.{option_or}
use Rattle.std.specs.FinMap as finmap
use Rattle.lethe_base.specs.Keys.{Bytes}
use Rattle.lethe_base.specs.History.{Pair}
use Rattle.lethe_base.specs.Entries.{entry_of}
use Rattle.lethe_base.specs.Matching.{answer_under}
use Rattle.lethe_base.specs.Layout.{Layout, File, buffer_of, frozen_records, runs_of, entries_of}
use Rattle.lethe_base.specs.Held.{InFiles}
use Rattle.lethe_base.specs.declared.entry.Entry.{Entry}

-- the entry of a key in the first run that has one
abbrev pub found_in : Bytes → List (List File) → Option Entry
found_in key [] = None
found_in key (run ∷ runs) = option_or (entry_of key (flat_map entries_of run)) (found_in key runs)

-- the entry of a key in the first part that has one
abbrev pub found : Bytes → Layout → Option Entry
found key l = option_or (finmap.get (buffer_of l.active) key) (option_or (finmap.get (buffer_of (frozen_records l)) key) (found_in key (runs_of l.levels)))

-- what a read answers: what that entry answers under the pending erases
abbrev pub answered : Bytes → Layout → Option Pair
answered key l = option_and_then (answer_under l.pending) (found key l)

-- no run has two entries of a key
abbrev pub AreOnce : List (List File) → Type 0
AreOnce runs = (run : List File) → Contains runs run → (entry other : Entry) → InFiles run entry → InFiles run other → entry.key ≡ other.key → entry ≡ other
