-- The merged list of some lists, given end to end.
use Rattle.std.specs.Prelude.{Bool, List, [], ◌∷◌, map, filter_map}
use Rattle.std.specs.FinMap as finmap
use Rattle.lethe_base.specs.Keys.{key_cmp}
use Rattle.lethe_base.specs.declared.entry.Entry.{Entry}
use Rattle.lethe_base.specs.declared.pending.Pending.{Pending}
use Rattle.lethe_cover.specs.Merged.{struck, newer_of, bared}

-- by key, what is left of each: its newest entry, of equal places the first, with the least time that any entry of the key has
abbrev pub left_by_key : List Entry → finmap.FinMap key_cmp Entry
left_by_key [] = finmap.empty
left_by_key (entry ∷ entries) = finmap.insert (left_by_key entries) entry.key (newer_of entry (finmap.get (left_by_key entries) entry.key))

-- what is left of each key, in the order of the keys
unfoldable pub left_of_each : List Entry → List Entry
left_of_each entries = finmap.values (left_by_key entries)

-- each key once, in order, with what is left of it where the erases are applied; where alone, without tombstones and times
abbrev pub merged : List Entry → List Pending → Bool → List Entry
merged inputs erases alone = filter_map (λ entry. bared alone entry entry.body) (left_of_each (map (struck erases) inputs))
