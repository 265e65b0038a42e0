-- Erases that have nothing left to do, and those that are still to be done.
use Rattle.std.specs.Prelude.{◌⊎◌, ℕ, ◌≤◌, Bool, false, nat_lt, List, [], ◌∷◌, ◌++◌, map, filter, filter_map, Contains, Option, Some, None, if◌then◌else◌}
use Rattle.lethe_base.specs.Matching.{IsPut}
use Rattle.lethe_base.specs.Layout.{Layout, File, Record, Written, Blind, Erasing, files_of, frozen_records}
use Rattle.lethe_base.specs.Held.{IsRecorded}
use Rattle.lethe_base.specs.Shapes.{earlier, is_tomb}
use Rattle.lethe_base.specs.declared.entry.Entry.{Entry}
use Rattle.lethe_base.specs.declared.pending.Pending.{Pending}

-- every file is swept up to its place, and no segment holds a put of a smaller place
pub record IsSpent (l : Layout) (erase : Pending) : Type 0 where
  pub files : (file : File) → Contains (files_of l) file → erase.seq ≤ file.swept
  pub segments : (entry : Entry) → IsRecorded l (Written entry) → IsPut entry.body → erase.seq ≤ entry.seq

-- A list of erases that may stand in place of the layout's: it lacks spent ones alone. The records of a segment may bring
-- these back after a crash.
pub record IsShorter (l : Layout) (pending : List Pending) : Type 0 where
  pub known : (erase : Pending) → Contains pending erase → Contains l.pending erase
  pub spent : (erase : Pending) → Contains l.pending erase → Contains pending erase ⊎ IsSpent l erase

-- the place of a put
abbrev pub put_place : Record → Option ℕ
put_place (Written entry) = if is_tomb entry.body then None else Some entry.seq
put_place (Blind place) = None
put_place (Erasing erase) = None

-- the least of some places, where there are any
abbrev pub least : List ℕ → Option ℕ
least [] = None
least (place ∷ places) = earlier (Some place) (least places)

-- The place up to which all pending erases are spent: the least of those up to which the files are swept, and of those of the segments' puts.
-- None where there is neither: then all are spent.
abbrev pub done_upto : Layout → Option ℕ
done_upto l = least (map (λ file. file.swept) (files_of l) ++ filter_map put_place (l.active ++ frozen_records l))

-- the place lies above that
abbrev pub is_above : Option ℕ → ℕ → Bool
is_above None place = false
is_above (Some done) place = nat_lt done place

-- the pending erases that are still to be done
abbrev pub left_erases : Layout → List Pending
left_erases l = filter (λ erase. is_above (done_upto l) erase.seq) l.pending
