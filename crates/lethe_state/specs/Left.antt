-- The erases that are still to be done, and those that a manifest keeps, by what is remembered.
use Rattle.std.specs.Prelude.{◌≡◌, ℕ, List, map, filter, Option}
use Rattle.lethe_base.specs.Shapes.{earlier}
use Rattle.lethe_base.specs.Spent.{is_above, least}
use Rattle.lethe_base.specs.declared.pending.Pending.{Pending}
use Rattle.lethe_manifest.specs.declared.manifest.Cited.{Cited}
use Rattle.lethe_manifest.specs.declared.manifest.Manifest.{Manifest}
use Rattle.lethe_stored.specs.Stored.{Stored, IsCoherent, pending_of}
use Rattle.lethe_follows.specs.Leaving.{kept_of}
use Rattle.lethe_follows.specs.Merged.{Company, Last, Beside}
use Rattle.lethe_state.specs.Room.{under}
use Rattle.lethe_state.specs.declared.state.State.{State}

-- the place up to which all pending erases are done where a manifest cites these files: the least of those up to which the files are swept, and of
-- those of the segments' first puts
abbrev pub done_with : State → List Cited → Option ℕ
done_with state files = earlier (least (map (λ file. file.swept) files)) (earlier state.firsts.put state.frozen_firsts.put)

-- the pending erases that are still to be done
abbrev pub left_with : State → List Pending
left_with state = filter (λ erase. is_above (done_with state state.manifest.files) erase.seq) state.pending

-- the place of the first erase that a segment records
abbrev pub first_recorded : State → Option ℕ
first_recorded state = earlier state.frozen_firsts.erase state.firsts.erase

-- the pending erases that a manifest which cites these files keeps
abbrev pub kept_with : State → List Cited → List Pending
kept_with state files = kept_of state.pending (done_with state files) (first_recorded state)

-- the pending erases that the manifest of an install has: none leaves beside another job
abbrev pub staying_with : Company → State → List Cited → List Pending
staying_with Last state files = kept_with state files
staying_with Beside state files = state.pending

-- another manifest counts, and the erases that it doesn't keep are forgotten
abbrev pub installed : Company → Manifest → State → State
installed company manifest state = record (under manifest state) { pending = staying_with company state manifest.files }

-- what is stored has the same segments and the same pending erases, and whatever files
pub record HasOtherFiles (s t : Stored) : Type 0 where
  pub coherent : IsCoherent t
  pub frozen : t.frozen ≡ s.frozen
  pub active : t.active ≡ s.active
  pub pending : pending_of t ≡ pending_of s
