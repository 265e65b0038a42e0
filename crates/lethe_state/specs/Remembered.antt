-- What a store remembers of what is stored.
use Rattle.std.specs.Prelude.{◌≡◌, ◌≤◌, List, [], length, Option, Some, None}
use Rattle.lethe_manifest.specs.declared.manifest.Manifest.{Manifest}
use Rattle.lethe_mem.specs.Buffered.{Buffered}
use Rattle.lethe_stored.specs.Files.{Parts}
use Rattle.lethe_stored.specs.Levels.{HasFiles}
use Rattle.lethe_stored.specs.Replayed.{AreNewestOf}
use Rattle.lethe_stored.specs.Stored.{Stored, Segment, IsCoherent, pending_of, count_of, records_in}
use Rattle.lethe_follows.specs.Young.{oldest_in}
use Rattle.lethe_state.specs.Firsts.{firsts_in, no_firsts}
use Rattle.lethe_state.specs.declared.state.State.{State}

-- the frozen buffer has the newest entries of the frozen segment, where there is one
abbrev pub IsFrozenIn : Option Segment → Option Buffered → Type 0
IsFrozenIn None None = Unit {0}
IsFrozenIn (Some segment) (Some buffer) = AreNewestOf segment.records buffer.entries
IsFrozenIn None (Some buffer) = ⊥
IsFrozenIn (Some segment) None = ⊥

-- the manifest, the erases, the newest entries, the least times and the first places of the segments, and the files by level as their readers have them
pub record Remembers (s : Stored) (state : State) (levels : List (List Parts)) : Type 0 where
  pub coherent : IsCoherent s
  pub manifest : state.manifest ≡ s.manifest
  pub pending : state.pending ≡ pending_of s
  pub active : AreNewestOf s.active.records state.active.entries
  pub records : state.records ≡ length s.active.records
  pub oldest : state.oldest ≡ oldest_in s.active.records
  pub firsts : state.firsts ≡ firsts_in s.active.records
  pub frozen : IsFrozenIn s.frozen state.frozen
  pub frozen_oldest : state.frozen_oldest ≡ oldest_in (records_in s.frozen)
  pub frozen_firsts : state.frozen_firsts ≡ firsts_in (records_in s.frozen)
  pub files : HasFiles s levels
  -- all places of what is stored are counted
  pub counted : count_of s ≤ state.count

-- nothing has failed since
pub record IsCurrent (s : Stored) (state : State) : Type 0 where
  pub runs : state.stopped ≡ None
  pub count : state.count ≡ count_of s

-- on any disk: under this manifest nothing is in memory and nothing has failed
pub record IsFresh (manifest : Manifest) (state : State) : Type 0 where
  pub manifest_is : state.manifest ≡ manifest
  pub active : state.active.entries ≡ []
  pub records : state.records ≡ 0
  pub oldest : state.oldest ≡ None
  pub firsts : state.firsts ≡ no_firsts
  pub frozen : state.frozen ≡ None
  pub frozen_oldest : state.frozen_oldest ≡ None
  pub frozen_firsts : state.frozen_firsts ≡ no_firsts
  pub stopped : state.stopped ≡ None
  pub next : state.next ≡ manifest.next
