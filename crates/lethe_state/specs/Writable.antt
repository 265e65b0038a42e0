-- A state that can be written, on any disk.
use Rattle.std.specs.Prelude.{◌≡◌, ◌≤◌, ℕ, length, All, Option, Some, None, IfSome}
use Rattle.lethe_base.specs.Limits.{max_place}
use Rattle.lethe_base.specs.Spelling.{HasSpelling}
use Rattle.lethe_manifest.specs.Manifests as manifests
use Rattle.lethe_manifest.specs.Manifests.{AreErases}
use Rattle.lethe_mem.specs.Buffered.{Buffered}
use Rattle.lethe_state.specs.declared.state.State.{State}

-- the journal has a segment for each buffer
abbrev pub segments_for : Option Buffered → ℕ
segments_for None = 1
segments_for (Some buffer) = 2

-- what is remembered has a spelling, and counts are within their limits
pub record IsWritable (state : State) : Type 0 where
  pub manifest : manifests.HasSpelling state.manifest
  pub segments : length state.manifest.segments ≡ segments_for state.frozen
  pub pending : AreErases state.pending
  pub active : All HasSpelling state.active.entries
  pub frozen : IfSome state.frozen (λ buffer. All HasSpelling buffer.entries)
  pub count : state.count ≤ max_place
  pub records : state.records ≤ state.count
  -- numbers are drawn in ascending order
  pub drawn : state.manifest.next ≤ state.next
  pub last : state.next ≤ max_place
