-- Moving the clock.
use Rattle.std.specs.Prelude.{ℕ, ◌+◌}
use Rattle.lethe_manifest.specs.declared.manifest.Manifest.{Manifest}
use Rattle.lethe_manifest.specs.Followers.{follower}
use Rattle.lethe_follows.specs.Ticked.{certificate_at}
use Rattle.lethe_state.specs.Left.{kept_with}
use Rattle.lethe_state.specs.Room.{under}
use Rattle.lethe_state.specs.declared.state.State.{State}

-- it counts a change more, has the pending erases that are kept, and its clock is at the time
abbrev pub ticking_manifest : State → ℕ → Manifest
ticking_manifest state to = record (follower state.manifest (record {
  no = state.next;
  count = state.count + 1;
  erases = kept_with state state.manifest.files;
  segments = state.manifest.segments;
  files = state.manifest.files;
})) {
  clock = to;
  certificate = certificate_at state.manifest to;
}

-- Another manifest counts, and one change more. The erases that this manifest doesn't keep are forgotten.
abbrev pub moved : Manifest → State → State
moved manifest state = record (under manifest state) { count = state.count + 1; pending = kept_with state manifest.files }
