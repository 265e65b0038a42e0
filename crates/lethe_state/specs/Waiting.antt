-- A record that waits to be entered.
use Rattle.std.specs.Prelude.{◌≡◌, ◌≤◌, [], ◌∷◌, ◌++◌, option_map}
use Rattle.lethe_manifest.specs.Manifests.{AreErases}
use Rattle.lethe_segment.specs.Records.{RecordHasSpelling}
use Rattle.lethe_stored.specs.Stored.{erase_of}
use Rattle.lethe_state.specs.Records.{pending_with}
use Rattle.lethe_state.specs.declared.state.State.{State}
use Rattle.lethe_state.specs.declared.waiting.Waiting.{Waiting}

-- What entering the record takes was taken: the memory of an entry, and the pending erases with it where it is one.
pub record IsPrepared (state : State) (front : Waiting) : Type 0 where
  pub spelled : RecordHasSpelling front.record
  pub pending : front.pending ≡ option_map (λ erase. state.pending ++ erase ∷ []) (erase_of front.record)
  pub erases : AreErases (pending_with state.pending front.record)
  pub room : 1 ≤ state.active.spare
