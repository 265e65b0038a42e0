-- Freezes and flushes.
use Rattle.std.specs.Prelude.{◌≡◌, ◌⊎◌, IsSome, None}
use Rattle.lethe_state.specs.declared.state.State.{State}

-- nothing has failed, and a buffer is frozen already or there is no record to be frozen
abbrev pub HasNoFreeze : State → Type 0
HasNoFreeze state = (state.stopped ≡ None) × (IsSome state.frozen ⊎ (state.records ≡ 0))

-- nothing has failed, and no buffer is frozen
abbrev pub HasNoFlush : State → Type 0
HasNoFlush state = (state.stopped ≡ None) × (state.frozen ≡ None)
