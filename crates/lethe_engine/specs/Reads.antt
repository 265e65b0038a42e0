-- What reads answer.
use Rattle.std.specs.Prelude.{ℕ, List, Bool}
use Rattle.lethe_base.specs.Keys.{Bytes}
use Rattle.lethe_base.specs.Read.{Answer, Listed}
use Rattle.lethe_mem.specs.Buffered.{Buffered}
use Rattle.lethe_read.specs.Between.{by_keys}
use Rattle.lethe_read.specs.Found.{frozen_entries, is_buffered}
use Rattle.lethe_state.specs.declared.state.State.{State}

-- the answer of a scan
abbrev pub listed : List (Bytes × ℕ × Bytes) → Answer
listed pairs = Listed (by_keys pairs)

-- one of the two buffers has an entry of the key
abbrev pub is_in_memory : Bytes → State → Bool
is_in_memory key state = is_buffered key state.active.entries (frozen_entries (λ (buffer : Buffered). buffer.entries) state.frozen)
