-- What a source and a sink in memory are, and when their calls fail.
use Rattle.std.specs.Prelude.{◌≡◌, ◌⊎◌, ◌↔◌, ℕ, ◌-◌, ◌^◌, ◌<◌, min, List, ◌++◌, length, take, drop, Contains, Result, IsErr, IfOk, OnErr}
use Rattle.lethe_base.specs.Keys.{Bytes}
use Rattle.lethe_base.specs.Counts.{counted}

-- The bytes that a source has left or that a sink has taken, the numbers of the calls that fail, and how many calls and faults there were.
pub record Wired : Type 0 where
  pub bytes : Bytes
  pub failing : List ℕ
  pub calls : ℕ
  pub faults : ℕ

-- a sink in memory has room for 1 MiB
abbrev pub sink_room : ℕ
sink_room = 2 ^ 20

-- The call is counted. It fails where its number is one of those that fail, or Refused holds, and then it counts a fault and leaves the bytes.
pub record IsCounted {E : Type 0} (Refused : Type 0) (old new : Wired) (result : Result ℕ E) : Type 0 where
  pub failing : new.failing ≡ old.failing
  pub calls : new.calls ≡ counted old.calls
  pub fails : IsErr result ↔ (Contains old.failing new.calls ⊎ Refused)
  pub faults : IfOk result (λ n. new.faults ≡ old.faults)
  pub fault : OnErr result ((new.faults ≡ counted old.faults) × (new.bytes ≡ old.bytes))

-- a read gives as many bytes as there are and have room
abbrev pub GivesNext : {E : Type 0} → Wired → Wired → Result ℕ E → Bytes → Type 0
GivesNext old new result into = IfOk result (λ n. (n ≡ min (length into) (length old.bytes)) × (take n into ≡ take n old.bytes) × (new.bytes ≡ drop n old.bytes))

-- a write takes as many bytes as have room
abbrev pub TakesNext : {E : Type 0} → Wired → Wired → Result ℕ E → Bytes → Type 0
TakesNext old new result bytes = IfOk result (λ n. (n ≡ min (length bytes) (sink_room - length old.bytes)) × (new.bytes ≡ old.bytes ++ take n bytes))

-- there is no room for any of the bytes
abbrev pub IsFull : Wired → Bytes → Type 0
IsFull old bytes = (0 < length bytes) × (length old.bytes ≡ sink_room)
