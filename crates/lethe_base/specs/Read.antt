-- What a read is answered in a state.
use Rattle.std.specs.Prelude.{Bool, ◌&&◌, List, filter, Option}
use Rattle.std.specs.FinMap as map
use Rattle.std.specs.Ordering.{is_lt, is_le}
use Rattle.lethe_base.specs.Keys.{Bytes, key_cmp}
use Rattle.lethe_base.specs.History.{Pair, State}

-- what a caller may ask
pub data Read : Type 0 where
  -- for the pair of a key
  Get : Bytes → Read
  -- for the keys from the first up to the second, which is excluded
  Scan : Bytes → Bytes → Read

-- and be answered
pub data Answer : Type 0 where
  Found : Option Pair → Answer
  -- keys ascending, with their pairs
  Listed : List (Bytes × Pair) → Answer

-- whether a key lies from `lo` up to `hi`, which is excluded
abbrev pub is_between : Bytes → Bytes → Bytes → Bool
is_between lo hi key = is_le (key_cmp lo key) && is_lt (key_cmp key hi)

abbrev pub answer : State → Read → Answer
answer s (Get key) = Found (map.get s.map key)
answer s (Scan lo hi) = Listed (filter (λ e. is_between lo hi e.0) (map.entries s.map))
