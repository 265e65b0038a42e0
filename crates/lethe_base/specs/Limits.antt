-- What a key, a value, a place and a time may be.
use Rattle.std.specs.Prelude.{ℕ, ◌-◌, ◌^◌, ◌<◌, ◌≤◌, List, length}

-- from 1 to 255 bytes
pub record IsKey (bytes : List ℕ) : Type 0 where
  pub some : 0 < length bytes
  pub short : length bytes ≤ 255

-- at most 4,096 bytes
abbrev pub IsValue : List ℕ → Type 0
IsValue bytes = length bytes ≤ 4096

-- the greatest place of a change, and the greatest number of an object
abbrev pub max_place : ℕ
max_place = 2 ^ 62 - 1

-- the greatest time
abbrev pub max_time : ℕ
max_time = 2 ^ 62
