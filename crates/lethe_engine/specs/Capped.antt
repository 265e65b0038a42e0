-- Counts that have a last value.
use Rattle.std.specs.Prelude.{ℕ, ◌-◌, ◌^◌, min}

-- the number, or the greatest of 64 bits where it is past that
abbrev pub capped : ℕ → ℕ
capped n = min n (2 ^ 64 - 1)
