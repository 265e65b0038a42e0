-- Numbers in bytes, the high byte first.
use Rattle.std.specs.Prelude.{ℕ, ◌+◌, ◌<◌, nat_le, List, length, take, drop, slice_index, Option, Some, None, if◌then◌else◌}
use Rattle.std.specs.Int.{Width, byte_len, from_be_bytes}

-- the number whose bytes begin at a place, where enough bytes follow it
abbrev pub number_at : Width → List ℕ → ℕ → Option ℕ
number_at w bytes at = if nat_le (at + byte_len w) (length bytes) then Some (from_be_bytes w (take (byte_len w) (drop at bytes))) else None

-- each is a byte
abbrev pub IsBytes : List ℕ → Type 0
IsBytes bytes = (i : ℕ) → slice_index bytes i < 256
