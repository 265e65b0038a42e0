-- The bytes of an object after a write, and before one.
use Rattle.std.specs.Prelude.{◌≡◌, ◌≤◌, ◌<◌, ℕ, ◌+◌, List, ◌++◌, length, take, drop, nat_le, if◌then◌else◌}
use Rattle.lethe_disk.specs.Directory.{written}

-- a write that begins in the bytes or at their end, and else nothing
abbrev pub write_bytes : List ℕ → ℕ → List ℕ → List ℕ
write_bytes old at bytes = if nat_le at (length old) then written old at bytes else old

-- the bytes before `len` of them were written over these
abbrev pub restored : List ℕ → ℕ → ℕ → List ℕ → List ℕ
restored bytes at len before = take at bytes ++ before ++ drop (at + len) bytes

-- `len` bytes at this place are in an object of this length; they were as many before, or went past the end
pub record IsRange (at len before object_len : ℕ) : Type 0 where
  pub inside : at + len ≤ object_len
  pub no_more : before ≤ len
  pub past_end : before < len → at + len ≡ object_len
