-- Ranges of delete keys.
use Rattle.std.specs.Prelude.{ℕ, Bool, ◌&&◌, nat_le, nat_lt}

-- the ends of a range, of which the upper is excluded
pub record Ends : Type 0 where
  pub lo : ℕ
  pub hi : ℕ

-- whether the delete key is in the range
abbrev pub in_range : Ends → ℕ → Bool
in_range range dkey = nat_le range.lo dkey && nat_lt dkey range.hi
