-- The order of keys: by their bytes, and of two keys one of which begins the other the shorter first.
use Rattle.std.specs.Prelude.{ℕ, Bool, List}
use Rattle.std.specs.declared.cmp.Ordering.{Ordering}
use Rattle.std.specs.Ordering.{nat_cmp, eq_by_cmp}
use Rattle.std.specs.Cmp.Lexicographic.{slice_cmp}

-- the bytes of a key, a value or a text
abbrev pub Bytes : Type 0
Bytes = List ℕ

abbrev pub key_cmp : Bytes → Bytes → Ordering
key_cmp = slice_cmp nat_cmp

-- whether two keys are one
abbrev pub same_key : Bytes → Bytes → Bool
same_key = eq_by_cmp key_cmp
