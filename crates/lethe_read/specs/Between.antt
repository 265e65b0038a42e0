-- The entries of two buffers and of files between two keys, the first included and the second not.
use Rattle.std.specs.Prelude.{◌≡◌, ℕ, ◌⊎◌, ◌↔◌, Bool, true, IsTrue, List, map, All, AllPairs, Any, Contains, Option, Some, None}
use Rattle.std.specs.Ordering.{is_le, is_lt}
use Rattle.std.specs.declared.cmp.Ordering.TheVariants.{Less}
use Rattle.lethe_base.specs.History.{Pair}
use Rattle.lethe_base.specs.Keys.{Bytes, key_cmp}
use Rattle.lethe_base.specs.Read.{is_between}
use Rattle.lethe_base.specs.declared.entry.Entry.{Entry}

-- an entry of one of the buffers or of one of the files' pages
abbrev pub IsIn : Entry → List Entry → List Entry → List (List (List Entry)) → Type 0
IsIn entry active frozen files = (Contains active entry ⊎ Contains frozen entry) ⊎ Any (λ file. Any (λ page. Contains page entry) file) files

-- the entries of the keys from the first up to the second, which is excluded, of all parts
abbrev pub AreReadBetween : Bytes → Bytes → List Entry → List Entry → List (List (List Entry)) → List Entry → Type 0
AreReadBetween lo hi active frozen files entries = (entry : Entry) → Contains entries entry ↔ (IsIn entry active frozen files × IsTrue (is_between lo hi entry.key))

-- keys with their delete keys and values, as those of a map
abbrev pub by_keys : List (Bytes × ℕ × Bytes) → List (Bytes × Pair)
by_keys pairs = map (λ p. (p.0, (p.1, p.2))) pairs

-- greater than the last one's key, if there is one, and else not below the least
abbrev pub comes_next : Bytes → Option (Bytes × ℕ × Bytes) → Bytes → Bool
comes_next lo None key = is_le (key_cmp lo key)
comes_next lo (Some last) key = is_lt (key_cmp last.0 key)

-- the last one's key, if there is one, is below
abbrev pub is_last_below : Option (Bytes × ℕ × Bytes) → Bytes → Bool
is_last_below None hi = true
is_last_below (Some last) hi = is_lt (key_cmp last.0 hi)

-- Keys with their delete keys and values ascend, each key below those behind it, and none is below the least.
pub record AreListedFrom (lo : Bytes) (pairs : List (Bytes × ℕ × Bytes)) : Type 0 where
  pub ascending : AllPairs (λ pair later. key_cmp pair.0 later.0 ≡ Less) pairs
  pub from : All (λ pair. IsTrue (is_le (key_cmp lo pair.0))) pairs

-- Keys with their delete keys and values ascend, each key below those behind it, and all lie from the first up to the second, which is excluded.
pub record AreListedBetween (lo hi : Bytes) (pairs : List (Bytes × ℕ × Bytes)) : Type 0 where
  pub ascending : AllPairs (λ pair later. key_cmp pair.0 later.0 ≡ Less) pairs
  pub within : All (λ pair. IsTrue (is_between lo hi pair.0)) pairs
