-- What a scan's answer is.
use Rattle.std.specs.Prelude.{◌≡◌, true, false, IsTrue, List, None}
use Rattle.std.specs.FinMap as finmap
use Rattle.lethe_base.specs.Keys.{Bytes, key_cmp}
use Rattle.lethe_base.specs.History.{Pair, Map}
use Rattle.lethe_base.specs.Read.{is_between}

-- Keys that strictly ascend: those of the range that the map has, each with the map's pair, and no other.
pub record IsScan (m : Map) (lo hi : Bytes) (pairs : List (Bytes × Pair)) : Type 0 where
  pub ascending : IsTrue (finmap.is_sorted key_cmp pairs)
  pub inside : (key : Bytes) → is_between lo hi key ≡ true → finmap.find key_cmp key pairs ≡ finmap.get m key
  pub outside : (key : Bytes) → is_between lo hi key ≡ false → finmap.find key_cmp key pairs ≡ None
