-- The map that entries leave.
use Rattle.std.specs.Prelude.{◌≡◌, List, filter_map, option_map, IsTrue}
use Rattle.std.specs.FinMap as finmap
use Rattle.lethe_base.specs.Keys.{Bytes, key_cmp}
use Rattle.lethe_base.specs.History.{Pair}
use Rattle.lethe_base.specs.Entries.{IsAscending, pair_of, shown}
use Rattle.lethe_base.specs.declared.entry.Entry.{Entry}

-- the keys that were put, each with its pair, in the order of the entries
abbrev pub pairs_of : List Entry → List (Bytes × Pair)
pairs_of entries = filter_map (λ e. option_map (λ pair. (e.key, pair)) (pair_of e.body)) entries

-- the pairs of entries in order are in order, and have at each key what the entries answer of it
pub record PairsAnswer : Type 0 where
  pub sorted : (entries : List Entry) → IsAscending entries → IsTrue (finmap.is_sorted key_cmp (pairs_of entries))
  pub found : (key : Bytes) (entries : List Entry) → IsAscending entries → finmap.find key_cmp key (pairs_of entries) ≡ shown key entries
