-- Lists of entries in the order of their keys, at most one of each key.
use Rattle.std.specs.Prelude.{◌≡◌, IsTrue, List, map, Option, Some, None, option_and_then, if◌then◌else◌}
use Rattle.std.specs.FinMap as finmap
use Rattle.lethe_base.specs.Keys.{Bytes, key_cmp, same_key}
use Rattle.lethe_base.specs.History.{Pair}
use Rattle.lethe_base.specs.declared.entry.Body.{Body}
use Rattle.lethe_base.specs.declared.entry.Body.TheVariants.{Put, Tomb}
use Rattle.lethe_base.specs.declared.entry.Entry.{Entry}

-- each entry with its key
abbrev pub by_key : List Entry → List (Bytes × Entry)
by_key entries = map (λ e. (e.key, e)) entries

-- the keys strictly ascend
abbrev pub IsAscending : List Entry → Type 0
IsAscending entries = IsTrue (finmap.is_sorted key_cmp (by_key entries))

-- the entry of a key
abbrev pub entry_of : Bytes → List Entry → Option Entry
entry_of key entries = finmap.find key_cmp key (by_key entries)

-- new is old with this entry in place of the one of its key, or with it added
pub record Inserts (entry : Entry) (old new : List Entry) : Type 0 where
  pub ascending : IsAscending new
  pub entries : (key : Bytes) → entry_of key new ≡ (if same_key key entry.key then Some entry else entry_of key old)

-- what a body answers of its key
abbrev pub pair_of : Body → Option Pair
pair_of (Put dkey value) = Some (dkey, value)
pair_of Tomb = None

-- what entries answer of a key
abbrev pub shown : Bytes → List Entry → Option Pair
shown key entries = option_and_then (λ e. pair_of e.body) (entry_of key entries)
