-- Facts of entries in the order of their keys.
use Rattle.std.specs.Prelude.{◌≡◌, ℕ, List, Some, filter, length, slice_get}
use Rattle.std.specs.Ordering.{is_lt}
use Rattle.lethe_base.specs.Keys.{Bytes, key_cmp}
use Rattle.lethe_base.specs.Entries.{IsAscending, entry_of}
use Rattle.lethe_base.specs.declared.entry.Entry.{Entry}

-- how many entries have a key below `lo`
abbrev pub count_below : Bytes → List Entry → ℕ
count_below lo entries = length (filter (λ e. is_lt (key_cmp e.key lo)) entries)

-- entries in order that answer alike are one list
abbrev pub OneList : Type 0
OneList =
    (a b : List Entry) → IsAscending a → IsAscending b → ((key : Bytes) → entry_of key a ≡ entry_of key b) → a ≡ b

-- an entry in order is found by its key, and what is found by a key stands among the entries, under that key
pub record OwnEntries : Type 0 where
  pub found : (entries : List Entry) (place : ℕ) (e : Entry) → IsAscending entries → slice_get entries place ≡ Some e → entry_of e.key entries ≡ Some e
  pub stands : (entries : List Entry) (key : Bytes) (e : Entry) → entry_of key entries ≡ Some e → (place : ℕ) × (slice_get entries place ≡ Some e) × (e.key ≡ key)
