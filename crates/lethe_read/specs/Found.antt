-- The entry of a key in two buffers and the files below them.
use Rattle.std.specs.Prelude.{◌≡◌, ◌⊎◌, ℕ, Bool, false, List, [], Contains, Option, Some, None, is_some}
use Rattle.std.specs.Option.{option_or}
use Rattle.lethe_base.specs.Entries.{entry_of}
use Rattle.lethe_base.specs.Keys.{Bytes}
use Rattle.lethe_base.specs.declared.entry.Body.TheVariants.{Put}
use Rattle.lethe_base.specs.declared.entry.Entry.{Entry}
use Rattle.lethe_version.specs.Newest.{IsNewestIn}

-- the newest entry of a key that a buffer has: the active one's, else the frozen one's
abbrev pub buffered_entry : Bytes → List Entry → List Entry → Option Entry
buffered_entry key active frozen = option_or (entry_of key active) (entry_of key frozen)

-- a buffer has an entry of the key
abbrev pub is_buffered : Bytes → List Entry → List Entry → Bool
is_buffered key active frozen = is_some (buffered_entry key active frozen)

-- the newest entry of a key: the active buffer's, else the frozen one's, else that of the files
abbrev pub first_found : Bytes → List Entry → List Entry → Option Entry → Option Entry
first_found key active frozen filed = option_or (entry_of key active) (option_or (entry_of key frozen) filed)

-- it is the newest entry of the key in the files, where no buffer has one
abbrev pub IsNewestBelow : Bytes → List Entry → List Entry → List (List (List Entry)) → Option Entry → Type 0
IsNewestBelow key active frozen files filed = is_buffered key active frozen ≡ false → IsNewestIn key files filed

-- the entries of an optional buffer
abbrev pub frozen_entries : {B : Type 0} → (B → List Entry) → Option B → List Entry
frozen_entries entries_of None = []
frozen_entries entries_of (Some buffer) = entries_of buffer

-- On any disk: what a key has stands in an entry of the key that a buffer has, or for which one of the files vouches.
pub record IsBacked (key : Bytes) (active frozen : List Entry) (IsFiled : Entry → Type 0) (held : ℕ × Bytes) : Type 0 where
  pub entry : Entry
  pub of_key : entry.key ≡ key
  pub is : entry.body ≡ Put held.0 held.1
  pub stands : (Contains active entry ⊎ Contains frozen entry) ⊎ IsFiled entry
