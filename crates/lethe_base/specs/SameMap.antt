-- The map that entries leave under erases.
use Rattle.std.specs.Prelude.{◌≡◌, ◌≤◌, List, None}
use Rattle.std.specs.FinMap as finmap
use Rattle.lethe_base.specs.Keys.{Bytes}
use Rattle.lethe_base.specs.History.{Map}
use Rattle.lethe_base.specs.Matching.{answer_under}
use Rattle.lethe_base.specs.declared.entry.Entry.{Entry}
use Rattle.lethe_base.specs.declared.pending.Pending.{Pending}

-- of its key the entry of greatest place
pub record IsNewest (shows : Entry → Type 0) (entry : Entry) : Type 0 where
  pub shown : shows entry
  pub last : (other : Entry) → shows other → other.key ≡ entry.key → other.seq ≤ entry.seq

-- the newest entry of each key answers what the map has of it, where the erases are applied
pub record IsMap (shows : Entry → Type 0) (erases : List Pending) (m : Map) : Type 0 where
  pub newest : (entry : Entry) → IsNewest shows entry → answer_under erases entry ≡ finmap.get m entry.key
  pub absent : (key : Bytes) → ((entry : Entry) → shows entry → entry.key ≡ key → ⊥) → finmap.get m key ≡ None
