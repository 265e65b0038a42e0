-- What a buffer is to contracts.
use Rattle.std.specs.Prelude.{ℕ, List}
use Rattle.lethe_base.specs.Entries.{IsAscending}
use Rattle.lethe_base.specs.declared.entry.Entry.{Entry}

pub record Buffered : Type 0 where
  -- in the order of the keys
  pub entries : List Entry
  pub ascending : IsAscending entries
  -- how many inserts can't fail
  pub spare : ℕ
