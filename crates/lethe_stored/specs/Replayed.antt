-- The newest entries of records.
use Rattle.std.specs.Prelude.{◌≡◌, List, map}
use Rattle.std.specs.FinMap as finmap
use Rattle.lethe_base.specs.Keys.{Bytes}
use Rattle.lethe_base.specs.Entries.{entry_of}
use Rattle.lethe_base.specs.Layout.{buffer_of}
use Rattle.lethe_base.specs.declared.entry.Entry.{Entry}
use Rattle.lethe_segment.specs.declared.record.Record.{Record}
use Rattle.lethe_stored.specs.Stored.{plain}

-- of each key the entries have the newest of the records
abbrev pub AreNewestOf : List Record → List Entry → Type 0
AreNewestOf records entries = (key : Bytes) → entry_of key entries ≡ finmap.get (buffer_of (map plain records)) key
