-- The records of a store's journal.
use Rattle.std.specs.Prelude.{◌≡◌, List, ◌++◌, filter_map}
use Rattle.lethe_base.specs.declared.pending.Pending.{Pending}
use Rattle.lethe_manifest.specs.declared.manifest.Manifest.{Manifest}
use Rattle.lethe_stored.specs.Stored.{Stored, erase_of, in_order, records_in}
use Rattle.lethe_recover.specs.declared.journal.Journal.{Journal}

-- the journal has the records of the two segments
pub record IsJournalOf (s : Stored) (journal : Journal) : Type 0 where
  pub older : journal.older ≡ records_in s.frozen
  pub newer : journal.newer ≡ s.active.records

-- the erases of a manifest and of the journal's records, one segment after the other
abbrev pub erases_of : Manifest → Journal → List Pending
erases_of m journal = in_order (in_order (m.erases ++ filter_map erase_of journal.older) ++ filter_map erase_of journal.newer)
