-- The files of a journal.
use Rattle.std.specs.Prelude.{◌≡◌, ◌↔◌, ℕ, ◌+◌, ◌<◌, ◌≤◌, Bool, IsTrue, List, ◌++◌, map, length, sum_by, All}
use Rattle.lethe_base.specs.Entries.{IsAscending}
use Rattle.lethe_base.specs.Limits.{max_place}
use Rattle.lethe_base.specs.declared.config.Fields.{Fields}
use Rattle.lethe_base.specs.declared.entry.Entry.{Entry}
use Rattle.lethe_base.specs.declared.pending.Pending.{Pending}
use Rattle.lethe_build.specs.Built.{most_numbers}
use Rattle.lethe_build.specs.Drafts.{AreDraftsOf, header_of, numbers_for}
use Rattle.lethe_build.specs.declared.draft.Draft.{Draft}
use Rattle.lethe_header.specs.Headers as headers
use Rattle.lethe_header.specs.declared.header.Header.{Header}
use Rattle.lethe_manifest.specs.Manifests.{IsFile}
use Rattle.lethe_manifest.specs.declared.manifest.Manifest.{Manifest}
use Rattle.lethe_merge.specs.Merge.{merged}
use Rattle.lethe_segment.specs.declared.record.Record.{Record}
use Rattle.lethe_moves.specs.Flushes.{span_of}
use Rattle.lethe_stored.specs.Files.{StoredFile}
use Rattle.lethe_stored.specs.Replayed.{AreNewestOf}
use Rattle.lethe_flush.specs.Clear.{IsClearOf}
use Rattle.lethe_flush.specs.Flushed.{IsFlushOf}
use Rattle.lethe_flush.specs.Made.{headers_of}
use Rattle.lethe_flush.specs.declared.made.MadeFiles.{MadeFiles}
use Rattle.lethe_recover.specs.declared.flushing.Drafts.{Drafts}
use Rattle.lethe_recover.specs.declared.flushing.Flushes.{Flushes}
use Rattle.lethe_recover.specs.declared.journal.Journal.{Journal}

-- The drafts are woven of what is left of the records' newest entries where the erases are applied. They have at most two numbers for each record.
pub record AreDraftsFor (fields : Fields) (records : List Record) (erases : List Pending) (drafts : List Draft) : Type 0 where
  pub entries : List Entry
  pub ascending : IsAscending entries
  pub newest : AreNewestOf records entries
  pub alone : Bool
  pub are : AreDraftsOf fields (merged entries erases alone) drafts
  pub few : sum_by numbers_for drafts ≤ most_numbers (length records)

-- and they are alone exactly where there is an entry and no file of these headers has a key of the entries' range
pub record AreDraftsOfRecords (fields : Fields) (records : List Record) (erases : List Pending) (headers : List Header) (drafts : List Draft) : Type 0 where
  pub for : AreDraftsFor fields records erases drafts
  pub clear : IsTrue for.alone ↔ ((0 < length for.entries) × All (IsClearOf (span_of for.entries)) headers)

-- those of the older records, and those of the newer ones where the former's files are there
pub record AreDraftsOfJournal (fields : Fields) (journal : Journal) (erases : List Pending) (headers : List Header) (drafts : Drafts) : Type 0 where
  pub older : AreDraftsOfRecords fields journal.older erases headers drafts.older.items
  pub newer : AreDraftsOfRecords fields journal.newer erases (headers ++ map (λ draft. header_of 0 draft.tiles) drafts.older.items) drafts.newer.items

-- how many numbers their files take
abbrev pub numbers_of : Drafts → ℕ
numbers_of drafts = sum_by numbers_for drafts.older.items + sum_by numbers_for drafts.newer.items

-- The numbers of the files of older and of newer records, those of a segment and those of a manifest can't be drawn.
pub record IsShort (m : Manifest) (older newer : List Record) (erases : List Pending) : Type 0 where
  pub older_drafts : List Draft
  pub newer_drafts : List Draft
  pub of_older : AreDraftsFor m.config older erases older_drafts
  pub of_newer : AreDraftsFor m.config newer erases newer_drafts
  pub short : max_place ≤ m.next + (sum_by numbers_for older_drafts + sum_by numbers_for newer_drafts) + 1

-- Files have what is left of the records' newest entries. They are alone exactly where there is an entry and no file of these headers has a key of the entries' range.
pub record IsFlushOfRecords (fields : Fields) (records : List Record) (erases : List Pending) (upto first : ℕ) (headers : List Header) (made : MadeFiles) : Type 0 where
  pub entries : List Entry
  pub ascending : IsAscending entries
  pub newest : AreNewestOf records entries
  pub alone : Bool
  pub clear : IsTrue alone ↔ ((0 < length entries) × All (IsClearOf (span_of entries)) headers)
  pub files : List StoredFile
  pub is : IsFlushOf fields entries erases alone upto first made files

-- those of the older records, and those of the newer ones where the former are there
pub record AreFlushesOf (fields : Fields) (journal : Journal) (erases : List Pending) (upto first : ℕ) (headers : List Header) (flushes : Flushes) : Type 0 where
  pub older : IsFlushOfRecords fields journal.older erases upto first headers flushes.older
  pub newer : IsFlushOfRecords fields journal.newer erases upto flushes.older.next (headers ++ headers_of flushes.older) flushes.newer

-- on any disk: the files can be cited, and their objects have the numbers from the first on
pub record IsWritable (first : ℕ) (made : MadeFiles) : Type 0 where
  pub headers : All (λ new. headers.HasSpelling new.header) made.headers.items
  pub levels : All (λ new. new.level ≡ 0) made.headers.items
  pub cited : (levels : ℕ) → All (IsFile made.next levels) made.cited.items
  pub level : All (λ file. file.level ≡ 0) made.cited.items
  pub next : made.next ≡ first + length made.objects.items
