-- Parts of one kind of disk.
use Rattle.std.proofs.Common.{ℕ, List, length, Some}
use Rattle.lethe_base.specs.Keys.{Bytes}
use Rattle.lethe_base.specs.declared.entry.Entry.{Entry}
use Rattle.lethe_base.specs.declared.name.Name.{Name}
use Rattle.lethe_disk.specs.declared.disk.Disk.{Ghosts}
use Rattle.lethe_file.specs.Between.{numbers_between}
use Rattle.lethe_file.specs.Damage.{IsDamagedAmong, IsVouched, damages_in, gives_in}
use Rattle.lethe_file.specs.Waiting.{IsSoundIn, awaited_in}
use Rattle.lethe_file.specs.Waiting as waiting
use Rattle.lethe_file.specs.declared.cursor.FileCursor.{FileCursor}
use Rattle.lethe_file.specs.declared.view.FileView.{FileView}
use Rattle.lethe_header.specs.Facts.{lines_of}
use Rattle.lethe_version.specs.Versions.{IsSound, bytes_of, entries_of}
use Rattle.lethe_read.specs.Parts.{Adds, Awaits, left_in}
use Rattle.lethe_read.specs.Parts as parts
use Rattle.lethe_read.specs.declared.part.Part.{Part}

module _ {D Page Port : Type 0} (disk : Ghosts D Page Port) where
  abbrev pub part_sound : Part (FileCursor D Page Port) → Type 0
  part_sound part = parts.IsSound disk.tells (λ cursor. IsSoundIn disk.tells disk.page_bytes cursor.unread) (λ cursor. waiting.left_in disk.page_bytes cursor.unread) part

  abbrev pub part_left : Part (FileCursor D Page Port) → List Entry
  part_left part = left_in (λ cursor. waiting.left_in disk.page_bytes cursor.unread) part

  abbrev pub part_awaits : Part (FileCursor D Page Port) → ℕ
  part_awaits part = parts.awaits_in (λ cursor. length (awaited_in disk.page_bytes cursor.unread)) part

  abbrev pub part_damages : Part (FileCursor D Page Port) → Name → Type 0
  part_damages part name = parts.Damages (λ cursor. damages_in disk.tells disk.page_bytes cursor.unread) part name

  -- how many pages a file has in the tiles that meet the range
  abbrev pub pages_in : Bytes → Bytes → FileView D Page Port disk → ℕ
  pages_in lo hi file = length (numbers_between lo (Some hi) file.header.tiles)

  -- one of its pages is told by the name
  abbrev pub IsToldIn : FileView D Page Port disk → Name → Type 0
  IsToldIn file name = IsDamagedAmong disk.tells (lines_of file.header.tiles) (bytes_of file) name

  -- what a part may give, and for what a file vouches
  abbrev pub part_gives : Part (FileCursor D Page Port) → Entry → Type 0
  part_gives part entry = parts.gives_in (λ cursor. gives_in disk.page_bytes cursor.unread) part entry

  abbrev pub Vouches : FileView D Page Port disk → Entry → Type 0
  Vouches file entry = IsVouched (lines_of file.header.tiles) entry

  abbrev pub GivesFiles : Bytes → Bytes → List (FileView D Page Port disk) → List (Part (FileCursor D Page Port)) → List (Part (FileCursor D Page Port)) → Type 0
  GivesFiles lo hi files old new = Awaits part_awaits part_gives (pages_in lo hi) Vouches files old new

  abbrev pub AwaitsFiles : Bytes → Bytes → List (FileView D Page Port disk) → List (Part (FileCursor D Page Port)) → List (Part (FileCursor D Page Port)) → Type 0
  AwaitsFiles lo hi files old new = Awaits part_awaits part_damages (pages_in lo hi) IsToldIn files old new

  abbrev pub AddsFiles : Bytes → Bytes → List (FileView D Page Port disk) → List (Part (FileCursor D Page Port)) → List (Part (FileCursor D Page Port)) → Type 0
  AddsFiles lo hi files old new = Adds disk.tells part_sound part_left IsSound entries_of lo hi files old new
