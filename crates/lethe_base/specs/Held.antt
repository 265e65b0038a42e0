-- What the objects of a layout spell, and what reads see of it.
use Rattle.std.specs.Prelude.{◌≡◌, ◌⊎◌, ℕ, List, Contains, Some}
use Rattle.std.specs.FinMap as finmap
use Rattle.lethe_base.specs.declared.entry.Entry.{Entry}
use Rattle.lethe_base.specs.declared.pending.Pending.{Pending}
use Rattle.lethe_base.specs.Layout.{Layout, File, Record, Written, Erasing, Buffer, buffer_of, frozen_records, entries_of, files_of}

-- a record of one of the two segments
abbrev pub IsRecorded : Layout → Record → Type 0
IsRecorded l r = Contains l.active r ⊎ Contains (frozen_records l) r

-- an entry of one of the files
pub record InFiles (files : List File) (entry : Entry) : Type 0 where
  pub file : File
  pub there : Contains files file
  pub spelled : Contains (entries_of file) entry

abbrev pub IsFiled : Layout → Entry → Type 0
IsFiled l entry = InFiles (files_of l) entry

-- an object spells the entry, and was swept up to that place; a segment counts as swept up to 0
abbrev pub Holds : Layout → Entry → ℕ → Type 0
Holds l entry swept = (IsRecorded l (Written entry) × (swept ≡ 0)) ⊎ ((filed : IsFiled l entry) × (swept ≡ filed.file.swept))

abbrev pub InBuffer : Buffer → Entry → Type 0
InBuffer buffer entry = finmap.get buffer entry.key ≡ Some entry

-- reads see the entry: all but the records that their buffer has replaced
abbrev pub Shows : Layout → Entry → Type 0
Shows l entry = (InBuffer (buffer_of l.active) entry ⊎ InBuffer (buffer_of (frozen_records l)) entry) ⊎ IsFiled l entry

-- the layout tells of an accepted erase: it is pending, or a segment has its record
abbrev pub Tells : Layout → Pending → Type 0
Tells l erase = Contains l.pending erase ⊎ IsRecorded l (Erasing erase)
