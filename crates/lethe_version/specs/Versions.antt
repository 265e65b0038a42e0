-- A version to its readers: its files by level, and what a file stands for.
use Rattle.std.specs.Prelude.{◌<◌, ◌==◌, ℕ, List, length, slice_index_or, map, filter, flat_map, sum_by, Any, Some}
use Rattle.std.specs.List.Sorted.{IsSortedBy}
use Rattle.lethe_base.specs.Keys.{Bytes}
use Rattle.lethe_base.specs.declared.entry.Entry.{Entry}
use Rattle.lethe_base.specs.declared.name.Name.{Name}
use Rattle.lethe_disk.specs.declared.disk.Disk.{Ghosts}
use Rattle.lethe_file.specs.Agreement.{FileAgrees, entries_in}
use Rattle.lethe_file.specs.Between.{numbers_between}
use Rattle.lethe_file.specs.Damage.{IsDamagedAmong, IsDamagedFor, IsVouched}
use Rattle.lethe_file.specs.Finding.{IsEntryOf}
use Rattle.lethe_file.specs.declared.view.FileView.{FileView}
use Rattle.lethe_header.specs.Facts.{lines_of}
use Rattle.lethe_version.specs.Order.{IsOrderedBy, comes_before, is_kept}
use Rattle.lethe_version.specs.declared.new_file.NewFile.{NewFile}
use Rattle.lethe_version.specs.declared.version.Version.{Version}

-- its files by level
abbrev pub levels_of : {D Page Port : Type 0} {disk : Ghosts D Page Port} → Version D Page Port disk → List (List (FileView D Page Port disk))
levels_of version = map (λ level. map (λ shared. shared.file.value) level.files.items) version.levels.items

-- all its files, level after level
abbrev pub files_of : {D Page Port : Type 0} {disk : Ghosts D Page Port} → Version D Page Port disk → List (FileView D Page Port disk)
files_of version = flat_map (λ files. files) (levels_of version)

-- the bytes of a file's pages
abbrev pub bytes_of : {D Page Port : Type 0} {disk : Ghosts D Page Port} → FileView D Page Port disk → List (List ℕ)
bytes_of {disk = disk} file = map (λ page. disk.page_bytes page.value) file.pages.items

-- the entries of each of its pages
abbrev pub entries_of : {D Page Port : Type 0} {disk : Ghosts D Page Port} → FileView D Page Port disk → List (List Entry)
entries_of file = map entries_in (bytes_of file)

-- its pages agree with its header
abbrev pub IsSound : {D Page Port : Type 0} {disk : Ghosts D Page Port} → FileView D Page Port disk → Type 0
IsSound file = FileAgrees file.header.tiles (bytes_of file)

-- it has an entry of the key
abbrev pub HasKey : {D Page Port : Type 0} {disk : Ghosts D Page Port} → Bytes → FileView D Page Port disk → Type 0
HasKey key file = (entry : Entry) × IsEntryOf key (entries_of file) (Some entry)

-- the files whose numbers aren't gone, in their order
abbrev pub without : {D Page Port : Type 0} {disk : Ghosts D Page Port} → List ℕ → List (FileView D Page Port disk) → List (FileView D Page Port disk)
without gone files = filter (λ file. is_kept gone file.header) files

-- of files that are added, those that come into the level
abbrev pub in_level : {D Page Port : Type 0} {disk : Ghosts D Page Port} → ℕ → List (NewFile D Page Port disk) → List (FileView D Page Port disk)
in_level level added = map (λ new. new.file) (filter (λ new. new.level == level) added)

-- exactly these files, in the order of the level
abbrev pub AreInOrder : {D Page Port : Type 0} {disk : Ghosts D Page Port} → ℕ → List (FileView D Page Port disk) → List (FileView D Page Port disk) → Type 0
AreInOrder level given files = IsOrderedBy (λ a b. comes_before level a.header b.header) given files

-- each level of the version stands in its order
abbrev pub IsInOrder : {D Page Port : Type 0} {disk : Ghosts D Page Port} → Version D Page Port disk → Type 0
IsInOrder {D = D} {Page = Page} {Port = Port} {disk = disk} version = (level : ℕ) (files : List (FileView D Page Port disk)) → level < length (levels_of version) → IsSortedBy (λ a b. comes_before level a.header b.header) (slice_index_or (levels_of version) level files)

-- where the key is looked for, a page of one of the files may be told as damaged by the name
abbrev pub IsDamagedOf : {D Page Port : Type 0} {disk : Ghosts D Page Port} → Bytes → Version D Page Port disk → Name → Type 0
IsDamagedOf {disk = disk} key version name = Any (λ file. IsDamagedFor disk.tells key file.header.tiles (bytes_of file) name) (files_of version)

-- on any disk: a line of one of the files vouches for the entry
abbrev pub IsVouchedBy : {D Page Port : Type 0} {disk : Ghosts D Page Port} → Version D Page Port disk → Entry → Type 0
IsVouchedBy version entry = Any (λ file. IsVouched (lines_of file.header.tiles) entry) (files_of version)

-- a page of one of the files is told as damaged by the name, wherever it stands
abbrev pub IsDamagedInAny : {D Page Port : Type 0} {disk : Ghosts D Page Port} → Version D Page Port disk → Name → Type 0
IsDamagedInAny {disk = disk} version name = Any (λ file. IsDamagedAmong disk.tells (lines_of file.header.tiles) (bytes_of file) name) (files_of version)

-- how many pages the files have in the tiles that meet the keys from the first up to the second, which is excluded
abbrev pub pages_between : {D Page Port : Type 0} {disk : Ghosts D Page Port} → Bytes → Bytes → Version D Page Port disk → ℕ
pages_between lo hi version = sum_by (λ file. length (numbers_between lo (Some hi) file.header.tiles)) (files_of version)
