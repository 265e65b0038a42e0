-- How far a look at the files has come.
use Rattle.std.specs.Prelude.{◌≡◌, ◌⊎◌, ◌↔◌, ◌<◌, ℕ, List, ◌++◌, All, Any, Contains, Some, map}
use Rattle.std.specs.BTreeSet.{BTreeSet}
use Rattle.std.specs.declared.cmp.Ordering.TheVariants.{Less}
use Rattle.lethe_base.specs.Keys.{Bytes, key_cmp}
use Rattle.lethe_base.specs.declared.name.Name.{Name}
use Rattle.lethe_disk.specs.Directory.{Directory, object}
use Rattle.lethe_header.specs.Facts.{least_key, greatest_key}
use Rattle.lethe_header.specs.Headers.{EachFollows}
use Rattle.lethe_header.specs.declared.header.Header.{Header}
use Rattle.lethe_header.specs.declared.header.PageLine.{PageLine}
use Rattle.lethe_header.specs.declared.header.TileLine.{TileLine}
use Rattle.lethe_file.specs.Agreement.{entries_in, keys_of, page_name}
use Rattle.lethe_agreement.specs.Soundness as pages
use Rattle.lethe_manifest.specs.declared.manifest.Cited.{Cited}
use Rattle.lethe_stored.specs.Files.{file_name}
use Rattle.lethe_load.specs.Damaged.{IsFirstBad, IsHeaderOf, IsSoundPage, IsTakenBy, HasBadHeader, HasBadPage}
use Rattle.lethe_load.specs.declared.numbers.PageNumbers.{PageNumbers}

-- a page may have the number: it is below the next, and no page has it that was looked at
abbrev pub IsFree : PageNumbers → ℕ → Type 0
IsFree numbers number = (number < numbers.next) × (Contains numbers.taken.keys number → ⊥)

-- the page of a line is there under a free number, and sound behind those of its tile whose keys are taken
pub record IsNextPage (d : Directory) (numbers : PageNumbers) (taken : Bytes → Type 0) (tile : TileLine) (line : PageLine) : Type 0 where
  pub free : IsFree numbers line.no
  pub bytes : List ℕ
  pub there : object d (page_name line.no) ≡ Some bytes
  pub sound : pages.IsSoundPage tile line taken bytes

-- the page of the line has the key
abbrev pub HasKey : Directory → Bytes → PageLine → Type 0
HasKey d key line = (bytes : List ℕ) × (object d (page_name line.no) ≡ Some bytes) × Contains (keys_of (entries_in bytes)) key

-- these pages of a file are sound behind some files, and the numbers of all of them are taken
pub record ArePages (d : Directory) (before : List Cited) (items : List (TileLine × PageLine)) (numbers : PageNumbers) : Type 0 where
  pub good : EachFollows (IsSoundPage d numbers.next (IsTakenBy d before)) items
  pub taken : (number : ℕ) → Contains numbers.taken.keys number ↔ (IsTakenBy d before number ⊎ Any (λ item. item.1.no ≡ number) items)

-- their tiles end below this one
abbrev pub AreBelow : TileLine → List (TileLine × PageLine) → Type 0
AreBelow tile items = All (λ item. key_cmp item.0.hi tile.lo ≡ Less) items

-- it is the first of these pages that isn't sound, behind some files
abbrev pub IsBadPage : Directory → ℕ → List Cited → List (TileLine × PageLine) → Name → Type 0
IsBadPage d next before items name = (sound : List (TileLine × PageLine)) × (item : TileLine × PageLine) × IsFirstBad (IsSoundPage d next (IsTakenBy d before)) items sound item × (name ≡ page_name item.1.no)

-- it is the first of the tile's pages that isn't sound, whatever files and pages were looked at before
abbrev pub IsBadInTile : Directory → PageNumbers → TileLine → Name → Type 0
IsBadInTile d numbers tile name = (before : List Cited) (items : List (TileLine × PageLine)) → ArePages d before items numbers → AreBelow tile items
    → IsBadPage d numbers.next before (items ++ map (λ line. (tile, line)) tile.pages) name

-- these files were looked at, and the numbers of them and of their pages are those that are known and taken
pub record AreFiles (d : Directory) (before : List Cited) (numbers : PageNumbers) (known : BTreeSet ℕ) : Type 0 where
  pub pages : (number : ℕ) → Contains numbers.taken.keys number ↔ IsTakenBy d before number
  pub files : (number : ℕ) → Contains known.keys number ↔ Any (λ other. other.no ≡ number) before

-- the header that is cited isn't there, or its number is known
abbrev pub IsBadHeader : Directory → BTreeSet ℕ → Cited → Name → Type 0
IsBadHeader d known cited name = (name ≡ file_name cited.no) × ((header : Header) → (Contains known.keys cited.no → ⊥) → IsHeaderOf d cited header → ⊥)

-- it is the first object of the file that isn't sound, whatever files were looked at before
abbrev pub IsBadInFile : Directory → PageNumbers → BTreeSet ℕ → Cited → Name → Type 0
IsBadInFile d numbers known cited name = (before : List Cited) → AreFiles d before numbers known → HasBadHeader d before cited name ⊎ HasBadPage d numbers.next before cited name

-- a file may stand before the next one: behind level 0 it ends below it, where they are of one level
abbrev pub MayStand : ℕ → ℕ → Header → Header → Type 0
MayStand level next_level header next = 0 < next_level → level ≡ next_level → key_cmp (greatest_key header.tiles) (least_key next.tiles) ≡ Less
