-- What pins keep, and until when.
use Rattle.std.specs.Prelude.{◌≡◌, ◌⊎◌, ◌<◌, ℕ, ◌+◌, List, [], ◌∷◌, map, flat_map, All, Any, Contains, IsTrue}
use Rattle.lethe_base.specs.Matching.{IsPut}
use Rattle.lethe_base.specs.Placed.{IsPlaced}
use Rattle.lethe_base.specs.History.{History, after}
use Rattle.lethe_base.specs.declared.entry.Entry.{Entry}
use Rattle.lethe_base.specs.declared.name.Name.{Name}
use Rattle.lethe_bound.specs.Limits.{IsBounded}
use Rattle.lethe_disk.specs.Directory.{Directory, content, object}
use Rattle.lethe_file.specs.Agreement.{page_name}
use Rattle.lethe_header.specs.Facts.{lines_of}
use Rattle.lethe_pins.specs.Held.{is_named}
use Rattle.lethe_pins.specs.declared.pin.Pin.{Pin}
use Rattle.lethe_stored.specs.Clean.{SpellsPage}
use Rattle.lethe_stored.specs.Files.{Parts, StoredFile, lines_in}

-- the names of the pages of files
abbrev pub pages_in : List StoredFile → List Name
pages_in files = map (λ line. page_name line.no) (flat_map lines_in files)

-- it is the name of a page of the files by level, as their readers have them
abbrev pub IsPageIn : List (List Parts) → Name → Type 0
IsPageIn levels name = Any (λ files. Any (λ parts. Any (λ line. page_name line.no ≡ name) (lines_of parts.header.tiles)) files) levels

-- each of these names is one that a held pin names
abbrev pub AreNamed : List Pin → List Name → Type 0
AreNamed pins names = All (λ name. IsTrue (is_named pins name)) names

-- Each page that is retired now was so before, or is named by a held pin.
abbrev pub AreRetiredFrom : List Pin → List Name → List Name → Type 0
AreRetiredFrom pins before now = (name : Name) → Contains now name → Contains before name ⊎ IsTrue (is_named pins name)

-- The bytes spell a page. Each put of it was done at its place, and none was erased more than a threshold before the limit, or will have been.
pub record IsPageUntil (threshold limit : ℕ) (h : History) (bytes : List ℕ) : Type 0 where
  pub entries : List Entry
  pub spelled : SpellsPage bytes entries
  pub placed : All (λ entry. IsPut entry.body → IsPlaced h entry.seq entry.key entry.body) entries
  pub bounded : All (λ entry. IsPut entry.body → IsBounded threshold limit h (entry.seq ∷ [])) entries

-- The limit of each held pin is above the clock, and the pages that it names are so until then; the retired pages are so until the clock moves.
pub record AreTimely (threshold : ℕ) (h : History) (pins : List Pin) (retired : List Name) (d : Directory) : Type 0 where
  pub limits : All (λ pin. (after h).clock < pin.limit) pins
  pub pinned : All (λ pin. All (λ name. IsPageUntil threshold pin.limit h (content d name)) pin.names) pins
  pub left : All (λ name. IsPageUntil threshold ((after h).clock + 1) h (content d name)) retired

-- each object that a pin names is in the second directory as it is in the first, byte for byte
abbrev pub AreKept : List Pin → Directory → Directory → Type 0
AreKept pins d c = (name : Name) → IsTrue (is_named pins name) → object c name ≡ object d name

-- each object that is named by pins before and by pins behind is as it was, byte for byte
abbrev pub AreKeptBy : List Pin → List Pin → Directory → Directory → Type 0
AreKeptBy before behind d c = (name : Name) → IsTrue (is_named before name) → IsTrue (is_named behind name) → object c name ≡ object d name
