-- Which pages a tile may have.
use Rattle.std.specs.Prelude.{ℕ, length, List, [], ◌∷◌, take, drop, ◌≡◌, All, Contains, ◌⊎◌}
use Rattle.lethe_base.specs.Keys.{Bytes}
use Rattle.lethe_base.specs.declared.entry.Entry.{Entry}
use Rattle.lethe_page.specs.Pages.{HasSpelling}
use Rattle.lethe_header.specs.declared.header.PageLine.{PageLine}
use Rattle.lethe_header.specs.declared.header.TileLine.{TileLine}
use Rattle.lethe_file.specs.Agreement.{Agrees, IsWithin, entries_in, keys_of}
use Rattle.lethe_build.specs.Built.{class_of, spelled}
use Rattle.lethe_agreement.specs.declared.taken.TakenKeys.{TakenKeys}

-- these entries have a spelling, which is of these bytes
pub record IsSpelled (entries : List Entry) (bytes : List ℕ) : Type 0 where
  pub has_spelling : HasSpelling (class_of entries) entries
  pub are : bytes ≡ spelled entries

-- a key of an earlier page
abbrev pub IsTaken : TakenKeys → Bytes → Type 0
IsTaken taken key = Contains taken.keys.keys key

-- a page of these bytes agrees with its line, its keys lie between its tile's, and none of them is taken
pub record IsSoundPage (tile : TileLine) (line : PageLine) (taken : Bytes → Type 0) (bytes : List ℕ) : Type 0 where
  pub agrees : Agrees line bytes
  pub within : All (λ entry. IsWithin tile entry.key) (entries_in bytes)
  pub apart : All (λ entry. taken entry.key → ⊥) (entries_in bytes)

-- the keys of a page are taken too
abbrev pub taken_with : (Bytes → Type 0) → List ℕ → Bytes → Type 0
taken_with taken bytes key = taken key ⊎ Contains (keys_of (entries_in bytes)) key

-- the pages of some lines of a tile are sound one after the other, where these keys were taken before
abbrev pub AreSoundFrom : TileLine → (Bytes → Type 0) → List PageLine → List (List ℕ) → Type 0
AreSoundFrom tile taken [] [] = Unit {0}
AreSoundFrom tile taken [] (page ∷ pages) = ⊥
AreSoundFrom tile taken (line ∷ lines) [] = ⊥
AreSoundFrom tile taken (line ∷ lines) (page ∷ pages) = IsSoundPage tile line taken page × AreSoundFrom tile (taken_with taken page) lines pages

-- these are the pages of the tile, each with its line, in the order of the lines
abbrev pub IsSoundTile : TileLine → List (List ℕ) → Type 0
IsSoundTile tile pages = AreSoundFrom tile (λ key. ⊥) tile.pages pages

-- so are those of the tiles of a file
abbrev pub AreSoundTiles : List TileLine → List (List ℕ) → Type 0
AreSoundTiles [] pages = pages ≡ []
AreSoundTiles (tile ∷ tiles) pages = IsSoundTile tile (take (length tile.pages) pages) × AreSoundTiles tiles (drop (length tile.pages) pages)
