-- What is left of a file takes no more room than the file had: so a header of it has a spelling, on any disk.
use Rattle.std.specs.Prelude.{◌≡◌, ◌⊎◌, ℕ, ◌+◌, ◌≤◌, ◌&&◌, Bool, true, false, IsTrue, nat_le, List, [], ◌∷◌, ◌++◌, length, map, filter, All, Option, Some, None}
use Rattle.std.specs.List.{AllZip}
use Rattle.lethe_base.specs.declared.entry.Body.{Body}
use Rattle.lethe_base.specs.declared.entry.Body.TheVariants.{Put, Tomb}
use Rattle.lethe_base.specs.declared.entry.Entry.{Entry}
use Rattle.lethe_page.specs.declared.class.Class.TheVariants.{Puts, Tombs}
use Rattle.lethe_header.specs.Headers.{entries_in, is_puts}
use Rattle.lethe_header.specs.declared.header.PageLine.{PageLine}
use Rattle.lethe_header.specs.declared.header.TileLine.{TileLine}
use Rattle.lethe_build.specs.Built.{class_of}
use Rattle.lethe_build.specs.Parts.{IsPage}
use Rattle.lethe_swept.specs.Left.{Placed, by_tile, fresh, tiles_left}
use Rattle.lethe_swept.specs.declared.part.Part.{Part}
use Rattle.lethe_swept.specs.declared.part.Part.TheVariants.{Kept, Fresh}
use Rattle.lethe_swept.specs.declared.part.SweptFile.{SweptFile}

-- a put's delete key lies in the fence; a tombstone has none
abbrev pub is_fenced : Option (ℕ × ℕ) → Body → Bool
is_fenced fence Tomb = true
is_fenced None (Put dkey value) = false
is_fenced (Some fence) (Put dkey value) = nat_le fence.0 dkey && nat_le dkey fence.1

-- a new page of puts that stands in the place of a page of puts: it has no more entries, and their delete keys lie in that one's fence
pub record IsNarrower (line : PageLine) (entries : List Entry) : Type 0 where
  pub was : line.class ≡ Puts
  pub page : IsPage entries
  pub class : class_of entries ≡ Puts
  pub fenced : All (λ entry. IsTrue (is_fenced line.fence entry.body)) entries
  pub few : length entries ≤ line.entries

-- the part is the page itself, or stands in its place
abbrev pub StandsFor : Placed → Part → Type 0
StandsFor page (Kept place) = place ≡ page.place
StandsFor page (Fresh entries) = IsNarrower page.line entries

-- how many entries the part has
abbrev pub len_of : Placed → Part → ℕ
len_of page (Kept place) = page.line.entries
len_of page (Fresh entries) = length entries

-- in their order the parts stand for some of the pages, and have so many entries
pub data StandFor : List Placed → List Part → ℕ → Type 0 where
  End : StandFor [] [] 0
  Gone : (page : Placed) (pages : List Placed) (parts : List Part) (count : ℕ) → StandFor pages parts count → StandFor (page ∷ pages) parts count
  Left : (page : Placed) (part : Part) (pages : List Placed) (parts : List Part) (count : ℕ) → StandsFor page part → StandFor pages parts count
      → StandFor (page ∷ pages) (part ∷ parts) (len_of page part + count)

-- a new page of tombstones
pub record IsTombPage (tombs : List Entry) : Type 0 where
  pub page : IsPage tombs
  pub class : class_of tombs ≡ Tombs

abbrev pub puts_pages : List Placed → List Placed
puts_pages tile = filter (λ page. is_puts page.line.class) tile

-- What is left of a tile: pages of it or such as stand for them, behind a new page of tombstones, which comes where none of its own stays. They have no more entries than it.
pub record FitsTile (tile : List Placed) (parts : List Part) : Type 0 where
  pub tombs : List Entry
  pub own : List Part
  pub parts_are : parts ≡ fresh tombs ++ own
  pub count : ℕ
  pub stand : ((tombs ≡ []) × StandFor tile own count) ⊎ (IsTombPage tombs × StandFor (puts_pages tile) own count)
  pub few : length tombs + count ≤ entries_in (map (λ page. page.line) tile)

-- each tile that is left fits where it stood
pub record Fits (tiles : List TileLine) (swept : SweptFile) : Type 0 where
  pub parts : List (List Part)
  pub each : AllZip FitsTile (by_tile 0 tiles) parts
  pub tiles_are : swept.tiles ≡ tiles_left tiles parts
