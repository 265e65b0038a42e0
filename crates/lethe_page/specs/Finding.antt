-- What looking for a key in the bytes of a page finds: what decoding the page and looking there would.
use Rattle.std.specs.Prelude.{◌≡◌, ℕ, ◌-◌, ◌≤◌, List, length, take, drop, Option, Some, None, option_map, Result, Ok}
use Rattle.std.specs.List.{find}
use Rattle.lethe_base.specs.Keys.{Bytes, same_key}
use Rattle.lethe_base.specs.Reading.{body_at, entry_at}
use Rattle.lethe_base.specs.Results.{◌>>=◌}
use Rattle.lethe_base.specs.Skipping.{front_end_of}
use Rattle.lethe_base.specs.declared.entry.Entry.{Entry}
use Rattle.lethe_base.specs.declared.skipping.FrontEnd.{FrontEnd}
use Rattle.lethe_page.specs.Reading.{entries_above, front_above, page_at, part}
use Rattle.lethe_page.specs.declared.class.Class.{Class}
use Rattle.lethe_page.specs.declared.finding.Found.{Found}
use Rattle.lethe_page.specs.declared.finding.Passed.{Passed}
use Rattle.lethe_page.specs.declared.refused.PageRefused.{PageRefused}

-- the entry of the key, if there is one
abbrev pub entry_of : Bytes → List Entry → Option Entry
entry_of key entries = find (λ entry. same_key entry.key key) entries

-- the class, how many entries there are, and the entry of the key, if there is one; or the first fault from the left
abbrev pub found_in : Bytes → List ℕ → Result Found PageRefused
found_in key bytes = do
  page ← page_at bytes
  Ok (record { class = page.0; entries = length page.1; entry = entry_of key page.1 })

-- the key of the entry lies within the bytes
pub record IsWithin (bytes : List ℕ) (front : FrontEnd) : Type 0 where
  pub ordered : front.key ≤ front.end
  pub within : front.end ≤ length bytes

-- the bytes of the key of an entry, where it stands
abbrev pub key_at : List ℕ → FrontEnd → Bytes
key_at bytes front = take (front.end - front.key) (drop front.key bytes)

-- the same of the last entry, if there is one
abbrev pub key_in : List ℕ → Option FrontEnd → Option Bytes
key_in bytes last = option_map (key_at bytes) last

-- where the key stands of an entry that is read as the next one, and where the entry ends
abbrev pub passed_at : Class → Option Bytes → List ℕ → ℕ → Result Passed PageRefused
passed_at class last bytes at = do
  front ← front_above class last bytes at
  body ← part (body_at front.0.kind bytes front.1)
  Ok (record { front = front_end_of front; end = body.1 })

-- where the entry of the key stands, if one of the entries has it
abbrev pub IsPlaceOf : Bytes → List ℕ → List Entry → Option ℕ → Type 0
IsPlaceOf key bytes entries None = entry_of key entries ≡ None
IsPlaceOf key bytes entries (Some at) = (read : Entry × ℕ) × (entry_at bytes at ≡ Ok read) × (entry_of key entries ≡ Some read.0)

-- so many entries are read up to an end, and what was found is the place of the key's entry among them
pub record ArePassed (class : Class) (count : ℕ) (key : Bytes) (bytes : List ℕ) (found : Option ℕ) (end : ℕ) : Type 0 where
  pub entries : List Entry
  pub all : length entries ≡ count
  pub read : entries_above class count None bytes 8 ≡ Ok (entries, end)
  pub place : IsPlaceOf key bytes entries found
