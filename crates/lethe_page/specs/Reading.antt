-- Reading a page: its class and entries, or the first fault from the left. A field is tested as soon as it is read whole.
use Rattle.std.specs.Prelude.{◌≡◌, ℕ, zero, suc, ◌-◌, ◌==◌, nat_lt, Bool, true, List, [], ◌∷◌, length, slice_get, Option, Some, None, option_map, Vec, Result, Ok, Err, ok_or, if◌then◌else◌}
use Rattle.std.specs.Int.{Width, w8, w16, w32}
use Rattle.std.specs.Ordering.{is_lt}
use Rattle.std.specs.declared.alloc.Global.{Global}
use Rattle.lethe_base.specs.Keys.{Bytes, key_cmp}
use Rattle.lethe_base.specs.Numbers.{number_at}
use Rattle.lethe_base.specs.Reading.{front_at, body_at}
use Rattle.lethe_base.specs.Results.{◌>>=◌}
use Rattle.lethe_base.specs.Spelling.{entry_with}
use Rattle.lethe_base.specs.declared.entry.Entry.{Entry}
use Rattle.lethe_base.specs.declared.front.Front.{Front}
use Rattle.lethe_base.specs.declared.reading.EntryRefused.{EntryRefused}
use Rattle.lethe_base.specs.declared.reading.EntryRefused.TheVariants as entry
use Rattle.lethe_page.specs.Pages.{class_byte}
use Rattle.lethe_page.specs.declared.class.Class.{Class}
use Rattle.lethe_page.specs.declared.class.Class.TheVariants.{Puts, Tombs}
use Rattle.lethe_page.specs.declared.refused.PageRefused.{PageRefused}
use Rattle.lethe_page.specs.declared.refused.PageRefused.TheVariants.{Short, Kind, Order, Trailing, NoMemory}

-- it was refused as reading refuses it, unless memory ran out
abbrev pub IsRefused : {A : Type 0} → PageRefused → Result A PageRefused → Type 0
IsRefused (Short at) read = read ≡ Err (Short at)
IsRefused (Kind at) read = read ≡ Err (Kind at)
IsRefused (Order at) read = read ≡ Err (Order at)
IsRefused (Trailing at) read = read ≡ Err (Trailing at)
IsRefused NoMemory read = Unit {0}

-- a function returned what reading gives, unless memory ran out
abbrev pub Gives : {A : Type 0} → Result A PageRefused → Result A PageRefused → Type 0
Gives (Ok x) read = read ≡ Ok x
Gives (Err why) read = IsRefused why read

-- the same of a class and entries
abbrev pub GivesPage : Result (Class × Vec Entry Global) PageRefused → Result (Class × List Entry) PageRefused → Type 0
GivesPage (Ok page) read = read ≡ Ok (page.0, page.1.items)
GivesPage (Err why) read = IsRefused why read

-- why a page can't be read, where an entry of it can't
abbrev pub refusal_of : EntryRefused → PageRefused
refusal_of (entry.Short at) = Short at
refusal_of (entry.Kind at) = Kind at
refusal_of entry.NoMemory = NoMemory

-- what reading a part of an entry gives, as a part of a page
abbrev pub part : {A : Type 0} → Result A EntryRefused → Result A PageRefused
part (Ok x) = Ok x
part (Err why) = Err (refusal_of why)

-- Heads.

abbrev pub field_at : Width → List ℕ → ℕ → Result ℕ PageRefused
field_at w bytes at = ok_or (number_at w bytes at) (Short at)

-- a field that holds this number in each page
unfoldable pub fixed_at : Width → ℕ → List ℕ → ℕ → Result ℕ PageRefused
fixed_at w number bytes at = do
  n ← field_at w bytes at
  if n == number then Ok n else Err (Kind at)

unfoldable pub class_at : List ℕ → ℕ → Result Class PageRefused
class_at bytes at = do
  byte ← field_at w8 bytes at
  if byte == 1 then Ok Puts else if byte == 2 then Ok Tombs else Err (Kind at)

-- the number of entries, at least 1
unfoldable pub count_at : List ℕ → ℕ → Result ℕ PageRefused
count_at bytes at = do
  count ← field_at w32 bytes at
  if count == 0 then Err (Kind at) else Ok count

-- the class and the number of entries, behind the letters and the format
unfoldable pub head_at : List ℕ → Result (Class × ℕ) PageRefused
head_at bytes = do
  letters ← fixed_at w16 0x4c50 bytes 0
  format ← fixed_at w8 1 bytes 2
  class ← class_at bytes 3
  count ← count_at bytes 4
  Ok (class, count)

-- Entries.

-- the key of the last of these, if there are any
abbrev pub last_key : List Entry → Option Bytes
last_key entries = option_map (λ e. e.key) (slice_get entries (length entries - 1))

-- the key is above the last one, if there is one
abbrev pub is_above : Option Bytes → Bytes → Bool
is_above None key = true
is_above (Some last) key = is_lt (key_cmp last key)

-- the front of an entry of the class; an order that is broken is told at the length of the key
unfoldable pub front_above : Class → Option Bytes → List ℕ → ℕ → Result (Front × ℕ) PageRefused
front_above class last bytes at = do
  kind ← fixed_at w8 (class_byte class) bytes at
  front ← part (front_at bytes at)
  if is_above last front.0.key then Ok front else Err (Order (front.1 - length front.0.key - 1))

unfoldable pub entry_above : Class → Option Bytes → List ℕ → ℕ → Result (Entry × ℕ) PageRefused
entry_above class last bytes at = do
  front ← front_above class last bytes at
  body ← part (body_at front.0.kind bytes front.1)
  Ok (entry_with front.0 body.0, body.1)

-- so many entries, each with a key above the one before
abbrev pub entries_above : Class → ℕ → Option Bytes → List ℕ → ℕ → Result (List Entry × ℕ) PageRefused
entries_above class zero last bytes at = Ok ([], at)
entries_above class (suc n) last bytes at = do
  first ← entry_above class last bytes at
  rest ← entries_above class n (Some first.0.key) bytes first.1
  Ok (first.0 ∷ rest.0, rest.1)

-- Pages.

unfoldable pub page_at : List ℕ → Result (Class × List Entry) PageRefused
page_at bytes = do
  head ← head_at bytes
  read ← entries_above head.0 head.1 None bytes 8
  if nat_lt read.1 (length bytes) then Err (Trailing read.1) else Ok (head.0, read.0)
