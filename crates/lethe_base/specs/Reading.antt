-- Reading an entry at a place of some bytes: what is there and where it ends, or the first fault from the left.
-- A field is tested as soon as it is read whole.
use Rattle.std.specs.Prelude.{◌≡◌, ℕ, ◌+◌, ◌≤◌, Bool, true, false, ◌==◌, ◌&&◌, nat_le, nat_lt, List, ◌++◌, length, take, drop, Option, Some, None, Result, Ok, Err, ok_or, if◌then◌else◌}
use Rattle.std.specs.Int.{Width, w8, w16, w64}
use Rattle.lethe_base.specs.Limits.{max_place, max_time}
use Rattle.lethe_base.specs.Numbers.{number_at}
use Rattle.lethe_base.specs.Results.{◌>>=◌}
use Rattle.lethe_base.specs.Spelling.{entry_with}
use Rattle.lethe_base.specs.declared.entry.Body.{Body}
use Rattle.lethe_base.specs.declared.entry.Body.TheVariants.{Put, Tomb}
use Rattle.lethe_base.specs.declared.entry.Entry.{Entry}
use Rattle.lethe_base.specs.declared.front.BodyKind.{BodyKind}
use Rattle.lethe_base.specs.declared.front.BodyKind.TheVariants as kinds
use Rattle.lethe_base.specs.declared.front.Front.{Front}
use Rattle.lethe_base.specs.declared.reading.EntryRefused.{EntryRefused}
use Rattle.lethe_base.specs.declared.reading.EntryRefused.TheVariants.{Short, Kind, NoMemory}

-- a function returned what reading gives, unless memory ran out
abbrev pub Gives : {A : Type 0} → Result A EntryRefused → Result A EntryRefused → Type 0
Gives (Ok x) read = read ≡ Ok x
Gives (Err (Short at)) read = read ≡ Err (Short at)
Gives (Err (Kind at)) read = read ≡ Err (Kind at)
Gives (Err NoMemory) read = Unit {0}

-- the text stands in the bytes from a place up to an end
pub record StandsAt (text bytes : List ℕ) (at end : ℕ) : Type 0 where
  pub parts : drop at bytes ≡ text ++ drop end bytes
  pub ends : end ≡ at + length text
  pub within : end ≤ length bytes

-- Fields.

abbrev pub field_at : Width → List ℕ → ℕ → Result ℕ EntryRefused
field_at w bytes at = ok_or (number_at w bytes at) (Short at)

unfoldable pub kind_at : List ℕ → ℕ → Result (BodyKind × ℕ) EntryRefused
kind_at bytes at = do
  byte ← field_at w8 bytes at
  if byte == 1 then Ok (kinds.Put, at + 1) else if byte == 2 then Ok (kinds.Tomb, at + 1) else Err (Kind at)

-- the place of a change
unfoldable pub place_at : List ℕ → ℕ → Result (ℕ × ℕ) EntryRefused
place_at bytes at = do
  seq ← field_at w64 bytes at
  if nat_lt 0 seq && nat_le seq max_place then Ok (seq, at + 8) else Err (Kind at)

-- whether an entry of the kind may have no time
abbrev pub may_lack_time : BodyKind → Bool
may_lack_time kinds.Put = true
may_lack_time kinds.Tomb = false

-- a mark, and behind a mark of 1 the time
unfoldable pub since_at : BodyKind → List ℕ → ℕ → Result (Option ℕ × ℕ) EntryRefused
since_at kind bytes at = do
  mark ← field_at w8 bytes at
  if mark == 1 then (do
    time ← field_at w64 bytes (at + 1)
    if nat_le time max_time then Ok (Some time, at + 9) else Err (Kind (at + 1)))
      else if mark == 0 && may_lack_time kind then Ok (None, at + 1)
      else Err (Kind at)

unfoldable pub key_at : List ℕ → ℕ → Result (List ℕ × ℕ) EntryRefused
key_at bytes at = do
  len ← field_at w8 bytes at
  if len == 0 then Err (Kind at)
      else if nat_le (at + 1 + len) (length bytes) then Ok (take len (drop (at + 1) bytes), at + 1 + len)
      else Err (Short (at + 1))

unfoldable pub value_at : List ℕ → ℕ → Result (List ℕ × ℕ) EntryRefused
value_at bytes at = do
  len ← field_at w16 bytes at
  if nat_lt 4096 len then Err (Kind at)
      else if nat_le (at + 2 + len) (length bytes) then Ok (take len (drop (at + 2) bytes), at + 2 + len)
      else Err (Short (at + 2))

-- Entries.

unfoldable pub front_at : List ℕ → ℕ → Result (Front × ℕ) EntryRefused
front_at bytes at = do
  kind ← kind_at bytes at
  seq ← place_at bytes kind.1
  since ← since_at kind.0 bytes seq.1
  key ← key_at bytes since.1
  Ok (record { kind = kind.0; seq = seq.0; since = since.0; key = key.0 }, key.1)

unfoldable pub body_at : BodyKind → List ℕ → ℕ → Result (Body × ℕ) EntryRefused
body_at kinds.Put bytes at = do
  dkey ← field_at w64 bytes at
  value ← value_at bytes (at + 8)
  Ok (Put dkey value.0, value.1)
body_at kinds.Tomb bytes at = Ok (Tomb, at)

unfoldable pub entry_at : List ℕ → ℕ → Result (Entry × ℕ) EntryRefused
entry_at bytes at = do
  front ← front_at bytes at
  body ← body_at front.0.kind bytes front.1
  Ok (entry_with front.0 body.0, body.1)
