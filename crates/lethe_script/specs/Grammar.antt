-- What the bytes of a script ask for, or the first line that is no part of one, and why.
use Rattle.std.specs.Prelude.{ℕ, ◌+◌, Bool, true, false, List, [], ◌∷◌, length, map, take, Option, Some, None, ok_or, Result, Ok, Err, nat_lt, ◌==◌, if◌then◌else◌, codes}
use Rattle.std.specs.List.{slice_split, list_all, filter_map, cons_option}
use Rattle.std.specs.Str.{bytes_eq}
use Rattle.std.specs.Str.Lines.{strip_carriage_return}
use Rattle.lethe_base.specs.Keys.{Bytes}
use Rattle.lethe_script.specs.declared.order.Act.{Act}
use Rattle.lethe_script.specs.declared.order.Act.TheVariants.{Put, Get, Scan, Delete, Erase, Stat, Tick, Pin, PinGet, PinScan, Unpin}
use Rattle.lethe_script.specs.declared.order.Item.{Item}
use Rattle.lethe_script.specs.declared.order.Item.TheVariants as item
use Rattle.lethe_script.specs.declared.order.Order.{Order}
use Rattle.lethe_script.specs.declared.refused.BadLine.{BadLine}
use Rattle.lethe_script.specs.declared.refused.Why.{Why}
use Rattle.lethe_script.specs.declared.refused.Why.TheVariants.{Size, Byte, Command, Count, Slot, Range}
use Rattle.lethe_base.specs.Results.{◌>>=◌}
use Rattle.lethe_script.specs.Fields.{fields, is_allowed, is_comment, caller_of, key_of, number_of, slot_of, time_of, value_of}
use Rattle.lethe_script.specs.Slots.{HeldByAll, none_held_by_all, all_held_behind}

unfoldable pub put_fields : Bytes → Bytes → Bytes → Result Act Why
put_fields key dkey value = do
  k ← key_of key
  d ← number_of dkey
  v ← value_of value
  Ok (Put k d v)

-- the fields behind `put`
unfoldable pub put_of : List Bytes → Result Act Why
put_of (key ∷ dkey ∷ value ∷ []) = put_fields key dkey value
put_of _ = Err Count

-- the fields behind `get`
unfoldable pub get_of : List Bytes → Result Act Why
get_of (key ∷ []) = do
  k ← key_of key
  Ok (Get k)
get_of _ = Err Count

unfoldable pub scan_fields : Bytes → Bytes → Result Act Why
scan_fields lo hi = do
  l ← key_of lo
  h ← key_of hi
  Ok (Scan l h)

-- the fields behind `scan`
unfoldable pub scan_of : List Bytes → Result Act Why
scan_of (lo ∷ hi ∷ []) = scan_fields lo hi
scan_of _ = Err Count

-- the fields behind `del`
unfoldable pub del_of : List Bytes → Result Act Why
del_of (key ∷ []) = do
  k ← key_of key
  Ok (Delete k)
del_of _ = Err Count

unfoldable pub erase_fields : Bytes → Bytes → Result Act Why
erase_fields lo hi = do
  l ← number_of lo
  h ← number_of hi
  if nat_lt l h then Ok (Erase (record { lo = l; hi = h })) else Err Range

-- the fields behind `erase`: the ends of a range, which has a number in it
unfoldable pub erase_of : List Bytes → Result Act Why
erase_of (lo ∷ hi ∷ []) = erase_fields lo hi
erase_of _ = Err Count

-- behind `stat` there is no field
unfoldable pub stat_of : List Bytes → Result Act Why
stat_of [] = Ok Stat
stat_of _ = Err Count

-- the fields behind `tick`
unfoldable pub tick_of : List Bytes → Result Act Why
tick_of (to ∷ []) = do
  t ← time_of to
  Ok (Tick t)
tick_of _ = Err Count

-- the field behind `pin`
unfoldable pub pin_of : List Bytes → Result Act Why
pin_of (slot ∷ []) = do
  s ← slot_of slot
  Ok (Pin s)
pin_of _ = Err Count

unfoldable pub pget_fields : Bytes → Bytes → Result Act Why
pget_fields slot key = do
  s ← slot_of slot
  k ← key_of key
  Ok (PinGet s k)

-- the fields behind `pget`
unfoldable pub pget_of : List Bytes → Result Act Why
pget_of (slot ∷ key ∷ []) = pget_fields slot key
pget_of _ = Err Count

unfoldable pub pscan_fields : Bytes → Bytes → Bytes → Result Act Why
pscan_fields slot lo hi = do
  s ← slot_of slot
  l ← key_of lo
  h ← key_of hi
  Ok (PinScan s l h)

-- the fields behind `pscan`
unfoldable pub pscan_of : List Bytes → Result Act Why
pscan_of (slot ∷ lo ∷ hi ∷ []) = pscan_fields slot lo hi
pscan_of _ = Err Count

-- the field behind `unpin`
unfoldable pub unpin_of : List Bytes → Result Act Why
unpin_of (slot ∷ []) = do
  s ← slot_of slot
  Ok (Unpin s)
unpin_of _ = Err Count

-- the fields behind the caller
unfoldable pub act_of : List Bytes → Result Act Why
act_of [] = Err Command
act_of (command ∷ rest) =
    if bytes_eq command (codes "put") then put_of rest else
    if bytes_eq command (codes "get") then get_of rest else
    if bytes_eq command (codes "scan") then scan_of rest else
    if bytes_eq command (codes "del") then del_of rest else
    if bytes_eq command (codes "erase") then erase_of rest else
    if bytes_eq command (codes "stat") then stat_of rest else
    if bytes_eq command (codes "tick") then tick_of rest else
    if bytes_eq command (codes "pin") then pin_of rest else
    if bytes_eq command (codes "pget") then pget_of rest else
    if bytes_eq command (codes "pscan") then pscan_of rest else
    if bytes_eq command (codes "unpin") then unpin_of rest else Err Command

-- a caller, and the fields behind it
unfoldable pub order_fields : ℕ → Bytes → List Bytes → Result Order Why
order_fields n first rest = do
  caller ← caller_of first
  act ← act_of rest
  Ok (record { line = n; caller = caller; act = act })

-- behind `phase` there is no field
unfoldable pub phase_end_of : List Bytes → Result Item Why
phase_end_of [] = Ok item.PhaseEnd
phase_end_of _ = Err Count

-- all fields of a line, the first of which is `phase`, or else a caller
unfoldable pub item_fields : ℕ → Bytes → List Bytes → Result Item Why
item_fields n first rest =
    if bytes_eq first (codes "phase") then phase_end_of rest else (order_fields n first rest >>= λ order. Ok (item.Order order))

-- the same, where a line that has none, and a comment, say nothing
unfoldable pub fields_say : ℕ → List Bytes → Result (Option Item) Why
fields_say n [] = Ok None
fields_say n (first ∷ rest) = if is_comment first then Ok None else (item_fields n first rest >>= λ found. Ok (Some found))

-- what the line of this number says
unfoldable pub line_of : ℕ → Bytes → Result (Option Item) Why
line_of n line = if list_all is_allowed line then fields_say n (fields line) else Err Byte

-- a line that is bad has its number
abbrev pub numbered : ℕ → Result (Option Item) Why → Result (Option Item) BadLine
numbered n (Ok found) = Ok found
numbered n (Err why) = Err (record { line = n; why = why })

unfoldable pub item_of : ℕ → Bytes → Result (Option Item) BadLine
item_of n line = numbered n (line_of n line)

-- the parts between the LFs
abbrev pub lines : Bytes → List Bytes
lines bytes = slice_split (λ byte. byte == 10) bytes

-- the slots behind a line: the last test of a line
abbrev pub slots_behind : Option Item → HeldByAll → Result HeldByAll BadLine
slots_behind None held = Ok held
slots_behind (Some item.PhaseEnd) held = Ok held
slots_behind (Some (item.Order order)) held = ok_or (all_held_behind order held) (record { line = order.line; why = Slot })

-- What the lines from this number on say, in front of which these slots are held. An LF ends each but the last, and a CR before it
-- is no part of the line. Where the script is too long, its first byte that is too much stands in the last line.
unfoldable pub items_from : Bool → ℕ → HeldByAll → List Bytes → Result (List Item) BadLine
items_from is_long n held [] = Ok []
items_from is_long n held (last ∷ []) =
    if is_long then Err (record { line = n; why = Size }) else
    (item_of n last >>= λ found. slots_behind found held >>= λ behind. Ok (cons_option found []))
items_from is_long n held (line ∷ next ∷ more) = do
  found ← item_of n (strip_carriage_return line)
  behind ← slots_behind found held
  items ← items_from is_long (n + 1) behind (next ∷ more)
  Ok (cons_option found items)

abbrev pub is_phase_end : Item → Bool
is_phase_end item.PhaseEnd = true
is_phase_end (item.Order order) = false

abbrev pub order_in : Item → Option Order
order_in item.PhaseEnd = None
order_in (item.Order order) = Some order

-- a phase's orders stand between two lines `phase`, or such a line and the begin or the end of the script
abbrev pub phases_of : List Item → List (List Order)
phases_of items = map (filter_map order_in) (slice_split is_phase_end items)

-- the phases of a script, which has at most 16,777,216 bytes
unfoldable pub script_of : Bytes → Result (List (List Order)) BadLine
script_of bytes = do
  items ← items_from (nat_lt 16777216 (length bytes)) 1 none_held_by_all (lines (take 16777216 bytes))
  Ok (phases_of items)
