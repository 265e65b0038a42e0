-- How an order is written as a line.
use Rattle.std.specs.Prelude.{◌≡◌, ℕ, ◌+◌, ◌^◌, ◌<◌, ◌≤◌, Bool, ◌&&◌, not, List, [], ◌∷◌, ◌++◌, length, slice_index, nat_le, ◌==◌, if◌then◌else◌, codes}
use Rattle.std.specs.List.{flat_map, join_with_byte, list_all}
use Rattle.std.specs.Fmt.{decimal}
use Rattle.hex.specs.Hex.{encode_lower}
use Rattle.lethe_base.specs.Keys.{Bytes}
use Rattle.lethe_base.specs.Limits.{IsKey, IsValue, max_time}
use Rattle.lethe_base.specs.Numbers.{IsBytes}
use Rattle.lethe_script.specs.declared.order.Act.{Act}
use Rattle.lethe_script.specs.declared.order.Act.TheVariants.{Put, Get, Scan, Delete, Erase, Stat, Tick, Pin, PinGet, PinScan, Unpin}
use Rattle.lethe_script.specs.declared.order.Order.{Order}

-- a byte that prints and is no space
abbrev pub is_visible : ℕ → Bool
is_visible byte = nat_le 33 byte && nat_le byte 126

-- whether a key or a value stands for itself in a text: it isn't empty, its bytes are visible, and the first is no `=`
abbrev pub is_plain : Bytes → Bool
is_plain bytes = not (length bytes == 0) && not (slice_index bytes 0 == 61) && list_all is_visible bytes

-- with its digits behind `=`
abbrev pub marked : Bytes → Bytes
marked bytes = 61 ∷ encode_lower bytes

-- a key or a value: its bytes, or `=` and their hexadecimal digits
abbrev pub field_text : Bytes → Bytes
field_text bytes = if is_plain bytes then bytes else marked bytes

-- the command of an act, and the fields behind it
abbrev pub act_fields : Act → List Bytes
act_fields (Put key dkey value) = codes "put" ∷ field_text key ∷ decimal dkey ∷ field_text value ∷ []
act_fields (Get key) = codes "get" ∷ field_text key ∷ []
act_fields (Scan lo hi) = codes "scan" ∷ field_text lo ∷ field_text hi ∷ []
act_fields (Delete key) = codes "del" ∷ field_text key ∷ []
act_fields (Erase range) = codes "erase" ∷ decimal range.lo ∷ decimal range.hi ∷ []
act_fields Stat = codes "stat" ∷ []
act_fields (Tick to) = codes "tick" ∷ decimal to ∷ []
act_fields (Pin slot) = codes "pin" ∷ decimal slot ∷ []
act_fields (PinGet slot key) = codes "pget" ∷ decimal slot ∷ field_text key ∷ []
act_fields (PinScan slot lo hi) = codes "pscan" ∷ decimal slot ∷ field_text lo ∷ field_text hi ∷ []
act_fields (Unpin slot) = codes "unpin" ∷ decimal slot ∷ []

-- the line of an order, with a space between its fields and the LF that ends it
abbrev pub spelling : Order → Bytes
spelling order = join_with_byte 32 (decimal order.caller ∷ act_fields order.act) ++ 10 ∷ []

-- the line `phase`, with its LF
abbrev pub phase_line : Bytes
phase_line = codes "phase" ++ 10 ∷ []

-- phases: the lines of their orders, with a line `phase` behind each phase but the last
abbrev pub script_text : List (List Order) → Bytes
script_text [] = []
script_text (orders ∷ []) = flat_map spelling orders
script_text (orders ∷ next ∷ more) = flat_map spelling orders ++ (phase_line ++ script_text (next ∷ more))

-- what a key may be, and a value
abbrev pub IsWritableKey : Bytes → Type 0
IsWritableKey key = IsKey key × IsBytes key

abbrev pub IsWritableValue : Bytes → Type 0
IsWritableValue value = IsValue value × IsBytes value

abbrev pub IsWritableAct : Act → Type 0
IsWritableAct (Put key dkey value) = IsWritableKey key × (dkey < 2 ^ 64) × IsWritableValue value
IsWritableAct (Get key) = IsWritableKey key
IsWritableAct (Scan lo hi) = IsWritableKey lo × IsWritableKey hi
IsWritableAct (Delete key) = IsWritableKey key
IsWritableAct (Erase range) = (range.lo < range.hi) × (range.hi < 2 ^ 64)
IsWritableAct Stat = Unit {0}
IsWritableAct (Tick to) = to ≤ max_time
IsWritableAct (Pin slot) = slot < 10
IsWritableAct (PinGet slot key) = (slot < 10) × IsWritableKey key
IsWritableAct (PinScan slot lo hi) = (slot < 10) × IsWritableKey lo × IsWritableKey hi
IsWritableAct (Unpin slot) = slot < 10

-- an order that a line can ask for
pub record IsWritable (order : Order) : Type 0 where
  pub from_one : 1 ≤ order.caller
  pub to_eight : order.caller ≤ 8
  pub act : IsWritableAct order.act

-- the lines of the orders are numbered from this number on
abbrev pub IsNumbered : ℕ → List Order → Type 0
IsNumbered n [] = Unit {0}
IsNumbered n (order ∷ orders) = (order.line ≡ n) × IsNumbered (n + 1) orders

-- the same of phases, where a line `phase` stands behind each
abbrev pub AreNumbered : ℕ → List (List Order) → Type 0
AreNumbered n [] = Unit {0}
AreNumbered n (orders ∷ phases) = IsNumbered n orders × AreNumbered (n + length orders + 1) phases
