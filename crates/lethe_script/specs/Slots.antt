-- Which slots are held from line to line.
use Rattle.std.specs.Prelude.{ℕ, ◌-◌, Bool, true, false, List, [], ◌∷◌, filter, replicate, slice_index_or, slice_set, Option, Some, None, option_map, option_and_then, IsSome, ◌==◌, if◌then◌else◌}
use Rattle.lethe_script.specs.declared.order.Act.{Act}
use Rattle.lethe_script.specs.declared.order.Act.TheVariants.{Put, Get, Scan, Delete, Erase, Stat, Tick, Pin, PinGet, PinScan, Unpin}
use Rattle.lethe_script.specs.declared.order.Order.{Order}

-- for each of a caller's ten slots whether it is held
abbrev pub Held : Type 0
Held = List Bool

-- at first no slot is held
abbrev pub none_held : Held
none_held = replicate 10 false

-- whether a slot is held
abbrev pub is_held : Held → ℕ → Bool
is_held held slot = slice_index_or held slot false

-- What its caller holds behind an act; nothing where the slot isn't as the act needs it: `pin` needs it free and holds it, the
-- others need it held, and `unpin` frees it.
abbrev pub held_behind : Act → Held → Option Held
held_behind (Put key dkey value) held = Some held
held_behind (Get key) held = Some held
held_behind (Scan lo hi) held = Some held
held_behind (Delete key) held = Some held
held_behind (Erase range) held = Some held
held_behind Stat held = Some held
held_behind (Tick to) held = Some held
held_behind (Pin slot) held = if is_held held slot then None else Some (slice_set held slot true)
held_behind (PinGet slot key) held = if is_held held slot then Some held else None
held_behind (PinScan slot lo hi) held = if is_held held slot then Some held else None
held_behind (Unpin slot) held = if is_held held slot then Some (slice_set held slot false) else None

-- what a caller holds behind its orders
abbrev pub held_through : List Order → Held → Option Held
held_through [] held = Some held
held_through (order ∷ orders) held = option_and_then (λ behind. held_through orders behind) (held_behind order.act held)

-- the orders of a caller
abbrev pub orders_by : ℕ → List Order → List Order
orders_by caller orders = filter (λ order. order.caller == caller) orders

-- each caller's acts find its slots as they need them, where it holds none at first
abbrev pub AreSlotted : List Order → Type 0
AreSlotted orders = (caller : ℕ) → IsSome (held_through (orders_by caller orders) none_held)

-- for each of the eight callers what it holds
abbrev pub HeldByAll : Type 0
HeldByAll = List Held

-- at first nobody holds a slot
abbrev pub none_held_by_all : HeldByAll
none_held_by_all = replicate 8 none_held

-- what a caller holds; they are numbered from 1 on
abbrev pub held_by : ℕ → HeldByAll → Held
held_by caller held = slice_index_or held (caller - 1) none_held

-- what they hold behind an order, which finds and changes the slots of its own caller alone
abbrev pub all_held_behind : Order → HeldByAll → Option HeldByAll
all_held_behind order held = option_map (λ behind. slice_set held (order.caller - 1) behind) (held_behind order.act (held_by order.caller held))
