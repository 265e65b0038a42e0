-- What a function that reads returns, against what the grammar says.
use Rattle.std.specs.Prelude.{◌≡◌, ℕ, ◌+◌, ◌<◌, ◌≤◌, List, [], ◌∷◌, ◌++◌, length, slice_index, Option, Some, None, Result, Ok, Err}
use Rattle.lethe_base.specs.Results.{◌>>=◌}
use Rattle.lethe_script.specs.Slots.{HeldByAll}
use Rattle.lethe_script.specs.Grammar.{lines, phases_of, slots_behind}
use Rattle.lethe_script.specs.declared.order.Item.{Item}
use Rattle.lethe_script.specs.declared.order.Item.TheVariants as item
use Rattle.lethe_script.specs.declared.order.Order.{Order}
use Rattle.lethe_script.specs.declared.refused.BadLine.{BadLine}
use Rattle.lethe_script.specs.declared.refused.Why.{Why}
use Rattle.lethe_script.specs.declared.refused.LineRefused.{LineRefused}
use Rattle.lethe_script.specs.declared.refused.LineRefused.TheVariants as line
use Rattle.lethe_script.specs.declared.refused.ScriptRefused.{ScriptRefused}
use Rattle.lethe_script.specs.declared.refused.ScriptRefused.TheVariants as script

-- a line's reading fails so too, unless memory ran out
abbrev pub FailsLine : {Y : Type 0} → LineRefused → Result Y Why → Type 0
FailsLine (line.Bad why) read = read ≡ Err why
FailsLine line.NoMemory read = Unit {0}

-- what a function returned, seen by view, is what reading the line gives, unless memory ran out
abbrev pub GivesLine : {X Y : Type 0} → (X → Y) → Result X LineRefused → Result Y Why → Type 0
GivesLine view (Ok x) read = read ≡ Ok (view x)
GivesLine view (Err e) read = FailsLine e read

-- the same of a script
abbrev pub FailsScript : {Y : Type 0} → ScriptRefused → Result Y BadLine → Type 0
FailsScript (script.Bad bad) read = read ≡ Err bad
FailsScript script.NoMemory read = Unit {0}

abbrev pub GivesScript : {X Y : Type 0} → (X → Y) → Result X ScriptRefused → Result Y BadLine → Type 0
GivesScript view (Ok x) read = read ≡ Ok (view x)
GivesScript view (Err e) read = FailsScript e read

-- the phases that have ended, and the orders of the one that hasn't
abbrev pub Phases : Type 0
Phases = List (List Order) × List Order

-- with what a further line says
abbrev pub phases_behind : Option Item → List (List Order) → List Order → Phases
phases_behind None ended open_orders = (ended, open_orders)
phases_behind (Some item.PhaseEnd) ended open_orders = (ended ++ open_orders ∷ [], [])
phases_behind (Some (item.Order order)) ended open_orders = (ended, open_orders ++ order ∷ [])

-- the same of a line that is read, and the slots that are held then
abbrev pub with_item : List (List Order) → List Order → HeldByAll → Result (Option Item) BadLine → Result (Phases × HeldByAll) BadLine
with_item ended open_orders held read = do
  found ← read
  behind ← slots_behind found held
  Ok (phases_behind found ended open_orders, behind)

-- the phases that are read, where all lines are
abbrev pub phases_read : Result (List Item) BadLine → Result (List (List Order)) BadLine
phases_read read = read >>= λ items. Ok (phases_of items)

-- there is a digit in front, and no zero before others
pub record BeginsNumber (field : List ℕ) : Type 0 where
  pub some : 0 < length field
  pub low : 48 ≤ slice_index field 0
  pub high : slice_index field 0 ≤ 57
  pub no_zero : slice_index field 0 ≡ 48 → length field ≡ 1

-- the first line is cut off, with its end
pub record IsCut (bytes line rest : List ℕ) : Type 0 where
  pub lines_are : lines bytes ≡ line ∷ lines rest
  pub shorter : length line + length rest < length bytes
