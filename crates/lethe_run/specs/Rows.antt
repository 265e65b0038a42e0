-- Rows of changes, which are consecutive ones of one caller, and stretches of orders that are answered.
use Rattle.std.specs.Prelude.{◌≡◌, ◌≤◌, ℕ, List, ◌++◌, map, replicate, Option}
use Rattle.lethe_base.specs.History.{History}
use Rattle.lethe_disk.specs.declared.disk.Disk.{Ghosts}
use Rattle.lethe_snapshot.specs.declared.snapshot.Snapshot.{Snapshot}
use Rattle.lethe_core.specs.View.{View, face_of}
use Rattle.lethe_engine.specs.Asked.{Asked}
use Rattle.lethe_engine.specs.Asked.TheVariants as asked
use Rattle.lethe_script.specs.declared.order.Act.{Act}
use Rattle.lethe_script.specs.declared.order.Act.TheVariants.{Put, Delete, Erase}
use Rattle.lethe_script.specs.declared.order.Order.{Order}
use Rattle.lethe_run.specs.declared.reply.Line.{Line}
use Rattle.lethe_run.specs.declared.reply.Line.TheVariants as line
use Rattle.lethe_run.specs.declared.reply.Reply.TheVariants.{Done, Stopped}
use Rattle.lethe_run.specs.Anywhere.{AreTold, standing_of}
use Rattle.lethe_run.specs.Holding.{AreShown, slots_of}
use Rattle.lethe_run.specs.Serving.{IsOn, IsPhase, Point}
use Rattle.lethe_run.specs.Slots.{AreInSlots, Slots}
use Rattle.lethe_run.specs.Transcript.{Start, places_behind}

-- the act that asks for a change
abbrev pub act_of : Asked → Act
act_of (asked.Put key dkey value) = Put key dkey value
act_of (asked.Delete key) = Delete key
act_of (asked.Erase range) = Erase range

-- an order, on whichever line it stands
abbrev pub unlined : Order → Order
unlined order = record order { line = 0 }

-- the orders of a caller that ask for these changes
abbrev pub orders_of : ℕ → List Asked → List Order
orders_of caller changes = map (λ change. record { line = 0; caller = caller; act = act_of change }) changes

-- the lines of so many changes that are done, the first of them behind this many places
abbrev pub done_lines : ℕ → ℕ → ℕ → List Line
done_lines caller count done = map (λ place. line.Answer caller (Done place)) (places_behind count done)

-- the lines of so many changes that aren't made, since the one at this place failed
abbrev pub stopped_lines : ℕ → ℕ → ℕ → List Line
stopped_lines caller at many = replicate many (line.Answer caller (Stopped at))

-- Orders of a caller were answered by these lines, on any disk and on one that tells what it holds, and so the store and what its slots hold went on.
pub record IsStretch {D Page Port : Type 0} {kind : Ghosts D Page Port} (Tells PortsFail : Type 0) (orders : List Order) (lines : List Line)
    (old : View) (was : List (Option (Snapshot D Page Port kind))) (new : View) (held : List (Option (Snapshot D Page Port kind))) : Type 0 where
  pub told : AreTold PortsFail old.faults new.faults orders (standing_of old) lines (standing_of new)
  pub slots : AreInSlots orders (slots_of was) lines (slots_of held)
  pub served : Tells → (begin : Start) (from : Point) (start : History) → IsOn begin from start old → AreShown start was
      → (h : History) × IsPhase PortsFail begin start h orders lines old new × AreShown h held
  pub faults : old.faults ≤ new.faults

-- Of the changes that were asked those in front of the ones that are left were answered by so many more lines.
pub record HasServed {D Page Port : Type 0} {kind : Ghosts D Page Port} (Tells PortsFail : Type 0) (caller : ℕ) (changes left : List Asked) (before behind : List Line)
    (old : View) (was : List (Option (Snapshot D Page Port kind))) (new : View) (held : List (Option (Snapshot D Page Port kind))) : Type 0 where
  pub front : List Asked
  pub more : List Line
  pub are : changes ≡ front ++ left
  pub lines : behind ≡ before ++ more
  pub stretch : IsStretch Tells PortsFail (orders_of caller front) more old was new held

-- The same, whatever the slots hold: it stays so, and so do jobs and pins.
pub record HasMade (Tells PortsFail : Type 0) (caller : ℕ) (changes left : List Asked) (before behind : List Line) (old new : View) : Type 0 where
  pub front : List Asked
  pub more : List Line
  pub are : changes ≡ front ++ left
  pub lines : behind ≡ before ++ more
  pub told : AreTold PortsFail old.faults new.faults (orders_of caller front) (standing_of old) more (standing_of new)
  pub slots : (slots : Slots) → AreInSlots (orders_of caller front) slots more slots
  pub served : Tells → (begin : Start) (from : Point) (start : History) → IsOn begin from start old → (h : History) × IsPhase PortsFail begin start h (orders_of caller front) more old new
  pub faults : old.faults ≤ new.faults
  pub face : face_of new ≡ face_of old
  pub retired : new.retired ≡ old.retired
  pub pins : new.pins ≡ old.pins
