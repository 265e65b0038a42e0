-- What carrying out a phase caller by caller comes to.
use Rattle.std.specs.Prelude.{◌≡◌, ◌≤◌, ◌<◌, ℕ, List, filter, map, All, Option}
use Rattle.lethe_base.specs.History.{History}
use Rattle.lethe_disk.specs.declared.disk.Disk.{Ghosts}
use Rattle.lethe_snapshot.specs.declared.snapshot.Snapshot.{Snapshot}
use Rattle.lethe_core.specs.View.{View}
use Rattle.lethe_script.specs.declared.order.Order.{Order}
use Rattle.lethe_script.specs.Slots.{orders_by}
use Rattle.lethe_run.specs.declared.reply.Line.{Line}
use Rattle.lethe_run.specs.Anywhere.{AreTold, standing_of}
use Rattle.lethe_run.specs.Ends.{IsFrontByCaller}
use Rattle.lethe_run.specs.Holding.{AreShown, slots_for}
use Rattle.lethe_run.specs.Serving.{IsOn, IsPhase, Point}
use Rattle.lethe_run.specs.Slots.{AreInSlots}
use Rattle.lethe_run.specs.Transcript.{Start, callers, is_of, printed}

-- a number of a caller
pub record IsCaller (caller : ℕ) : Type 0 where
  pub from : 0 < caller
  pub upto : caller ≤ 8

-- the orders of each caller, as they stand in the script
abbrev pub each_own : List Order → List (List Order)
each_own orders = map (λ caller. orders_by caller orders) callers

-- of each caller the first orders, caller by caller
pub record AreFronts (orders part : List Order) : Type 0 where
  pub cut : IsFrontByCaller orders part
  pub printed : printed part ≡ part
  pub callers : All (λ order. IsCaller order.caller) part

-- they are all
pub record AreAll (orders part : List Order) : Type 0 where
  pub is : part ≡ printed orders
  pub by : (caller : ℕ) → orders_by caller part ≡ orders_by caller orders

-- Orders were answered by these lines, caller by caller, on any disk and on one that tells what it holds, and so the store and what the slots hold went on.
pub record IsPhaseOfAll {D Page Port : Type 0} {kind : Ghosts D Page Port} (Tells PortsFail : Type 0) (orders : List Order) (lines : List Line)
    (old : View) (was : List (List (Option (Snapshot D Page Port kind)))) (new : View) (held : List (List (Option (Snapshot D Page Port kind)))) : Type 0 where
  pub told : AreTold PortsFail old.faults new.faults orders (standing_of old) lines (standing_of new)
  pub slots : (caller : ℕ) → AreInSlots (orders_by caller orders) (slots_for caller was) (filter (is_of caller) lines) (slots_for caller held)
  pub served : Tells → (begin : Start) (from : Point) (start : History) → IsOn begin from start old → All (AreShown start) was
      → (h : History) × IsPhase PortsFail begin start h orders lines old new × All (AreShown h) held
  pub faults : old.faults ≤ new.faults
