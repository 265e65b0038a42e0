-- A store that was opened.
use Rattle.std.specs.Prelude.{ℕ, Option}
use Rattle.lethe_base.specs.History.{History, Change}
use Rattle.lethe_base.specs.declared.config.Fields.{Fields}
use Rattle.lethe_disk.specs.Disk.{Seen}
use Rattle.lethe_recover.specs.declared.opening.OpenWhy.{OpenWhy}
use Rattle.lethe_recover.specs.declared.opening.OpenWhy.TheVariants.{Damaged, OtherConfig, Fault, Exhausted, NoMemory}
use Rattle.lethe_stored.specs.Kept.{IsKept}
use Rattle.lethe_stored.specs.Left.{IsHistoryOr}
use Rattle.lethe_stored.specs.Numbers.{IsNextNumber}
use Rattle.lethe_core.specs.View.{View}
use Rattle.lethe_engine.specs.StandsFor.{Opened, StandsSince}

-- what the store of a history was whose opening began at one time and answered at another, from the next object number on
abbrev pub opened_as : History → Seen → Seen → ℕ → ℕ → Opened
opened_as h start finish next faults = record { history = h; began = start.moment; moment = finish.moment; next = next; faults = faults }

-- It stands for the history that the directory was kept for: the one that the disk was left for, or that with the change carried out.
pub record IsResumed (config : Fields) (h : History) (change : Option Change) (start : Seen) (view : View) : Type 0 where
  pub history : History
  pub either : IsHistoryOr h change history
  pub was : IsKept config start.directory history
  pub stands : (next : ℕ) → IsNextNumber start.directory next → StandsSince config (opened_as history start view.disk next view.faults) history view

-- the disk failed or there was no memory, so that nothing is known of what was done
abbrev pub IsUntold : OpenWhy → Type 0
IsUntold (Damaged name) = ⊥
IsUntold (OtherConfig kept) = ⊥
IsUntold (Fault before after) = Unit {0}
IsUntold (Exhausted last) = ⊥
IsUntold NoMemory = Unit {0}
