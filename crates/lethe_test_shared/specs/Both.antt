-- Two changes in one history.
use Rattle.std.specs.Prelude.{◌≡◌, ℕ, ◌+◌, List, ◌++◌, length, Result, Ok, Err}
use Rattle.std.specs.Result.{result_err}
use mathlib.Core.Option.{some}
use lib.ListN.{get_elem?}
use Rattle.lethe_base.specs.History.{History}
use Rattle.lethe_base.specs.declared.call.Call.{Call}
use Rattle.lethe_base.specs.declared.call.Did.TheVariants.{Done}
use Rattle.lethe_base.specs.declared.config.Fields.{Fields}
use Rattle.lethe_base.specs.declared.refused.Refused.{Refused}
use Rattle.lethe_cert.specs.declared.certificate.Certificate.{Certificate}
use Rattle.lethe_core.specs.Asked.{Makes}
use Rattle.lethe_engine.specs.StandsFor.{Opened, StandsFor}
use Rattle.lethe_turn.specs.Lists.{WeighsAs}
use Rattle.lethe_store.specs.declared.entry.Entry.{Entry}
use Rattle.lethe_store.specs.StoreViews.{StoreView}
use Rattle.lethe_store.specs.Entries.{changes_of, entries_by, entry_of}

-- where a place was answered, the entry stands there, behind so many changes
abbrev pub StoodAt : ℕ → List Entry → Entry → Result ℕ Refused → Type 0
StoodAt start entries entry (Ok place) = (before : ℕ) × (place ≡ start + before + 1) × (get_elem? entries before ≡ some entry)
StoodAt start entries entry (Err why) = Unit {0}

-- There are entries, by which the store came of the one that was handed in: those of the two changes by callers 0 and 1, in some order, each once, and one that was done at the place that was
-- answered. The store counts them, and stands for whatever the one handed in stood for with them.
pub record AreInOneHistory (Tells : Type 0) (handed : StoreView) (first : Call) (one : Result ℕ Refused) (second : Call) (other : Result ℕ Refused) (x : StoreView) : Type 0 where
  pub entries : List Entry
  pub each : WeighsAs entries (entries_by 0 (Makes first) (result_err one) ++ entries_by 1 (Makes second) (result_err other))
  pub first_at : StoodAt handed.view.state.count entries (entry_of 0 Done first) one
  pub second_at : StoodAt handed.view.state.count entries (entry_of 1 Done second) other
  pub count : x.view.state.count ≡ handed.view.state.count + length entries
  pub stands : Tells → (config : Fields) (opened : Opened) (h : History) (answered : List Certificate) → StandsFor config opened h handed.view answered
      → StandsFor config opened (h ++ changes_of entries) x.view answered
