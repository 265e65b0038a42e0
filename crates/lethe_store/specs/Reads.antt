-- What a session reads.
use Rattle.std.specs.Prelude.{◌≡◌, ℕ, ◌++◌, Some}
use Rattle.lethe_base.specs.History.{History, after}
use Rattle.lethe_base.specs.Read.{Answer, Read, answer}
use Rattle.lethe_base.specs.declared.config.Fields.{Fields}
use Rattle.lethe_engine.specs.StandsFor.{Opened, StandsSince}
use Rattle.lethe_state.specs.Clock.{clock_of}
use Rattle.lethe_turn.specs.declared.view.View.{View}
use Rattle.lethe_store.specs.declared.entry.Entry.{Entry}
use Rattle.lethe_store.specs.StoreViews.{StoreView}
use Rattle.lethe_store.specs.Entries.{changes_of, clock_along}

module _ {M V : Type 0} where
  -- it was answered as a plain map is behind all that it has seen, whatever history the opened store stood for, on a disk that tells what it holds
  abbrev pub HasRead : Type 0 → (V → StoreView) → View V Entry M → Read → Answer → Type 0
  HasRead Tells see v asked given =
      (o : V) → v.opened ≡ Some o → Tells → (config : Fields) (opened : Opened) (h : History) → StandsSince config opened h (see o).view → answer (after (h ++ changes_of v.seen)) asked ≡ given

  -- so was the clock
  abbrev pub HasReadClock : Type 0 → (V → StoreView) → View V Entry M → ℕ → Type 0
  HasReadClock Tells see v given =
      (o : V) → v.opened ≡ Some o → Tells → (config : Fields) (opened : Opened) (h : History) → StandsSince config opened h (see o).view → (after (h ++ changes_of v.seen)).clock ≡ given

  -- on any disk it is the time of the last tick that it has seen, or else that with which the store was opened
  abbrev pub IsClockSeen : (V → StoreView) → View V Entry M → ℕ → Type 0
  IsClockSeen see v given = (o : V) → v.opened ≡ Some o → given ≡ (clock_along (clock_of (see o).view.state.manifest) v.seen).time
