-- What a session's pins come to.
use Rattle.std.specs.Prelude.{◌≡◌, ◌≤◌, ◌<◌, ◌+◌, ℕ, List, [], ◌∷◌, ◌++◌, length, Some, Result, Ok, Err}
use Rattle.lethe_base.specs.History.{History}
use Rattle.lethe_base.specs.Limits.{max_place}
use Rattle.lethe_base.specs.declared.config.Fields.{Fields}
use Rattle.lethe_base.specs.declared.refused.Refused.{Refused}
use Rattle.lethe_base.specs.declared.refused.Refused.TheVariants.{Fault, Stopped, Backwards, Pinned, NothingDue, Cancelled, Exhausted, ReadFault, NoMemory, Damaged}
use Rattle.lethe_disk.specs.declared.disk.Disk.{Ghosts}
use Rattle.lethe_stored.specs.Left.{without_failed}
use Rattle.lethe_core.specs.Points.{IsOf}
use Rattle.lethe_core.specs.Snapshot.{Snapshot}
use Rattle.lethe_engine.specs.StandsFor.{Opened, StandsSince}
use Rattle.lethe_state.specs.Clock.{clock_of}
use Rattle.lethe_turn.specs.declared.view.View.{View}
use Rattle.lethe_store.specs.declared.entry.Entry.{Entry}
use Rattle.lethe_store.specs.declared.entry.Mark.{Mark}
use Rattle.lethe_store.specs.declared.entry.Mark.TheVariants.{Made}
use Rattle.lethe_store.specs.StoreViews.{StoreView}
use Rattle.lethe_store.specs.Diary.{made_in, spent_by}
use Rattle.lethe_store.specs.Entries.{changes_of, clock_along}

-- what a pin notes: that it was made, or that numbers are used up
abbrev pub pinned_by : {D Page Port : Type 0} {kind : Ghosts D Page Port} → Result (Snapshot D Page Port kind) Refused → List Mark
pinned_by (Ok snapshot) = Made snapshot.pin.number snapshot.pin.limit ∷ []
pinned_by (Err why) = spent_by (Some why)

module _ {V : Type 0} where
  -- by what it has noted so many pins were made, those included that the opened store had made
  abbrev pub HasMade : (V → StoreView) → View V Entry Mark → ℕ → Type 0
  HasMade see v number = (o : V) → v.opened ≡ Some o → number ≡ (see o).view.pins.made + length (made_in v.noted)

  -- The snapshot shows the history that it has seen, without what failed, whatever history the opened store stood for, on a disk that tells what it holds. Its limit is above the clock there, and
  -- at most the threshold above it.
  pub record IsPointOf {D Page Port : Type 0} {kind : Ghosts D Page Port} (Tells : Type 0) (see : V → StoreView) (v : View V Entry Mark) (snapshot : Snapshot D Page Port kind) : Type 0 where
    pub shows : (o : V) → v.opened ≡ Some o → Tells → (config : Fields) (opened : Opened) (h : History) → StandsSince config opened h (see o).view → IsOf (without_failed (h ++ changes_of v.seen)) snapshot
    pub above : (o : V) → v.opened ≡ Some o → Tells → (config : Fields) (opened : Opened) (h : History) → StandsSince config opened h (see o).view
        → (clock_along (clock_of (see o).view.state.manifest) v.seen).time < snapshot.pin.limit
    pub near : (o : V) → v.opened ≡ Some o → Tells → (config : Fields) (opened : Opened) (h : History) → StandsSince config opened h (see o).view
        → snapshot.pin.limit ≤ config.threshold + (clock_along (clock_of (see o).view.state.manifest) v.seen).time

  -- why a pin is refused: as many were made as there are numbers, or there was no memory
  abbrev pub HasReasonOfPin : (V → StoreView) → View V Entry Mark → Refused → Type 0
  HasReasonOfPin see v (Exhausted last) = (last ≡ max_place) × HasMade see v max_place
  HasReasonOfPin see v NoMemory = Unit {0}
  HasReasonOfPin see v (Fault place before after) = ⊥
  HasReasonOfPin see v (Stopped at) = ⊥
  HasReasonOfPin see v (Backwards clock) = ⊥
  HasReasonOfPin see v (Pinned pin limit) = ⊥
  HasReasonOfPin see v NothingDue = ⊥
  HasReasonOfPin see v (Cancelled begun other) = ⊥
  HasReasonOfPin see v (ReadFault before after) = ⊥
  HasReasonOfPin see v (Damaged name) = ⊥
