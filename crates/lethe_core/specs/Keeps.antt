-- What each step of a call needs, and what it keeps.
use Rattle.std.specs.Prelude.{◌≡◌, ◌≤◌, ◌<◌, ℕ, ◌+◌, Option, None}
use Rattle.lethe_base.specs.History.{History}
use Rattle.lethe_base.specs.Limits.{max_place}
use Rattle.lethe_base.specs.declared.call.Call.{Call}
use Rattle.lethe_base.specs.declared.call.Call.TheVariants.{Work}
use Rattle.lethe_base.specs.declared.config.Fields.{Fields}
use Rattle.lethe_base.specs.declared.refused.Refused.{Refused}
use Rattle.lethe_stored.specs.Kept.{IsKept}
use Rattle.lethe_stored.specs.Numbers.{GoesFrom}
use Rattle.lethe_state.specs.Clock.{clock_of}
use Rattle.lethe_core.specs.Asked.{Serves, behind, counted, stopped_by}
use Rattle.lethe_core.specs.Pinned.{AreKept, AreRetiredFrom}
use Rattle.lethe_core.specs.Running.{IsSound}
use Rattle.lethe_core.specs.StandsNow.{StandsNow}
use Rattle.lethe_core.specs.View.{View}

-- Nothing has failed, there is a place for what may fail, and a failure is told from a count of faults on.
pub record MayStep (Tells : Type 0) (view : View) (before : ℕ) : Type 0 where
  pub sound : IsSound Tells view
  pub runs : view.state.stopped ≡ None
  pub fits : view.state.count < max_place
  pub told_from : before ≤ view.faults

-- The store is sound, and stands for the same history, or where the disk failed for that with the call that failed in it, by which it is stopped then. The clock is as it was. A crash at any
-- moment of the step leaves what is kept for the history, and numbers are drawn no faster than device calls are made, and the next one doesn't fall. The same pins are held, each object
-- that one of them names is as it was, byte for byte, also where the disk failed, and no page is retired but those that were and those that a held pin names.
pub record Keeps (Tells : Type 0) (old new : View) (why : Option Refused) : Type 0 where
  pub sound : IsSound Tells new
  pub count : new.state.count ≡ counted (Serves Work) why old.state.count
  pub stopped : new.state.stopped ≡ stopped_by why old.state.stopped
  pub clock : clock_of new.state.manifest ≡ clock_of old.state.manifest
  pub stands : Tells → (config : Fields) (h : History) → StandsNow config h old → (caller : ℕ) (call : Call) → StandsNow config (behind h caller (Serves call) why) new
  pub any_moment : Tells → (config : Fields) (h : History) → StandsNow config h old → GoesFrom old.state.next (λ c. IsKept config c h) old.disk new.disk
  pub numbers : Tells → new.state.next + old.disk.moment ≤ old.state.next + new.disk.moment
  pub drawn : old.state.next ≤ new.state.next
  pub faults : old.faults ≤ new.faults
  pub retired : AreRetiredFrom old.pins.pins old.retired new.retired
  pub pins : new.pins ≡ old.pins
  pub pinned : Tells → AreKept old.pins.pins old.disk.directory new.disk.directory
