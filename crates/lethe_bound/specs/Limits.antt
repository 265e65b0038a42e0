-- The limit of a pin, at which a tick lets its pages go, and what it bounds.
use Rattle.std.specs.Prelude.{◌≡◌, ◌⊎◌, ℕ, ◌+◌, ◌≤◌, List, Contains, Some, length}
use Rattle.lethe_base.specs.Causes.{erased}
use Rattle.lethe_base.specs.Held.{Holds, IsRecorded}
use Rattle.lethe_base.specs.History.{History, after}
use Rattle.lethe_base.specs.Layout.{Layout, Erasing}
use Rattle.lethe_base.specs.Matching.{IsPut}
use Rattle.lethe_base.specs.Spent.{left_erases}
use Rattle.lethe_base.specs.declared.entry.Entry.{Entry}
use Rattle.lethe_base.specs.declared.pending.Pending.{Pending}

-- the erase is pending and still to be done, or a segment records it
abbrev pub IsOwed : Layout → Pending → Type 0
IsOwed l erase = Contains (left_erases l) erase ⊎ IsRecorded l (Erasing erase)

-- it is the time of an entry that is held, or of an erase that is owed
abbrev pub IsObligation : Layout → ℕ → Type 0
IsObligation l time = ((entry : Entry) × (swept : ℕ) × Holds l entry swept × (entry.since ≡ Some time)) ⊎ ((erase : Pending) × IsOwed l erase × (erase.time ≡ time))

-- a threshold later than the clock, or than the oldest obligation where that is earlier
pub record IsLimit (threshold : ℕ) (l : Layout) (limit : ℕ) : Type 0 where
  pub clock : limit ≤ threshold + l.clock
  pub oldest : (time : ℕ) → IsObligation l time → limit ≤ threshold + time
  pub one : (limit ≡ threshold + l.clock) ⊎ ((time : ℕ) × IsObligation l time × (limit ≡ threshold + time))

-- the layout holds the put of that place
pub record HoldsPut (l : Layout) (place : ℕ) : Type 0 where
  pub entry : Entry
  pub swept : ℕ
  pub held : Holds l entry swept
  pub put : IsPut entry.body
  pub seq : entry.seq ≡ place

-- the place isn't behind the history's end
abbrev pub IsPlaceOf : History → ℕ → Type 0
IsPlaceOf h place = place ≤ length h

-- Nothing that was put at these places was erased more than a threshold before the limit, and nothing will have been: what is still to
-- be erased is erased at the clock or later, and the clock isn't earlier than that either.
pub record IsBounded (threshold limit : ℕ) (h : History) (places : List ℕ) : Type 0 where
  pub clock : limit ≤ threshold + (after h).clock
  pub counted : (place : ℕ) → Contains places place → IsPlaceOf h place
  pub each : (place time : ℕ) → Contains places place → erased h place ≡ Some time → limit ≤ threshold + time
