-- The times that a store remembers, none of which is due.
use Rattle.std.specs.Prelude.{◌≡◌, ℕ, ◌+◌, ◌<◌, Some}
use Rattle.lethe_base.specs.History.{History, clock_before}
use Rattle.lethe_base.specs.Causes.{done_at}
use Rattle.lethe_base.specs.declared.call.Call.{Call}
use Rattle.lethe_base.specs.declared.call.Call.TheVariants.{Put, Delete, Erase, Tick, Work}
use Rattle.lethe_base.specs.declared.entry.Entry.{Entry}
use Rattle.lethe_base.specs.declared.pending.Pending.{Pending}

-- whether a call may give an entry its time
abbrev pub IsErasure : Call → Type 0
IsErasure (Put key dkey value) = ⊥
IsErasure (Delete key) = Unit {0}
IsErasure (Erase range) = Unit {0}
IsErasure (Tick to) = ⊥
IsErasure Work = ⊥

-- the time of a done delete or erase, less than a threshold before the clock
pub record IsFresh (threshold : ℕ) (h : History) (clock time : ℕ) : Type 0 where
  pub place : ℕ
  pub call : Call
  pub done : done_at h place ≡ Some call
  pub erasure : IsErasure call
  pub timed : time ≡ clock_before h place
  pub fresh : clock < time + threshold

-- each time that is held or told of is fresh
pub record AreFresh (threshold : ℕ) (h : History) (clock : ℕ) (holds : Entry → ℕ → Type 0) (tells : Pending → Type 0) : Type 0 where
  pub entries : (entry : Entry) (swept since : ℕ) → holds entry swept → entry.since ≡ Some since → IsFresh threshold h clock since
  pub erases : (erase : Pending) → tells erase → IsFresh threshold h clock erase.time
