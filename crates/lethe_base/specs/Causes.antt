-- When what was put is erased, and by which change.
use Rattle.std.specs.Prelude.{◌≡◌, ℕ, ◌+◌, ◌<◌, ◌≤◌, Bool, false, IsTrue, drop, position, Option, Some, None, IsSomeAnd, option_map, option_and_then}
use Rattle.lethe_base.specs.Keys.{Bytes, same_key}
use Rattle.lethe_base.specs.Ranges.{in_range}
use Rattle.lethe_base.specs.History.{History, Change, change_at, clock_before}
use Rattle.lethe_base.specs.declared.call.Call.{Call}
use Rattle.lethe_base.specs.declared.call.Call.TheVariants.{Put, Delete, Erase, Tick, Work}
use Rattle.lethe_base.specs.declared.call.Did.{Did}
use Rattle.lethe_base.specs.declared.call.Did.TheVariants.{Done, Failed}

-- the call, if it was done
abbrev pub done_call : Did → Call → Option Call
done_call Done call = Some call
done_call (Failed before after) call = None

-- the call that was done at a place
abbrev pub done_at : History → ℕ → Option Call
done_at h place = option_and_then (λ change. done_call change.did change.call) (change_at h place)

-- whether a call erases what was put under the key with the delete key
abbrev pub erases : Bytes → ℕ → Call → Bool
erases key dkey (Put other d value) = false
erases key dkey (Delete other) = same_key key other
erases key dkey (Erase range) = in_range range dkey
erases key dkey (Tick to) = false
erases key dkey Work = false

abbrev pub erases_if : Bytes → ℕ → Did → Call → Bool
erases_if key dkey Done call = erases key dkey call
erases_if key dkey (Failed before after) call = false

-- whether a change was done and erases it
abbrev pub is_eraser : Bytes → ℕ → Change → Bool
is_eraser key dkey change = erases_if key dkey change.did change.call

-- behind a place, the first place whose change erases what the call puts
abbrev pub cause_behind : History → ℕ → Call → Option ℕ
cause_behind h place (Put key dkey value) = option_map (λ between. place + between + 1) (position (is_eraser key dkey) (drop place h))
cause_behind h place (Delete key) = None
cause_behind h place (Erase range) = None
cause_behind h place (Tick to) = None
cause_behind h place Work = None

-- The cause of a done put at a place: the first place behind it of a done delete of its key, or of a done erase that has
-- its delete key in range.
abbrev pub cause_of : History → ℕ → Option ℕ
cause_of h place = option_and_then (cause_behind h place) (done_at h place)

-- the time at which what was put at a place was erased
abbrev pub erased : History → ℕ → Option ℕ
erased h place = option_map (clock_before h) (cause_of h place)

-- what was put at the place was erased a threshold before that time, or longer ago
abbrev pub IsOverdue : ℕ → History → ℕ → ℕ → Type 0
IsOverdue threshold h time place = IsSomeAnd (erased h place) (λ since. since + threshold ≤ time)

-- a change at the place was done and erases the pair
abbrev pub IsErasedAt : History → Bytes → ℕ → ℕ → Type 0
IsErasedAt h key dkey place = IsSomeAnd (change_at h place) (λ change. IsTrue (is_eraser key dkey change))

-- the second place is the first behind the other that erases what was put there
pub record IsCause (h : History) (place cause : ℕ) : Type 0 where
  pub key : Bytes
  pub dkey : ℕ
  pub value : Bytes
  pub put : done_at h place ≡ Some (Put key dkey value)
  pub later : place < cause
  pub erases : IsErasedAt h key dkey cause
  pub first : (between : ℕ) → place < between → between < cause → IsErasedAt h key dkey between → ⊥
