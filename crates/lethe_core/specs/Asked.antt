-- What a call is asked, and what its answer says of the history, of its length, and of whether the store is stopped.
use Rattle.std.specs.Prelude.{ℕ, ◌+◌, Option, Some, None, option_map}
use Rattle.std.specs.Option.{option_map_or, option_or}
use Rattle.lethe_base.specs.History.{History, Change}
use Rattle.lethe_base.specs.declared.call.Call.{Call}
use Rattle.lethe_base.specs.declared.call.Call.TheVariants.{Tick}
use Rattle.lethe_base.specs.declared.call.Did.TheVariants.{Done}
use Rattle.lethe_base.specs.declared.refused.Refused.{Refused}
use Rattle.lethe_base.specs.declared.refused.Refused.TheVariants.{Fault, Stopped, Backwards, Pinned, NothingDue, Cancelled, Exhausted, ReadFault, NoMemory, Damaged}
use Rattle.lethe_cover.specs.Steps.{with_done, with_failed}
use Rattle.lethe_state.specs.Clock.{Clock, clock_at}

pub data Asked : Type 0 where
  -- to make a change
  Makes : Call → Asked
  -- to do what is in no history where it is done: work, a look, or a step on the way to a change
  Serves : Call → Asked

-- the call that failed, where the disk fails
abbrev pub call_in : Asked → Call
call_in (Makes call) = call
call_in (Serves call) = call

-- that the disk failed in a call: the place that this has in the history, and the disk's counts of faults before and behind
pub record Failure : Type 0 where
  pub place : ℕ
  pub before : ℕ
  pub after : ℕ

-- a refusal tells of it, or of something else
abbrev pub failure_of : Refused → Option Failure
failure_of (Fault place before after) = Some (record { place = place; before = before; after = after })
failure_of (Stopped at) = None
failure_of (Backwards clock) = None
failure_of (Pinned pin limit) = None
failure_of NothingDue = None
failure_of (Cancelled begun now) = None
failure_of (Exhausted last) = None
failure_of (ReadFault before after) = None
failure_of NoMemory = None
failure_of (Damaged name) = None

-- the history with a call, where the disk failed in it
abbrev pub refused_to : History → ℕ → Call → Refused → History
refused_to h caller call why = option_map_or (λ failure. with_failed h caller call failure.before failure.after) (failure_of why) h

-- the history behind a call, by why it was refused, if it was
abbrev pub behind : History → ℕ → Asked → Option Refused → History
behind h caller (Makes call) None = with_done h caller call
behind h caller (Serves call) None = h
behind h caller asked (Some why) = refused_to h caller (call_in asked) why

-- how many changes there are behind it, one that failed included
abbrev pub counted : Asked → Option Refused → ℕ → ℕ
counted (Makes call) None count = count + 1
counted (Serves call) None count = count
counted asked (Some why) count = option_map_or (λ failure. count + 1) (failure_of why) count

-- the place of the call by which the store is stopped behind it, if it is
abbrev pub stopped_by : Option Refused → Option ℕ → Option ℕ
stopped_by None stopped = stopped
stopped_by (Some why) stopped = option_or (option_map (λ failure. failure.place) (failure_of why)) stopped

-- the clock behind it: a tick that is done moves it to its time, and nothing else changes it
abbrev pub clock_behind : Asked → Option Refused → Clock → Clock
clock_behind (Makes (Tick to)) None clock = clock_at clock to
clock_behind asked why clock = clock

-- a change that is carried out
abbrev pub done_by : ℕ → Call → Change
done_by caller call = record { caller = caller; call = call; did = Done }

-- the change that may have been written: it was where it is made, and may have been where the disk failed in it
abbrev pub written_by : ℕ → Asked → Option Refused → Option Change
written_by caller (Makes call) None = Some (done_by caller call)
written_by caller (Makes call) (Some why) = option_map (λ failure. done_by caller call) (failure_of why)
written_by caller (Serves call) why = None
