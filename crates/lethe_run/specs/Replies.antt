-- The replies to changes, and to reads that are refused.
use Rattle.std.specs.Prelude.{ℕ, Result, Ok, Err}
use Rattle.lethe_base.specs.declared.memory.NoMemory.{NoMemory}
use Rattle.lethe_base.specs.declared.refused.Refused.{Refused}
use Rattle.lethe_base.specs.declared.refused.Refused.TheVariants as refused
use Rattle.lethe_engine.specs.declared.ticking.Ticked.{Ticked}
use Rattle.lethe_run.specs.declared.reply.Reply.{Reply}
use Rattle.lethe_run.specs.declared.reply.Reply.TheVariants.{Done, Fault, Stopped, Exhausted, Backwards, Barred, ReadFault, Damaged}
use Rattle.lethe_run.specs.declared.reply.Reply.TheVariants as reply

-- the refusals that a change may be answered
abbrev pub IsOfChange : Refused → Type 0
IsOfChange (refused.Fault place before after) = Unit {0}
IsOfChange (refused.Stopped at) = Unit {0}
IsOfChange (refused.Exhausted last) = Unit {0}
IsOfChange refused.NoMemory = Unit {0}
IsOfChange (refused.Backwards clock) = ⊥
IsOfChange (refused.Pinned pin limit) = ⊥
IsOfChange refused.NothingDue = ⊥
IsOfChange (refused.Cancelled begun now) = ⊥
IsOfChange (refused.ReadFault before after) = Unit {0}
IsOfChange (refused.Damaged name) = Unit {0}

-- the reply to a refusal; none where there was no memory
abbrev pub refusal_of : Refused → Result Reply NoMemory
refusal_of (refused.Fault place before after) = Ok (Fault place before after)
refusal_of (refused.Stopped at) = Ok (Stopped at)
refusal_of (refused.Exhausted last) = Ok (Exhausted last)
refusal_of refused.NoMemory = Err (record {})
refusal_of (refused.Backwards clock) = Err (record {})
refusal_of (refused.Pinned pin limit) = Err (record {})
refusal_of refused.NothingDue = Err (record {})
refusal_of (refused.Cancelled begun now) = Err (record {})
refusal_of (refused.ReadFault before after) = Ok ReadFault
refusal_of (refused.Damaged name) = Ok (Damaged name.no)

-- and those that a tick may be
abbrev pub IsOfTick : Refused → Type 0
IsOfTick (refused.Fault place before after) = Unit {0}
IsOfTick (refused.Stopped at) = Unit {0}
IsOfTick (refused.Exhausted last) = Unit {0}
IsOfTick refused.NoMemory = Unit {0}
IsOfTick (refused.Backwards clock) = Unit {0}
IsOfTick (refused.Pinned pin limit) = Unit {0}
IsOfTick refused.NothingDue = ⊥
IsOfTick (refused.Cancelled begun now) = ⊥
IsOfTick (refused.ReadFault before after) = Unit {0}
IsOfTick (refused.Damaged name) = Unit {0}

abbrev pub reply_of : Result ℕ Refused → Result Reply NoMemory
reply_of (Ok place) = Ok (Done place)
reply_of (Err why) = refusal_of why

-- the reply to a refusal of a tick that was asked for behind so many places
abbrev pub tick_refusal_of : ℕ → Refused → Result Reply NoMemory
tick_refusal_of point (refused.Backwards clock) = Ok (Backwards point clock)
tick_refusal_of point (refused.Pinned pin limit) = Ok (Barred pin limit)
tick_refusal_of point (refused.Fault place before after) = refusal_of (refused.Fault place before after)
tick_refusal_of point (refused.Stopped at) = refusal_of (refused.Stopped at)
tick_refusal_of point (refused.Exhausted last) = refusal_of (refused.Exhausted last)
tick_refusal_of point refused.NoMemory = refusal_of refused.NoMemory
tick_refusal_of point refused.NothingDue = refusal_of refused.NothingDue
tick_refusal_of point (refused.Cancelled begun now) = refusal_of (refused.Cancelled begun now)
tick_refusal_of point (refused.ReadFault before after) = refusal_of (refused.ReadFault before after)
tick_refusal_of point (refused.Damaged name) = refusal_of (refused.Damaged name)

abbrev pub tick_reply_of : ℕ → Result Ticked Refused → Result Reply NoMemory
tick_reply_of point (Ok ticked) = Ok (reply.Ticked ticked)
tick_reply_of point (Err why) = tick_refusal_of point why

-- the reply to a refusal of a read; none where there was no memory
abbrev pub unread_of : Refused → Result Reply NoMemory
unread_of (refused.ReadFault before after) = Ok ReadFault
unread_of (refused.Damaged name) = Ok (Damaged name.no)
unread_of refused.NoMemory = Err (record {})
unread_of (refused.Fault place before after) = Err (record {})
unread_of (refused.Stopped at) = Err (record {})
unread_of (refused.Exhausted last) = Err (record {})
unread_of (refused.Backwards clock) = Err (record {})
unread_of (refused.Pinned pin limit) = Err (record {})
unread_of refused.NothingDue = Err (record {})
unread_of (refused.Cancelled begun now) = Err (record {})
