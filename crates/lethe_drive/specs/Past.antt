-- Jobs of earlier rounds, in a run of events.
use Rattle.std.specs.Prelude.{◌≡◌, ◌≢◌, ◌<◌, ℕ, ◌+◌, true, if◌then◌else◌, List, [], ◌∷◌, ◌++◌, All, Option, Some, None}
use Rattle.lethe_base.specs.History.{History}
use Rattle.lethe_base.specs.declared.refused.Refused.{Refused}
use Rattle.lethe_base.specs.declared.refused.Refused.TheVariants.{Cancelled, Stopped}
use Rattle.lethe_drive.specs.Moments.{Going, Moment}
use Rattle.lethe_drive.specs.declared.event.Event.{Event}
use Rattle.lethe_drive.specs.declared.event.Event.TheVariants.{Put, Delete, Erase, Tick, Get, Scan, Freeze, Flush, Begin, WriteOut, Install, Cancel, Pin, Release}
use Rattle.lethe_drive.specs.declared.event.Reply.{Reply}
use Rattle.lethe_drive.specs.declared.event.Reply.TheVariants as reply
use Rattle.lethe_drive.specs.declared.past.Past.{Past}

-- the number of the job that an event names
abbrev pub named_by : Event → Option ℕ
named_by (WriteOut job) = Some job
named_by (Install job) = Some job
named_by (Cancel job) = Some job
named_by (Put key dkey value) = None
named_by (Delete key) = None
named_by (Erase range) = None
named_by (Tick to) = None
named_by (Get key) = None
named_by (Scan lo hi) = None
named_by Freeze = None
named_by Flush = None
named_by Begin = None
named_by Pin = None
named_by (Release pin) = None

-- it asks for a tick
abbrev pub IsTickAsked : Event → Type 0
IsTickAsked (Tick to) = Unit {0}
IsTickAsked (Put key dkey value) = ⊥
IsTickAsked (Delete key) = ⊥
IsTickAsked (Erase range) = ⊥
IsTickAsked (Get key) = ⊥
IsTickAsked (Scan lo hi) = ⊥
IsTickAsked Freeze = ⊥
IsTickAsked Flush = ⊥
IsTickAsked Begin = ⊥
IsTickAsked (WriteOut job) = ⊥
IsTickAsked (Install job) = ⊥
IsTickAsked (Cancel job) = ⊥
IsTickAsked Pin = ⊥
IsTickAsked (Release pin) = ⊥

-- what is left of a job where its round ends
abbrev pub left_of : Going → Past
left_of going = record { number = going.number; round = going.round; refused = going.refused }

abbrev pub all_left : Option Going → List Past
all_left None = []
all_left (Some going) = left_of going ∷ []

-- A run at one time: the store with the job of the present round, and the jobs of earlier rounds that haven't ended, in the order of these.
pub record Run : Type 0 where
  pub now : Moment
  pub past : List Past

-- each was begun in a round that has ended
abbrev pub AreEarlier : ℕ → List Past → Type 0
AreEarlier rounds past = All (λ job. job.round < rounds) past

-- none of them has the number
abbrev pub IsNoneOf : ℕ → List Past → Type 0
IsNoneOf number past = All (λ job. job.number ≢ number) past

-- why it may not go on: nothing has failed, and its round has ended; or a call has failed
abbrev pub refusal_of : Option ℕ → ℕ → ℕ → Refused
refusal_of None begun now = Cancelled begun now
refusal_of (Some at) begun now = Stopped at

-- it was to go on: it is refused for that reason, and from then on there is no such job but to be given up
abbrev pub refused_as : Option ℕ → ℕ → Past → Reply
refused_as stopped now job = if job.refused then reply.NoSuch else reply.Refused (refusal_of stopped job.round now)

-- it was given up
abbrev pub given_up_as : Option ℕ → Reply
given_up_as None = reply.Unit
given_up_as (Some at) = reply.Refused (Stopped at)

-- A job of an earlier round was to go on. The store is as it was.
pub record IsPastRefused (number : ℕ) (h : History) (old : Run) (answer : Reply) (g : History) (new : Run) : Type 0 where
  pub front : List Past
  pub job : Past
  pub back : List Past
  pub among : old.past ≡ front ++ job ∷ back
  pub number_is : job.number ≡ number
  pub answer_is : answer ≡ refused_as old.now.state.stopped old.now.rounds job
  pub history : g ≡ h
  pub now : new.now ≡ old.now
  pub past : new.past ≡ front ++ record job { refused = true } ∷ back

-- A job of an earlier round was given up: it has ended, and the store is as it was, since nothing of it was left there.
pub record IsPastGivenUp (number : ℕ) (h : History) (old : Run) (answer : Reply) (g : History) (new : Run) : Type 0 where
  pub front : List Past
  pub job : Past
  pub back : List Past
  pub among : old.past ≡ front ++ job ∷ back
  pub number_is : job.number ≡ number
  pub answer_is : answer ≡ given_up_as old.now.state.stopped
  pub history : g ≡ h
  pub now : new.now ≡ old.now
  pub past : new.past ≡ front ++ back

-- the round goes on
pub record IsRoundKept (old new : Run) : Type 0 where
  pub rounds : new.now.rounds ≡ old.now.rounds
  pub past : new.past ≡ old.past

-- the round has ended, and the job that was there is one of an earlier round
pub record IsRoundEnded (old new : Run) : Type 0 where
  pub rounds : new.now.rounds ≡ old.now.rounds + 1
  pub there : new.now.there ≡ None
  pub past : new.past ≡ old.past ++ all_left old.now.there
