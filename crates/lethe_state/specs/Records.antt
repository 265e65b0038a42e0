-- The records of changes, and what they make of a state.
use Rattle.std.specs.Prelude.{◌≡◌, ◌⊎◌, ◌<◌, ℕ, ◌+◌, min, List, ◌++◌, map, flat_map, option_to_list, Any, IsSome, Option, Some, None, unwrap_or, option_and_then}
use Rattle.std.specs.Option.{option_or}
use Rattle.lethe_base.specs.Keys.{Bytes}
use Rattle.lethe_base.specs.Limits.{max_place}
use Rattle.lethe_base.specs.Ranges.{Ends}
use Rattle.lethe_base.specs.Shapes.{earlier}
use Rattle.lethe_base.specs.Entries.{entry_of, Inserts}
use Rattle.lethe_base.specs.declared.entry.Body.TheVariants.{Put, Tomb}
use Rattle.lethe_base.specs.declared.entry.Entry.{Entry}
use Rattle.lethe_base.specs.declared.pending.Pending.{Pending}
use Rattle.lethe_base.specs.declared.refused.Refused.{Refused}
use Rattle.lethe_base.specs.declared.refused.Refused.TheVariants.{Fault, Stopped, Backwards, Pinned, NothingDue, Cancelled, Exhausted, ReadFault, NoMemory, Damaged}
use Rattle.lethe_header.specs.declared.header.Header.{Header}
use Rattle.lethe_mem.specs.Buffered.{Buffered}
use Rattle.lethe_segment.specs.declared.record.Record.{Record}
use Rattle.lethe_segment.specs.declared.record.Record.TheVariants as of
use Rattle.lethe_stored.specs.Files.{Parts}
use Rattle.lethe_stored.specs.Stored.{erase_of}
use Rattle.lethe_follows.specs.Young.{time_of}
use Rattle.lethe_version.specs.Probing.{bound}
use Rattle.lethe_state.specs.Firsts.{firsts_with}
use Rattle.lethe_state.specs.declared.state.State.{State}

-- why no change is begun: an earlier one failed at that place, or the places are used up
abbrev pub MayRefuse : State → Refused → Type 0
MayRefuse state (Stopped at) = state.stopped ≡ Some at
MayRefuse state (Exhausted last) = (state.stopped ≡ None) × (state.count ≡ max_place) × (last ≡ max_place)
MayRefuse state (Fault place before after) = ⊥
MayRefuse state (Backwards clock) = ⊥
MayRefuse state (Pinned pin limit) = ⊥
MayRefuse state NothingDue = ⊥
MayRefuse state (Cancelled begun now) = ⊥
MayRefuse state (ReadFault before after) = ⊥
MayRefuse state NoMemory = ⊥
MayRefuse state (Damaged name) = ⊥

-- the time of the entry of a key
abbrev pub since_of : Bytes → List Entry → Option ℕ
since_of key entries = option_and_then (λ entry. entry.since) (entry_of key entries)

-- the record of a put, which takes the time of the active buffer's entry of the key
abbrev pub put_record : State → Bytes → ℕ → Bytes → Record
put_record state key dkey value = of.Entry (record { seq = state.count + 1; key = key; body = Put dkey value; since = since_of key state.active.entries })

-- a tombstone, with the clock or the smaller time of the active buffer's entry of the key
abbrev pub tomb_record : State → Bytes → Record
tomb_record state key = of.Entry (record { seq = state.count + 1; key = key; body = Tomb; since = Some (min state.manifest.clock (unwrap_or (since_of key state.active.entries) state.manifest.clock)) })

-- the entry of a key in the frozen buffer, if there is one
abbrev pub frozen_entry : Bytes → Option Buffered → Option Entry
frozen_entry key frozen = option_and_then (λ buffer. entry_of key buffer.entries) frozen

-- the headers of files by level
abbrev pub headers_in : List (List Parts) → List Header
headers_in levels = map (λ parts. parts.header) (flat_map (λ files. files) levels)

-- a buffer has an entry of the key, or a page of a file may have one by its tile's fence and its filter
abbrev pub MayBeHeld : State → List Header → Bytes → Type 0
MayBeHeld state headers key = IsSome (option_or (entry_of key state.active.entries) (frozen_entry key state.frozen)) ⊎ Any (λ header. 0 < bound key header) headers

-- a delete leaves a tombstone exactly where something of the key may be held, and else its place alone
abbrev pub IsDeleteRecord : State → List Header → Bytes → Record → Type 0
IsDeleteRecord state headers key next =
    (MayBeHeld state headers key × (next ≡ tomb_record state key))
    ⊎ ((MayBeHeld state headers key → ⊥) × (next ≡ of.Blind (state.count + 1)))

-- the record of an erase, with the clock
abbrev pub erase_record : State → Ends → Record
erase_record state range = of.Erase (record { seq = state.count + 1; time = state.manifest.clock; range = range })

-- the pending erases with the record's, where it is an erase
abbrev pub pending_with : List Pending → Record → List Pending
pending_with pending next = pending ++ option_to_list (erase_of next)

-- what a record makes of the newest entries
abbrev pub Enters : Record → List Entry → List Entry → Type 0
Enters (of.Entry entry) old new = Inserts entry old new
Enters (of.Blind place) old new = new ≡ old
Enters (of.Erase erase) old new = new ≡ old

-- all but the memory that was reserved is as it was
pub record IsLike (old new : State) : Type 0 where
  pub manifest : new.manifest ≡ old.manifest
  pub count : new.count ≡ old.count
  pub pending : new.pending ≡ old.pending
  pub active : new.active.entries ≡ old.active.entries
  pub records : new.records ≡ old.records
  pub end_is : new.end ≡ old.end
  pub oldest : new.oldest ≡ old.oldest
  pub firsts : new.firsts ≡ old.firsts
  pub frozen : new.frozen ≡ old.frozen
  pub frozen_oldest : new.frozen_oldest ≡ old.frozen_oldest
  pub frozen_firsts : new.frozen_firsts ≡ old.frozen_firsts
  pub stopped : new.stopped ≡ old.stopped
  pub next : new.next ≡ old.next

-- with a record more in the active segment, which ends there then
pub record IsNext (next : Record) (end : ℕ) (old new : State) : Type 0 where
  pub manifest : new.manifest ≡ old.manifest
  pub count : new.count ≡ old.count + 1
  pub pending : new.pending ≡ pending_with old.pending next
  pub active : Enters next old.active.entries new.active.entries
  pub records : new.records ≡ old.records + 1
  pub end_is : new.end ≡ end
  pub oldest : new.oldest ≡ earlier old.oldest (time_of next)
  pub firsts : new.firsts ≡ firsts_with old.firsts next
  pub frozen : new.frozen ≡ old.frozen
  pub frozen_oldest : new.frozen_oldest ≡ old.frozen_oldest
  pub frozen_firsts : new.frozen_firsts ≡ old.frozen_firsts
  pub stopped : new.stopped ≡ old.stopped
  pub drawn : new.next ≡ old.next

-- with the record entered, wherever the active segment ends then
abbrev pub HasEntered : Record → State → State → Type 0
HasEntered next old new = (end : ℕ) × IsNext next end old new

-- with the next place's change or work failed, and all else as it was
abbrev pub halted : State → State
halted state = record state { count = state.count + 1; stopped = Some (state.count + 1) }
