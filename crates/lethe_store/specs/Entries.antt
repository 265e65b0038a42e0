-- The entries of a history of changes, and which of them a call comes to.
use Rattle.std.specs.Prelude.{ℕ, ◌+◌, List, [], ◌∷◌, fold, map, Option, Some, None, option_map}
use Rattle.lethe_base.specs.History.{Change}
use Rattle.lethe_base.specs.declared.call.Call.{Call}
use Rattle.lethe_base.specs.declared.call.Did.{Did}
use Rattle.lethe_base.specs.declared.call.Did.TheVariants.{Done, Failed}
use Rattle.lethe_base.specs.declared.refused.Refused.{Refused}
use Rattle.lethe_core.specs.Asked.{Asked, Makes, Serves, call_in, clock_behind, failure_of}
use Rattle.lethe_state.specs.Clock.{Clock}
use Rattle.lethe_store.specs.declared.entry.Entry.{Entry}

-- the change that an entry is
abbrev pub change_of : Entry → Change
change_of entry = record { caller = entry.caller; call = entry.call; did = entry.did }

abbrev pub changes_of : List Entry → List Change
changes_of entries = map change_of entries

abbrev pub entry_of : ℕ → Did → Call → Entry
entry_of caller did call = record { caller = caller; call = call; did = did }

-- the entries of calls that went so, or are in no history
abbrev pub entries_of : ℕ → List Call → Option Did → List Entry
entries_of caller calls None = []
entries_of caller calls (Some did) = map (entry_of caller did) calls

-- how a call went in which the disk failed
abbrev pub failed_by : Refused → Option Did
failed_by why = option_map (λ failure. Failed failure.before failure.after) (failure_of why)

-- how a call went, by why it was refused, if it was; none where it is in no history
abbrev pub did_by : Asked → Option Refused → Option Did
did_by (Makes call) None = Some Done
did_by (Serves call) None = None
did_by asked (Some why) = failed_by why

-- the entries that it comes to: one that is done, one that failed, or none
abbrev pub entries_by : ℕ → Asked → Option Refused → List Entry
entries_by caller asked why = entries_of caller (call_in asked ∷ []) (did_by asked why)

-- the place of a change by which a store is stopped, if it failed there
abbrev pub failed_at : Did → ℕ → Option ℕ
failed_at Done place = None
failed_at (Failed before after) place = Some place

-- the place of the change by which a store is stopped behind these entries, of which so many lie before the first: the one by which it was stopped before, else the first that failed
abbrev pub stopped_behind : Option ℕ → ℕ → List Entry → Option ℕ
stopped_behind (Some at) count entries = Some at
stopped_behind None count [] = None
stopped_behind None count (entry ∷ entries) = stopped_behind (failed_at entry.did (count + 1)) (count + 1) entries

-- the clock behind a change that went so
abbrev pub clock_by : Did → Call → Clock → Clock
clock_by Done call clock = clock_behind (Makes call) None clock
clock_by (Failed before after) call clock = clock

-- the clock behind these entries
abbrev pub clock_along : Clock → List Entry → Clock
clock_along clock entries = fold (λ clock entry. clock_by entry.did entry.call clock) clock entries
