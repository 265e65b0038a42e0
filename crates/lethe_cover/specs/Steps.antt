-- The steps by which a layout follows its history.
use Rattle.std.specs.Prelude.{◌≡◌, ℕ, ◌+◌, ◌≤◌, min, [], ◌∷◌, ◌++◌, length, Option, Some, unwrap_or, option_and_then}
use Rattle.std.specs.FinMap as finmap
use Rattle.lethe_base.specs.Keys.{Bytes}
use Rattle.lethe_base.specs.History.{History}
use Rattle.lethe_base.specs.Ranges.{Ends}
use Rattle.lethe_base.specs.Layout.{Layout, Record, Erasing, place_of, buffer_of}
use Rattle.lethe_base.specs.Held.{IsRecorded}
use Rattle.lethe_base.specs.declared.call.Call.{Call}
use Rattle.lethe_base.specs.declared.call.Did.TheVariants.{Done, Failed}
use Rattle.lethe_base.specs.declared.entry.Body.TheVariants.{Put, Tomb}
use Rattle.lethe_base.specs.declared.entry.Entry.{Entry}
use Rattle.lethe_base.specs.declared.pending.Pending.{Pending}

-- the place of the next change
abbrev pub next_place : History → ℕ
next_place h = length h + 1

-- the history with one more call, which was carried out
abbrev pub with_done : History → ℕ → Call → History
with_done h caller call = h ++ record { caller = caller; call = call; did = Done } ∷ []

-- the history with one more call, in which the disk failed
abbrev pub with_failed : History → ℕ → Call → ℕ → ℕ → History
with_failed h caller call before after = h ++ record { caller = caller; call = call; did = Failed before after } ∷ []

-- the layout counts the changes of the history, and its records have places of it
pub record IsCounted (h : History) (l : Layout) : Type 0 where
  pub count : l.count ≡ length h
  pub places : (r : Record) → IsRecorded l r → place_of r ≤ length h

-- the layout with one more record in its active segment
abbrev pub recorded : Layout → Record → Layout
recorded l r = record l { count = place_of r; active = l.active ++ r ∷ [] }

-- the time of the active buffer's entry of the key
abbrev pub time_of : Bytes → Layout → Option ℕ
time_of key l = option_and_then (λ entry. entry.since) (finmap.get (buffer_of l.active) key)

-- what a put writes: with the time of the entry that it replaces
abbrev pub put_entry : History → Layout → Bytes → ℕ → Bytes → Entry
put_entry h l key dkey value = record { seq = next_place h; key = key; body = Put dkey value; since = time_of key l }

-- what a delete writes: with the clock, or the smaller time of the entry that it replaces
abbrev pub tomb_entry : History → Layout → Bytes → Entry
tomb_entry h l key = record { seq = next_place h; key = key; body = Tomb; since = Some (min l.clock (unwrap_or (time_of key l) l.clock)) }

-- what an erase writes: the place, the clock and the range
abbrev pub accepted : History → Layout → Ends → Pending
accepted h l range = record { seq = next_place h; time = l.clock; range = range }

-- the layout with one more erase, which is pending
abbrev pub erasing : Layout → Pending → Layout
erasing l erase = record (recorded l (Erasing erase)) { pending = l.pending ++ erase ∷ [] }

-- the layout whose active segment is frozen, with a new one
abbrev pub frozen : Layout → Layout
frozen l = record l { active = []; frozen = Some l.active }

-- the layout at another time, with a change more
abbrev pub ticked : History → Layout → ℕ → Layout
ticked h l to = record l { clock = to; count = next_place h }
