-- Rows of a session's changes: each row is one turn.
use Rattle.std.specs.Prelude.{◌≡◌, ◌≤◌, ℕ, ◌+◌, List, [], ◌∷◌, ◌++◌, length, map, zip, flat_map, take, drop, All, Option, Some, None}
use Rattle.lethe_base.specs.declared.call.Did.TheVariants.{Done}
use Rattle.lethe_base.specs.declared.refused.Refused.{Refused}
use Rattle.lethe_core.specs.Asked.{Failure, failure_of}
use Rattle.lethe_engine.specs.Asked.{Asked}
use Rattle.lethe_engine.specs.ChangeRows.{call_of}
use Rattle.lethe_turn.specs.declared.view.View.{View}
use Rattle.lethe_store.specs.declared.entry.Entry.{Entry}
use Rattle.lethe_store.specs.declared.entry.Mark.{Mark}
use Rattle.lethe_store.specs.Diary.{spent_by}
use Rattle.lethe_store.specs.Entries.{entries_of, entry_of, failed_by}
use Rattle.lethe_store.specs.Reasons.{AreLater, HasReasonOfChange, PortCounts}
use Rattle.lethe_store.specs.Sessions.{HasDone}
use Rattle.lethe_store.specs.StoreViews.{StoreView}

-- the most changes of a row, so that another session waits for a row and not for a list
abbrev pub most_in_row : ℕ
most_in_row = 256

-- the entry of a change that was made
abbrev pub made_entry : ℕ → Asked → Entry
made_entry caller change = entry_of caller Done (call_of change)

-- the entries of changes that were made
abbrev pub made_entries : ℕ → List Asked → List Entry
made_entries caller made = map (made_entry caller) made

-- the entry of the first of those that weren't, where the disk failed in it
abbrev pub failed_entries : ℕ → Option Refused → List Asked → List Entry
failed_entries caller None rest = []
failed_entries caller (Some why) [] = []
failed_entries caller (Some why) (next ∷ more) = entries_of caller (call_of next ∷ []) (failed_by why)

-- the entries of a row, of which so many changes were made and the next one was refused for this, if it was
abbrev pub entries_in_row : ℕ → List Asked → ℕ → Option Refused → List Entry
entries_in_row caller asked done refused = made_entries caller (take done asked) ++ failed_entries caller refused (drop done asked)

-- the place that a failure tells
abbrev pub places_told : Option Failure → List ℕ
places_told None = []
places_told (Some failure) = failure.place ∷ []

-- the failed entry at the place that its refusal tells
abbrev pub told_entries : ℕ → Option Refused → List Asked → List (ℕ × Entry)
told_entries caller None rest = []
told_entries caller (Some why) rest = zip (places_told (failure_of why)) (failed_entries caller (Some why) rest)

-- all were made, or the first of those that weren't was refused
abbrev pub IsEndedAs : Option Refused → List Asked → Type 0
IsEndedAs None rest = rest ≡ []
IsEndedAs (Some why) rest = (next : Asked) × (more : List Asked) × (rest ≡ next ∷ more)

-- the changes of these turns
abbrev pub changes_in : List (List Asked) → List Asked
changes_in turns = flat_map (λ turn. turn) turns

module _ {V : Type 0} where
  -- What became of a row in its turn, before which there were so many changes: the first ones of those that were asked were made, so many, and entered in that turn, with the failed one behind them. Those
  -- that weren't are left, unless the next one was refused.
  pub record HasMadeRow (caller : ℕ) (asked left : List Asked) (count done : ℕ) (refused : Option Refused) (v w : View V Entry Mark) : Type 0 where
    pub made : List Asked
    pub rest : List Asked
    pub are : asked ≡ made ++ rest
    pub many : length made ≡ done
    pub left_is : refused ≡ None → left ≡ rest
    pub next : (why : Refused) → refused ≡ Some why → (next : Asked) × (more : List Asked) × (rest ≡ next ∷ more)
    pub turn : HasDone (made_entries caller made ++ failed_entries caller refused rest) (spent_by refused) v w
    pub counted : count ≡ v.start + length turn.seen.0

  -- these entries were entered one list behind another, each list in a turn of its own, and nothing was noted
  abbrev pub InTurns : List (List Entry) → View V Entry Mark → View V Entry Mark → Type 0
  InTurns [] v w = w ≡ v
  InTurns (turn ∷ more) v w = (u : View V Entry Mark) × HasDone turn [] v u × InTurns more u w

  -- The first ones of the changes that were asked were made, in turns of at most so many, each in one turn: nothing stands between two changes of a turn. Its own entries are those that it had before, those
  -- of the changes that were made, at the places that are answered, and the failed one, at the place that is told. Each change that was made or in which the disk failed stands once, and no other does.
  pub record HasMadeAll (caller : ℕ) (asked : List Asked) (places : List ℕ) (refused : Option Refused) (v w : View V Entry Mark) : Type 0 where
    pub turns : List (List Asked)
    pub last : List Asked
    pub rest : List Asked
    pub are : asked ≡ changes_in turns ++ last ++ rest
    pub short : All (λ turn. length turn ≤ most_in_row) turns × (length last ≤ most_in_row)
    pub between : View V Entry Mark
    pub before : InTurns (map (made_entries caller) turns) v between
    pub behind : HasDone (made_entries caller last ++ failed_entries caller refused rest) (spent_by refused) between w
    pub ends : IsEndedAs refused rest
    pub many : length places ≡ length (changes_in turns ++ last)
    pub mine : w.mine ≡ v.mine ++ zip places (made_entries caller (changes_in turns ++ last)) ++ told_entries caller refused rest

  -- the reason of the first change that wasn't made is that of a change by itself, by the port's counts from some time since the first one
  pub record HasReasonOfList (Tells PortsFail : Type 0) (see : V → StoreView) (w : View V Entry Mark) (before now : PortCounts) (why : Refused) : Type 0 where
    pub from : PortCounts
    pub since : AreLater before from
    pub reason : HasReasonOfChange Tells PortsFail see w from now why
