-- What a flush, a merge or a sweep makes of entries, and where it puts that. Entries are told by what holds of them: which
-- ones are inputs, outputs, held or seen.
use Rattle.std.specs.Prelude.{◌≡◌, ◌⊎◌, ℕ, ◌+◌, ◌<◌, ◌≤◌, IsTrue, List, Contains, Some, None}
use Rattle.lethe_base.specs.Keys.{Bytes}
use Rattle.lethe_base.specs.Ranges.{Ends}
use Rattle.lethe_base.specs.History.{History, after}
use Rattle.lethe_base.specs.Causes.{done_at, cause_of}
use Rattle.lethe_base.specs.Entries.{pair_of}
use Rattle.lethe_base.specs.Matching.{IsPut, matches, answer_under}
use Rattle.lethe_base.specs.Placed.{IsPlaced, IsAccepted}
use Rattle.lethe_base.specs.SameMap.{IsNewest, IsMap}
use Rattle.lethe_base.specs.Covered.{DeletesAreCovered, HasErase}
use Rattle.lethe_base.specs.Fresh.{IsFresh}
use Rattle.lethe_base.specs.declared.call.Call.TheVariants.{Erase}
use Rattle.lethe_base.specs.declared.entry.Body.TheVariants as body
use Rattle.lethe_base.specs.declared.entry.Entry.{Entry}
use Rattle.lethe_base.specs.declared.pending.Pending.{Pending}

-- what entries and pending erases have to say of a history, in whatever parts the entries stand
pub record EntriesCover (threshold : ℕ) (h : History) (clock : ℕ) (holds : Entry → ℕ → Type 0) (shows : Entry → Type 0) (pending : List Pending) : Type 0 where
  pub held : (entry : Entry) → shows entry → (swept : ℕ) × holds entry swept
  pub places : (entry : Entry) (swept : ℕ) → holds entry swept → IsPlaced h entry.seq entry.key entry.body
  pub same_map : IsMap shows pending (after h).map
  pub deletes_covered : DeletesAreCovered h holds shows
  pub erases_covered : (entry : Entry) (swept cause : ℕ) (range : Ends) → holds entry swept → IsPut entry.body
      → cause_of h entry.seq ≡ Some cause → done_at h cause ≡ Some (Erase range) → HasErase pending cause × (swept < cause)
  pub times_fresh : (entry : Entry) (swept since : ℕ) → holds entry swept → entry.since ≡ Some since → IsFresh threshold h clock since

-- the output is the newest input of its key, with the erases applied
pub record IsFrom (erases : List Pending) (inputs : Entry → Type 0) (output : Entry) : Type 0 where
  pub input : Entry
  pub newest : IsNewest inputs input
  pub same : input.key ≡ output.key
  pub place : input.seq ≡ output.seq
  pub answer : pair_of output.body ≡ answer_under erases input

-- an output of the input's key is no older, and has a time no greater than the input's unless it is alone
pub record IsKept (Alone : Type 0) (outputs : Entry → Type 0) (input : Entry) : Type 0 where
  pub output : Entry
  pub made : outputs output
  pub same : output.key ≡ input.key
  pub newer : input.seq ≤ output.seq
  pub since : (time : ℕ) → input.since ≡ Some time → Alone ⊎ ((least : ℕ) × (output.since ≡ Some least) × (least ≤ time))

-- the outputs are alone and have nothing of the input's key, of which the newest input answers nothing
pub record IsDropped (erases : List Pending) (Alone : Type 0) (inputs outputs : Entry → Type 0) (input : Entry) : Type 0 where
  pub alone : Alone
  pub none : (output : Entry) → outputs output → output.key ≡ input.key → ⊥
  pub newest : Entry
  pub is : IsNewest inputs newest
  pub same : newest.key ≡ input.key
  pub nothing : answer_under erases newest ≡ None

-- the outputs are what is left of the inputs, where the erases are applied
pub record IsOutcome (erases : List Pending) (Alone : Type 0) (inputs outputs : Entry → Type 0) : Type 0 where
  pub source : (output : Entry) → outputs output → IsFrom erases inputs output
  pub kept : (input : Entry) → inputs input → IsKept Alone outputs input ⊎ IsDropped erases Alone inputs outputs input
  -- a time is an input's or an erase's
  pub since : (output : Entry) (time : ℕ) → outputs output → output.since ≡ Some time
      → ((input : Entry) × inputs input × (input.since ≡ Some time)) ⊎ ((erase : Pending) × Contains erases erase × (erase.time ≡ time))

-- The erases that are applied are those that are pending up to a place, but for those that an input was swept of before. One
-- that matches an input may have ended since, where the input was swept of it.
pub record IsApplied (threshold : ℕ) (h : History) (clock : ℕ) (holds : Entry → ℕ → Type 0) (pending applied : List Pending) (inputs : Entry → Type 0) (swept : ℕ) : Type 0 where
  pub complete : (erase : Pending) (input : Entry) → Contains pending erase → erase.seq ≤ swept → inputs input
      → Contains applied erase ⊎ ((upto : ℕ) × holds input upto × (erase.seq ≤ upto))
  pub accepted : (erase : Pending) → Contains applied erase → IsAccepted h erase
  pub fresh : (erase : Pending) → Contains applied erase → clock < erase.time + threshold
  pub sound : (erase : Pending) (input : Entry) (dkey : ℕ) (value : Bytes) → Contains applied erase → inputs input → input.body ≡ body.Put dkey value
      → IsTrue (matches erase input.seq dkey) → Contains pending erase ⊎ ((upto : ℕ) × holds input upto × (erase.seq ≤ upto))

-- the inputs go, the outputs come, swept up to a place, and the rest stays: what is held and seen before, beside the inputs, and afterwards
pub record IsReplaced (Alone : Type 0) (inputs outputs : Entry → Type 0) (swept : ℕ) (holds : Entry → ℕ → Type 0) (shows : Entry → Type 0)
    (holds_rest : Entry → ℕ → Type 0) (shows_rest : Entry → Type 0) (holds_then : Entry → ℕ → Type 0) (shows_then : Entry → Type 0) : Type 0 where
  pub inputs_shown : (entry : Entry) → inputs entry → shows entry
  pub rest_held : (entry : Entry) (upto : ℕ) → holds_rest entry upto → holds entry upto
  pub rest_shown : (entry : Entry) → shows_rest entry → shows entry
  pub rest_is_held : (entry : Entry) → shows_rest entry → (upto : ℕ) × holds_rest entry upto
  pub split : (entry : Entry) → shows entry → shows_rest entry ⊎ inputs entry
  pub stays : (entry : Entry) → shows_rest entry → shows_then entry
  pub comes : (entry : Entry) → outputs entry → shows_then entry
  pub only : (entry : Entry) → shows_then entry → shows_rest entry ⊎ outputs entry
  pub only_held : (entry : Entry) (upto : ℕ) → holds_then entry upto → holds_rest entry upto ⊎ (outputs entry × (upto ≡ swept))
  pub is_held : (entry : Entry) → shows_then entry → (upto : ℕ) × holds_then entry upto
  -- where the outputs are alone, what stays of a key of the inputs is newer than these
  pub clear : Alone → (entry input : Entry) (upto : ℕ) → holds_rest entry upto → inputs input → entry.key ≡ input.key → input.seq < entry.seq
