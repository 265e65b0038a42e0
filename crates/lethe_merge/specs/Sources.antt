-- Cursors side by side, each with its next entry where that is known.
use Rattle.std.specs.Prelude.{◌≡◌, ◌≢◌, ◌⊎◌, ⊤, ℕ, Bool, true, false, List, [], ◌∷◌, ◌++◌, map, filter_map, All, Any, Contains, Option, Some, None, if◌then◌else◌}
use Rattle.std.specs.List.{flat_map}
use Rattle.std.specs.Ordering.{is_lt}
use Rattle.std.specs.declared.cmp.Ordering.TheVariants.{Greater}
use Rattle.lethe_base.specs.Keys.{Bytes, key_cmp, same_key}
use Rattle.lethe_base.specs.Entries.{IsAscending}
use Rattle.lethe_base.specs.declared.entry.Body.TheVariants.{Tomb}
use Rattle.lethe_base.specs.declared.entry.Entry.{Entry}
use Rattle.lethe_base.specs.declared.pending.Pending.{Pending}
use Rattle.lethe_cover.specs.Merged.{struck, left_of}
use Rattle.lethe_merge.specs.Merge.{merged}
use Rattle.lethe_merge.specs.declared.source.Head.{Head}
use Rattle.lethe_merge.specs.declared.source.Head.TheVariants.{Unasked, Here, Ended}
use Rattle.lethe_merge.specs.declared.source.Source.{Source}

-- the entry at hand
abbrev pub entries_at : Head → List Entry
entries_at Unasked = []
entries_at (Here entry) = entry ∷ []
entries_at Ended = []

-- what a source has still to give, by what its cursor has
abbrev pub left_in : {C : Type 0} → (C → List Entry) → Source C → List Entry
left_in left source = entries_at source.head ++ left source.cursor

-- how many fetches a source has still to make: none once its cursor ended
abbrev pub awaits_at : ℕ → Head → ℕ
awaits_at most Unasked = most
awaits_at most (Here entry) = most
awaits_at most Ended = 0

abbrev pub awaits_in : {C : Type 0} → (C → ℕ) → Source C → ℕ
awaits_in awaits source = awaits_at (awaits source.cursor) source.head

-- The cursor is sound; and on a disk that tells what it holds the entries ascend, and none is left where the cursor ended.
pub record IsSound {C : Type 0} (tells : Type 0) (sound : C → Type 0) (left : C → List Entry) (source : Source C) : Type 0 where
  pub cursor : sound source.cursor
  pub ascending : tells → IsAscending (left_in left source)
  pub ended : tells → source.head ≡ Ended → left source.cursor ≡ []

-- what all sources have left, merged
abbrev pub left_merged : {C : Type 0} → (C → List Entry) → List (Source C) → List Pending → Bool → List Entry
left_merged left sources erases alone = merged (flat_map (left_in left) sources) erases alone

-- each source is sound; and what is merged of them ascends, as it always does
pub record AreSound {C : Type 0} (tells : Type 0) (sound : C → Type 0) (left : C → List Entry) (sources : List (Source C)) (erases : List Pending) (alone : Bool) : Type 0 where
  pub each : All (IsSound tells sound left) sources
  pub ascending : IsAscending (left_merged left sources erases alone)

-- what is known of a cursor's next entry once it was asked
abbrev pub head_from : Option Entry → Head
head_from None = Ended
head_from (Some entry) = Here entry

-- the entry at hand
abbrev pub entry_at : Head → Option Entry
entry_at Unasked = None
entry_at (Here entry) = Some entry
entry_at Ended = None

-- the first has an entry at hand, and the second has none or one of a greater key
abbrev pub comes_before : Head → Head → Bool
comes_before Unasked other = false
comes_before (Here entry) Unasked = true
comes_before (Here entry) (Here other) = is_lt (key_cmp entry.key other.key)
comes_before (Here entry) Ended = true
comes_before Ended other = false

-- the entry at hand, where it is of the key
abbrev pub entry_of_key : Bytes → Head → Option Entry
entry_of_key key Unasked = None
entry_of_key key (Here entry) = if same_key key entry.key then Some entry else None
entry_of_key key Ended = None

-- the source behind its entry at hand, where that is of the key
abbrev pub head_behind : Bytes → Head → Head
head_behind key Unasked = Unasked
head_behind key (Here entry) = if same_key key entry.key then Unasked else Here entry
head_behind key Ended = Ended

abbrev pub behind : {C : Type 0} → Bytes → Source C → Source C
behind key source = record source { head = head_behind key source.head }

-- no entry at hand has a lower key
abbrev pub IsFrom : Bytes → Head → Type 0
IsFrom key Unasked = ⊤
IsFrom key (Here entry) = key_cmp key entry.key ≢ Greater
IsFrom key Ended = ⊤

-- the entries at hand of the key
abbrev pub heads_of : {C : Type 0} → Bytes → List (Source C) → List Entry
heads_of key sources = filter_map (λ source. entry_of_key key source.head) sources

-- The entries at hand of the least key were taken, and the entry is what is left of the key where the erases are applied.
pub record IsTaken {C : Type 0} (erases : List Pending) (old new : List (Source C)) (entry : Entry) : Type 0 where
  pub least : All (λ source. IsFrom entry.key source.head) old
  pub left : left_of entry.key (map (struck erases) (heads_of entry.key old)) ≡ Some entry
  pub taken : new ≡ map (behind entry.key) old

-- no entry is at hand
pub record HasNone {C : Type 0} (old new : List (Source C)) : Type 0 where
  pub none : All (λ source. entry_at source.head ≡ None) old
  pub same : new ≡ old

-- Made of an entry of its key: it has that one's body, or is a tombstone.
pub record IsMadeOf (from entry : Entry) : Type 0 where
  pub key : entry.key ≡ from.key
  pub body : (entry.body ≡ from.body) ⊎ (entry.body ≡ Tomb)

-- what a source may give, by what its cursor may: the entry at hand too
abbrev pub gives_in : {C : Type 0} → (C → Entry → Type 0) → Entry → Source C → Type 0
gives_in gives entry source = Contains (entries_at source.head) entry ⊎ gives source.cursor entry

-- What may be given of all sources is made of an entry that one of them may give.
pub record GivesMerged {C : Type 0} (gives : C → Entry → Type 0) (sources : List (Source C)) (entry : Entry) : Type 0 where
  pub from : Entry
  pub made : IsMadeOf from entry
  pub given : Any (gives_in gives from) sources
