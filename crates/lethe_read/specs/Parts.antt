-- Cursors over the parts of a store, side by side.
use Rattle.std.specs.Prelude.{◌≡◌, ◌⊎◌, ◌↔◌, ℕ, ◌+◌, Bool, true, IsTrue, List, ◌∷◌, map, flat_map, reverse, sum_by, All, Any, Contains}
use Rattle.std.specs.Ordering.{is_lt}
use Rattle.lethe_base.specs.Entries.{IsAscending}
use Rattle.lethe_base.specs.Keys.{Bytes, key_cmp}
use Rattle.lethe_base.specs.Read.{is_between}
use Rattle.lethe_base.specs.declared.entry.Entry.{Entry}
use Rattle.lethe_base.specs.declared.name.Name.{Name}
use Rattle.lethe_header.specs.Facts.{greatest_key, least_key}
use Rattle.lethe_header.specs.declared.header.Header.{Header}
use Rattle.lethe_read.specs.declared.part.Part.{Part}
use Rattle.lethe_read.specs.declared.part.Part.TheVariants.{Buffered, Filed}

-- the entries that a part has still to give, by what a cursor has
abbrev pub left_in : {C : Type 0} → (C → List Entry) → Part C → List Entry
left_in left (Buffered entries) = reverse entries.items
left_in left (Filed cursors) = flat_map left (reverse cursors.items)

abbrev pub MayAsk : {C : Type 0} → (C → Type 0) → Part C → Type 0
MayAsk may_ask (Buffered entries) = Unit {0}
MayAsk may_ask (Filed cursors) = All may_ask cursors.items

-- Cursors are read one after another, the last first: the disk tells what it holds, each of them is sound, and what they have still to give ascends.
pub record IsRun {C : Type 0} (tells : Type 0) (sound : C → Type 0) (left : C → List Entry) (cursors : List C) : Type 0 where
  pub told : tells
  pub each : All sound cursors
  pub ascending : IsAscending (flat_map left (reverse cursors))

-- the entries of a buffer ascend, and cursors over files may be read one after another
abbrev pub IsSound : {C : Type 0} → Type 0 → (C → Type 0) → (C → List Entry) → Part C → Type 0
IsSound tells sound left (Buffered entries) = IsAscending (reverse entries.items)
IsSound tells sound left (Filed cursors) = IsRun tells sound left cursors.items

-- how many fetches a part has still to make
abbrev pub awaits_in : {C : Type 0} → (C → ℕ) → Part C → ℕ
awaits_in awaits (Buffered entries) = 0
awaits_in awaits (Filed cursors) = sum_by awaits cursors.items

-- what it may give on any disk, by what its cursors may
abbrev pub gives_in : {C : Type 0} → (C → Entry → Type 0) → Part C → Entry → Type 0
gives_in gives (Buffered entries) entry = Contains entries.items entry
gives_in gives (Filed cursors) entry = Any (λ cursor. gives cursor entry) cursors.items

-- the names that it may tell as damaged
abbrev pub Damages : {C : Type 0} → (C → Name → Type 0) → Part C → Name → Type 0
Damages damages (Buffered entries) name = ⊥
Damages damages (Filed cursors) name = Any (λ cursor. damages cursor name) cursors.items

pub part_ascends : {C : Type 0} (tells : Type 0) (may_ask sound : C → Type 0) (left : C → List Entry) → (part : Part C) → MayAsk may_ask part → IsSound tells sound left part → IsAscending (left_in left part)
part_ascends tells may_ask sound left (Buffered entries) asked is = is
part_ascends tells may_ask sound left (Filed cursors) asked is = is.ascending

-- the first file's keys are below those of the one behind it, if there is one
abbrev pub joins : {F : Type 0} → (F → Header) → List F → Bool
joins header (file ∷ behind ∷ files) = is_lt (key_cmp (greatest_key (header file).tiles) (least_key (header behind).tiles))
joins header files = true

-- Parts for some files were added: where the files agree with their headers the parts are still sound, and have besides what they had
-- the files' entries of the keys from the first up to the second, which is excluded.
pub record Adds {C F : Type 0} (tells : Type 0) (sound : C → Type 0) (left : C → List Entry) (agrees : F → Type 0) (entries_of : F → List (List Entry)) (lo hi : Bytes) (files : List F) (old new : List C) : Type 0 where
  pub sound_too : tells → All agrees files → All sound old → All sound new
  pub besides : All agrees files → (entry : Entry)
      → Contains (flat_map left new) entry ↔ (Contains (flat_map left old) entry ⊎ (Any (λ file. Any (λ page. Contains page entry) file) (map entries_of files) × IsTrue (is_between lo hi entry.key)))

-- Of what the parts may still fetch and tell: they await as many pages more as the files have between the two keys, and what they may tell they might tell before, or one of
-- the files has it.
pub record Awaits {C F N : Type 0} (awaits : C → ℕ) (damages : C → N → Type 0) (pages_between : F → ℕ) (IsDamaged : F → N → Type 0) (files : List F) (old new : List C) : Type 0 where
  pub count : sum_by awaits new ≡ sum_by awaits old + sum_by pages_between files
  pub names : (name : N) → Any (λ part. damages part name) new → Any (λ part. damages part name) old ⊎ Any (λ file. IsDamaged file name) files
