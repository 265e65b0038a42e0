-- A sweep of a stored file by one erase: what it needs, and what is stored once it is installed.
use Rattle.std.specs.Prelude.{◌≡◌, ◌≢◌, ◌⊎◌, ℕ, ◌<◌, ◌≤◌, Bool, IsTrue, List, [], ◌∷◌, ◌++◌, flat_map, All, AllPairs, Contains, Option, Some}
use Rattle.std.specs.List.{cons_option}
use Rattle.lethe_base.specs.Layout.{entries_of}
use Rattle.lethe_base.specs.declared.entry.Entry.{Entry}
use Rattle.lethe_base.specs.declared.pending.Pending.{Pending}
use Rattle.lethe_cover.specs.Sweeps.{swept_of}
use Rattle.lethe_file.specs.Agreement.{page_name}
use Rattle.lethe_header.specs.declared.header.PageLine.{PageLine}
use Rattle.lethe_moves.specs.Files.{IsClearOf, IsWithin}
use Rattle.lethe_stored.specs.Files.{StoredFile, IsFile, lines_in, file_of}
use Rattle.lethe_stored.specs.Stored.{Stored, pending_of, part_names}
use Rattle.lethe_follows.specs.Merged.{Company, Last, entries_in, merging_manifest_with, range_of}

-- the file, and those that the manifest cites before and behind it
pub record StoredSweep : Type 0 where
  pub front : List StoredFile
  pub file : StoredFile
  pub back : List StoredFile

abbrev pub files_before : StoredSweep → List StoredFile
files_before w = w.front ++ w.file ∷ w.back

-- with what is made in the file's place
abbrev pub files_then : StoredSweep → Option StoredFile → List StoredFile
files_then w made = w.front ++ (cons_option made [] ++ w.back)

-- files came in front of the others
abbrev pub with_front : List StoredFile → StoredSweep → StoredSweep
with_front made w = record w { front = made ++ w.front }

-- no deeper file, and of level 0 no older one, has a key of the file's range
pub record HasNoneBelow (s : Stored) (w : StoredSweep) : Type 0 where
  pub deeper : All (λ file. w.file.level < file.level → IsClearOf (range_of w.file) (file_of file)) s.files
  pub older : w.file.level ≡ 0 → All (λ file. file.level ≡ 0 → IsClearOf (range_of w.file) (file_of file)) w.back

-- The file is stored, and of the pending erases that it isn't swept of this one is the oldest. Alone, where no file below has a key of its range, and always in the last level, what
-- the erase matches leaves no tombstone.
pub record IsSweepIn (s : Stored) (w : StoredSweep) (erase : Pending) (alone : Bool) : Type 0 where
  pub files : s.files ≡ files_before w
  pub pending : Contains (pending_of s) erase
  pub unswept : w.file.swept < erase.seq
  pub oldest : (other : Pending) → Contains (pending_of s) other → w.file.swept < other.seq → erase.seq ≤ other.seq
  pub clear : IsTrue alone → HasNoneBelow s w
  pub bottom : w.file.level ≡ s.manifest.config.levels → IsTrue alone

-- the line is of one of the file's pages, or of one that isn't cited
abbrev pub IsOwnOrNew : Stored → StoredFile → PageLine → Type 0
IsOwnOrNew s file line = ((own : PageLine) × Contains (lines_in file) own × (own.no ≡ line.no)) ⊎ (Contains (part_names s) (page_name line.no) → ⊥)

-- What the erase leaves of the file's entries, in files of its level of which there is at most one: in pages of the file and in new ones.
pub record AreLeft (s : Stored) (file : StoredFile) (erase : Pending) (alone : Bool) (number : ℕ) (made : List StoredFile) : Type 0 where
  pub each : All (IsFile number) made
  pub level : All (λ left. left.level ≡ file.level) made
  pub swept : All (λ left. left.swept ≡ erase.seq) made
  pub headers : All (λ left. (s.manifest.next ≤ left.header.no) × (left.header.no < number)) made
  pub lo : All (λ left. IsWithin (range_of file).lo (range_of file).hi (range_of left).lo) made
  pub hi : All (λ left. IsWithin (range_of file).lo (range_of file).hi (range_of left).hi) made
  pub lines : All (IsOwnOrNew s file) (flat_map lines_in made)
  pub lines_once : AllPairs (λ a b. a.no ≢ b.no) (flat_map lines_in made)
  pub from : (output : Entry) → Contains (entries_in made) output → (entry : Entry) × Contains (entries_of (file_of file)) entry × (swept_of alone erase entry ≡ Some output)
  pub kept : (entry output : Entry) → Contains (entries_of (file_of file)) entry → swept_of alone erase entry ≡ Some output → Contains (entries_in made) output

-- The file went, and what the erase leaves of it came in its place.
pub record IsSweptWith (company : Company) (s : Stored) (w : StoredSweep) (erase : Pending) (alone : Bool) (t : Stored) : Type 0 where
  pub made : Option StoredFile
  pub number : ℕ
  pub later : s.manifest.next ≤ number
  pub files : t.files ≡ files_then w made
  pub manifest : t.manifest ≡ merging_manifest_with company s t.files number
  pub frozen : t.frozen ≡ s.frozen
  pub active : t.active ≡ s.active
  pub left : AreLeft s w.file erase alone number (cons_option made [])

-- where no other job is in flight
abbrev pub IsSwept : Stored → StoredSweep → Pending → Bool → Stored → Type 0
IsSwept = IsSweptWith Last
