-- What is stored once a job's outcome is installed.
use Rattle.std.specs.Prelude.{◌≡◌, ◌≢◌, ℕ, ◌+◌, ◌<◌, ◌≤◌, Bool, List, [], length, map, flat_map, take, All, AllPairs, Contains, Option, MatchOption}
use Rattle.lethe_base.specs.declared.name.Name.{Name}
use Rattle.lethe_base.specs.declared.pending.Pending.{Pending}
use Rattle.lethe_file.specs.Agreement.{entries_in, page_name}
use Rattle.lethe_follows.specs.Merged.{Company, IsMergedWith, Last, StoredMerge, erases_upto}
use Rattle.lethe_remade.specs.Remade.{remade}
use Rattle.lethe_stored.specs.Files.{StoredFile, lines_in}
use Rattle.lethe_stored.specs.Stored.{Stored, part_names, pending_of}
use Rattle.lethe_sweep_task.specs.Sweeping.{IsSweptBy}
use Rattle.lethe_sweep_task.specs.Outcome.{PlainSweep}
use Rattle.lethe_swept.specs.Drafts.{IsDraftOf}
use Rattle.lethe_swept.specs.declared.draft.SweptDraft.{SweptDraft}
use Rattle.lethe_swept.specs.declared.part.SweptFile.{SweptFile}
use Rattle.lethe_sweeps.specs.Swept.{IsSweptWith, StoredSweep}
use Rattle.lethe_job.specs.SweepTasks.{IsSweepTask}
use Rattle.lethe_job.specs.Tasks.{IsMergeTask, PlainMerge}
use Rattle.lethe_job.specs.Works.{Merges, PlainTask, Sweeps}
use Rattle.lethe_install.specs.Left.{is_among, unneeded_of}

-- the outputs of a merge of what is stored came in the place of its inputs, and of the erases those stay that its company asks for
pub record IsMergeInstalledWith (company : Company) (s : Stored) (task : PlainMerge) (t : Stored) : Type 0 where
  pub m : StoredMerge
  pub tasked : IsMergeTask s m task
  pub merged_is : IsMergedWith company s m (erases_upto task.upto (pending_of s)) task.alone task.upto t

-- The names of the pages of files, in order.
abbrev pub page_names : List StoredFile → List Name
page_names files = map (λ line. page_name line.no) (flat_map lines_in files)

-- of the pages of files those that weren't stored
abbrev pub new_names : Stored → List StoredFile → List Name
new_names s files = unneeded_of (is_among (page_names s.files)) (page_names files)

-- of the pages that are stored next and weren't before, those of these names are the first
pub record AreFirst (names : List Name) (s t : Stored) : Type 0 where
  pub first : take (length names) (new_names s t.files) ≡ names

-- no page that is cited has the number, which was drawn before that one
abbrev pub IsFreeBelow : Stored → ℕ → ℕ → Type 0
IsFreeBelow s number page = (page < number) × (Contains (part_names s) (page_name page) → ⊥)

-- The file with what is left of it: each page that stays has its number and its bytes, each new one a number of its own, and each tile that is left its keys.
pub record IsRemade (s : Stored) (file : StoredFile) (erase : Pending) (number : ℕ) (swept : SweptFile) (made : StoredFile) : Type 0 where
  pub draft : SweptDraft
  pub of : IsDraftOf file.header.tiles swept draft
  pub numbers : List ℕ
  pub count : length numbers ≡ length draft.pages
  pub once : AllPairs (λ a b. a ≢ b) numbers
  pub new : All (IsFreeBelow s number) numbers
  pub no : ℕ
  pub later : s.manifest.next ≤ no
  pub below : no < number
  pub made_is : made ≡ remade file erase swept draft numbers no

-- the file with what the erase leaves of its tiles, and none where it leaves nothing
pub record IsFileLeft (s : Stored) (file : StoredFile) (erase : Pending) (alone : Bool) (number : ℕ) (made : Option StoredFile) : Type 0 where
  pub swept : SweptFile
  pub is : IsSweptBy alone erase file.header.tiles (map entries_in file.pages) swept
  pub made_of : MatchOption made (swept.tiles ≡ []) (IsRemade s file erase number swept)

-- What the erase leaves of a file that is stored came in its place, page by page, and of the erases those stay that its company asks for.
pub record IsSweepInstalledWith (company : Company) (s : Stored) (task : PlainSweep) (t : Stored) : Type 0 where
  pub w : StoredSweep
  pub tasked : IsSweepTask s w task
  pub swept_is : IsSweptWith company s w task.erase task.alone t
  pub file_left : IsFileLeft s w.file task.erase task.alone swept_is.number swept_is.made

-- the outcome of a task is stored in the place of what goes
abbrev pub IsInstalledWith : Company → Stored → PlainTask → Stored → Type 0
IsInstalledWith company s (Merges task) t = IsMergeInstalledWith company s task t
IsInstalledWith company s (Sweeps task) t = IsSweepInstalledWith company s task t

-- where no other job is in flight, so that the erases that are done then have left

abbrev pub IsMergeInstalled : Stored → PlainMerge → Stored → Type 0
IsMergeInstalled = IsMergeInstalledWith Last

abbrev pub IsSweepInstalled : Stored → PlainSweep → Stored → Type 0
IsSweepInstalled = IsSweepInstalledWith Last

abbrev pub IsInstalled : Stored → PlainTask → Stored → Type 0
IsInstalled = IsInstalledWith Last

-- the level of the files that come
abbrev pub level_made : PlainTask → ℕ
level_made (Merges task) = task.level + 1
level_made (Sweeps task) = task.file.level
