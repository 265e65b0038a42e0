-- What a job that merges is to do.
use Rattle.std.specs.Prelude.{◌≡◌, ◌≤◌, ℕ, ◌+◌, Bool, IsTrue, List, [], ◌++◌, length, map, slice_index_or, sum_by, All, Any, Contains}
use Rattle.lethe_base.specs.declared.config.Fields.{Fields}
use Rattle.lethe_base.specs.declared.name.Name.{Name}
use Rattle.lethe_base.specs.declared.pending.Pending.{Pending}
use Rattle.lethe_disk.specs.declared.disk.Disk.{Ghosts}
use Rattle.lethe_fade.specs.declared.plan.Plan.{Plan}
use Rattle.lethe_file.specs.Agreement.{FileAgrees}
use Rattle.lethe_file.specs.Damage.{IsDamagedAmong}
use Rattle.lethe_follows.specs.Merged.{StoredMerge, IsAlone, IsMergeIn, erases_upto, hull_of, inputs_of}
use Rattle.lethe_header.specs.Headers.{entries_in}
use Rattle.lethe_manifest.specs.declared.manifest.Cited.{Cited}
use Rattle.lethe_stored.specs.Files.{StoredFile, Parts, lines_in, parts_of}
use Rattle.lethe_stored.specs.Levels.{AreRising}
use Rattle.lethe_stored.specs.Stored.{Stored, IsCoherent, count_of, pending_of}
use Rattle.lethe_version.specs.Versions.{bytes_of}
use Rattle.lethe_job.specs.declared.filed.Filed.{Filed}
use Rattle.lethe_job.specs.declared.merge.MergeTask.{MergeTask}

-- a file as it is stored
abbrev pub plain_file : {D Page Port : Type 0} {disk : Ghosts D Page Port} → Filed D Page Port disk → StoredFile
plain_file filed = record { level = filed.level; swept = filed.swept; header = filed.file.file.value.header; pages = bytes_of filed.file.file.value }

-- a merge, over files as they are stored
pub record PlainMerge : Type 0 where
  pub plan : Plan
  pub level : ℕ
  pub sources : List StoredFile
  pub met : List StoredFile
  pub alone : Bool
  pub erases : List Pending
  pub upto : ℕ
  pub config : Fields

abbrev pub plain_merge : {D Page Port : Type 0} {disk : Ghosts D Page Port} → MergeTask D Page Port disk → PlainMerge
plain_merge task = record {
  plan = task.plan;
  level = task.level;
  sources = map plain_file task.sources.items;
  met = map plain_file task.met.items;
  alone = task.alone;
  erases = task.erases;
  upto = task.upto;
  config = task.config;
}

abbrev pub merge_inputs : PlainMerge → List StoredFile
merge_inputs task = task.sources ++ task.met

-- how many pages the files have
abbrev pub pages_in : List StoredFile → ℕ
pages_in files = sum_by (λ file. length (lines_in file)) files

-- how many entries the headers of files count
abbrev pub counted_in : List StoredFile → ℕ
counted_in files = sum_by (λ file. entries_in (lines_in file)) files

-- a file that a manifest cites, as readers have it
pub record IsCitedAs (levels : List (List Parts)) (cited : Cited) (file : StoredFile) : Type 0 where
  pub level : file.level ≡ cited.level
  pub swept : file.swept ≡ cited.swept
  pub number : file.header.no ≡ cited.no
  pub there : Contains (slice_index_or levels cited.level []) (parts_of file)

-- the pages of each file agree with its header
abbrev pub AreSound : List StoredFile → Type 0
AreSound files = All (λ file. FileAgrees file.header.tiles file.pages) files

-- the name is that of a page of the file whose bytes are another page's
abbrev pub HasDamaged : Type 0 → Name → StoredFile → Type 0
HasDamaged tells name file = IsDamagedAmong tells (lines_in file) file.pages name

-- It merges files that are stored. Outputs that are alone have no file below them, as those of the last level always have; the erases are those
-- that are pending up to the place up to which the outputs count as swept, which is no further than there are changes: whatever came since it began.
pub record IsMergeTask (s : Stored) (m : StoredMerge) (task : PlainMerge) : Type 0 where
  pub merge : IsMergeIn s m
  pub level : task.level ≡ m.level
  pub sources : task.sources ≡ m.sources
  pub met : task.met ≡ m.met
  pub clear : IsTrue task.alone → IsAlone s m.level (hull_of (inputs_of m))
  pub bottom : m.level + 1 ≡ s.manifest.config.levels → IsTrue task.alone
  pub erases : task.erases ≡ erases_upto task.upto (pending_of s)
  pub upto : task.upto ≤ count_of s
  pub config : task.config ≡ s.manifest.config

-- The merge of a plan that names a file above the last level. The plan names one of the sources, and of level 0 it merges all files.
pub record IsPlannedMerge (s : Stored) (task : PlainMerge) : Type 0 where
  pub m : StoredMerge
  pub is : IsMergeTask s m task
  pub named : Any (λ file. file.header.no ≡ task.plan.file) m.sources
  pub all : m.level ≡ 0 → m.newer ≡ []
  pub alone : IsAlone s m.level (hull_of (inputs_of m)) → IsTrue task.alone
  pub counted : task.upto ≡ count_of s

-- what is told of a store is what is stored
pub record IsStore {D Page Port : Type 0} {disk : Ghosts D Page Port} (s : Stored) (files : List (Filed D Page Port disk)) (config : Fields) (erases : List Pending) (count : ℕ) : Type 0 where
  pub coherent : IsCoherent s
  pub rising : AreRising s.files
  pub files_are : map plain_file files ≡ s.files
  pub config_is : s.manifest.config ≡ config
  pub erases_are : erases ≡ pending_of s
  pub count_is : count ≡ count_of s
