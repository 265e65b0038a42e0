-- What a job is to do, a merge or a sweep, and what it makes.
use Rattle.std.specs.Prelude.{◌≡◌, ◌≤◌, ◌<◌, ◌^◌, ℕ, List, [], ◌∷◌, map, sum_by, All, Any, Option, Some, None, IfSome, IsSome}
use Rattle.lethe_base.specs.declared.pending.Pending.{Pending}
use Rattle.lethe_build.specs.Built.{most_numbers}
use Rattle.lethe_build.specs.Drafts.{AreDraftsOf, numbers_for}
use Rattle.lethe_build.specs.Drafts as merges
use Rattle.lethe_build.specs.declared.draft.Draft.{Draft}
use Rattle.lethe_disk.specs.declared.disk.Disk.{Ghosts}
use Rattle.lethe_fade.specs.Choice.{choice}
use Rattle.lethe_fade.specs.declared.plan.Plan.{Plan}
use Rattle.lethe_file.specs.Agreement as pages
use Rattle.lethe_follows.specs.Merged.{StoredMerge, entries_in}
use Rattle.lethe_merge.specs.Merge.{merged}
use Rattle.lethe_stored.specs.Files.{StoredFile}
use Rattle.lethe_stored.specs.Stored.{Stored, layout_of}
use Rattle.lethe_sweep_task.specs.Fences.{fetches_of}
use Rattle.lethe_swept.specs.Drafts as sweeps
use Rattle.lethe_swept.specs.declared.draft.SweptDraft.{SweptDraft}
use Rattle.lethe_sweeps.specs.Swept.{StoredSweep}
use Rattle.lethe_sweep_task.specs.Drafted.{numbers_of}
use Rattle.lethe_sweep_task.specs.Outcome.{IsDraftLeft, PlainSweep, plain_sweep}
use Rattle.lethe_job.specs.Chosen.{level_named}
use Rattle.lethe_job.specs.Shapes.{due_shape}
use Rattle.lethe_job.specs.SweepTasks.{IsPlannedSweep, IsSweepTask, NamesSweep}
use Rattle.lethe_job.specs.Tasks.{AreSound, IsMergeTask, IsPlannedMerge, PlainMerge, counted_in, merge_inputs, pages_in, plain_merge}
use Rattle.lethe_job.specs.declared.made.Made.{Made}
use Rattle.lethe_job.specs.declared.made.Made.TheVariants.{Files, Left}
use Rattle.lethe_job.specs.declared.task.Task.{Task}
use Rattle.lethe_job.specs.declared.task.Task.TheVariants.{Merge, Sweep}

-- a task, over files as they are stored
pub data PlainTask : Type 0 where
  Merges : PlainMerge → PlainTask
  Sweeps : PlainSweep → PlainTask

abbrev pub plain_task : {D Page Port : Type 0} {disk : Ghosts D Page Port} → Task D Page Port disk → PlainTask
plain_task (Merge task) = Merges (plain_merge task)
plain_task (Sweep task) = Sweeps (plain_sweep task)

-- what names it
abbrev pub plan_of : PlainTask → Plan
plan_of (Merges task) = task.plan
plan_of (Sweeps task) = task.plan

-- the files that go
abbrev pub inputs_in : PlainTask → List StoredFile
inputs_in (Merges task) = merge_inputs task
inputs_in (Sweeps task) = task.file ∷ []

-- how many pages it fetches: all of a merge's inputs, and of a sweep's file those that its header tells
abbrev pub reads_of : PlainTask → ℕ
reads_of (Merges task) = pages_in (merge_inputs task)
reads_of (Sweeps task) = fetches_of task.alone task.erase.range task.file.header.tiles

-- the erases that it applies
abbrev pub erases_of : PlainTask → List Pending
erases_of (Merges task) = task.erases
erases_of (Sweeps task) = task.erase ∷ []

-- the place up to which what it makes counts as swept
abbrev pub applied_upto : PlainTask → ℕ
applied_upto (Merges task) = task.upto
applied_upto (Sweeps task) = task.erase.seq

-- a merge's sources stand above the last level, and a swept file in any level
abbrev pub IsInLevels : ℕ → PlainTask → Type 0
IsInLevels levels (Merges task) = task.level < levels
IsInLevels levels (Sweeps task) = task.file.level ≤ levels

-- it is a merge or a sweep of what is stored
abbrev pub IsTaskFor : Stored → PlainTask → Type 0
IsTaskFor s (Merges task) = (m : StoredMerge) × IsMergeTask s m task
IsTaskFor s (Sweeps task) = (w : StoredSweep) × IsSweepTask s w task

-- the task of its plan
abbrev pub IsPlanned : Stored → PlainTask → Type 0
IsPlanned s (Merges task) = IsPlannedMerge s task
IsPlanned s (Sweeps task) = IsPlannedSweep s task

-- the task of the choice at the clock, where no other claim stands
pub record IsBegunIn (s : Stored) (task : PlainTask) : Type 0 where
  pub chosen : choice s.manifest.config (due_shape (layout_of s)) s.manifest.clock [] ≡ Some (plan_of task)
  pub planned : IsPlanned s task

-- Of these files a plan names one above the last level, and for a sweep whichever file, and one of these erases.
abbrev pub IsNamedBy : ℕ → List StoredFile → List Pending → ℕ → Option ℕ → Type 0
IsNamedBy levels files erases number None = IsSome (level_named levels number files)
IsNamedBy levels files erases number (Some place) = Any (λ file. (file.header.no ≡ number) × (file.level ≤ levels)) files × Any (λ erase. erase.seq ≡ place) erases

-- where it names a sweep, that is one of what is stored
abbrev pub IsPlanIn : Stored → ℕ → Option ℕ → Type 0
IsPlanIn s number None = Unit {0}
IsPlanIn s number (Some place) = NamesSweep s number place

-- The drafts are those of a merge's outputs. On any disk they have no more numbers than as many entries take as the headers of the inputs count.
pub record AreMergeOutputs (Tells : Type 0) (task : PlainMerge) (drafts : List Draft) : Type 0 where
  pub each : All merges.IsDraft drafts
  pub few : sum_by numbers_for drafts < 2 ^ 63
  pub bounded : sum_by numbers_for drafts ≤ most_numbers (counted_in (merge_inputs task))
  pub told : Tells → AreSound (merge_inputs task) → AreDraftsOf task.config (merged (entries_in (merge_inputs task)) task.erases task.alone) drafts

-- The draft is that of what a sweep leaves of its file, and there is none where it leaves nothing.
pub record IsSweepOutput (Tells : Type 0) (task : PlainSweep) (made : Option SweptDraft) : Type 0 where
  pub each : IfSome made sweeps.IsDraft
  pub few : numbers_of made < 2 ^ 63
  pub bounded : numbers_of made ≤ most_numbers (counted_in (task.file ∷ []))
  pub told : Tells → AreSound (task.file ∷ []) → IsDraftLeft task.alone task.erase task.file.header.tiles (map pages.entries_in task.file.pages) made

abbrev pub AreOutputs : Type 0 → PlainTask → Made → Type 0
AreOutputs Tells (Merges task) (Files drafts) = AreMergeOutputs Tells task drafts.items
AreOutputs Tells (Merges task) (Left made) = ⊥
AreOutputs Tells (Sweeps task) (Files drafts) = ⊥
AreOutputs Tells (Sweeps task) (Left made) = IsSweepOutput Tells task made
