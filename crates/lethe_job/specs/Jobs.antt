-- A job that runs.
use Rattle.std.specs.Prelude.{◌≡◌, ◌≤◌, ℕ, List, [], length, slice_index_or, Any, IfSome, None, Err}
use Rattle.std.specs.Option.{option_map_or}
use Rattle.lethe_base.specs.declared.name.Name.{Name}
use Rattle.lethe_base.specs.declared.refused.Refused.{Refused}
use Rattle.lethe_base.specs.declared.refused.Refused.TheVariants.{ReadFault, Damaged, NoMemory}
use Rattle.lethe_disk.specs.Reads.{HasReadCause, IsFault}
use Rattle.lethe_disk.specs.declared.cursor.ReadRefused as read
use Rattle.lethe_disk.specs.declared.cursor.ReadRefused.TheVariants as reads
use Rattle.lethe_disk.specs.declared.disk.Disk.{Ghosts}
use Rattle.lethe_stored.specs.Files.{StoredFile}
use Rattle.lethe_job.specs.Tasks.{AreSound, HasDamaged}
use Rattle.lethe_job.specs.MadeOf.{pages_of}
use Rattle.lethe_job.specs.Works.{AreOutputs, plain_task}
use Rattle.lethe_job.specs.declared.job.Job.{Job}

-- What holds of a job between its calls: once it has made something that is what its task makes, and no more pages count as written than that has.
pub record IsJob {D Page Port : Type 0} {disk : Ghosts D Page Port} (Tells : Type 0) (job : Job D Page Port disk) : Type 0 where
  pub made : IfSome job.made (AreOutputs Tells (plain_task job.task.value))
  pub few : IfSome job.made (λ made. job.written ≤ length (pages_of made))
  pub unmade : job.made ≡ None → job.written ≡ 0

-- the bytes of the job's next page
abbrev pub next_bytes : {D Page Port : Type 0} {kind : Ghosts D Page Port} → Job D Page Port kind → List ℕ
next_bytes job = option_map_or (λ made. slice_index_or (pages_of made) job.written []) job.made []

-- a refusal of a read, as a job tells it
abbrev pub told_as : read.ReadRefused → Refused
told_as (reads.ReadFault before after) = ReadFault before after
told_as (reads.Damaged name) = Damaged name
told_as reads.NoMemory = NoMemory

-- The files could not be read: a fetch failed, a page of theirs is another one than was written, or there was no memory.
pub record IsUnread (Tells PortsFail : Type 0) (files : List StoredFile) (old new : ℕ) (why : Refused) : Type 0 where
  pub told : read.ReadRefused
  pub is : why ≡ told_as told
  pub cause : HasReadCause {T = Unit {0}} old new (Err told)
  pub can_fail : IsFault {T = Unit {0}} (Err told) → PortsFail
  pub damaged : (name : Name) → told ≡ reads.Damaged name → Any (HasDamaged Tells name) files
  pub undamaged : Tells → AreSound files → (name : Name) → told ≡ reads.Damaged name → ⊥
