-- The next page of a job has no put but those of its inputs.
use Rattle.std.proofs.Common.{◌≡◌, ◌<◌, ℕ, [], length, map, get_or, Some, sym, subst}
use Rattle.std.proofs.lemmas.List.Elements.{All-contains, Contains-get_or}
use Rattle.lethe_disk.specs.declared.disk.Disk.{Ghosts}
use Rattle.lethe_file.specs.Agreement.{page_name}
use Rattle.lethe_stored.specs.Stored.{Stored}
use Rattle.lethe_stored.specs.Files.{file_of}
use Rattle.lethe_clean.specs.Copied.{IsCopiedOf}
use Rattle.lethe_job.specs.MadeOf.{pages_of}
use Rattle.lethe_job.specs.Works.{AreOutputs, IsTaskFor, PlainTask, inputs_in, plain_task}
use Rattle.lethe_job.specs.declared.job.Job.{Job}
use Rattle.lethe_job.specs.declared.made.Made.{Made}
use Rattle.lethe_core.specs.Jobs.{IsAtWork}
use Rattle.lethe_core.specs.Running.{Holds, IsTasked}
use Rattle.lethe_core.specs.View.{View}
use Rattle.lethe_core.proofs.Copying.{made_copied}
use Rattle.lethe_core.proofs.Flying.{flying_there}
use Rattle.lethe_core.proofs.Installing.{sound_inputs}
use Rattle.lethe_engine.proofs.AtWork.{some_at}

module _ {D Page Port : Type 0} {kind : Ghosts D Page Port} (Tells : Type 0) (view : View) (job : Job D Page Port kind) (works : IsAtWork Tells view job) (s : Stored) (holds : Holds view s) where
  abbrev task : PlainTask
  task = plain_task job.task.value

  its_task : IsTaskFor s task
  its_task = subst (IsTaskFor s) (sym works.flies.task) (All-contains (IsTasked s) view.flights works.flies.flying holds.running.tasked (flying_there job.number view.flights works.flies.flying works.flies.is).0)

  pub next_copied : Tells → (number : ℕ) (made : Made) → job.made ≡ Some made → job.written < length (pages_of made)
      → IsCopiedOf (map file_of (inputs_in task)) (page_name number, get_or (pages_of made) job.written [])
  next_copied told number made is left =
      made_copied Tells task (sound_inputs s holds.remembers.coherent task its_task) made (some_at (AreOutputs Tells task) job.made made is works.job_is.made) told number (get_or (pages_of made) job.written [])
      (Contains-get_or (pages_of made) job.written [] left)
