-- A job and the store that has it in flight.
use Rattle.std.specs.Prelude.{◌≡◌, ◌≤◌, ◌+◌, ◌++◌, ◌∷◌, [], length, IfSome, IsSome, Some, false}
use Rattle.lethe_disk.specs.declared.disk.Disk.{Ghosts}
use Rattle.lethe_advance.specs.Settled.{names_in}
use Rattle.lethe_job.specs.Jobs.{IsJob}
use Rattle.lethe_job.specs.MadeOf.{pages_of, written_of}
use Rattle.lethe_job.specs.Works.{AreOutputs, PlainTask, plain_task}
use Rattle.lethe_job.specs.declared.job.Job.{Job}
use Rattle.lethe_job.specs.declared.made.Made.{Made}
use Rattle.lethe_core.specs.Flights.{Flying, flying_by}
use Rattle.lethe_core.specs.Flights as flights
pub use flights.{with_page_of, with_pages, with_pages_of, without}
use Rattle.lethe_core.specs.View.{Face, View}

-- the store has the job in flight, by its number, which was begun in the present round
pub record IsInFlight {D Page Port : Type 0} {kind : Ghosts D Page Port} (view : View) (job : Job D Page Port kind) : Type 0 where
  pub flying : Flying
  pub is : flying_by job.number view.flights ≡ Some flying
  pub task : plain_task job.task.value ≡ flying.task
  pub round : job.round ≡ view.rounds

-- it is what its task makes, whose first pages were written
pub record AreOutputsOf (Tells : Type 0) (flying : Flying) (made : Made) : Type 0 where
  pub outputs : AreOutputs Tells flying.task made
  pub some : length flying.written ≤ length (pages_of made)
  pub pages : flying.written ≡ written_of (names_in flying.written) made

-- and none of the job's calls was refused, so that the pages that were written are the first of what it makes
pub record IsAtWork {D Page Port : Type 0} {kind : Ghosts D Page Port} (Tells : Type 0) (view : View) (job : Job D Page Port kind) : Type 0 where
  pub flies : IsInFlight view job
  pub asked : job.refused ≡ false
  pub job_is : IsJob Tells job
  pub count : length flies.flying.written ≡ job.written
  pub pages : IfSome job.made (λ made. flies.flying.written ≡ written_of (names_in flies.flying.written) made)

-- each page of what it makes is written
pub record IsWhole {D Page Port : Type 0} {kind : Ghosts D Page Port} (job : Job D Page Port kind) : Type 0 where
  pub made : IsSome job.made
  pub all : IfSome job.made (λ made. job.written ≡ length (pages_of made))

-- one job more was begun, which has the next number and no page yet
abbrev pub with_begun : Face → PlainTask → Face
with_begun face task = record face { begun = face.begun + 1; flights = face.flights ++ record { number = face.begun; task = task; written = [] } ∷ [] }
