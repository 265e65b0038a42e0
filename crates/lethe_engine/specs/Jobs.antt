-- The calls of a job.
use Rattle.std.specs.Prelude.{◌≡◌, ◌≤◌, ◌<◌, ℕ, ◌+◌, ◌-◌, ◌&&◌, nat_le, List, length, is_none, IfSome, IsSome, Result, Ok, Err, if◌then◌else◌}
use Rattle.lethe_base.specs.Limits.{max_place}
use Rattle.lethe_base.specs.declared.name.Name.{Name}
use Rattle.lethe_base.specs.declared.refused.Refused.{Refused}
use Rattle.lethe_disk.specs.declared.disk.Disk.{Ghosts}
use Rattle.lethe_state.specs.declared.state.State.{State}
use Rattle.lethe_job.specs.MadeOf.{numbers_in, pages_of}
use Rattle.lethe_job.specs.Works.{plain_task}
use Rattle.lethe_job.specs.declared.job.Job.{Job}
use Rattle.lethe_job.specs.declared.job.Piece.{Piece}
use Rattle.lethe_core.specs.Jobs.{with_begun, with_page_of, without}
use Rattle.lethe_core.specs.View.{Face, View, face_of}

-- the job was begun in an earlier round, so that it was given up
abbrev pub IsPast : {D Page Port : Type 0} {kind : Ghosts D Page Port} → View → Job D Page Port kind → Type 0
IsPast view job = job.round < view.rounds

-- the piece is the job's next page
pub record IsNextPage {D Page Port : Type 0} {kind : Ghosts D Page Port} (job : Job D Page Port kind) (piece : Piece) : Type 0 where
  pub made : IsSome job.made
  pub place : piece.place ≡ job.written
  pub left : IfSome job.made (λ made. job.written < length (pages_of made))

-- the numbers of the headers of what it made and of a manifest can't be drawn
abbrev pub IsShortToInstall : {D Page Port : Type 0} {kind : Ghosts D Page Port} → View → Job D Page Port kind → Type 0
IsShortToInstall view job = IfSome job.made (λ made. max_place ≤ view.state.next + (numbers_in made - job.written))

-- What the jobs have come to behind each of their calls

-- the job is begun, unless it is refused
abbrev pub begun_face : {D Page Port : Type 0} {kind : Ghosts D Page Port} → Face → Result (Job D Page Port kind) Refused → Face
begun_face face (Ok job) = with_begun face (plain_task job.task.value)
begun_face face (Err why) = face

-- the job of a number has one page more
abbrev pub written_face : ℕ → Face → Name × List ℕ → Result (Unit {0}) Refused → Face
written_face number face page (Ok done) = record face { flights = with_page_of number page face.flights }
written_face number face page (Err why) = face

-- it is in flight no more
abbrev pub ended_face : {E : Type 0} → ℕ → Face → Result (Unit {0}) E → Face
ended_face number face (Ok done) = record face { flights = without number face.flights }
ended_face number face (Err why) = face

-- given up it is in flight no more, whether or not the disk failed, but where no place is left for that and no call has failed
abbrev pub given_up : ℕ → Face → State → Face
given_up number face state = if is_none state.stopped && nat_le max_place state.count then face else record face { flights = without number face.flights }

-- what the jobs have come to behind the cancel of a job: one of an earlier round was given up before
abbrev pub cancelled_face : {D Page Port : Type 0} {kind : Ghosts D Page Port} → View → Job D Page Port kind → Face
cancelled_face view job = if nat_le view.rounds job.round then given_up job.number (face_of view) view.state else face_of view
