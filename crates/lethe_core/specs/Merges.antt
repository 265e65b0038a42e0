-- The merges and sweeps that a store carries out itself, one after another, where a caller makes room and where the clock goes on.
use Rattle.std.specs.Prelude.{◌≡◌, ◌⊎◌, ◌≤◌, ℕ, ◌+◌, ◌*◌, false, List, [], ◌∷◌, ◌++◌, length, sum_by, All, Option, Some, None, Contains}
use Rattle.std.specs.List.{AllZip}
use Rattle.lethe_base.specs.Limits.{max_place}
use Rattle.lethe_base.specs.declared.config.Fields.{Fields}
use Rattle.lethe_base.specs.declared.name.Name.{Name}
use Rattle.lethe_base.specs.declared.shape.Shape.{Shape}
use Rattle.lethe_build.specs.Built.{most_numbers}
use Rattle.lethe_fade.specs.Choice.{choice}
use Rattle.lethe_fade.specs.Due.{due}
use Rattle.lethe_fade.specs.declared.plan.Plan.{Plan}
use Rattle.lethe_follows.specs.Merged.{at}
use Rattle.lethe_stored.specs.Files.{StoredFile}
use Rattle.lethe_stored.specs.Stored.{Stored, IsCoherent, layout_of}
use Rattle.lethe_advance.specs.Settled.{AreDrawn, names_in}
use Rattle.lethe_advance.specs.Steps.{IsStep}
use Rattle.lethe_pins.specs.Held.{is_named}
use Rattle.lethe_pins.specs.declared.pin.Pin.{Pin}
pub use Rattle.lethe_install.specs.Outcomes.{AreFirst, IsInstalled, IsInstalledWith, new_names}
use Rattle.lethe_install.specs.declared.steps.Installation.{Installation}
use Rattle.lethe_state.specs.Left.{left_with}
use Rattle.lethe_state.specs.Room.{HasRoom, IsFrozen, IsUnfrozen}
pub use Rattle.lethe_job.specs.Shapes.{due_shape, shape_of}
use Rattle.lethe_job.specs.MadeOf.{numbers_in}
use Rattle.lethe_job.specs.Tasks.{IsCitedAs, counted_in}
use Rattle.lethe_job.specs.Works.{AreOutputs, IsPlanned, IsTaskFor, PlainTask, inputs_in, plan_of, reads_of}
use Rattle.lethe_job.specs.declared.made.Made.{Made}
use Rattle.lethe_core.specs.Pinned.{AreNamed}
use Rattle.lethe_core.specs.Running.{Holds}
use Rattle.lethe_core.specs.declared.choosing.Choice.{Choice}
use Rattle.lethe_core.specs.declared.choosing.Choice.TheVariants.{Room, DueAt}
use Rattle.lethe_core.specs.Flights.{Flying, company_of, without}
use Rattle.lethe_core.specs.View.{View, beside_in, loose_in}

-- the plan that is picked at a clock: to make room the choice where no claim stands, and else the one that is due at a time, whatever the clock
abbrev pub picked : Choice → Fields → Shape → ℕ → Option Plan
picked Room config shape clock = choice config shape clock []
picked (DueAt to) config shape clock = due config shape to

-- the plan that is picked in what is stored, at its own clock
abbrev pub chosen_by : Choice → Stored → Option Plan
chosen_by by s = picked by s.manifest.config (due_shape (layout_of s)) s.manifest.clock

-- that of the jobs that make room
abbrev pub room_choice : Stored → Option Plan
room_choice = chosen_by Room

-- that of the jobs that are due at a time
abbrev pub due_choice : ℕ → Stored → Option Plan
due_choice to = chosen_by (DueAt to)

-- The shape of a store as it has it in memory: the files that its manifest cites, as their readers have them, level by level and each with the place up to which it is swept, and
-- the erases that are still to be done.
pub record IsShapeIn (view : View) (shape : Shape) : Type 0 where
  pub files : List StoredFile
  pub cited : AllZip (IsCitedAs view.levels) view.state.manifest.files files
  pub is : shape ≡ shape_of view.state.manifest.config.levels files (left_with view.state)

-- the plan that is picked for that shape at the clock
pub record IsPickedIn (by : Choice) (view : View) (plan : Option Plan) : Type 0 where
  pub shape : Shape
  pub of : IsShapeIn view shape
  pub is : picked by view.state.manifest.config shape view.state.manifest.clock ≡ plan

-- that of the next job that makes room
abbrev pub IsNextPlan : View → Option Plan → Type 0
IsNextPlan = IsPickedIn Room

-- no job is chosen
abbrev pub HasNoMergeBy : (Stored → Option Plan) → Stored → Type 0
HasNoMergeBy chosen s = chosen s ≡ None

-- no job is due at its clock
abbrev pub HasNoMerge : Stored → Type 0
HasNoMerge = HasNoMergeBy room_choice

-- a merge or a sweep, and what is stored behind it
pub record Outcome : Type 0 where
  pub task : PlainTask
  pub to : Stored

-- the jobs that are in flight behind a step: all but the one that it ends, if it does
abbrev pub flights_behind : Option ℕ → List Flying → List Flying
flights_behind None flights = flights
flights_behind (Some number) flights = without number flights

-- The step from what is stored to the outcome of a task, behind which these jobs are in flight, whose tasks stay. Of what isn't cited any more just what a held pin names is left, and
-- their pages.
pub record MayMerge (view : View) (rest : List Flying) (s : Stored) (task : PlainTask) (t : Stored) (made : Installation) : Type 0 where
  pub installed : IsInstalledWith (company_of rest) s task t
  pub left : List (Name × List ℕ)
  pub step_is : IsStep s (beside_in view) t (left ++ loose_in rest) made.headers.items made.step
  pub left_is : made.left.items ≡ names_in left
  pub drawn : AreDrawn made.step.manifest.next (made.left.items ++ names_in (loose_in rest))
  pub tasked : All (λ flying. IsTaskFor t flying.task) rest
  pub named : AreNamed view.pins.pins made.left.items
  pub gone : All (λ name. is_named view.pins.pins name ≡ false) made.step.gone.items

-- the task of the plan that is chosen
pub record IsBegunBy (chosen : Stored → Option Plan) (s : Stored) (task : PlainTask) : Type 0 where
  pub is_chosen : chosen s ≡ Some (plan_of task)
  pub planned : IsPlanned s task

-- the job that is chosen, with its outcome, whose parts agree
pub record IsOutcomeBy (chosen : Stored → Option Plan) (s : Stored) (outcome : Outcome) : Type 0 where
  pub begun : IsBegunBy chosen s outcome.task
  pub installed : IsInstalled s outcome.task outcome.to
  pub coherent : IsCoherent outcome.to

-- the jobs that are chosen, one after another, until none is
abbrev pub AreOutcomesBy : (Stored → Option Plan) → Stored → List Outcome → Stored → Type 0
AreOutcomesBy chosen s [] t = HasNoMergeBy chosen s × (t ≡ s)
AreOutcomesBy chosen s (outcome ∷ more) t = IsOutcomeBy chosen s outcome × AreOutcomesBy chosen outcome.to more t

-- some of the jobs that are chosen, one after another
abbrev pub AreSomeOutcomesBy : (Stored → Option Plan) → Stored → List Outcome → Stored → Type 0
AreSomeOutcomesBy chosen s [] t = t ≡ s
AreSomeOutcomesBy chosen s (outcome ∷ more) t = IsOutcomeBy chosen s outcome × AreSomeOutcomesBy chosen outcome.to more t

-- those that make room
abbrev pub IsOutcome : Stored → Outcome → Type 0
IsOutcome = IsOutcomeBy room_choice

abbrev pub AreOutcomes : Stored → List Outcome → Stored → Type 0
AreOutcomes = AreOutcomesBy room_choice

abbrev pub AreSomeOutcomes : Stored → List Outcome → Stored → Type 0
AreSomeOutcomes = AreSomeOutcomesBy room_choice

-- level 0 has at least twice as many files as the ratio
abbrev pub IsCrowded : Stored → Type 0
IsCrowded s = 2 * s.manifest.config.ratio ≤ length (at 0 s.files)

-- the jobs that are due were carried out where level 0 is crowded and no job is in flight, and none else
abbrev pub IsUncrowded : List Flying → Stored → List Outcome → Stored → Type 0
IsUncrowded [] s outcomes t = (IsCrowded s × AreOutcomes s outcomes t) ⊎ ((IsCrowded s → ⊥) × (outcomes ≡ []) × (t ≡ s))
IsUncrowded (flying ∷ more) s outcomes t = (outcomes ≡ []) × (t ≡ s)

-- some of them were, and none where level 0 isn't crowded or a job is in flight
abbrev pub IsMergedInPart : List Flying → Stored → Stored → Type 0
IsMergedInPart [] s t = (t ≡ s) ⊎ (IsCrowded s × (outcomes : List Outcome) × AreSomeOutcomes s outcomes t)
IsMergedInPart (flying ∷ more) s t = t ≡ s

-- Room was made for a record where there was none: the frozen segment was flushed, if there was one, the active one was frozen, which left a store whose parts agree, and then
-- the jobs were carried out.
pub record IsCleared (flights : List Flying) (s : Stored) (outcomes : List Outcome) (t : Stored) : Type 0 where
  pub middle : Stored
  pub unfrozen : IsUnfrozen s middle
  pub cleared : Stored
  pub frozen : IsFrozen middle cleared
  pub coherent : IsCoherent cleared
  pub merges : IsUncrowded flights cleared outcomes t

-- Where there is room nothing was done.
abbrev pub IsRoomMadeBy : List Flying → Stored → List Outcome → Stored → Type 0
IsRoomMadeBy flights s outcomes t = (HasRoom s × (outcomes ≡ []) × (t ≡ s)) ⊎ ((HasRoom s → ⊥) × IsCleared flights s outcomes t)

-- Of the steps that make room the first was done, which flushes the frozen segment, if there is one, and maybe the second, which freezes the active one and left a store whose
-- parts agree, and behind that some of the jobs.
pub record IsClearedInPart (flights : List Flying) (s t : Stored) : Type 0 where
  pub middle : Stored
  pub unfrozen : IsUnfrozen s middle
  pub rest : (t ≡ middle) ⊎ ((cleared : Stored) × IsFrozen middle cleared × IsCoherent cleared × IsMergedInPart flights cleared t)

-- Where there is room nothing was done, and where there is none some of the steps that make it.
abbrev pub IsRoomBegun : List Flying → Stored → Stored → Type 0
IsRoomBegun flights s t = (t ≡ s) ⊎ ((HasRoom s → ⊥) × IsClearedInPart flights s t)

-- The pages that are retired behind jobs, from those that were before. A job leaves none but those that a held pin names, and without one they are as they were.
abbrev pub AreRetiredBehind : List Outcome → List Pin → List Name → List Name → Type 0
AreRetiredBehind [] pins before retired = retired ≡ before
AreRetiredBehind (outcome ∷ more) pins before retired = AreNamed pins retired

-- how many pages these merges and sweeps fetch
abbrev pub pages_of : List Outcome → ℕ
pages_of outcomes = sum_by (λ outcome. reads_of outcome.task) outcomes

-- a task's inputs are some of the files that the manifest cites, as readers have them, and their headers count no more entries than those of all these
pub record IsTaskOf (view : View) (task : PlainTask) : Type 0 where
  pub files : List StoredFile
  pub cited : AllZip (IsCitedAs view.levels) view.state.manifest.files files
  pub inputs : All (Contains files) (inputs_in task)
  pub some : counted_in (inputs_in task) ≤ counted_in files

-- The numbers of the objects of the job that is chosen, and of a manifest, can't be drawn. On any disk these are no more than as many entries take as the headers of its inputs count.
pub record IsShortToMergeBy (chosen : Stored → Option Plan) (Tells : Type 0) (view : View) : Type 0 where
  pub task : PlainTask
  pub of : IsTaskOf view task
  pub made : Made
  pub bounded : numbers_in made ≤ most_numbers (counted_in (inputs_in task))
  pub short : max_place ≤ view.state.next + numbers_in made
  pub outputs : AreOutputs Tells task made
  pub begun : Tells → (s : Stored) → Holds view s → IsBegunBy chosen s task

abbrev pub IsShortToMerge : Type 0 → View → Type 0
IsShortToMerge = IsShortToMergeBy room_choice
