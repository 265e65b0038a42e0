-- What may go to another thread: of any disk whose own parts may, a store, a snapshot, a job and what it makes.
-- A fact a type, by the facts of its fields in their order, so that a new field has to be met here. `Sync` is there where an `Arc` asks it.
use denote.RattleType.{RattleType}
use denote.Builtin.{usize}
use denote.Hole.{as_row}
use denote.Struct.Field.{u64-field, bool-field}
use denote.Param.Send.{IsSend, IsSync, owning_send, sendable}
use denote.Param.SendFields.{as_row_send, as_row_sync, declared_send, declared_sync, variants_send, variants_sync}
use Rattle.std.proofs.Crossing.{crosses, Arc-send, Arc-sync, Vec-send, Vec-sync}
use Rattle.std.specs.contracts.option.Option as Option
use Rattle.std.specs.contracts.result.Result as Result
use Rattle.lethe_base.specs.contracts.config.Config as Config
use Rattle.lethe_base.specs.contracts.refused.Refused as Refused
use Rattle.lethe_build.specs.contracts.draft.Draft as Draft
use Rattle.lethe_cert.specs.contracts.certificate.Certificate as Certificate
use Rattle.lethe_core.specs.contracts.flight.Flight as Flight
use Rattle.lethe_core.specs.contracts.flights.Flights as Flights
use Rattle.lethe_core.specs.contracts.flights.Flights.TheInside as FlightsInside
use Rattle.lethe_core.specs.contracts.holding.Core as Core
use Rattle.lethe_disk.specs.declared.disk.Disk.{Ghosts}
use Rattle.lethe_engine.specs.contracts.engine.Engine as Engine
use Rattle.lethe_fade.specs.contracts.claim.Claim as Claim
use Rattle.lethe_fade.specs.contracts.plan.Plan as Plan
use Rattle.lethe_file.specs.contracts.view.FileView as FileView
use Rattle.lethe_header.specs.contracts.header.Header as Header
use Rattle.lethe_header.specs.contracts.header.PageLine as PageLine
use Rattle.lethe_header.specs.contracts.header.TileLine as TileLine
use Rattle.lethe_job.specs.contracts.filed.Filed as Filed
use Rattle.lethe_job.specs.contracts.job.Job as Job
use Rattle.lethe_job.specs.contracts.made.Made as Made
use Rattle.lethe_job.specs.contracts.merge.MergeTask as MergeTask
use Rattle.lethe_job.specs.contracts.number.Begun as Begun
use Rattle.lethe_job.specs.contracts.task.Task as Task
use Rattle.lethe_loose.specs.contracts.contents.Contents as Contents
use Rattle.lethe_loose.specs.contracts.written.Written as Written
use Rattle.lethe_mem.specs.contracts.vec_buffer.VecBuffer as VecBuffer
use Rattle.lethe_pins.specs.contracts.held_pin.HeldPin as HeldPin
use Rattle.lethe_pins.specs.contracts.pins.Pins as Pins
use Rattle.lethe_snapshot.specs.contracts.snapshot.Snapshot as Snapshot
use Rattle.lethe_state.specs.contracts.state.State as State
use Rattle.lethe_sweep_task.specs.contracts.task.SweepTask as SweepTask
use Rattle.lethe_swept.specs.contracts.draft.DraftLine as DraftLine
use Rattle.lethe_swept.specs.contracts.draft.DraftTile as DraftTile
use Rattle.lethe_swept.specs.contracts.draft.SweptDraft as SweptDraft
use Rattle.lethe_version.specs.contracts.level.Level as Level
use Rattle.lethe_version.specs.contracts.shared.Shared as Shared
use Rattle.lethe_version.specs.contracts.version.Version as Version

-- of any types, since a search at large ones gives up
module _ (R S : RattleType) (r : IsSend R) (s : IsSend S) where
  pub result_send : IsSend (Result.the_row R S)
  result_send = search sendable depth 12

module _ (R : RattleType) (r : IsSend R) where
  pub option_send : IsSend (Option.the_row R)
  option_send = search sendable depth 12

number_send : IsSend usize
number_send = search sendable

number_sync : IsSync usize
number_sync = search sendable

u64_send : IsSend (as_row u64-field)
u64_send = search (as_row_send, sendable)

u64_sync : IsSync (as_row u64-field)
u64_sync = search (as_row_sync, sendable)

bool_send : IsSend (as_row bool-field)
bool_send = search (as_row_send, sendable)

bool_sync : IsSync (as_row bool-field)
bool_sync = search (as_row_sync, sendable)

-- What has no disk

pub refused_send : IsSend Refused.the_row
refused_send = search (crosses, sendable) depth 60

line_send : IsSend PageLine.the_row
line_send = search (crosses, sendable) depth 40

line_sync : IsSync PageLine.the_row
line_sync = search (crosses, sendable) depth 40

tile_send : IsSend TileLine.the_row
tile_send = search (line_send, crosses, sendable) depth 40

tile_sync : IsSync TileLine.the_row
tile_sync = search (line_sync, crosses, sendable) depth 40

header_send : IsSend Header.the_row
header_send = search (tile_send, crosses, sendable) depth 40

header_sync : IsSync Header.the_row
header_sync = search (tile_sync, crosses, sendable) depth 40

buffer_send : IsSend VecBuffer.the_row
buffer_send = search (crosses, sendable) depth 60 fits 4000

state_send : IsSend State.the_row
state_send = search (buffer_send, crosses, sendable) depth 80 fits 4000

pins_send : IsSend Pins.the_row
pins_send = search (crosses, sendable) depth 80 fits 4000

pin_send : IsSend HeldPin.the_row
pin_send = search (crosses, sendable) depth 40

plan_send : IsSend Plan.the_row
plan_send = search (crosses, sendable) depth 60

plan_sync : IsSync Plan.the_row
plan_sync = search (crosses, sendable) depth 60

claim_send : IsSend Claim.the_row
claim_send = search (crosses, sendable) depth 60

config_send : IsSend Config.the_row
config_send = search (crosses, sendable) depth 60

config_sync : IsSync Config.the_row
config_sync = search (crosses, sendable) depth 60

certificate_send : IsSend Certificate.the_row
certificate_send = search (crosses, sendable) depth 60

-- ghost values
contents_send : IsSend Contents.the_row
contents_send = owning_send Contents.the_type tt (λ d. tt) (λ k x w. tt)

written_send : IsSend Written.the_row
written_send = search (contents_send, crosses, sendable) depth 40

begun_send : IsSend Begun.the_row
begun_send = search (crosses, sendable) depth 40

draft_send : IsSend Draft.the_row
draft_send = search (tile_send, crosses, sendable) depth 60

draft_line_send : IsSend DraftLine.the_row
draft_line_send = search (crosses, sendable) depth 40

draft_tile_send : IsSend DraftTile.the_row
draft_tile_send = search (draft_line_send, crosses, sendable) depth 40

swept_send : IsSend SweptDraft.the_row
swept_send = search (draft_tile_send, crosses, sendable) depth 40

made_send : IsSend Made.the_row
made_send = search (draft_send, swept_send, crosses, sendable) depth 60

buffer_sync : IsSync VecBuffer.the_row
buffer_sync = search (crosses, sendable) depth 60 fits 4000

pin_sync : IsSync HeldPin.the_row
pin_sync = search (crosses, sendable) depth 40

-- What stands over a disk whose pages may cross

module _ (D P Q : RattleType) (g : Ghosts D.Denot P.Denot Q.Denot) (s : IsSend P) (y : IsSync P) where
  view_send : IsSend (FileView.the_row D P Q g)
  view_send = declared_send (FileView.the_type D P Q g) (header_send, (Vec-send _ (Arc-send P s y), (Vec-send usize number_send, tt)))

  view_sync : IsSync (FileView.the_row D P Q g)
  view_sync = declared_sync (FileView.the_type D P Q g) (header_sync, (Vec-sync _ (Arc-sync P s y), (Vec-sync usize number_sync, tt)))

  shared_send : IsSend (Shared.the_row D P Q g)
  shared_send = declared_send (Shared.the_type D P Q g) (Arc-send _ view_send view_sync, (u64_send, tt))

  shared_sync : IsSync (Shared.the_row D P Q g)
  shared_sync = declared_sync (Shared.the_type D P Q g) (Arc-sync _ view_send view_sync, (u64_sync, tt))

  level_send : IsSend (Level.the_row D P Q g)
  level_send = declared_send (Level.the_type D P Q g) (Vec-send _ shared_send, (bool_send, tt))

  level_sync : IsSync (Level.the_row D P Q g)
  level_sync = declared_sync (Level.the_type D P Q g) (Vec-sync _ shared_sync, (bool_sync, tt))

  version_send : IsSend (Version.the_row D P Q g)
  version_send = declared_send (Version.the_type D P Q g) (Vec-send _ level_send, tt)

  version_sync : IsSync (Version.the_row D P Q g)
  version_sync = declared_sync (Version.the_type D P Q g) (Vec-sync _ level_sync, tt)

  filed_send : IsSend (Filed.the_row D P Q g)
  filed_send = declared_send (Filed.the_type D P Q g) (u64_send, (u64_send, (shared_send, tt)))

  filed_sync : IsSync (Filed.the_row D P Q g)
  filed_sync = declared_sync (Filed.the_type D P Q g) (u64_sync, (u64_sync, (shared_sync, tt)))

  merge_send : IsSend (MergeTask.the_row D P Q g)
  merge_send = declared_send (MergeTask.the_type D P Q g)
      (plan_send, (u64_send, (Vec-send _ filed_send, (Vec-send _ filed_send, (bool_send, (search (as_row_send, crosses, sendable) depth 60, (u64_send, (config_send, tt))))))))

  merge_sync : IsSync (MergeTask.the_row D P Q g)
  merge_sync = declared_sync (MergeTask.the_type D P Q g)
      (plan_sync, (u64_sync, (Vec-sync _ filed_sync, (Vec-sync _ filed_sync, (bool_sync, (search (as_row_sync, crosses, sendable) depth 60, (u64_sync, (config_sync, tt))))))))

  sweep_send : IsSend (SweepTask.the_row D P Q g)
  sweep_send = declared_send (SweepTask.the_type D P Q g) (plan_send, (u64_send, (u64_send, (shared_send, (search (as_row_send, crosses, sendable) depth 60, (bool_send, tt))))))

  sweep_sync : IsSync (SweepTask.the_row D P Q g)
  sweep_sync = declared_sync (SweepTask.the_type D P Q g) (plan_sync, (u64_sync, (u64_sync, (shared_sync, (search (as_row_sync, crosses, sendable) depth 60, (bool_sync, tt))))))

  task_send : IsSend (Task.the_row D P Q g)
  task_send = let a = merge_send in let b = sweep_send in search (variants_send, a, b) depth 20

  task_sync : IsSync (Task.the_row D P Q g)
  task_sync = let a = merge_sync in let b = sweep_sync in search (variants_sync, a, b) depth 20

  flight_send : IsSend (Flight.the_row D P Q g)
  flight_send = declared_send (Flight.the_type D P Q g) (u64_send, (Arc-send _ task_send task_sync, (claim_send, (written_send, tt))))

  flights_send : IsSend (Flights.the_row D P Q g)
  flights_send = let inside = declared_send (FlightsInside.the_type D P Q g) (Vec-send _ flight_send, tt) in search (inside, sendable) depth 20

  core_send : IsSend D → IsSend (Core.the_row D P Q g)
  core_send d = declared_send (Core.the_type D P Q g)
      (search (d, sendable) depth 20, (state_send, (version_send, (search (crosses, sendable) depth 40, (flights_send, (pins_send, (begun_send, tt)))))))

  pub engine_send : IsSend D → IsSend (Engine.the_row D P Q g)
  engine_send d = declared_send (Engine.the_type D P Q g) (core_send d, (Vec-send _ certificate_send, tt))

  pub job_send : IsSend Q → IsSend (Job.the_row D P Q g)
  job_send q = declared_send (Job.the_type D P Q g)
      (u64_send, (u64_send, (Arc-send _ task_send task_sync, (search (q, sendable) depth 20, (search (made_send, variants_send, sendable) depth 20, (number_send, (bool_send, tt)))))))

  pub snapshot_send : IsSend (Snapshot.the_row D P Q g)
  snapshot_send = declared_send (Snapshot.the_type D P Q g)
      (buffer_send, (search (as_row_send, buffer_send, crosses, sendable) depth 40, (version_send, (search (as_row_send, crosses, sendable) depth 60, (u64_send, (pin_send, tt))))))

  pub snapshot_sync : IsSync (Snapshot.the_row D P Q g)
  snapshot_sync = declared_sync (Snapshot.the_type D P Q g)
      (buffer_sync, (search (as_row_sync, buffer_sync, crosses, sendable) depth 40, (version_sync, (search (as_row_sync, crosses, sendable) depth 60, (u64_sync, (pin_sync, tt))))))
