use Rattle.lethe_core.specs.View.{view_of}
use Rattle.lethe_engine.proofs.Certified.{left_behind, left_history, reopened_gone}
use Rattle.lethe_engine.proofs.laws.reopened_is_without_certified.Goals as goal

pub returns : goal.returns
returns g c = λ told config opened h before_tick caller certificate is moment left low high there same synced.
    let view = view_of c.args._engine.now.core in
    let start = g.D.Disk.seen c.args._start.now in (
      left_history config opened h view before_tick caller certificate is moment left low high there start same synced,
      left_behind config opened h view before_tick caller certificate is moment left low high there start same synced,
      λ runs resumed. reopened_gone config opened h view before_tick caller certificate is moment left low high there start same synced (view_of c.args._reopened.now.core) runs resumed,
    )
