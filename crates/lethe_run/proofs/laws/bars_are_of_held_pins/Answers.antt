use Rattle.lethe_run.proofs.TurnLaws.{bar_may_be_held}
use Rattle.lethe_run.proofs.laws.bars_are_of_held_pins.Goals as goal

pub returns : goal.returns
returns g c = bar_may_be_held g.D.Disk.ports_fail
