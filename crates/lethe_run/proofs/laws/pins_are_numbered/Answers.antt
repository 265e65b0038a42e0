use Rattle.lethe_run.proofs.TurnLaws.{printed_numbers, turned_numbers}
use Rattle.lethe_run.proofs.laws.pins_are_numbered.Goals as goal

pub returns-clause-turned : goal.returns-clause-turned
returns-clause-turned g c = turned_numbers g.D.Disk.ports_fail

pub returns-clause-printed : goal.returns-clause-printed
returns-clause-printed g c = printed_numbers g.D.Disk.ports_fail
