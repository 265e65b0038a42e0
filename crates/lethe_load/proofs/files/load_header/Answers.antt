use Rattle.std.proofs.Common.{refl, sym, ◌∙◌}
use Rattle.lethe_disk.proofs.Quieting.{quiet_itself}
use Rattle.lethe_load.proofs.Sets.{has}
use Rattle.lethe_load.proofs.files.load_header.Goals as goal

pub returns-then-contains-clause-quiet : goal.returns-then-contains-clause-quiet
returns-then-contains-clause-quiet g c = λ told. quiet_itself (g.D.Disk.seen c.args.disk.now)

pub returns-then-contains-clause-refused : goal.returns-then-contains-clause-refused
returns-then-contains-clause-refused g c = λ told. (refl, λ header new is. new ((has c.args.known.now c.args.cited.now.no).0 (sym c.contains.ensures ∙ c.if-contains.true)))
