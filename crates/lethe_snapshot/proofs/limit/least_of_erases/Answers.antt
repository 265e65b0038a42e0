use Rattle.std.proofs.Common.{◌≡◌, arith}
use Rattle.lethe_base.specs.declared.pending.Pending.{Pending}
use Rattle.lethe_snapshot.proofs.Least.{least_all, least_more, least_of_two}
use Rattle.lethe_snapshot.proofs.limit.least_of_erases.Goals as goal

pub loop-erase-preserved : goal.loop-erase-preserved
loop-erase-preserved c =
    least_more (λ (erase : Pending) time. erase.time ≡ time) c.args.time c.args.erases.now c.loop-erase.erase-index c.erase-item.result c.loop-erase.least c.min-least.result
    c.loop-erase-test.true c.erase-item.is c.loop-erase.invariant (least_of_two c.loop-erase.least c.erase-item.result.time c.min-least.result c.min-least.ensures)

pub returns : goal.returns
returns c = least_all (λ (erase : Pending) time. erase.time ≡ time) c.args.time c.args.erases.now c.loop-erase.erase-index c.loop-erase.least (omega arith) c.loop-erase.invariant
