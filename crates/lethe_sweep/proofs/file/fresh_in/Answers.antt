use Rattle.lethe_sweep.proofs.Reading.{fresh_more}
use Rattle.lethe_swept.specs.Left.{fresh_in}
use Rattle.lethe_sweep.proofs.file.fresh_in.Goals as goal

pub loop-tile-preserved : goal.loop-tile-preserved
loop-tile-preserved c =
    fresh_more (fresh_in c.args.swept) c.loop-tile.fresh.items c.add_fresh.new.fresh.items c.in-Some.tile c.loop-tile.tile-iterator.rest.items c.next.new.self.rest.items c.loop-tile.invariant c.in-Some.ensures.steps.0 c.in_ok-add_fresh.ensures
