use Rattle.lethe_tile.proofs.Bits.{sets_more}
use Rattle.lethe_tile.proofs.filter.set_all.Goals as goal

pub loop-probe-preserved : goal.loop-probe-preserved
loop-probe-preserved c = (
  sets_more c.args.words.now c.loop-probe.words c.set.new.words c.args.hash c.loop-probe.probe c.loop-probe.auto.words c.loop-probe.invariant.0 (λ bit. rw c.place.ensures at (c.set.ensures.set bit)),
  λ all. c.set.ensures.words (c.loop-probe.invariant.1 all),
)
