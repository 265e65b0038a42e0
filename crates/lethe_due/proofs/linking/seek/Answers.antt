use Rattle.std.proofs.Common.{◌∙◌, sym, arith}
use Rattle.slab.specs.Slab.{get}
use Rattle.lethe_due.specs.Linked.{stops_at}
use Rattle.lethe_due.proofs.Walked.{moves}
use Rattle.lethe_due.proofs.linking.seek.Goals as goal

pub loop-place-preserved : goal.loop-place-preserved
loop-place-preserved g c = (
  λ cells path. moves (get c.args.nodes.now) c.args.first cells (stops_at c.args.stop) c.loop-place.behind c.loop-place.from c.loop-place.place c.in-Some.node.now (c.loop-place.invariant.0 cells path) (sym c.in-Some.ensures)
      (sym c.stops.ensures ∙ c.if-stops.false),
  omega (arith, c.look.ensures, c.loop-place.invariant.1),
)
