use Rattle.std.proofs.Common.{map, arith}
use Rattle.lethe_commit.specs.Place.{name_of}
use Rattle.lethe_commit.proofs.Removals.{at_start, is_there, after_removal, one_more}
use Rattle.lethe_commit.proofs.Creations.{name_within, name_at_map}
use Rattle.lethe_commit.proofs.objects.remove_objects.Goals as goal

pub loop-object-init : goal.loop-object-init
loop-object-init g c = (λ told. at_start (map name_of c.args.objects.now) (g.D.Disk.seen c.args.disk.now) (c.requires told), omega arith)

pub remove-requires : goal.remove-requires
remove-requires g c = λ told.
    is_there (map name_of c.args.objects.now) c.loop-object.object-index c.object-item.result.name (g.D.Disk.seen c.args.disk.now) (g.D.Disk.seen c.loop-object.disk) (name_within c.args.objects.now c.loop-object.object-index c.loop-object-test.true) (name_at_map c.args.objects.now c.loop-object.object-index c.object-item.result c.loop-object-test.true c.object-item.is) (c.loop-object.invariant.0 told)

pub returns-in_err-remove-clause-any_moment : goal.returns-in_err-remove-clause-any_moment
returns-in_err-remove-clause-any_moment g c = λ told.
    (after_removal (map name_of c.args.objects.now) c.loop-object.object-index c.object-item.result.name c.remove.result (g.D.Disk.seen c.args.disk.now) (g.D.Disk.seen c.loop-object.disk) (g.D.Disk.seen c.remove.new.self) (name_within c.args.objects.now c.loop-object.object-index c.loop-object-test.true) (name_at_map c.args.objects.now c.loop-object.object-index c.object-item.result c.loop-object-test.true c.object-item.is) (c.loop-object.invariant.0 told) (c.remove.ensures.call told)).each

pub loop-object-preserved : goal.loop-object-preserved
loop-object-preserved g c = (
  λ told. one_more (map name_of c.args.objects.now) c.loop-object.object-index c.object-item.result.name c.remove.result (g.D.Disk.seen c.args.disk.now) (g.D.Disk.seen c.loop-object.disk) (g.D.Disk.seen c.remove.new.self) (name_within c.args.objects.now c.loop-object.object-index c.loop-object-test.true) (name_at_map c.args.objects.now c.loop-object.object-index c.object-item.result c.loop-object-test.true c.object-item.is) (c.loop-object.invariant.0 told) (c.remove.ensures.call told)
      (c.in_ok-remove.ensures.done told) (c.in_ok-remove.ensures.call told).counted,
  omega (arith, c.loop-object.invariant.1, c.remove.ensures.cause.later),
)
