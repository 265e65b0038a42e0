use Rattle.std.proofs.Common.{Err, map, ap, ◌∙◌, arith}
use Rattle.lethe_commit.specs.Place.{name_of}
use Rattle.lethe_commit.proofs.Creations.{at_start, next_is_absent, after_creation, one_more, all_present, after_taking_back, after_sync, taken_back}
use Rattle.lethe_commit.proofs.objects.create_each.Goals as goal

pub loop-created-init : goal.loop-created-init
loop-created-init g c = (λ told. at_start c.args.objects.now (g.D.Disk.seen c.args.disk.now), omega arith)

pub create-requires : goal.create-requires
create-requires g c = λ told.
    next_is_absent c.args.objects.now (g.D.Disk.seen c.args.disk.now).directory (g.D.Disk.seen c.loop-created.disk).directory c.loop-created.created c.index-objects-created.result c.loop-created-test.true c.index-objects-created.is (c.requires told) (c.loop-created.invariant.0 told).so_far

pub returns-in-Err-Failed-clause-any_moment : goal.returns-in-Err-Failed-clause-any_moment
returns-in-Err-Failed-clause-any_moment g c = λ told.
    let s0 = g.D.Disk.seen c.args.disk.now in
    let s1 = g.D.Disk.seen c.create.new.self in
    let made = after_creation c.args.objects.now c.loop-created.created c.index-objects-created.result c.create.result s0 (g.D.Disk.seen c.loop-created.disk) s1 c.loop-created-test.true c.index-objects-created.is (c.loop-created.invariant.0 told) (c.create.ensures.call told) in
    made.each

pub remove_objects-requires-after_bounds : goal.remove_objects-requires-after_bounds
remove_objects-requires-after_bounds g c κs within = λ told.
    let s0 = g.D.Disk.seen c.args.disk.now in
    let s1 = g.D.Disk.seen c.create.new.self in
    let refused = c.in-Err-NoMemory.is ∙ ap (λ e. Err e) c.in-Err-NoMemory.field-0-is in
    let so_far = ((c.create.ensures.call told).no_memory refused).1 ∙ (c.loop-created.invariant.0 told).so_far in
    all_present c.args.objects.now c.loop-created.created s0 s1 (c.requires told) so_far

pub returns-in_err-remove_objects-in-Err-NoMemory-clause-any_moment : goal.returns-in_err-remove_objects-in-Err-NoMemory-clause-any_moment
returns-in_err-remove_objects-in-Err-NoMemory-clause-any_moment g c = λ told.
    let s0 = g.D.Disk.seen c.args.disk.now in
    let s1 = g.D.Disk.seen c.create.new.self in
    let s2 = g.D.Disk.seen c.remove_objects.new.disk in
    let made = after_creation c.args.objects.now c.loop-created.created c.index-objects-created.result c.create.result s0 (g.D.Disk.seen c.loop-created.disk) s1 c.loop-created-test.true c.index-objects-created.is (c.loop-created.invariant.0 told) (c.create.ensures.call told) in
    after_taking_back c.args.objects.now c.loop-created.created s0 s1 s2 made.each (c.remove_objects.ensures.any_moment told)

pub returns-in_err-sync-in-Err-NoMemory-clause-any_moment : goal.returns-in_err-sync-in-Err-NoMemory-clause-any_moment
returns-in_err-sync-in-Err-NoMemory-clause-any_moment g c = λ told.
    let s0 = g.D.Disk.seen c.args.disk.now in
    let s1 = g.D.Disk.seen c.create.new.self in
    let s2 = g.D.Disk.seen c.remove_objects.new.disk in
    let s3 = g.D.Disk.seen c.sync.new.self in
    let made = after_creation c.args.objects.now c.loop-created.created c.index-objects-created.result c.create.result s0 (g.D.Disk.seen c.loop-created.disk) s1 c.loop-created-test.true c.index-objects-created.is (c.loop-created.invariant.0 told) (c.create.ensures.call told) in
    after_sync (map name_of c.args.objects.now) c.sync.result s0 s2 s3
    (after_taking_back c.args.objects.now c.loop-created.created s0 s1 s2 made.each (c.remove_objects.ensures.any_moment told)) (c.sync.ensures.call told)

pub returns-in-Err-NoMemory-clause-any_moment : goal.returns-in-Err-NoMemory-clause-any_moment
returns-in-Err-NoMemory-clause-any_moment g c = λ told.
    let s0 = g.D.Disk.seen c.args.disk.now in
    let s1 = g.D.Disk.seen c.create.new.self in
    let s2 = g.D.Disk.seen c.remove_objects.new.disk in
    let s3 = g.D.Disk.seen c.sync.new.self in
    let made = after_creation c.args.objects.now c.loop-created.created c.index-objects-created.result c.create.result s0 (g.D.Disk.seen c.loop-created.disk) s1 c.loop-created-test.true c.index-objects-created.is (c.loop-created.invariant.0 told) (c.create.ensures.call told) in
    after_sync (map name_of c.args.objects.now) c.sync.result s0 s2 s3
    (after_taking_back c.args.objects.now c.loop-created.created s0 s1 s2 made.each (c.remove_objects.ensures.any_moment told)) (c.sync.ensures.call told)

pub returns-in-Err-NoMemory-clause-no_memory : goal.returns-in-Err-NoMemory-clause-no_memory
returns-in-Err-NoMemory-clause-no_memory g c = λ told _.
    let s0 = g.D.Disk.seen c.args.disk.now in
    let s1 = g.D.Disk.seen c.create.new.self in
    let s2 = g.D.Disk.seen c.remove_objects.new.disk in
    let s3 = g.D.Disk.seen c.sync.new.self in
    let refused = c.in-Err-NoMemory.is ∙ ap (λ e. Err e) c.in-Err-NoMemory.field-0-is in
    let so_far = ((c.create.ensures.call told).no_memory refused).1 ∙ (c.loop-created.invariant.0 told).so_far in
    let here = (g.met.D.Disk g.world.𝓛 g.world.𝓜 g.world.𝓡 ((λ s x. x), (λ x. x), (λ x. x), λ x. x)).itself told c.args.disk.now in
    taken_back c.args.objects.now c.loop-created.created s0 s1 (c.requires told) so_far s2 s3 here (c.in_ok-remove_objects-in-Err-NoMemory.ensures.done told) (c.sync.ensures.directory told) (c.in_ok-sync-in-Err-NoMemory.ensures.done told)

pub loop-created-preserved : goal.loop-created-preserved
loop-created-preserved g c = (
  λ told. one_more c.args.objects.now c.loop-created.created c.index-objects-created.result c.items.result.now c.create.result (g.D.Disk.seen c.args.disk.now) (g.D.Disk.seen c.loop-created.disk) (g.D.Disk.seen c.create.new.self) c.loop-created-test.true c.index-objects-created.is c.items.ensures (c.loop-created.invariant.0 told) (c.create.ensures.call told)
      (c.in-Ok.ensures.done told) (c.in-Ok.ensures.call told).counted,
  omega (arith, c.loop-created.invariant.1, c.create.ensures.cause.later),
)
