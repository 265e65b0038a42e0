use Rattle.std.proofs.Common.{Err, ap, ◌∙◌}
use Rattle.lethe_commit.proofs.Placing.{after_manifest, after_gate, gate_is_absent, is_present, after_undoing, never_gated, no_gate_yet, taken_back}
use Rattle.lethe_commit.proofs.manifests.place_with_gate.Goals as goal

pub returns-in_err-place-clause-any_moment : goal.returns-in_err-place-clause-any_moment
returns-in_err-place-clause-any_moment g c = λ told.
    let free = c.requires told in
    let s0 = g.D.Disk.seen c.args.disk.now in
    let s1 = g.D.Disk.seen c.place.new.disk in
    after_manifest c.args.number c.args.bytes.now free.0 s0 free.1 s1 (c.place.ensures.any_moment told)

pub place-requires-2-after_bounds : goal.place-requires-2-after_bounds
place-requires-2-after_bounds g c κs within = λ told.
    let free = c.requires told in
    let s0 = g.D.Disk.seen c.args.disk.now in
    let s1 = g.D.Disk.seen c.place.new.disk in
    let here = (g.met.D.Disk g.world.𝓛 g.world.𝓜 g.world.𝓡 ((λ s x. x), (λ x. x), (λ x. x), λ x. x)).itself told c.args.disk.now in
    gate_is_absent c.args.number c.args.bytes.now free.0 s0 free.1 s1 (c.place.ensures.any_moment told) (c.in_ok-place.ensures.synced told) (c.in_ok-place.ensures.done told) here

pub clear-requires-after_bounds : goal.clear-requires-after_bounds
clear-requires-after_bounds g c κs within = λ told.
    let free = c.requires told in
    let s0 = g.D.Disk.seen c.args.disk.now in
    let s1 = g.D.Disk.seen c.place.new.disk in
    let s2 = g.D.Disk.seen c.place-2.new.disk in
    let here = (g.met.D.Disk g.world.𝓛 g.world.𝓜 g.world.𝓡 ((λ s x. x), (λ x. x), (λ x. x), λ x. x)).itself told c.args.disk.now in
    let same = c.place-2.ensures.no_memory told (c.in-Err-NoMemory.is ∙ ap (λ e. Err e) c.in-Err-NoMemory.field-0-is) in
    is_present c.args.number c.args.bytes.now free.0 s0 free.1 s1 (c.place.ensures.any_moment told) (c.in_ok-place.ensures.synced told) (c.in_ok-place.ensures.done told) here s2 same

pub returns-in_err-clear-in-Err-NoMemory-clause-any_moment : goal.returns-in_err-clear-in-Err-NoMemory-clause-any_moment
returns-in_err-clear-in-Err-NoMemory-clause-any_moment g c = λ told.
    let free = c.requires told in
    let s0 = g.D.Disk.seen c.args.disk.now in
    let s1 = g.D.Disk.seen c.place.new.disk in
    let s2 = g.D.Disk.seen c.place-2.new.disk in
    let s3 = g.D.Disk.seen c.clear.new.disk in
    let here = (g.met.D.Disk g.world.𝓛 g.world.𝓜 g.world.𝓡 ((λ s x. x), (λ x. x), (λ x. x), λ x. x)).itself told c.args.disk.now in
    let same = c.place-2.ensures.no_memory told (c.in-Err-NoMemory.is ∙ ap (λ e. Err e) c.in-Err-NoMemory.field-0-is) in
    after_undoing c.args.number c.args.bytes.now free.0 s0 free.1 s1 (c.place.ensures.any_moment told) (c.in_ok-place.ensures.synced told) (c.in_ok-place.ensures.done told) here s2 same s3 (after_gate c.args.number c.args.bytes.now free.0 s0 free.1 s1 (c.place.ensures.any_moment told) (c.in_ok-place.ensures.synced told) (c.in_ok-place.ensures.done told) s2 (c.place-2.ensures.any_moment told)) (c.clear.ensures.any_moment told)

pub returns-in_ok-clear-in-Err-NoMemory-clause-any_moment : goal.returns-in_ok-clear-in-Err-NoMemory-clause-any_moment
returns-in_ok-clear-in-Err-NoMemory-clause-any_moment g c = λ told.
    let free = c.requires told in
    let s0 = g.D.Disk.seen c.args.disk.now in
    let s1 = g.D.Disk.seen c.place.new.disk in
    let s2 = g.D.Disk.seen c.place-2.new.disk in
    let s3 = g.D.Disk.seen c.clear.new.disk in
    let here = (g.met.D.Disk g.world.𝓛 g.world.𝓜 g.world.𝓡 ((λ s x. x), (λ x. x), (λ x. x), λ x. x)).itself told c.args.disk.now in
    let same = c.place-2.ensures.no_memory told (c.in-Err-NoMemory.is ∙ ap (λ e. Err e) c.in-Err-NoMemory.field-0-is) in
    after_undoing c.args.number c.args.bytes.now free.0 s0 free.1 s1 (c.place.ensures.any_moment told) (c.in_ok-place.ensures.synced told) (c.in_ok-place.ensures.done told) here s2 same s3 (after_gate c.args.number c.args.bytes.now free.0 s0 free.1 s1 (c.place.ensures.any_moment told) (c.in_ok-place.ensures.synced told) (c.in_ok-place.ensures.done told) s2 (c.place-2.ensures.any_moment told)) (c.clear.ensures.any_moment told)

pub returns-in_ok-clear-in-Err-NoMemory-clause-no_memory : goal.returns-in_ok-clear-in-Err-NoMemory-clause-no_memory
returns-in_ok-clear-in-Err-NoMemory-clause-no_memory g c = λ told refused.
    let free = c.requires told in
    let s0 = g.D.Disk.seen c.args.disk.now in
    let s1 = g.D.Disk.seen c.place.new.disk in
    let s2 = g.D.Disk.seen c.place-2.new.disk in
    let s3 = g.D.Disk.seen c.clear.new.disk in
    let here = (g.met.D.Disk g.world.𝓛 g.world.𝓜 g.world.𝓡 ((λ s x. x), (λ x. x), (λ x. x), λ x. x)).itself told c.args.disk.now in
    let same = c.place-2.ensures.no_memory told (c.in-Err-NoMemory.is ∙ ap (λ e. Err e) c.in-Err-NoMemory.field-0-is) in
    taken_back c.args.number c.args.bytes.now free.0 s0 free.1 s1 (c.place.ensures.any_moment told) (c.in_ok-place.ensures.synced told) (c.in_ok-place.ensures.done told) here s2 same s3 (c.in_ok-clear-in-Err-NoMemory.ensures.done told) (c.in_ok-clear-in-Err-NoMemory.ensures.synced told)

pub returns-in-Ok-clause-any_moment : goal.returns-in-Ok-clause-any_moment
returns-in-Ok-clause-any_moment g c = λ told.
    let free = c.requires told in
    let s0 = g.D.Disk.seen c.args.disk.now in
    let s1 = g.D.Disk.seen c.place.new.disk in
    let s2 = g.D.Disk.seen c.place-2.new.disk in
    after_gate c.args.number c.args.bytes.now free.0 s0 free.1 s1 (c.place.ensures.any_moment told) (c.in_ok-place.ensures.synced told) (c.in_ok-place.ensures.done told) s2 (c.place-2.ensures.any_moment told)

pub returns-in-Err-Failed-clause-any_moment : goal.returns-in-Err-Failed-clause-any_moment
returns-in-Err-Failed-clause-any_moment g c = λ told.
    let free = c.requires told in
    let s0 = g.D.Disk.seen c.args.disk.now in
    let s1 = g.D.Disk.seen c.place.new.disk in
    let s2 = g.D.Disk.seen c.place-2.new.disk in
    after_gate c.args.number c.args.bytes.now free.0 s0 free.1 s1 (c.place.ensures.any_moment told) (c.in_ok-place.ensures.synced told) (c.in_ok-place.ensures.done told) s2 (c.place-2.ensures.any_moment told)

pub returns-in_err-place-clause-unswitched : goal.returns-in_err-place-clause-unswitched
returns-in_err-place-clause-unswitched g c = λ told refused.
    let free = c.requires told in
    no_gate_yet c.args.number c.args.bytes.now free.0 (g.D.Disk.seen c.args.disk.now) free.1 (g.D.Disk.seen c.place.new.disk) (c.place.ensures.any_moment told)

pub returns-in_ok-clear-in-Err-NoMemory-clause-unswitched : goal.returns-in_ok-clear-in-Err-NoMemory-clause-unswitched
returns-in_ok-clear-in-Err-NoMemory-clause-unswitched g c = λ told refused.
    let free = c.requires told in
    let s0 = g.D.Disk.seen c.args.disk.now in
    let s1 = g.D.Disk.seen c.place.new.disk in
    let s2 = g.D.Disk.seen c.place-2.new.disk in
    let s3 = g.D.Disk.seen c.clear.new.disk in
    let here = (g.met.D.Disk g.world.𝓛 g.world.𝓜 g.world.𝓡 ((λ s x. x), (λ x. x), (λ x. x), λ x. x)).itself told c.args.disk.now in
    let same = c.place-2.ensures.no_memory told (c.in-Err-NoMemory.is ∙ ap (λ e. Err e) c.in-Err-NoMemory.field-0-is) in
    never_gated c.args.number c.args.bytes.now free.0 s0 free.1 s1 (c.place.ensures.any_moment told) (c.in_ok-place.ensures.synced told) (c.in_ok-place.ensures.done told) here s2 same s3 (c.place-2.ensures.any_moment told) (c.clear.ensures.any_moment told)
