use Rattle.std.proofs.Common.{◌≡◌}
use Rattle.lethe_disk.specs.Directory.{Directory}
use Rattle.lethe_disk.specs.Disk.{Image}
use Rattle.lethe_disk.specs.Runs.{Leads}
use Rattle.lethe_disk.proofs.Moments.{leads_start}
use Rattle.lethe_commit.specs.Clear.{remove_all}
use Rattle.lethe_commit.specs.Switch.{IsUnswitched, older_names, HasNew}
use Rattle.lethe_commit.proofs.Stages.{on_ok}
use Rattle.lethe_commit.proofs.Exchange.{itself, placing_moments, older_present, removing_moments, all_new, greatest_throughout}
use Rattle.lethe_commit.proofs.manifests.switch_to.Goals as goal

pub returns-in_err-place_with_gate-clause-any_moment : goal.returns-in_err-place_with_gate-clause-any_moment
returns-in_err-place_with_gate-clause-any_moment g c = λ told.
    let s0 = g.D.Disk.seen c.args.disk.now in
    let s2 = g.D.Disk.seen c.place_with_gate.new.disk in
    let free = c.requires.free told in
    let start : Leads (IsUnswitched c.args.number) s0 s0 = leads_start (IsUnswitched c.args.number) s0 (itself c.args.number c.args.bytes.now c.args.older s0 free) in
    placing_moments c.args.number c.args.bytes.now c.args.older s0 free s0 start s2 (c.place_with_gate.ensures.any_moment told)

pub remove_known-requires-after_bounds : goal.remove_known-requires-after_bounds
remove_known-requires-after_bounds g c κs within = λ told.
    let s0 = g.D.Disk.seen c.args.disk.now in
    let s2 = g.D.Disk.seen c.place_with_gate.new.disk in
    let free = c.requires.free told in
    let start : Leads (IsUnswitched c.args.number) s0 s0 = leads_start (IsUnswitched c.args.number) s0 (itself c.args.number c.args.bytes.now c.args.older s0 free) in
    let here = (g.met.D.Disk g.world.𝓛 g.world.𝓜 g.world.𝓡 ((λ s x. x), (λ x. x), (λ x. x), λ x. x)).itself told c.args.disk.now in
    older_present c.args.number c.args.bytes.now c.args.older s0 free s0 start s2 (c.place_with_gate.ensures.any_moment told) (c.in_ok-place_with_gate.ensures.synced told) (c.in_ok-place_with_gate.ensures.done told) here (c.requires.there told)

pub returns-clause-any_moment : goal.returns-clause-any_moment
returns-clause-any_moment g c = λ told.
    let s0 = g.D.Disk.seen c.args.disk.now in
    let s2 = g.D.Disk.seen c.place_with_gate.new.disk in
    let s3 = g.D.Disk.seen c.remove_known.new.disk in
    let free = c.requires.free told in
    let start : Leads (IsUnswitched c.args.number) s0 s0 = leads_start (IsUnswitched c.args.number) s0 (itself c.args.number c.args.bytes.now c.args.older s0 free) in
    let here = (g.met.D.Disk g.world.𝓛 g.world.𝓜 g.world.𝓡 ((λ s x. x), (λ x. x), (λ x. x), λ x. x)).itself told c.args.disk.now in
    removing_moments c.args.number c.args.bytes.now c.args.older s0 free s0 start s2 (c.place_with_gate.ensures.any_moment told) (c.in_ok-place_with_gate.ensures.synced told) (c.in_ok-place_with_gate.ensures.done told) here s3 (c.remove_known.ensures.any_moment told)

pub returns-clause-new : goal.returns-clause-new
returns-clause-new g c = λ told.
    let s0 = g.D.Disk.seen c.args.disk.now in
    let s2 = g.D.Disk.seen c.place_with_gate.new.disk in
    let s3 = g.D.Disk.seen c.remove_known.new.disk in
    let free = c.requires.free told in
    let start : Leads (IsUnswitched c.args.number) s0 s0 = leads_start (IsUnswitched c.args.number) s0 (itself c.args.number c.args.bytes.now c.args.older s0 free) in
    let here = (g.met.D.Disk g.world.𝓛 g.world.𝓜 g.world.𝓡 ((λ s x. x), (λ x. x), (λ x. x), λ x. x)).itself told c.args.disk.now in
    on_ok c.remove_known.result (s3.directory ≡ remove_all (older_names c.args.older) s2.directory) ((x : Directory) → Image s3 x → HasNew c.args.number c.args.bytes.now x) (c.remove_known.ensures.done told)
    (λ e. all_new c.args.number c.args.bytes.now c.args.older s0 free s0 start s2 (c.place_with_gate.ensures.any_moment told) (c.in_ok-place_with_gate.ensures.synced told) (c.in_ok-place_with_gate.ensures.done told) here s3 (c.remove_known.ensures.any_moment told))

pub returns-in_err-place_with_gate-clause-greatest : goal.returns-in_err-place_with_gate-clause-greatest
returns-in_err-place_with_gate-clause-greatest g c = λ told.
    let s0 = g.D.Disk.seen c.args.disk.now in
    let s2 = g.D.Disk.seen c.place_with_gate.new.disk in
    let free = c.requires.free told in
    let start : Leads (IsUnswitched c.args.number) s0 s0 = leads_start (IsUnswitched c.args.number) s0 (itself c.args.number c.args.bytes.now c.args.older s0 free) in
    greatest_throughout c.args.number c.args.bytes.now c.args.older s0 s2 free
    (placing_moments c.args.number c.args.bytes.now c.args.older s0 free s0 start s2 (c.place_with_gate.ensures.any_moment told))

pub returns-clause-greatest : goal.returns-clause-greatest
returns-clause-greatest g c = λ told.
    let s0 = g.D.Disk.seen c.args.disk.now in
    let s2 = g.D.Disk.seen c.place_with_gate.new.disk in
    let s3 = g.D.Disk.seen c.remove_known.new.disk in
    let free = c.requires.free told in
    let start : Leads (IsUnswitched c.args.number) s0 s0 = leads_start (IsUnswitched c.args.number) s0 (itself c.args.number c.args.bytes.now c.args.older s0 free) in
    let here = (g.met.D.Disk g.world.𝓛 g.world.𝓜 g.world.𝓡 ((λ s x. x), (λ x. x), (λ x. x), λ x. x)).itself told c.args.disk.now in
    greatest_throughout c.args.number c.args.bytes.now c.args.older s0 s3 free
    (removing_moments c.args.number c.args.bytes.now c.args.older s0 free s0 start s2 (c.place_with_gate.ensures.any_moment told) (c.in_ok-place_with_gate.ensures.synced told) (c.in_ok-place_with_gate.ensures.done told) here s3 (c.remove_known.ensures.any_moment told))
