use Rattle.std.proofs.Common.{rules, ◌≡◌, sym, ap, ◌∙◌, subst}
use Rattle.lethe_disk.specs.Directory.{Directory}
use Rattle.lethe_disk.specs.Disk.{Image}
use Rattle.lethe_commit.specs.Clear.{remove_all}
use Rattle.lethe_commit.specs.Switch.{older_names, placed, switched, HasNew}
use Rattle.lethe_commit.proofs.Stages.{on_ok}
use Rattle.lethe_commit.proofs.Exchange.{same_run, listing_moments, placing_moments, removing_moments, all_new, still_unswitched, tells_older}
use Rattle.lethe_commit.proofs.manifests.exchange.Goals as goal

pub returns-in_err-names-clause-any_moment : goal.returns-in_err-names-clause-any_moment
returns-in_err-names-clause-any_moment g c = λ told greatest free.
    let s0 = g.D.Disk.seen c.args.disk.now in
    let s1 = g.D.Disk.seen c.names.new.self in
    listing_moments c.args.number c.args.bytes.now greatest s0 free c.names.result s1 (c.names.ensures.call told)

pub returns-in_err-place_with_gate-clause-any_moment : goal.returns-in_err-place_with_gate-clause-any_moment
returns-in_err-place_with_gate-clause-any_moment g c = λ told greatest free.
    let s0 = g.D.Disk.seen c.args.disk.now in
    let s1 = g.D.Disk.seen c.names.new.self in
    let s2 = g.D.Disk.seen c.place_with_gate.new.disk in
    placing_moments c.args.number c.args.bytes.now greatest s0 free s1 (same_run c.args.number c.args.bytes.now greatest s0 free c.names.result s1 (c.names.ensures.call told)) s2 (c.place_with_gate.ensures.any_moment told)

pub remove_older-requires-after_bounds : goal.remove_older-requires-after_bounds
remove_older-requires-after_bounds g c κs within = λ told.
    let free = c.requires told in
    let s0 = g.D.Disk.seen c.args.disk.now in
    let s1 = g.D.Disk.seen c.names.new.self in
    let s2 = g.D.Disk.seen c.place_with_gate.new.disk in
    let here = (g.met.D.Disk g.world.𝓛 g.world.𝓜 g.world.𝓡 ((λ s x. x), (λ x. x), (λ x. x), λ x. x)).itself told c.args.disk.now in
    let done = c.in_ok-place_with_gate.ensures.done told ∙ ap (placed c.args.number c.args.bytes.now) (c.names.ensures.directory told) in (
      free.0,
      tells_older c.args.number c.args.bytes.now free.0 s0 free.1 s1 (same_run c.args.number c.args.bytes.now free.0 s0 free.1 c.names.result s1 (c.names.ensures.call told)) s2 (c.place_with_gate.ensures.any_moment told) (c.in_ok-place_with_gate.ensures.synced told) done here c.deref.result.now
          (c.deref.ensures.value ∙ c.in_ok-names.ensures.done told),
    )

pub returns-clause-any_moment : goal.returns-clause-any_moment
returns-clause-any_moment g c = λ told greatest free.
    let s0 = g.D.Disk.seen c.args.disk.now in
    let s1 = g.D.Disk.seen c.names.new.self in
    let s2 = g.D.Disk.seen c.place_with_gate.new.disk in
    let s3 = g.D.Disk.seen c.remove_older.new.disk in
    let here = (g.met.D.Disk g.world.𝓛 g.world.𝓜 g.world.𝓡 ((λ s x. x), (λ x. x), (λ x. x), λ x. x)).itself told c.args.disk.now in
    let done = c.in_ok-place_with_gate.ensures.done told ∙ ap (placed c.args.number c.args.bytes.now) (c.names.ensures.directory told) in
    let tells = tells_older c.args.number c.args.bytes.now greatest s0 free s1 (same_run c.args.number c.args.bytes.now greatest s0 free c.names.result s1 (c.names.ensures.call told)) s2 (c.place_with_gate.ensures.any_moment told) (c.in_ok-place_with_gate.ensures.synced told) done here c.deref.result.now
    (c.deref.ensures.value ∙ c.in_ok-names.ensures.done told) in
    removing_moments c.args.number c.args.bytes.now greatest s0 free s1 (same_run c.args.number c.args.bytes.now greatest s0 free c.names.result s1 (c.names.ensures.call told)) s2 (c.place_with_gate.ensures.any_moment told) (c.in_ok-place_with_gate.ensures.synced told) done here s3 (c.remove_older.ensures.any_moment told greatest tells)

pub returns-clause-done : goal.returns-clause-done
returns-clause-done g c = λ told greatest free.
    let s0 = g.D.Disk.seen c.args.disk.now in
    let s1 = g.D.Disk.seen c.names.new.self in
    let s2 = g.D.Disk.seen c.place_with_gate.new.disk in
    let s3 = g.D.Disk.seen c.remove_older.new.disk in
    let here = (g.met.D.Disk g.world.𝓛 g.world.𝓜 g.world.𝓡 ((λ s x. x), (λ x. x), (λ x. x), λ x. x)).itself told c.args.disk.now in
    let done = c.in_ok-place_with_gate.ensures.done told ∙ ap (placed c.args.number c.args.bytes.now) (c.names.ensures.directory told) in
    let tells = tells_older c.args.number c.args.bytes.now greatest s0 free s1 (same_run c.args.number c.args.bytes.now greatest s0 free c.names.result s1 (c.names.ensures.call told)) s2 (c.place_with_gate.ensures.any_moment told) (c.in_ok-place_with_gate.ensures.synced told) done here c.deref.result.now
    (c.deref.ensures.value ∙ c.in_ok-names.ensures.done told) in
    on_ok c.remove_older.result (s3.directory ≡ remove_all (older_names greatest) s2.directory) (s3.directory ≡ switched c.args.number c.args.bytes.now greatest s0.directory) (c.remove_older.ensures.done told greatest tells)
    (λ e. e ∙ ap (remove_all (older_names greatest)) done)

pub returns-clause-new : goal.returns-clause-new
returns-clause-new g c = λ told.
    let free = c.requires told in
    let s0 = g.D.Disk.seen c.args.disk.now in
    let s1 = g.D.Disk.seen c.names.new.self in
    let s2 = g.D.Disk.seen c.place_with_gate.new.disk in
    let s3 = g.D.Disk.seen c.remove_older.new.disk in
    let here = (g.met.D.Disk g.world.𝓛 g.world.𝓜 g.world.𝓡 ((λ s x. x), (λ x. x), (λ x. x), λ x. x)).itself told c.args.disk.now in
    let done = c.in_ok-place_with_gate.ensures.done told ∙ ap (placed c.args.number c.args.bytes.now) (c.names.ensures.directory told) in
    let tells = tells_older c.args.number c.args.bytes.now free.0 s0 free.1 s1 (same_run c.args.number c.args.bytes.now free.0 s0 free.1 c.names.result s1 (c.names.ensures.call told)) s2 (c.place_with_gate.ensures.any_moment told) (c.in_ok-place_with_gate.ensures.synced told) done here c.deref.result.now
    (c.deref.ensures.value ∙ c.in_ok-names.ensures.done told) in
    on_ok c.remove_older.result (s3.directory ≡ remove_all (older_names free.0) s2.directory) ((x : Directory) → Image s3 x → HasNew c.args.number c.args.bytes.now x) (c.remove_older.ensures.done told free.0 tells)
    (λ e. all_new c.args.number c.args.bytes.now free.0 s0 free.1 s1 (same_run c.args.number c.args.bytes.now free.0 s0 free.1 c.names.result s1 (c.names.ensures.call told)) s2 (c.place_with_gate.ensures.any_moment told) (c.in_ok-place_with_gate.ensures.synced told) done here s3 (c.remove_older.ensures.any_moment told free.0 tells))

pub returns-in_err-names-clause-unswitched : goal.returns-in_err-names-clause-unswitched
returns-in_err-names-clause-unswitched g c = λ told refused.
    let free = c.requires told in
    same_run c.args.number c.args.bytes.now free.0 (g.D.Disk.seen c.args.disk.now) free.1 c.names.result (g.D.Disk.seen c.names.new.self) (c.names.ensures.call told)

pub returns-in_err-place_with_gate-clause-unswitched : goal.returns-in_err-place_with_gate-clause-unswitched
returns-in_err-place_with_gate-clause-unswitched g c = λ told refused.
    let free = c.requires told in
    let s0 = g.D.Disk.seen c.args.disk.now in
    let s1 = g.D.Disk.seen c.names.new.self in
    still_unswitched c.args.number c.args.bytes.now free.0 s0 free.1 s1 (same_run c.args.number c.args.bytes.now free.0 s0 free.1 c.names.result s1 (c.names.ensures.call told))
    (g.D.Disk.seen c.place_with_gate.new.disk) (c.place_with_gate.ensures.unswitched told (search rules))

pub returns-in_err-place_with_gate-clause-no_memory : goal.returns-in_err-place_with_gate-clause-no_memory
returns-in_err-place_with_gate-clause-no_memory g c = λ told refused.
    let s0 = g.D.Disk.seen c.args.disk.now in
    let back = c.place_with_gate.ensures.no_memory told (search rules) in
    record {
      directory = back.directory ∙ c.names.ensures.directory told;
      images = λ d here. let e = (c.names.ensures.call told).images d (back.images d here) in subst (Image s0) (sym e.2) e.1;
    }
