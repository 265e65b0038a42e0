use Rattle.std.proofs.Common.{◌≡◌, Some, sym, ap, subst, ◌∙◌}
use Rattle.lethe_disk.specs.Runs.{Leads}
use Rattle.lethe_commit.specs.Clear.{ArePresent, IsCleared, remove_all}
use Rattle.lethe_commit.specs.Switch.{older_names}
use Rattle.lethe_commit.proofs.Stages.{on_ok}
use Rattle.lethe_commit.proofs.Exchange.{none_cleared, none_removed}
use Rattle.lethe_commit.proofs.manifests.remove_known.Goals as goal

pub returns-in_default-clause-any_moment : goal.returns-in_default-clause-any_moment
returns-in_default-clause-any_moment g c = λ told. none_cleared (older_names c.args.older) (g.D.Disk.seen c.args.disk.now)

pub returns-in_default-clause-done : goal.returns-in_default-clause-done
returns-in_default-clause-done g c = λ told. none_removed c.args.older (g.D.Disk.seen c.args.disk.now).directory c.in_default.is

pub remove_each-requires-after_bounds : goal.remove_each-requires-after_bounds
remove_each-requires-after_bounds g c κs within = λ told. subst (λ o. ArePresent (older_names o) (g.D.Disk.seen c.args.disk.now).directory) c.in-Some.is (c.requires told)

pub returns-clause-any_moment : goal.returns-clause-any_moment
returns-clause-any_moment g c = λ told.
    let s0 = g.D.Disk.seen c.args.disk.now in
    let s1 = g.D.Disk.seen c.remove_each.new.disk in
    subst (λ o. Leads (IsCleared (older_names o)) s0 s1) (sym c.in-Some.is) (c.remove_each.ensures.any_moment told)

pub returns-clause-done : goal.returns-clause-done
returns-clause-done g c = λ told.
    let s0 = g.D.Disk.seen c.args.disk.now in
    let s1 = g.D.Disk.seen c.remove_each.new.disk in
    let k = c.in-Some.number in
    on_ok c.remove_each.result (s1.directory ≡ remove_all (older_names (Some k)) s0.directory) (s1.directory ≡ remove_all (older_names c.args.older) s0.directory) (c.remove_each.ensures.done told)
    (λ e. e ∙ ap (λ o. remove_all (older_names o) s0.directory) (sym c.in-Some.is))
