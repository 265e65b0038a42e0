use Rattle.std.proofs.Common.{◌≡◌, sym, ap, ◌∙◌, subst}
use Rattle.lethe_disk.specs.Disk.{IsSynced}
use Rattle.lethe_disk.specs.Runs.{Leads}
use Rattle.lethe_disk.proofs.Quieting.{on_ok_both}
use Rattle.lethe_commit.specs.Clear.{ArePresent, IsCleared, remove_all}
use Rattle.lethe_advance.specs.Settled.{IsSettled, HasOnly}
use Rattle.lethe_advance.proofs.Stayed.{came_now}
use Rattle.lethe_loose.proofs.Pages.{pages_present, remove_moments, settled_alone}
use Rattle.lethe_loose.proofs.removing.remove_named.Goals as goal

pub clear-requires-after_bounds : goal.clear-requires-after_bounds
clear-requires-after_bounds g c κs within = λ told.
    let asked = c.requires.there told in
    let s0 = g.D.Disk.seen c.args.disk.now in
    subst (λ l. ArePresent l s0.directory) (sym asked.4) (pages_present s0 asked.0 asked.1 asked.2 asked.3)

pub returns-clause-any_moment : goal.returns-clause-any_moment
returns-clause-any_moment g c = λ told s left gone may named.
    let s0 = g.D.Disk.seen c.args.disk.now in
    let s1 = g.D.Disk.seen c.clear.new.disk in
    remove_moments s0 s left gone may s1 (subst (λ l. Leads (IsCleared l) s0 s1) named (c.clear.ensures.any_moment told))

pub returns-clause-done : goal.returns-clause-done
returns-clause-done g c = λ told s left gone may named.
    let s0 = g.D.Disk.seen c.args.disk.now in
    let s1 = g.D.Disk.seen c.clear.new.disk in
    on_ok_both c.clear.result (IsSynced s1) (s1.directory ≡ remove_all c.args.names.now s0.directory) (IsSettled s1 s × HasOnly s left s1.directory)
    (c.clear.ensures.synced told) (c.clear.ensures.done told) (λ synced done.
    settled_alone s0 s left gone may s1 synced (done ∙ ap (λ l. remove_all l s0.directory) named))

pub returns-clause-others : goal.returns-clause-others
returns-clause-others g c = λ told.
    let asked = c.requires.there told in
    let laws = g.met.D.Disk g.world.𝓛 g.world.𝓜 g.world.𝓡 ((λ s x. x), (λ x. x), (λ x. x), λ x. x) in
    let s0 = g.D.Disk.seen c.args.disk.now in
    let s1 = g.D.Disk.seen c.clear.new.disk in
    (came_now (IsCleared c.args.names.now) s0 s1 asked.3.settled.synced (c.clear.ensures.any_moment told) (laws.itself told c.clear.new.disk)).others
