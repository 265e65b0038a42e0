use Rattle.std.proofs.Common.{◌≡◌, None, sym, ap, subst, ◌∙◌}
use Rattle.std.specs.FinMap.{keys}
use Rattle.lethe_base.specs.declared.name.Name.{Name}
use Rattle.lethe_disk.specs.Directory.{object}
use Rattle.lethe_disk.proofs.Moments.{same_synced}
use Rattle.lethe_commit.specs.Clear.{ArePresent, IsCleared, remove_all}
use Rattle.lethe_commit.specs.Switch.{HasGreatest}
use Rattle.lethe_disk.proofs.Quieting.{quiet_call, on_ok}
use Rattle.lethe_disk.proofs.Going.{goes_leads, goes_quiet, goes_then}
use Rattle.lethe_recover.proofs.Begun.{everything_present, everything_gone, cleared_none}
use Rattle.lethe_recover.proofs.beginning.remove_everything.Goals as goal

pub clear-requires-after_bounds : goal.clear-requires-after_bounds
clear-requires-after_bounds g c κs within = λ told.
    let d1 = (g.D.Disk.seen c.names.new.self).directory in
    subst (λ l. ArePresent l d1) (sym (c.deref.ensures.value ∙ c.in_ok-names.ensures.done told ∙ ap keys (sym (c.names.ensures.directory told)))) (everything_present d1)

pub returns-clause-any_moment : goal.returns-clause-any_moment
returns-clause-any_moment g c = λ told.
    let s0 = g.D.Disk.seen c.args.disk.now in
    let s1 = g.D.Disk.seen c.names.new.self in
    let s2 = g.D.Disk.seen c.clear.new.disk in
    let asked = c.requires told in
    let synced = same_synced c.names.result s0 s1 (c.names.ensures.call told) (c.names.ensures.directory told) asked.0 in
    let none : HasGreatest None s1.directory = subst (HasGreatest None) (sym (c.names.ensures.directory told)) asked.1 in
    goes_then (HasGreatest None) s0 s1 s2
    (goes_quiet (HasGreatest None) s0 s1 (quiet_call c.names.result s0 s1 (c.names.ensures.call told) (c.names.ensures.directory told)) (λ d here. subst (HasGreatest None) (sym (asked.0 d here)) asked.1))
    (goes_leads (HasGreatest None) (IsCleared c.deref.result.now) s1 s2 (c.clear.ensures.any_moment told) (λ d e here cleared. cleared_none c.deref.result.now d e (subst (HasGreatest None) (sym (synced d here)) none) cleared))

pub returns-clause-done : goal.returns-clause-done
returns-clause-done g c = λ told.
    let d1 = (g.D.Disk.seen c.names.new.self).directory in
    let s2 = g.D.Disk.seen c.clear.new.disk in
    let all : c.deref.result.now ≡ keys d1 = c.deref.ensures.value ∙ c.in_ok-names.ensures.done told ∙ ap keys (sym (c.names.ensures.directory told)) in
    on_ok c.clear.result (s2.directory ≡ remove_all c.deref.result.now d1) ((name : Name) → object s2.directory name ≡ None) (c.clear.ensures.done told)
    (λ done name. ap (λ x. object x name) (done ∙ ap (λ l. remove_all l d1) all) ∙ everything_gone d1 name)
