use Rattle.std.proofs.Common.{Some, length, map, ap, ◌∙◌, subst, rules}
use Rattle.lethe_manifest.specs.Manifests.{manifest_bytes}
use Rattle.lethe_disk.specs.Disk.{Image}
use Rattle.lethe_disk.specs.Runs.{Leads}
use Rattle.lethe_commit.specs.Switch.{HasNew, IsSwitched, switched}
use Rattle.lethe_version.specs.Versions.{levels_of}
use Rattle.lethe_advance.specs.declared.new_header.NewHeader.{NewHeader}
use Rattle.lethe_advance.specs.Shown.{AreLevelsWith, new_parts, parts_in}
use Rattle.lethe_advance.proofs.Opened.{levels_below, levels_with}
use Rattle.lethe_advance.proofs.Quiet.{back_then, free_still, older_still, quiet_switched, quiet_unswitched, switched_then, unswitched_then}
use Rattle.lethe_advance.proofs.exchanging.exchange.Goals as goal

pub switch_to-requires-clause-free : goal.switch_to-requires-clause-free
switch_to-requires-clause-free g c κs within = λ told.
    free_still (g.D.Disk.seen c.args.disk.now) (g.D.Disk.seen c.open_files.new.disk) (c.open_files.ensures.quiet told) c.args.step.now.manifest.no (Some c.args.step.now.older) (c.requires.free told)

pub switch_to-requires-clause-there : goal.switch_to-requires-clause-there
switch_to-requires-clause-there g c κs within = λ told k is.
    older_still c.args.step.now.older k (g.D.Disk.seen c.args.disk.now).directory (g.D.Disk.seen c.open_files.new.disk).directory (c.open_files.ensures.quiet told).directory is (c.requires.older told)

pub returns-in_err-files-clause-any_moment : goal.returns-in_err-files-clause-any_moment
returns-in_err-files-clause-any_moment g c = λ told.
    quiet_switched (g.D.Disk.seen c.args.disk.now) (g.D.Disk.seen c.open_files.new.disk) (c.open_files.ensures.quiet told) c.args.step.now.manifest.no (Some c.args.step.now.older) (c.requires.free told) (manifest_bytes c.args.step.now.manifest)

pub returns-in_err-next-clause-any_moment : goal.returns-in_err-next-clause-any_moment
returns-in_err-next-clause-any_moment g c = λ told.
    quiet_switched (g.D.Disk.seen c.args.disk.now) (g.D.Disk.seen c.open_files.new.disk) (c.open_files.ensures.quiet told) c.args.step.now.manifest.no (Some c.args.step.now.older) (c.requires.free told) (manifest_bytes c.args.step.now.manifest)

pub returns-in_err-switch_to-clause-any_moment : goal.returns-in_err-switch_to-clause-any_moment
returns-in_err-switch_to-clause-any_moment g c = λ told.
    let step = c.args.step.now in
    let s1 = g.D.Disk.seen c.open_files.new.disk in
    let s2 = g.D.Disk.seen c.switch_to.new.disk in
    switched_then (g.D.Disk.seen c.args.disk.now) s1 (c.open_files.ensures.quiet told) step.manifest.no (Some step.older) (c.requires.free told) (manifest_bytes step.manifest)
    s2 (subst (λ bytes. Leads (IsSwitched step.manifest.no bytes (Some step.older)) s1 s2) c.requires.bytes (c.switch_to.ensures.any_moment told))

pub returns-clause-any_moment : goal.returns-clause-any_moment
returns-clause-any_moment g c = λ told.
    let step = c.args.step.now in
    let s1 = g.D.Disk.seen c.open_files.new.disk in
    let s2 = g.D.Disk.seen c.switch_to.new.disk in
    switched_then (g.D.Disk.seen c.args.disk.now) s1 (c.open_files.ensures.quiet told) step.manifest.no (Some step.older) (c.requires.free told) (manifest_bytes step.manifest)
    s2 (subst (λ bytes. Leads (IsSwitched step.manifest.no bytes (Some step.older)) s1 s2) c.requires.bytes (c.switch_to.ensures.any_moment told))

pub returns-clause-done : goal.returns-clause-done
returns-clause-done g c = λ told.
    let m = c.args.step.now.manifest in
    let older = Some c.args.step.now.older in
    let d1 = (g.D.Disk.seen c.open_files.new.disk).directory in
    c.in_ok-switch_to.ensures.done told ∙ ap (λ bytes. switched m.no bytes older d1) c.requires.bytes ∙ ap (switched m.no (manifest_bytes m) older) (c.open_files.ensures.quiet told).directory

pub with-requires-after_bounds : goal.with-requires-after_bounds
with-requires-after_bounds g c κs within =
    levels_below (λ (new : NewHeader). new.level) (λ new. new.level) c.args.headers.items c.in_ok-files.files.items c.in_ok-files.ensures.levels (length (levels_of c.args.version.now)) c.requires.levels

pub returns-clause-files : goal.returns-clause-files
returns-clause-files g c = λ told.
    let step = c.args.step.now in
    let files = c.in_ok-files.files.items in
    let old = levels_of c.args.version.now in
    let new = levels_of c.in_ok-next.next in
    let made = levels_with (λ new. new.level) (λ new. new.file) parts_in c.deref.result.now files old new c.in_ok-next.ensures.count c.in_ok-next.ensures.others
    (λ level given lt some. (c.in_ok-next.ensures.files level given lt some).same) in
    let here = subst (λ merged. AreLevelsWith merged (map new_parts files) (map (map parts_in) old) (map (map parts_in) new)) c.deref.ensures.value made in
    subst (λ added. AreLevelsWith step.merged.items added (map (map parts_in) old) (map (map parts_in) new)) (c.in_ok-files.ensures.opened told) here

pub returns-in_err-files-clause-unswitched : goal.returns-in_err-files-clause-unswitched
returns-in_err-files-clause-unswitched g c = λ told refused.
    let m = c.args.step.now.manifest in
    quiet_unswitched (g.D.Disk.seen c.args.disk.now) (g.D.Disk.seen c.open_files.new.disk) (c.open_files.ensures.quiet told) m.no (Some c.args.step.now.older) (c.requires.free told) (manifest_bytes m)

pub returns-in_err-next-clause-unswitched : goal.returns-in_err-next-clause-unswitched
returns-in_err-next-clause-unswitched g c = λ told refused.
    let m = c.args.step.now.manifest in
    quiet_unswitched (g.D.Disk.seen c.args.disk.now) (g.D.Disk.seen c.open_files.new.disk) (c.open_files.ensures.quiet told) m.no (Some c.args.step.now.older) (c.requires.free told) (manifest_bytes m)

pub returns-in_err-switch_to-clause-unswitched : goal.returns-in_err-switch_to-clause-unswitched
returns-in_err-switch_to-clause-unswitched g c = λ told refused.
    let m = c.args.step.now.manifest in
    unswitched_then (g.D.Disk.seen c.args.disk.now) (g.D.Disk.seen c.open_files.new.disk) (c.open_files.ensures.quiet told) m.no (Some c.args.step.now.older) (c.requires.free told) (manifest_bytes m)
    (g.D.Disk.seen c.switch_to.new.disk) (c.switch_to.ensures.unswitched told (search rules))

pub returns-in_err-switch_to-clause-no_memory : goal.returns-in_err-switch_to-clause-no_memory
returns-in_err-switch_to-clause-no_memory g c = λ told refused.
    back_then (g.D.Disk.seen c.args.disk.now) (g.D.Disk.seen c.open_files.new.disk) (c.open_files.ensures.quiet told) (g.D.Disk.seen c.switch_to.new.disk) (c.switch_to.ensures.no_memory told (search rules))

pub returns-clause-new : goal.returns-clause-new
returns-clause-new g c = λ told.
    subst (λ bytes. (d : _) → Image (g.D.Disk.seen c.switch_to.new.disk) d → HasNew c.args.step.now.manifest.no bytes d) c.requires.bytes (c.in_ok-switch_to.ensures.new told)
