use Rattle.std.proofs.Common.{◌≡◌, ◌⊎◌, inl, [], None, sym, ap, subst, ◌∙◌}
use Rattle.std.specs.FinMap.{insert}
use Rattle.lethe_base.specs.Configuration.{IsConfig}
use Rattle.lethe_disk.specs.Directory.{Directory}
use Rattle.lethe_disk.specs.Disk.{Image}
use Rattle.lethe_disk.specs.Runs.{Leads}
use Rattle.lethe_segment.specs.Segments.{segment_bytes}
use Rattle.lethe_manifest.specs.declared.manifest.Manifest.{Manifest}
use Rattle.lethe_manifest.specs.Manifests.{manifest_bytes}
use Rattle.lethe_commit.specs.Switch.{HasGreatest, IsFree, IsSwitched, HasNew, switched}
use Rattle.lethe_stored.specs.Stored.{segment_name}
use Rattle.lethe_stored.specs.Encodes.{Encodes}
use Rattle.lethe_disk.specs.Goes.{Goes}
use Rattle.lethe_recover.specs.New.{first_manifest, new_stored}
use Rattle.lethe_disk.proofs.Going.{goes_then, goes_weaker}
use Rattle.lethe_recover.proofs.Begun.{place_none, free_new, switch_either, clear_new, settled_new}
use Rattle.lethe_recover.proofs.beginning.begin.Goals as goal

pub returns-in_err-switch-clause-any_moment : goal.returns-in_err-switch-clause-any_moment
returns-in_err-switch-clause-any_moment g c = λ told.
    let s0 = g.D.Disk.seen c.args.disk.now in
    let s1 = g.D.Disk.seen c.remove_everything.new.disk in
    let s2 = g.D.Disk.seen c.place.new.disk in
    let s3 = g.D.Disk.seen c.switch.new.disk in
    let config = c.args.config.now in
    let limits : IsConfig config = subst IsConfig (ap (λ (m : Manifest). m.config) c.in_ok-manifest.ensures.is) c.in_ok-manifest.ensures.spelled.config in
    let nothing = c.in_ok-remove_everything.ensures.done told in
    let empty = c.in_ok-remove_everything.ensures.synced told in
    let placing = c.place.ensures.any_moment told in
    let synced = c.in_ok-place.ensures.synced told in
    let done : s2.directory ≡ insert s1.directory (segment_name 1) (segment_bytes 1 []) = c.in_ok-place.ensures.done told ∙ ap (insert s1.directory (segment_name 1)) c.new_segment.ensures in
    let free = free_new config limits s1 empty nothing s2 placing synced done in
    let manifest_is = c.in_ok-manifest.ensures.is in
    let free_next : IsFree s2 c.in_ok-manifest.manifest.no None = subst (λ (x : Manifest). IsFree s2 x.no None) (sym manifest_is) free in
    let switching : Leads (IsSwitched 2 (manifest_bytes (first_manifest config)) None) s2 s3 = subst (λ (x : Manifest). Leads (IsSwitched x.no (manifest_bytes x) None) s2 s3) manifest_is (c.switch.ensures.any_moment told None free_next) in
    let to_switch : Goes (λ x. HasGreatest None x ⊎ Encodes x (new_stored config)) s0 s3 =
    goes_then (λ x. HasGreatest None x ⊎ Encodes x (new_stored config)) s0 s2 s3
    (goes_weaker (HasGreatest None) (λ x. HasGreatest None x ⊎ Encodes x (new_stored config)) s0 s2 (λ x none. inl none)
    (goes_then (HasGreatest None) s0 s1 s2 (c.remove_everything.ensures.any_moment told) (place_none config limits s1 empty nothing s2 placing)))
    (switch_either config limits s1 empty nothing s2 placing synced done s3 switching) in
    to_switch

pub returns-in_err-clear-clause-any_moment : goal.returns-in_err-clear-clause-any_moment
returns-in_err-clear-clause-any_moment g c = λ told.
    let s0 = g.D.Disk.seen c.args.disk.now in
    let s1 = g.D.Disk.seen c.remove_everything.new.disk in
    let s2 = g.D.Disk.seen c.place.new.disk in
    let s3 = g.D.Disk.seen c.switch.new.disk in
    let config = c.args.config.now in
    let limits : IsConfig config = subst IsConfig (ap (λ (m : Manifest). m.config) c.in_ok-manifest.ensures.is) c.in_ok-manifest.ensures.spelled.config in
    let nothing = c.in_ok-remove_everything.ensures.done told in
    let empty = c.in_ok-remove_everything.ensures.synced told in
    let placing = c.place.ensures.any_moment told in
    let synced = c.in_ok-place.ensures.synced told in
    let done : s2.directory ≡ insert s1.directory (segment_name 1) (segment_bytes 1 []) = c.in_ok-place.ensures.done told ∙ ap (insert s1.directory (segment_name 1)) c.new_segment.ensures in
    let free = free_new config limits s1 empty nothing s2 placing synced done in
    let manifest_is = c.in_ok-manifest.ensures.is in
    let free_next : IsFree s2 c.in_ok-manifest.manifest.no None = subst (λ (x : Manifest). IsFree s2 x.no None) (sym manifest_is) free in
    let switching : Leads (IsSwitched 2 (manifest_bytes (first_manifest config)) None) s2 s3 = subst (λ (x : Manifest). Leads (IsSwitched x.no (manifest_bytes x) None) s2 s3) manifest_is (c.switch.ensures.any_moment told None free_next) in
    let to_switch : Goes (λ x. HasGreatest None x ⊎ Encodes x (new_stored config)) s0 s3 =
    goes_then (λ x. HasGreatest None x ⊎ Encodes x (new_stored config)) s0 s2 s3
    (goes_weaker (HasGreatest None) (λ x. HasGreatest None x ⊎ Encodes x (new_stored config)) s0 s2 (λ x none. inl none)
    (goes_then (HasGreatest None) s0 s1 s2 (c.remove_everything.ensures.any_moment told) (place_none config limits s1 empty nothing s2 placing)))
    (switch_either config limits s1 empty nothing s2 placing synced done s3 switching) in
    let s4 = g.D.Disk.seen c.clear.new.disk in
    let new : (x : Directory) → Image s3 x → HasNew 2 (manifest_bytes (first_manifest config)) x = subst (λ (n : Manifest). (x : Directory) → Image s3 x → HasNew n.no (manifest_bytes n) x) manifest_is (c.in_ok-switch.ensures.new told) in
    goes_then (λ x. HasGreatest None x ⊎ Encodes x (new_stored config)) s0 s3 s4 to_switch
    (clear_new config limits s1 empty nothing s2 placing synced done s3 switching new s4 (c.clear.ensures.any_moment told))

pub returns-clause-any_moment : goal.returns-clause-any_moment
returns-clause-any_moment g c = λ told.
    let s0 = g.D.Disk.seen c.args.disk.now in
    let s1 = g.D.Disk.seen c.remove_everything.new.disk in
    let s2 = g.D.Disk.seen c.place.new.disk in
    let s3 = g.D.Disk.seen c.switch.new.disk in
    let config = c.args.config.now in
    let limits : IsConfig config = subst IsConfig (ap (λ (m : Manifest). m.config) c.in_ok-manifest.ensures.is) c.in_ok-manifest.ensures.spelled.config in
    let nothing = c.in_ok-remove_everything.ensures.done told in
    let empty = c.in_ok-remove_everything.ensures.synced told in
    let placing = c.place.ensures.any_moment told in
    let synced = c.in_ok-place.ensures.synced told in
    let done : s2.directory ≡ insert s1.directory (segment_name 1) (segment_bytes 1 []) = c.in_ok-place.ensures.done told ∙ ap (insert s1.directory (segment_name 1)) c.new_segment.ensures in
    let free = free_new config limits s1 empty nothing s2 placing synced done in
    let manifest_is = c.in_ok-manifest.ensures.is in
    let free_next : IsFree s2 c.in_ok-manifest.manifest.no None = subst (λ (x : Manifest). IsFree s2 x.no None) (sym manifest_is) free in
    let switching : Leads (IsSwitched 2 (manifest_bytes (first_manifest config)) None) s2 s3 = subst (λ (x : Manifest). Leads (IsSwitched x.no (manifest_bytes x) None) s2 s3) manifest_is (c.switch.ensures.any_moment told None free_next) in
    let to_switch : Goes (λ x. HasGreatest None x ⊎ Encodes x (new_stored config)) s0 s3 =
    goes_then (λ x. HasGreatest None x ⊎ Encodes x (new_stored config)) s0 s2 s3
    (goes_weaker (HasGreatest None) (λ x. HasGreatest None x ⊎ Encodes x (new_stored config)) s0 s2 (λ x none. inl none)
    (goes_then (HasGreatest None) s0 s1 s2 (c.remove_everything.ensures.any_moment told) (place_none config limits s1 empty nothing s2 placing)))
    (switch_either config limits s1 empty nothing s2 placing synced done s3 switching) in
    let s4 = g.D.Disk.seen c.clear.new.disk in
    let new : (x : Directory) → Image s3 x → HasNew 2 (manifest_bytes (first_manifest config)) x = subst (λ (n : Manifest). (x : Directory) → Image s3 x → HasNew n.no (manifest_bytes n) x) manifest_is (c.in_ok-switch.ensures.new told) in
    goes_then (λ x. HasGreatest None x ⊎ Encodes x (new_stored config)) s0 s3 s4 to_switch
    (clear_new config limits s1 empty nothing s2 placing synced done s3 switching new s4 (c.clear.ensures.any_moment told))

pub returns-clause-done : goal.returns-clause-done
returns-clause-done g c = λ told.
    let s0 = g.D.Disk.seen c.args.disk.now in
    let s1 = g.D.Disk.seen c.remove_everything.new.disk in
    let s2 = g.D.Disk.seen c.place.new.disk in
    let s3 = g.D.Disk.seen c.switch.new.disk in
    let config = c.args.config.now in
    let limits : IsConfig config = subst IsConfig (ap (λ (m : Manifest). m.config) c.in_ok-manifest.ensures.is) c.in_ok-manifest.ensures.spelled.config in
    let nothing = c.in_ok-remove_everything.ensures.done told in
    let empty = c.in_ok-remove_everything.ensures.synced told in
    let placing = c.place.ensures.any_moment told in
    let synced = c.in_ok-place.ensures.synced told in
    let done : s2.directory ≡ insert s1.directory (segment_name 1) (segment_bytes 1 []) = c.in_ok-place.ensures.done told ∙ ap (insert s1.directory (segment_name 1)) c.new_segment.ensures in
    let free = free_new config limits s1 empty nothing s2 placing synced done in
    let manifest_is = c.in_ok-manifest.ensures.is in
    let free_next : IsFree s2 c.in_ok-manifest.manifest.no None = subst (λ (x : Manifest). IsFree s2 x.no None) (sym manifest_is) free in
    let switching : Leads (IsSwitched 2 (manifest_bytes (first_manifest config)) None) s2 s3 = subst (λ (x : Manifest). Leads (IsSwitched x.no (manifest_bytes x) None) s2 s3) manifest_is (c.switch.ensures.any_moment told None free_next) in
    let to_switch : Goes (λ x. HasGreatest None x ⊎ Encodes x (new_stored config)) s0 s3 =
    goes_then (λ x. HasGreatest None x ⊎ Encodes x (new_stored config)) s0 s2 s3
    (goes_weaker (HasGreatest None) (λ x. HasGreatest None x ⊎ Encodes x (new_stored config)) s0 s2 (λ x none. inl none)
    (goes_then (HasGreatest None) s0 s1 s2 (c.remove_everything.ensures.any_moment told) (place_none config limits s1 empty nothing s2 placing)))
    (switch_either config limits s1 empty nothing s2 placing synced done s3 switching) in
    let s4 = g.D.Disk.seen c.clear.new.disk in
    let new : (x : Directory) → Image s3 x → HasNew 2 (manifest_bytes (first_manifest config)) x = subst (λ (n : Manifest). (x : Directory) → Image s3 x → HasNew n.no (manifest_bytes n) x) manifest_is (c.in_ok-switch.ensures.new told) in
    let switched_is : s3.directory ≡ switched 2 (manifest_bytes (first_manifest config)) None s2.directory =
    subst (λ (n : Manifest). s3.directory ≡ switched n.no (manifest_bytes n) None s2.directory) manifest_is (c.in_ok-switch.ensures.done told None free_next) in
    let here = (g.met.D.Disk g.world.𝓛 g.world.𝓜 g.world.𝓡 ((λ s x. x), (λ x. x), (λ x. x), λ x. x)).itself told c.switch.new.disk in
    settled_new config limits s1 empty nothing s2 placing synced done s3 switching new s4 (c.clear.ensures.any_moment told) here switched_is (c.in_ok-clear.ensures.done told) (c.in_ok-clear.ensures.synced told)
