use Rattle.std.proofs.Common.{◌⊎◌, ◌+◌, [], None, refl, sym, ap, subst, length, arith, ◌∙◌}
use Rattle.std.specs.Prelude.{map}
use Rattle.lethe_manifest.specs.Manifests.{HasSpelling}
use Rattle.lethe_manifest.specs.declared.manifest.Manifest.{Manifest}
use Rattle.lethe_commit.specs.Switch.{HasGreatest}
use Rattle.lethe_stored.specs.Encodes.{Encodes}
use Rattle.lethe_stored.specs.Kept.{IsKept}
use Rattle.lethe_stored.proofs.Firsts.{none_pending}
use Rattle.lethe_advance.specs.Shown.{parts_in}
use Rattle.lethe_disk.proofs.Going.{goes_weaker}
use Rattle.lethe_recover.specs.New.{new_stored}
use Rattle.lethe_recover.proofs.Resumed.{new_kept, new_pace}
use Rattle.lethe_recover.proofs.opening.begin_with_version.Goals as goal

pub returns-in_err-manifest-clause-any_moment : goal.returns-in_err-manifest-clause-any_moment
returns-in_err-manifest-clause-any_moment g c = λ told.
    let config = c.args.config.now in
    goes_weaker (λ x. HasGreatest None x ⊎ Encodes x (new_stored config)) (λ x. IsKept config x []) (g.D.Disk.seen c.args.disk.now) (g.D.Disk.seen c.begin.new.disk) (new_kept config c.begin.ensures.coherent) (c.begin.ensures.any_moment told)

pub version_of-requires-clause-spelled : goal.version_of-requires-clause-spelled
version_of-requires-clause-spelled g c κs within = subst HasSpelling (sym c.in_ok-manifest.ensures.is) c.begin.ensures.coherent.spelled

pub version_of-requires-clause-cited : goal.version_of-requires-clause-cited
version_of-requires-clause-cited g c κs within = ap (λ (m : Manifest). length m.files) c.in_ok-manifest.ensures.is ∙ sym (ap length c.new.ensures.items)

pub returns-in_err-version-clause-any_moment : goal.returns-in_err-version-clause-any_moment
returns-in_err-version-clause-any_moment g c = λ told.
    let config = c.args.config.now in
    goes_weaker (λ x. HasGreatest None x ⊎ Encodes x (new_stored config)) (λ x. IsKept config x []) (g.D.Disk.seen c.args.disk.now) (g.D.Disk.seen c.begin.new.disk) (new_kept config c.begin.ensures.coherent) (c.begin.ensures.any_moment told)

pub returns-clause-any_moment : goal.returns-clause-any_moment
returns-clause-any_moment g c = λ told.
    let config = c.args.config.now in
    goes_weaker (λ x. HasGreatest None x ⊎ Encodes x (new_stored config)) (λ x. IsKept config x []) (g.D.Disk.seen c.args.disk.now) (g.D.Disk.seen c.begin.new.disk) (new_kept config c.begin.ensures.coherent) (c.begin.ensures.any_moment told)

pub returns-clause-there : goal.returns-clause-there
returns-clause-there g c = λ told.
    let done = c.in_ok-manifest.ensures.done told in
    let is = c.in_ok-manifest.ensures.is in
    record {
      settled = done.0;
      only = done.1;
      rising = λ level above i j d before within. absurd (omega (arith, within));
      untorn = done.2;
      told = record {
        manifest = is;
        files = c.in_ok-version.ensures.files (new_stored c.args.config.now) c.begin.ensures.coherent (sym is) (ap (map parts_in) c.new.ensures.items);
        frozen = refl;
        active = refl;
        erases = sym none_pending;
      };
    }

pub returns-clause-spelled : goal.returns-clause-spelled
returns-clause-spelled g c =
    let is = c.in_ok-manifest.ensures.is in
    record {
      manifest = subst HasSpelling (sym is) c.begin.ensures.coherent.spelled;
      config_is = ap (λ (m : Manifest). m.config) is;
      segments = ap (λ (m : Manifest). length m.segments) is;
      levels = c.in_ok-version.ensures.levels ∙ ap (λ (m : Manifest). m.config.levels + 1) is;
    }

pub returns-clause-next : goal.returns-clause-next
returns-clause-next g c = ap (λ (m : Manifest). m.next) c.in_ok-manifest.ensures.is

pub returns-in_err-manifest-clause-pace : goal.returns-in_err-manifest-clause-pace
returns-in_err-manifest-clause-pace g c = λ told. new_pace c.args.config.now c.begin.ensures.coherent (g.D.Disk.seen c.args.disk.now) (g.D.Disk.seen c.begin.new.disk) (c.begin.ensures.any_moment told)

pub returns-in_err-version-clause-pace : goal.returns-in_err-version-clause-pace
returns-in_err-version-clause-pace g c = λ told. new_pace c.args.config.now c.begin.ensures.coherent (g.D.Disk.seen c.args.disk.now) (g.D.Disk.seen c.begin.new.disk) (c.begin.ensures.any_moment told)

pub returns-clause-pace : goal.returns-clause-pace
returns-clause-pace g c = λ told. new_pace c.args.config.now c.begin.ensures.coherent (g.D.Disk.seen c.args.disk.now) (g.D.Disk.seen c.begin.new.disk) (c.begin.ensures.any_moment told)
