use Rattle.std.proofs.Common.{◌≡◌, None, sym, subst, rules}
use Rattle.lethe_manifest.specs.declared.manifest.Manifest.{Manifest}
use Rattle.lethe_manifest.specs.Manifests.{HasSpelling}
use Rattle.lethe_recover.specs.New.{first_manifest}
use Rattle.lethe_recover.proofs.Begun.{first_spelled}
use Rattle.lethe_recover.proofs.beginning.first_manifest.Goals as goal

pub returns-clause-spelled : goal.returns-clause-spelled
returns-clause-spelled c =
    let made : Manifest = record { no = 2; config = c.args.config.now; clock = 0; count = 0; next = 3; certificate = None; erases = c.of.result; segments = c.of-2.result; files = c.of-3.result } in
    let is : made ≡ first_manifest c.args.config.now = search rules in
    subst HasSpelling (sym is) (first_spelled c.args.config.now c.fields.ensures.limits)
