use Rattle.lethe_manifest.proofs.ManifestLaws.{same_manifest}
use Rattle.lethe_manifest.proofs.laws.one_manifest.Goals as goal

pub returns : goal.returns
returns c = same_manifest
