use Rattle.std.proofs.Common.{arith}
use Rattle.lethe_manifest.proofs.ManifestLaws.{found_manifest, only_manifest}
use Rattle.lethe_manifest.proofs.reading.read_manifest.Goals as goal

pub returns-clause-found : goal.returns-clause-found
returns-clause-found c = found_manifest c.read_all.result c.args.bytes.now (λ i. omega (arith, c.type_inv.bytes i)) c.read_all.ensures

pub returns-clause-only : goal.returns-clause-only
returns-clause-only c = only_manifest c.read_all.result c.args.bytes.now c.read_all.ensures
