use Rattle.std.proofs.lemmas.List.Elements.{All-weaker}
use Rattle.lethe_core.specs.View.{view_of}
use Rattle.lethe_engine.specs.Certificates.{HoldsNoneErasedBy}
use Rattle.lethe_engine.specs.StandsFor.{IsCertified}
use Rattle.lethe_engine.proofs.Certified.{certified_gone}
use Rattle.lethe_engine.proofs.laws.certified_is_gone.Goals as goal

pub returns : goal.returns
returns g c = λ told config opened h stands runs.
    let view = view_of c.args._engine.now.core in
    All-weaker (IsCertified config opened h view) (λ certificate. HoldsNoneErasedBy view.disk.directory h certificate.before) (certified_gone config opened h view stands.since.now runs) c.args._engine.now.certificates.items stands.certified
