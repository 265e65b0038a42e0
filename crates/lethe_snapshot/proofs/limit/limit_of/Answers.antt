use Rattle.std.proofs.Common.{◌≡◌, ℕ, ◌+◌, min, List, Option, Any, Some, ap, ◌∙◌, subst}
use Rattle.lethe_base.specs.declared.config.Fields.{Fields}
use Rattle.lethe_base.specs.declared.pending.Pending.{Pending}
use Rattle.lethe_manifest.specs.declared.manifest.Manifest.{Manifest}
use Rattle.lethe_snapshot.specs.Times.{IsLeast, max_word}
use Rattle.lethe_snapshot.proofs.Obligations.{least_obligation, least_remembered, limit_from}
use Rattle.lethe_snapshot.proofs.limit.limit_of.Goals as goal

pub returns-clause-limit : goal.returns-clause-limit
returns-clause-limit g c = λ s remembers.
    let manifest : c.manifest-manifest.result.now ≡ s.manifest = c.manifest-manifest.ensures ∙ remembers.manifest in
    let fields : c.fields.result.now ≡ s.manifest.config = c.fields.ensures.fields ∙ ap (λ (m : Manifest). m.config) manifest in
    let active = subst (λ (o : Option ℕ). IsLeast s.manifest.clock (λ t. o ≡ Some t) c.earlier-time.result) (c.oldest.ensures ∙ remembers.oldest)
    (subst (λ (m : Manifest). IsLeast m.clock (λ t. c.oldest.result ≡ Some t) c.earlier-time.result) manifest c.earlier-time.ensures) in
    let frozen = subst (λ (o : Option ℕ). IsLeast c.earlier-time.result (λ t. o ≡ Some t) c.earlier-time-2.result) (c.frozen_oldest.ensures ∙ remembers.frozen_oldest) c.earlier-time-2.ensures in
    let erases = subst (λ (erases : List Pending). IsLeast c.earlier-time-2.result (λ t. Any (λ (erase : Pending). erase.time ≡ t) erases) c.least_of_erases-time.result)
    (c.left_erases.ensures.left s _ remembers) c.least_of_erases-time.ensures in
    limit_from s remembers.coherent c.fields.result.now c.least_of_version-time.result c.saturating_add.result fields
    (least_obligation s remembers.coherent c.args.version.now remembers.files c.earlier-time.result c.earlier-time-2.result c.least_of_erases-time.result c.least_of_version-time.result active frozen erases
    c.least_of_version-time.ensures) c.saturating_add.ensures

pub returns-clause-by : goal.returns-clause-by
returns-clause-by g c =
    let state = c.args.state.now in
    let active = subst (λ (o : Option ℕ). IsLeast state.manifest.clock (λ t. o ≡ Some t) c.earlier-time.result) c.oldest.ensures
    (subst (λ (m : Manifest). IsLeast m.clock (λ t. c.oldest.result ≡ Some t) c.earlier-time.result) c.manifest-manifest.ensures c.earlier-time.ensures) in
    let frozen = subst (λ (o : Option ℕ). IsLeast c.earlier-time.result (λ t. o ≡ Some t) c.earlier-time-2.result) c.frozen_oldest.ensures c.earlier-time-2.ensures in
    let erases = subst (λ (erases : List Pending). IsLeast c.earlier-time-2.result (λ t. Any (λ (erase : Pending). erase.time ≡ t) erases) c.least_of_erases-time.result)
    c.left_erases.ensures.is c.least_of_erases-time.ensures in
    record {
      time = c.least_of_version-time.result;
      least = least_remembered state c.args.version.now c.earlier-time.result c.earlier-time-2.result c.least_of_erases-time.result c.least_of_version-time.result active frozen erases c.least_of_version-time.ensures;
      later = c.saturating_add.ensures
          ∙ ap (λ (f : Fields). min (f.threshold + c.least_of_version-time.result) max_word) (c.fields.ensures.fields ∙ ap (λ (m : Manifest). m.config) c.manifest-manifest.ensures);
    }
