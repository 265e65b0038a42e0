use Rattle.std.proofs.Common.{◌≡◌, ◌≤◌, ◌*◌, [], length, get_or, sym, ap, ◌∙◌, subst, arith}
use Rattle.std.proofs.lemmas.Bool.{leb-true, le-leb}
use Rattle.std.proofs.lemmas.List.{length-map}
use Rattle.lethe_base.specs.declared.config.Fields.{Fields}
use Rattle.lethe_manifest.specs.declared.manifest.Manifest.{Manifest}
use Rattle.lethe_advance.specs.Shown.{parts_by_level}
use Rattle.lethe_core.specs.View.{view_of}
use Rattle.lethe_core.proofs.Crowded.{crowded_at, many_shown}
use Rattle.lethe_core.proofs.holding.Core.is_crowded.Goals as goal

pub returns : goal.returns
returns g c = λ told s holds.
    let config = c.fields.ensures.fields ∙ ap (λ (m : Manifest). m.config) c.manifest.ensures in
    let ratio = ap (λ (fields : Fields). 2 * fields.ratio) config in
    let version = c.args.self.now.version in
    let count = c.requires.count in
    let many : length c.files.result.now ≡ length (get_or (parts_by_level version) 0 []) =
    sym (length-map c.files.result.now _) ∙ ap length (c.files.ensures []) ∙ sym (many_shown version 0 (omega (arith, count))) in
    let both = crowded_at (view_of c.args.self.now) s holds (length c.files.result.now) many in (
      λ is. both.0 (subst (λ n. n ≤ length c.files.result.now) ratio (leb-true _ _ is)),
      λ is. le-leb _ _ (subst (λ n. n ≤ length c.files.result.now) (sym ratio) (both.1 is)),
    )
