use Rattle.std.proofs.Common.{◌≡◌, ◌+◌, [], length, get_or, arith, sym, ap, ◌∙◌}
use Rattle.std.specs.Prelude.{map}
use Rattle.lethe_manifest.specs.declared.manifest.Manifest.{Manifest}
use Rattle.lethe_stored.specs.Files.{parts_of}
use Rattle.lethe_stored.specs.Levels.{HasFiles}
use Rattle.lethe_stored.specs.Stored.{Stored, IsCoherent}
use Rattle.lethe_version.specs.Versions.{levels_of}
use Rattle.lethe_advance.specs.Shown.{parts_in, parts_by_level}
use Rattle.lethe_recover.proofs.ByLevel.{has_files}
use Rattle.lethe_flush.proofs.Results.{ok_both}
use Rattle.lethe_recover.proofs.leveled.version_of.Goals as goal

pub returns-clause-files : goal.returns-clause-files
returns-clause-files g c =
    ok_both c.of.result _ _ (λ version. (s : Stored) → IsCoherent s → s.manifest ≡ c.args.manifest.now → map parts_in c.args.files.items ≡ map parts_of s.files → HasFiles s (parts_by_level version)) c.of.ensures.count c.of.ensures.files (λ version count order s coherent same loaded.
    let lists = c.in_ok-levels.levels.items in
    let config : s.manifest.config.levels ≡ c.fields.result.now.levels = ap (λ (x : Manifest). x.config.levels) same ∙ ap (λ fields. fields.levels) (sym c.fields.ensures.fields) in
    let listed = c.in_ok-levels.ensures.count in
    let long : length (levels_of version) ≡ s.manifest.config.levels + 1 = omega (arith, count, listed, config) in
    has_files parts_in s c.items.result.now c.args.files.items (λ level. (get_or lists level c.args.files).items) (levels_of version) coherent loaded (c.items.ensures ∙ ap (λ (x : Manifest). x.files) (sym same)) long
    (λ level lt. c.in_ok-levels.ensures.each level c.args.files (omega (arith, count, listed, lt)))
    (λ level lt. (order level c.args.files [] (omega (arith, count, lt))).same))
