use Rattle.std.proofs.Common.{eqb, map, ap, sym, ◌∙◌}
use Rattle.std.specs.Prelude.{find}
use Rattle.std.specs.Option.{option_copied}
use Rattle.lethe_version.proofs.Whole.{end_whole, none_found, some_found}
use Rattle.lethe_version.proofs.version.Version.file.Goals as goal

pub returns-in-Some : goal.returns-in-Some
returns-in-Some g c =
    sym (some_found (λ level. map (λ shared. shared.file.value) level.files.items) c.args.self.now.levels.items c.deref-level-items.result.now c.deref-level-items.ensures.value c.loop-level.level-index c.level-item.result c.loop-level-test.true c.level-item.is
    (λ file. eqb file.header.no c.args.no) c.in-Some.file.now c.loop-level.invariant (sym c.in-Some.ensures))

pub loop-level-preserved : goal.loop-level-preserved
loop-level-preserved g c =
    none_found (λ level. map (λ shared. shared.file.value) level.files.items) c.args.self.now.levels.items c.deref-level-items.result.now c.deref-level-items.ensures.value c.loop-level.level-index c.level-item.result c.loop-level-test.true c.level-item.is
    (λ file. eqb file.header.no c.args.no) c.loop-level.invariant (sym c.file.ensures ∙ ap option_copied c.in_default.is)

pub returns : goal.returns
returns g c =
    sym c.loop-level.invariant
    ∙ ap (find (λ file. eqb file.header.no c.args.no)) (end_whole (λ level. map (λ shared. shared.file.value) level.files.items) c.args.self.now.levels.items c.deref-level-items.result.now c.deref-level-items.ensures.value c.loop-level.level-index c.loop-level-test.false)
