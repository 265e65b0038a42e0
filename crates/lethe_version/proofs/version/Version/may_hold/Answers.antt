use Rattle.std.proofs.Common.{ltb, map, refl, ap, sym, ◌∙◌}
use Rattle.std.specs.List.{list_any}
use Rattle.lethe_version.specs.Probing.{bound}
use Rattle.lethe_version.proofs.Whole.{end_whole, key_may, narrowed_any, none_any, not_any, some_any, some_may}
use Rattle.lethe_version.specs.Versions.{files_of}
use Rattle.lethe_version.proofs.version.Version.may_hold.Goals as goal

pub returns-then-any_may_hold-clause-exact : goal.returns-then-any_may_hold-clause-exact
returns-then-any_may_hold-clause-exact g c =
    let level = narrowed_any (λ shared. shared.file.value) (λ file. file.header) c.args.key.now c.level-item.result.files.items c.candidates.result.now c.candidates.ensures in
    let there = some_any (λ level. map (λ shared. shared.file.value) level.files.items) c.args.self.now.levels.items c.deref-level-items.result.now c.deref-level-items.ensures.value c.loop-level.level-index c.level-item.result c.loop-level-test.true c.level-item.is
    (λ file. ltb 0 (bound c.args.key.now file.header)) (level ∙ sym c.any_may_hold.ensures ∙ c.if-any_may_hold.true) in
    (λ _. some_may (λ file. file.header) (λ file. map (λ page. g.D.Disk.page_bytes page.value) file.pages.items) c.args.key.now (files_of c.args.self.now) there, λ _. refl)

pub loop-level-preserved : goal.loop-level-preserved
loop-level-preserved g c =
    let level = narrowed_any (λ shared. shared.file.value) (λ file. file.header) c.args.key.now c.level-item.result.files.items c.candidates.result.now c.candidates.ensures in
    none_any (λ level. map (λ shared. shared.file.value) level.files.items) c.args.self.now.levels.items c.deref-level-items.result.now c.deref-level-items.ensures.value c.loop-level.level-index c.level-item.result c.loop-level-test.true c.level-item.is
    (λ file. ltb 0 (bound c.args.key.now file.header)) c.loop-level.invariant (level ∙ sym c.any_may_hold.ensures ∙ c.if-any_may_hold.false)

pub returns-clause-exact : goal.returns-clause-exact
returns-clause-exact g c =
    let none = sym (ap (list_any (λ file. ltb 0 (bound c.args.key.now file.header))) (end_whole (λ level. map (λ shared. shared.file.value) level.files.items) c.args.self.now.levels.items c.deref-level-items.result.now c.deref-level-items.ensures.value c.loop-level.level-index c.loop-level-test.false)) ∙ c.loop-level.invariant in
    (λ no. absurd cc, λ any. not_any (λ file. file.header) (λ file. map (λ page. g.D.Disk.page_bytes page.value) file.pages.items) c.args.key.now (files_of c.args.self.now) none any)

pub returns-clause-holds : goal.returns-clause-holds
returns-clause-holds g c = λ sound has.
    let none = sym (ap (list_any (λ file. ltb 0 (bound c.args.key.now file.header))) (end_whole (λ level. map (λ shared. shared.file.value) level.files.items) c.args.self.now.levels.items c.deref-level-items.result.now c.deref-level-items.ensures.value c.loop-level.level-index c.loop-level-test.false)) ∙ c.loop-level.invariant in
    not_any (λ file. file.header) (λ file. map (λ page. g.D.Disk.page_bytes page.value) file.pages.items) c.args.key.now (files_of c.args.self.now) none
    (key_may (λ file. file.header) (λ file. map (λ page. g.D.Disk.page_bytes page.value) file.pages.items) c.args.key.now (files_of c.args.self.now) sound has)
