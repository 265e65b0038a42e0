use Rattle.std.proofs.Common.{◌≡◌, ◌<◌, length, map, sym, ap, ◌∙◌, arith}
use Rattle.std.specs.Prelude.{◌==◌}
use Rattle.std.proofs.lemmas.List.{length-map}
use Rattle.lethe_version.specs.NewFiles.{shared_in}
use Rattle.lethe_version.specs.Versions.{in_level}
use Rattle.lethe_version.proofs.Levels.{IsNext, both_viewed, came_as, each_more_at, next_order, next_with}
use Rattle.lethe_version.proofs.version.Version.with.Goals as goal

pub loop-old-preserved : goal.loop-old-preserved
loop-old-preserved g c =
    each_more_at (λ k old new. IsNext (λ file. file.header) c.args.gone.now (shared_in k c.in_ok-added.added.items) k (map (λ one. one.file.value) old.files.items) (map (λ one. one.file.value) new.files.items))
    c.args.self.now.levels.items c.deref-old-items.result.now c.deref-old-items.ensures.value c.loop-old.old-index c.old-item.result c.loop-old-test.true c.old-item.is c.loop-old.made.items c.push.new.self.items c.in_ok-level_with.field-0
    c.in_ok-push.ensures.items c.len.result (c.len.ensures ∙ c.loop-old.made.ok.0) c.loop-old.invariant
    (next_with (λ file. file.header) c.args.gone.now (shared_in c.len.result c.deref.result.now) (shared_in c.len.result c.in_ok-added.added.items) (ap (shared_in c.len.result) c.deref.ensures.value) c.len.result _ _ (c.in_ok-level_with.ensures.others, c.in_ok-level_with.ensures.there))

pub returns-clause-others : goal.returns-clause-others
returns-clause-others g c = λ level files lt none.
    let len : length c.args.self.now.levels.items ≡ length c.deref-old-items.result.now = ap length (sym c.deref-old-items.ensures.value) in
    let count = length-map c.args.self.now.levels.items (λ level. map (λ one. one.file.value) level.files.items) in
    (next_with (λ file. file.header) c.args.gone.now (shared_in level c.in_ok-added.added.items) (in_level level c.args.added.items)
    (came_as (λ one. record { level = one.level; file = one.file.file.value }) (λ new. new.level == level) (λ new. new.file) c.in_ok-added.added.items c.args.added.items c.in_ok-added.ensures) level _ _
    (both_viewed (λ k old new. IsNext (λ file. file.header) c.args.gone.now (shared_in k c.in_ok-added.added.items) k old new) (λ level. map (λ one. one.file.value) level.files.items) (λ level. map (λ one. one.file.value) level.files.items)
    c.loop-old.old-index c.args.self.now.levels.items c.loop-old.made.items (omega (arith, len, c.loop-old.auto.old-index-end)) c.loop-old.invariant level files files (omega (arith, lt, count, len, c.loop-old-test.false)))).0 none

pub returns-clause-files : goal.returns-clause-files
returns-clause-files g c = λ level files lt some.
    let len : length c.args.self.now.levels.items ≡ length c.deref-old-items.result.now = ap length (sym c.deref-old-items.ensures.value) in
    let count = length-map c.args.self.now.levels.items (λ level. map (λ one. one.file.value) level.files.items) in
    (next_with (λ file. file.header) c.args.gone.now (shared_in level c.in_ok-added.added.items) (in_level level c.args.added.items)
    (came_as (λ one. record { level = one.level; file = one.file.file.value }) (λ new. new.level == level) (λ new. new.file) c.in_ok-added.added.items c.args.added.items c.in_ok-added.ensures) level _ _
    (both_viewed (λ k old new. IsNext (λ file. file.header) c.args.gone.now (shared_in k c.in_ok-added.added.items) k old new) (λ level. map (λ one. one.file.value) level.files.items) (λ level. map (λ one. one.file.value) level.files.items)
    c.loop-old.old-index c.args.self.now.levels.items c.loop-old.made.items (omega (arith, len, c.loop-old.auto.old-index-end)) c.loop-old.invariant level files files (omega (arith, lt, count, len, c.loop-old-test.false)))).1 some

pub returns-clause-order : goal.returns-clause-order
returns-clause-order g c = λ stands level files lt.
    let len : length c.args.self.now.levels.items ≡ length c.deref-old-items.result.now = ap length (sym c.deref-old-items.ensures.value) in
    let count = length-map c.args.self.now.levels.items (λ level. map (λ one. one.file.value) level.files.items) in
    let made = length-map c.loop-old.made.items (λ level. map (λ one. one.file.value) level.files.items) in
    let inside : level < c.loop-old.old-index = omega (arith, lt, made, c.loop-old.invariant.len) in
    next_order (λ file. file.header) c.args.gone.now (shared_in level c.in_ok-added.added.items) level _ _
    (both_viewed (λ k old new. IsNext (λ file. file.header) c.args.gone.now (shared_in k c.in_ok-added.added.items) k old new) (λ level. map (λ one. one.file.value) level.files.items) (λ level. map (λ one. one.file.value) level.files.items)
    c.loop-old.old-index c.args.self.now.levels.items c.loop-old.made.items (omega (arith, len, c.loop-old.auto.old-index-end)) c.loop-old.invariant level files files inside)
    (stands level files (omega (arith, inside, count, len, c.loop-old.auto.old-index-end)))
