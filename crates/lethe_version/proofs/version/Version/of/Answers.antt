use Rattle.std.proofs.Common.{◌≡◌, map, sym, ◌∙◌}
use Rattle.std.specs.List.Sorted.{IsSortedBy}
use Rattle.std.proofs.lemmas.Iterator.Adapters.{YieldsList-from_vec}
use Rattle.std.proofs.lemmas.Iterator.Consumers.{YieldsList-end}
use Rattle.std.proofs.lemmas.List.{map-id}
use Rattle.lethe_version.specs.Order.{IsOrderedBy, comes_before}
use Rattle.lethe_version.proofs.Levels.{all_viewed, each_push_at, each_then}
use Rattle.lethe_version.proofs.version.Version.of.Goals as goal

pub loop-files-preserved : goal.loop-files-preserved
loop-files-preserved g c =
    each_push_at (λ k files level. IsOrderedBy (λ a b. comes_before k a.header b.header) files.items (map (λ one. one.file.value) level.files.items)) c.loop-files.yielded c.in-Some.files c.loop-files.made.items c.push.new.self.items c.in_ok-level_of.field-0
    c.in_ok-push.ensures.items c.len.result (c.len.ensures ∙ c.loop-files.made.ok.0) c.loop-files.invariant c.in_ok-level_of.ensures

pub returns-clause-files : goal.returns-clause-files
returns-clause-files g c =
    let begin = c.into_iter-files-iterator.ensures.into_iter_gives in
    let end = YieldsList-end (YieldsList-from_vec {s = c.into_iter-files-iterator.result} c.args.levels.items begin.0 (begin.1 ∙ c.args.levels.ok.0)) c.loop-files.yielded c.loop-files.files-iterator c.loop-files.yielded_by c.next.result c.next.new.self c.in-None.is c.next.ensures.steps in
    let all : c.loop-files.yielded ≡ c.args.levels.items = sym (map-id c.loop-files.yielded) ∙ end.0 in
    all_viewed (λ k files level. IsOrderedBy (λ a b. comes_before k a.header b.header) files.items level) (λ level. map (λ one. one.file.value) level.files.items) c.loop-files.yielded c.args.levels.items c.loop-files.made.items all c.loop-files.invariant

pub returns-clause-order : goal.returns-clause-order
returns-clause-order g c =
    each_then (λ k files level. IsOrderedBy (λ a b. comes_before k a.header b.header) files.items level) (λ k level. IsSortedBy (λ a b. comes_before k a.header b.header) level) (λ level. map (λ one. one.file.value) level.files.items) c.loop-files.yielded c.loop-files.made.items
    (λ k given level order. order.sorted) c.loop-files.invariant
