use Rattle.std.proofs.Common.{◌≡◌, ◌≤◌, List, [], length, All, sym, ap, ◌∙◌, subst, arith, rules}
use Rattle.std.proofs.lemmas.List.{nil_from_length}
use Rattle.std.specs.List.{filter_map}
use Rattle.lethe_base.specs.Entries.{IsAscending}
use Rattle.lethe_base.specs.Spelling.{HasSpelling}
use Rattle.lethe_base.specs.declared.entry.Entry as entry
use Rattle.lethe_merge.proofs.Gathers.{begun, bare, gathered, length-merged, merged_spelled}
use Rattle.lethe_merge.proofs.Merges.{merged_ascends}
use Rattle.lethe_merge.proofs.gathering.merge_entries.Goals as goal

pub loop-entry-init : goal.loop-entry-init
loop-entry-init c = begun c.args.erases.now c.args.entries.items c.new-by_key.result.entries c.new-by_key.ensures.empty

pub returns-clause-merged : goal.returns-clause-merged
returns-clause-merged c =
    let kept : c.in_ok-left.left.items ≡ filter_map (bare c.args.erases.now c.args.alone) c.into_values.result = search rules in
    let empty : length c.loop-entry.entries.items ≡ 0 = omega (arith, c.in_default.ensures.cases, c.loop-entry.entries.ok.0) in
    let none : c.loop-entry.entries.items ≡ [] = nil_from_length c.loop-entry.entries.items empty in
    gathered c.args.erases.now c.args.alone c.args.entries.items c.loop-entry.entries.items c.in_ok-left.left.items c.loop-entry.by_key.entries
    c.loop-entry.invariant none (kept ∙ ap (filter_map (bare c.args.erases.now c.args.alone)) c.into_values.ensures.rest)

pub returns-clause-ascending : goal.returns-clause-ascending
returns-clause-ascending c = subst IsAscending (sym (returns-clause-merged c)) (merged_ascends c.args.entries.items c.args.erases.now c.args.alone)

pub returns-clause-spelled : goal.returns-clause-spelled
returns-clause-spelled c = λ spelled times.
    subst (All HasSpelling) (sym (returns-clause-merged c)) (merged_spelled c.args.erases.now c.args.alone times c.args.entries.items spelled)

pub returns-clause-few : goal.returns-clause-few
returns-clause-few c =
    subst (λ (left : List entry.Entry). length left ≤ length c.args.entries.items) (sym (returns-clause-merged c)) (length-merged c.args.erases.now c.args.alone c.args.entries.items)
