use Rattle.std.proofs.Common.{◌≡◌, All, sym, ◌∙◌, subst, rules}
use Rattle.std.specs.List.{filter_map}
use Rattle.lethe_base.specs.Entries.{IsAscending}
use Rattle.lethe_base.specs.Spelling.{HasSpelling}
use Rattle.lethe_merge.proofs.Settles.{settled, settled_ascends, settled_merged, settled_spelled}
use Rattle.lethe_merge.proofs.settling.settle.Goals as goal

pub returns-clause-merged : goal.returns-clause-merged
returns-clause-merged c =
    let all : c.in_ok-left.left.items ≡ filter_map (settled c.args.erases.now c.args.alone) c.args.entries.items = search rules in
    all ∙ settled_merged c.args.erases.now c.args.alone c.args.entries.items c.requires

pub returns-clause-ascending : goal.returns-clause-ascending
returns-clause-ascending c =
    let all : c.in_ok-left.left.items ≡ filter_map (settled c.args.erases.now c.args.alone) c.args.entries.items = search rules in
    subst IsAscending (sym all) (settled_ascends c.args.erases.now c.args.alone c.args.entries.items c.requires)

pub returns-clause-spelled : goal.returns-clause-spelled
returns-clause-spelled c = λ spelled times.
    let all : c.in_ok-left.left.items ≡ filter_map (settled c.args.erases.now c.args.alone) c.args.entries.items = search rules in
    subst (All HasSpelling) (sym all) (settled_spelled c.args.erases.now times c.args.alone c.args.entries.items spelled)
