use Rattle.std.proofs.Common.{rules}
use Rattle.std.proofs.lemmas.Fn.{always_returns_same}
use Rattle.std.proofs.lemmas.List.Sorted.{ranks_by}
use Rattle.std.specs.Ordering.{is_lt}
use Rattle.lethe_base.specs.Keys.{key_cmp}
use Rattle.lethe_base.specs.declared.entry.Entry.{Entry}
use Rattle.lethe_header.proofs.Orders.{key_total, key_ties, other_permuted, sorted_strictly, ascending_from_pairs}
use Rattle.lethe_file.proofs.collecting.sort_by_key.Goals as goal

pub returns-clause-order : goal.returns-clause-order
returns-clause-order c = λ distinct.
    let facts = c.sort_unstable_by.ensures in
    let sorted = facts.sorted (λ e f. is_lt (key_cmp e.key f.key)) (ranks_by key_total (λ (e : Entry). e)) (always_returns_same _ _ _ (λ a r g called. search rules)) in
    let other = other_permuted _ _ facts.permutation distinct in
    ascending_from_pairs _ (sorted_strictly (λ e f. key_cmp e.key f.key) key_total key_ties _ sorted other)
