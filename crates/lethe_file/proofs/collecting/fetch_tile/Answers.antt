use Rattle.std.proofs.Common.{List, reverse, ap, subst, sym, ◌∙◌}
use Rattle.std.specs.Prelude.{Contains}
use Rattle.std.proofs.lemmas.List.{reverse-reverse}
use Rattle.std.proofs.lemmas.List.Sorted.{Contains-permutation, IsPermutation-reverse, IsPermutation-sym}
use Rattle.lethe_base.specs.Entries.{IsAscending}
use Rattle.lethe_base.specs.declared.entry.Entry.{Entry}
use Rattle.lethe_file.specs.Waiting.{in_order}
use Rattle.lethe_file.proofs.Sorting.{is_in_order}
use Rattle.lethe_file.proofs.collecting.fetch_tile.Goals as goal

pub returns-clause-given : goal.returns-clause-given
returns-clause-given g c = λ told up.
    let es = c.in_ok-entries.entries.items in
    let sorted = c.sort_by_key.new.entries.items in
    let collected = c.in_ok-entries.ensures.given told in
    let is = is_in_order es sorted (subst (λ (l : List Entry). IsAscending (in_order l)) (sym collected) up) c.sort_by_key.ensures.same c.sort_by_key.ensures.order in
    ap reverse c.reverse.ensures.items ∙ reverse-reverse sorted ∙ is ∙ ap in_order collected

pub returns-clause-vouched : goal.returns-clause-vouched
returns-clause-vouched g c = λ entry has.
    let es = c.in_ok-entries.entries.items in
    let sorted = c.sort_by_key.new.entries.items in
    let in_sorted = Contains-permutation (reverse sorted) sorted entry (IsPermutation-sym sorted (reverse sorted) (IsPermutation-reverse sorted)) (subst (λ (l : List Entry). Contains l entry) c.reverse.ensures.items has) in
    c.in_ok-entries.ensures.vouched entry (Contains-permutation sorted es entry (IsPermutation-sym es sorted c.sort_by_key.ensures.same) in_sorted)
