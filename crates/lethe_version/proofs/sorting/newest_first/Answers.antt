use Rattle.std.proofs.Common.{rules, get_or}
use Rattle.std.specs.Cmp.{nat_cmp_total}
use Rattle.std.specs.Ordering.{is_lt, nat_cmp}
use Rattle.std.proofs.lemmas.Fn.{always_returns_same}
use Rattle.std.proofs.lemmas.List.Sorted.{ranks_by, IsStrictWeakOrder-flip}
use Rattle.lethe_version.specs.Order.{greatest_place}
use Rattle.lethe_version.proofs.sorting.newest_first.Goals as goal

pub returns : goal.returns
returns g c =
    let facts = c.in_ok-sort_by.ensures in
    let order = IsStrictWeakOrder-flip _ (ranks_by nat_cmp_total (λ shared. greatest_place shared.file.value.header)) in
    record {
      same = facts.permutation;
      sorted = facts.sorted (λ a b. is_lt (nat_cmp (greatest_place b.file.value.header) (greatest_place a.file.value.header))) order (always_returns_same _ _ _ (λ a r g called. search rules));
      stable = λ k d lt. facts.stable (λ a b. is_lt (nat_cmp (greatest_place b.file.value.header) (greatest_place a.file.value.header))) order (always_returns_same _ _ _ (λ a r g called. search rules)) (get_or c.args.files.items k d);
    }
