use Rattle.std.proofs.Common.{rules, get_or}
use Rattle.std.specs.Cmp.Lexicographic.{nat_list_cmp_total}
use Rattle.std.specs.Ordering.{is_lt}
use Rattle.std.proofs.lemmas.Fn.{always_returns_same}
use Rattle.std.proofs.lemmas.List.Sorted.{ranks_by}
use Rattle.lethe_base.specs.Keys.{key_cmp}
use Rattle.lethe_header.specs.Facts.{least_key}
use Rattle.lethe_version.proofs.sorting.by_least_key.Goals as goal

pub returns : goal.returns
returns g c =
    let facts = c.in_ok-sort_by.ensures in
    let order = ranks_by nat_list_cmp_total (λ shared. least_key shared.file.value.header.tiles) in
    record {
      same = facts.permutation;
      sorted = facts.sorted (λ a b. is_lt (key_cmp (least_key a.file.value.header.tiles) (least_key b.file.value.header.tiles))) order (always_returns_same _ _ _ (λ a r g called. search rules));
      stable = λ k d lt. facts.stable (λ a b. is_lt (key_cmp (least_key a.file.value.header.tiles) (least_key b.file.value.header.tiles))) order (always_returns_same _ _ _ (λ a r g called. search rules)) (get_or c.args.files.items k d);
    }
