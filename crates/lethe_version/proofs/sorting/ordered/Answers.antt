use Rattle.std.proofs.Common.{Bool, cond, sym, subst}
use Rattle.std.specs.Prelude.{IfOk}
use Rattle.std.specs.Ordering.{is_lt, nat_cmp}
use Rattle.std.proofs.lemmas.Bool.{eq-eqb, ne_eqb}
use Rattle.lethe_base.specs.Keys.{key_cmp}
use Rattle.lethe_header.specs.Facts.{least_key}
use Rattle.lethe_version.specs.Order.{IsOrderedBy, greatest_place}
use Rattle.lethe_version.proofs.sorting.ordered.Goals as goal

pub returns-then-level-eq0 : goal.returns-then-level-eq0
returns-then-level-eq0 g c =
    subst (λ (b : Bool). IfOk c.newest_first.result (λ sorted. IsOrderedBy (λ x y. cond b (is_lt (nat_cmp (greatest_place y.file.value.header) (greatest_place x.file.value.header))) (is_lt (key_cmp (least_key x.file.value.header.tiles) (least_key y.file.value.header.tiles)))) c.args.files.items sorted.items))
    (sym (eq-eqb c.args.level 0 c.if-level-eq0.true)) c.newest_first.ensures

pub returns-else-level-eq0 : goal.returns-else-level-eq0
returns-else-level-eq0 g c =
    subst (λ (b : Bool). IfOk c.by_least_key.result (λ sorted. IsOrderedBy (λ x y. cond b (is_lt (nat_cmp (greatest_place y.file.value.header) (greatest_place x.file.value.header))) (is_lt (key_cmp (least_key x.file.value.header.tiles) (least_key y.file.value.header.tiles)))) c.args.files.items sorted.items))
    (sym (ne_eqb c.args.level 0 c.if-level-eq0.false)) c.by_least_key.ensures
