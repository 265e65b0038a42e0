use Rattle.std.proofs.Common.{◌+◌, ◌∙◌, List, subst, sym, ap}
use Rattle.lethe_base.specs.declared.config.Fields.{Fields}
use Rattle.lethe_base.specs.declared.shape.FileFacts.{FileFacts}
use Rattle.lethe_orders.specs.Standing.{AreOrdersOf}
use Rattle.lethe_orders.proofs.orders.Orders.of.Goals as goal

pub returns : goal.returns
returns c = record {
  count = c.requires.levels ∙ ap (λ n. n + 1) (sym (c.in_ok-lists.ensures.count ∙ ap (λ (f : Fields). f.levels) c.fields.ensures.fields));
  lists = subst (λ (l : List (List FileFacts)). AreOrdersOf l c.in_ok-lists.lists.items) c.items.ensures c.in_ok-lists.ensures.orders;
}
