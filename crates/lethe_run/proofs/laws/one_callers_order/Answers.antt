use Rattle.lethe_run.proofs.TurnLaws.{one_order_of_lines, one_order_of_orders, one_order_printed}
use Rattle.lethe_run.proofs.laws.one_callers_order.Goals as goal

pub returns-clause-printed : goal.returns-clause-printed
returns-clause-printed c = one_order_printed

pub returns-clause-lines : goal.returns-clause-lines
returns-clause-lines c = one_order_of_lines

pub returns-clause-orders : goal.returns-clause-orders
returns-clause-orders c = one_order_of_orders
