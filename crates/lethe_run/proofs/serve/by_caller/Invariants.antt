use Rattle.std.proofs.Common.{◌≡◌, ◌≤◌, ◌-◌, [], map}
use Rattle.std.specs.Prelude.{All, replicate, vec_capacity, vec_len}
use Rattle.lethe_script.specs.declared.order.Order.{Order}
use Rattle.lethe_run.specs.Callers.{IsCaller, each_own}
use Rattle.lethe_run.proofs.serve.by_caller.Given as goal

-- so many callers have a list, which is empty, and there is room for the others
abbrev pub invariant-callers : goal.invariant-callers
invariant-callers l = record {
  none : map (λ list. list.items) l.own.items ≡ replicate (vec_len l.own) [];
  few : vec_len l.own ≤ 8;
  room : 8 ≤ vec_capacity l.own;
}

abbrev pub decreases-callers : goal.decreases-callers
decreases-callers l = 8 - vec_len l.own

-- each has the orders so far that are its own
abbrev pub invariant-loop-order : goal.invariant-loop-order
invariant-loop-order l = record {
  own : map (λ list. list.items) l.own.items ≡ each_own l.yielded;
  callers : All (λ (order : Order). IsCaller order.caller) l.yielded;
}
