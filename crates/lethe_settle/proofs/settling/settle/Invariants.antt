use Rattle.std.proofs.Common.{◌≡◌, ◌≤◌, List, ◌+◌, length}
use Rattle.lethe_fade.specs.declared.plan.Plan as plan
use Rattle.lethe_settle.specs.Runs.{Ran}
use Rattle.lethe_settle.proofs.settling.settle.Given as goal

-- each round ran a job that was due
abbrev pub invariant-loop : goal.invariant-loop
invariant-loop g l = record {
  sound : g.T.Tree.sound l.tree;
  plans : List plan.Plan;
  runs : Ran g.T.Tree.due_in g.T.Tree.ran l.fn.to l.fn.tree plans l.tree;
  counted : length plans ≡ l.counter;
  beside : g.T.Tree.beside l.fn.tree l.tree;
  fewer : g.T.Tree.told → g.T.Tree.steps_in l.tree + l.counter ≤ g.T.Tree.steps_in l.fn.tree;
}
