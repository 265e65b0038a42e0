use Rattle.std.proofs.Common.{◌≡◌, ◌≤◌, ◌-◌, []}
use Rattle.lethe_core.specs.Merges.{chosen_by}
use Rattle.lethe_core.specs.View.{view_of}
use Rattle.lethe_core.proofs.Outcomes.{HasMerged}
use Rattle.lethe_core.proofs.holding.Core.merge_all.Given as goal

-- a job in each round so far
abbrev pub invariant-loop : goal.invariant-loop
invariant-loop g l = record {
  merged : HasMerged (chosen_by l.fn.choice) g.D.Disk.tells (view_of l.fn.self) (view_of l.self) l.counter (g.D.Disk.fetches l.fn.port) (g.D.Disk.fetches l.port) (g.D.Disk.port_faults l.fn.port) (g.D.Disk.port_faults l.port);
  free : l.self.flights ≡ [];
  begun : l.self.begun ≡ l.fn.self.begun;
  fetches : g.D.Disk.fetches l.fn.port ≤ g.D.Disk.fetches l.port;
}

abbrev pub decreases-loop : goal.decreases-loop
decreases-loop g l = l.rounds - l.counter
