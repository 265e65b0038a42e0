use Rattle.std.proofs.Common.{◌≡◌, None, length}
use Rattle.lethe_stored.specs.Stored.{Stored}
use Rattle.lethe_core.specs.Keeps.{Keeps}
use Rattle.lethe_core.specs.Running.{Holds}
use Rattle.lethe_core.specs.View.{view_of}
use Rattle.lethe_core.proofs.holding.Core.cancel_all.Given as goal

-- the jobs so far were given up, and all else is as it was
abbrev pub invariant-loop-number : goal.invariant-loop-number
invariant-loop-number g l = record {
  keeps : Keeps g.D.Disk.tells (view_of l.fn.self) (view_of l.self) None;
  held : g.D.Disk.tells → (s : Stored) → Holds (view_of l.fn.self) s → Holds (view_of l.self) s;
  state : l.self.state ≡ l.fn.self.state;
  version : l.self.version ≡ l.fn.self.version;
  retired : l.self.retired ≡ l.fn.self.retired;
  begun : l.self.begun ≡ l.fn.self.begun;
}

abbrev pub decreases-loop-number : goal.decreases-loop-number
decreases-loop-number g l = length l.self.flights
