use Rattle.std.proofs.Common.{◌≡◌, ◌≤◌, List, length}
use Rattle.lethe_core.specs.View.{view_of}
use Rattle.lethe_engine.specs.Asked.{Asked}
use Rattle.lethe_changes.specs.Changes.{HaveRoom}
use Rattle.lethe_changes.proofs.Making.{IsFresh, IsMade}
use Rattle.lethe_changes.proofs.Rounds.{AreRounds}
use Rattle.lethe_changes.proofs.changes.make_all.Given as goal

-- the first changes were made, of which there is none yet where there is room for all
abbrev pub invariant-loop-alloc : goal.invariant-loop-alloc
invariant-loop-alloc g l = record {
  so_far : (made : List Asked) × (length made ≡ l.done) × IsMade g.D.Disk.tells (view_of l.fn.engine.core) l.fn.asked.items made l.left.items (view_of l.engine.core)
      × AreRounds g.D.Disk.tells (view_of l.fn.engine.core) (g.D.Disk.fetches l.fn.port) made (view_of l.engine.core) (g.D.Disk.fetches l.port);
  fresh : HaveRoom l.fn.asked.items (view_of l.fn.engine.core) → IsFresh g.D.Disk.tells (view_of l.fn.engine.core) l.fn.asked.items l.left.items (view_of l.engine.core);
  port_faults : g.D.Disk.port_faults l.fn.port ≤ g.D.Disk.port_faults l.port;
  fetches : g.D.Disk.fetches l.fn.port ≤ g.D.Disk.fetches l.port;
  certificates : l.engine.certificates ≡ l.fn.engine.certificates;
  pins : l.engine.core.pins ≡ l.fn.engine.core.pins;
}

abbrev pub decreases-loop-alloc : goal.decreases-loop-alloc
decreases-loop-alloc g l = length l.left.items
