use Rattle.std.proofs.Common.{◌≡◌}
use Rattle.lethe_merge.proofs.Awaits.{IsAwaiting}
use Rattle.lethe_merge.proofs.Fills.{IsFilling}
use Rattle.lethe_merge.proofs.Gives.{IsGiving}
use Rattle.lethe_merge.proofs.Skips.{IsSkipping}
use Rattle.lethe_merge.proofs.merger.MergerCursor.next.Given as goal

abbrev pub invariant-loop-turn : goal.invariant-loop-turn
invariant-loop-turn g l = record {
  skipping : IsSkipping g.D.Disk.tells g.C.Cursor.may_ask g.C.Cursor.sound g.C.Cursor.left l.fn.self.erases.items l.fn.self.alone l.fn.self.sources.items l.self.sources.items
      (g.D.Disk.port_faults l.fn.port) (g.D.Disk.port_faults l.port) (g.D.Disk.fetches l.fn.port) (g.D.Disk.fetches l.port);
  awaiting : IsAwaiting g.C.Cursor.awaits g.C.Cursor.damages l.fn.self.sources.items l.self.sources.items (g.D.Disk.fetches l.fn.port) (g.D.Disk.fetches l.port);
  giving : IsGiving g.C.Cursor.gives l.fn.self.sources.items l.self.sources.items;
  erases : l.self.erases ≡ l.fn.self.erases;
  alone : l.self.alone ≡ l.fn.self.alone;
}

abbrev pub invariant-loop-place : goal.invariant-loop-place
invariant-loop-place g l = record {
  filling : IsFilling g.D.Disk.tells g.C.Cursor.may_ask g.C.Cursor.sound g.C.Cursor.left l.initial.self.sources.items l.self.sources.items l.place
      (g.D.Disk.port_faults l.initial.port) (g.D.Disk.port_faults l.port) (g.D.Disk.fetches l.initial.port) (g.D.Disk.fetches l.port);
  awaiting : IsAwaiting g.C.Cursor.awaits g.C.Cursor.damages l.initial.self.sources.items l.self.sources.items (g.D.Disk.fetches l.initial.port) (g.D.Disk.fetches l.port);
  giving : IsGiving g.C.Cursor.gives l.initial.self.sources.items l.self.sources.items;
  erases : l.self.erases ≡ l.initial.self.erases;
  alone : l.self.alone ≡ l.initial.self.alone;
}
