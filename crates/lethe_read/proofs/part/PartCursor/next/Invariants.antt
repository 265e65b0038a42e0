use Rattle.std.proofs.Common.{◌≡◌, ◌+◌, ◌≤◌, length, reverse}
use Rattle.std.specs.Prelude.{All, Any, flat_map, sum_by}
use Rattle.lethe_base.specs.declared.entry.Entry.{Entry}
use Rattle.lethe_base.specs.declared.name.Name.{Name}
use Rattle.lethe_read.proofs.part.PartCursor.next.Given as goal

-- those that are taken off had nothing left
abbrev pub invariant-loop-cursor : goal.invariant-loop-cursor
invariant-loop-cursor g l = record {
  again : All g.C.Cursor.may_ask l.cursors.items;
  sound : All g.C.Cursor.sound l.initial.cursors.items → All g.C.Cursor.sound l.cursors.items;
  left : g.D.Disk.tells → All g.C.Cursor.sound l.initial.cursors.items
      → flat_map g.C.Cursor.left (reverse l.cursors.items) ≡ flat_map g.C.Cursor.left (reverse l.initial.cursors.items);
  awaited : g.D.Disk.fetches l.port + sum_by g.C.Cursor.awaits l.cursors.items ≡ g.D.Disk.fetches l.initial.port + sum_by g.C.Cursor.awaits l.initial.cursors.items;
  fewer : (name : Name) → Any (λ cursor. g.C.Cursor.damages cursor name) l.cursors.items → Any (λ cursor. g.C.Cursor.damages cursor name) l.initial.cursors.items;
  gives : (entry : Entry) → Any (λ cursor. g.C.Cursor.gives cursor entry) l.cursors.items → Any (λ cursor. g.C.Cursor.gives cursor entry) l.initial.cursors.items;
  fetched : g.D.Disk.fetches l.initial.port ≤ g.D.Disk.fetches l.port;
  risen : g.D.Disk.port_faults l.initial.port ≤ g.D.Disk.port_faults l.port;
}

abbrev pub decreases-loop-cursor : goal.decreases-loop-cursor
decreases-loop-cursor g l = length l.cursors.items
