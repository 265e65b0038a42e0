use Rattle.std.proofs.Common.{◌≡◌, ℕ, ◌+◌, ◌++◌, ◌≤◌}
use Rattle.std.specs.Prelude.{Contains}
use Rattle.lethe_base.specs.Keys.{Bytes}
use Rattle.lethe_base.specs.declared.entry.Body.TheVariants.{Put}
use Rattle.lethe_base.specs.declared.entry.Entry.{Entry}
use Rattle.lethe_base.specs.declared.name.Name.{Name}
use Rattle.lethe_mem.specs.Pairs.{pairs_of}
use Rattle.lethe_read.specs.Between.{AreListedFrom, by_keys}
use Rattle.lethe_read.proofs.scanning.pairs_from.Given as goal

-- the pairs so far and those that the cursor has still to give are all
abbrev pub invariant-loop-turn : goal.invariant-loop-turn
invariant-loop-turn g l = record {
  again : g.C.Cursor.may_ask l.cursor;
  sound : g.C.Cursor.sound l.fn.cursor → g.C.Cursor.sound l.cursor;
  so_far : g.D.Disk.tells → g.C.Cursor.sound l.fn.cursor → by_keys l.pairs.items ++ pairs_of (g.C.Cursor.left l.cursor) ≡ pairs_of (g.C.Cursor.left l.fn.cursor);
  listed : AreListedFrom l.lo l.pairs.items;
  among : (pair : Bytes × ℕ × Bytes) → Contains l.pairs.items pair → (entry : Entry) × g.C.Cursor.gives l.fn.cursor entry × (entry.key ≡ pair.0) × (entry.body ≡ Put pair.1 pair.2);
  gives : (entry : Entry) → g.C.Cursor.gives l.cursor entry → g.C.Cursor.gives l.fn.cursor entry;
  awaited : g.D.Disk.fetches l.port + g.C.Cursor.awaits l.cursor ≡ g.D.Disk.fetches l.fn.port + g.C.Cursor.awaits l.fn.cursor;
  fewer : (name : Name) → g.C.Cursor.damages l.cursor name → g.C.Cursor.damages l.fn.cursor name;
  fetched : g.D.Disk.fetches l.fn.port ≤ g.D.Disk.fetches l.port;
  risen : g.D.Disk.port_faults l.fn.port ≤ g.D.Disk.port_faults l.port;
}
