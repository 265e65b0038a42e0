use Rattle.std.proofs.Common.{◌≡◌, length}
use Rattle.std.specs.Prelude.{Contains}
use Rattle.lethe_base.specs.declared.entry.Entry.{Entry}
use Rattle.lethe_file.specs.Damage.{gives_in}
use Rattle.lethe_file.specs.Waiting.{waiting}
use Rattle.lethe_file.proofs.Filling.{IsFilling}
use Rattle.lethe_file.proofs.unread.fill.Given as goal

abbrev pub invariant-loop-alloc : goal.invariant-loop-alloc
invariant-loop-alloc g l =
    (l.unread.range ≡ l.fn.unread.range)
    × IsFilling g.S.PageSource.tells l.fn.unread.range.lo l.fn.unread.range.hi (waiting g.S.PageSource.page_bytes l.fn.unread.tiles.items) l.fn.unread.entries.items (waiting g.S.PageSource.page_bytes l.unread.tiles.items) l.unread.entries.items
    (g.S.PageSource.fetches l.fn.port) (g.S.PageSource.fetches l.port) (g.S.PageSource.port_faults l.fn.port) (g.S.PageSource.port_faults l.port)
    × ((entry : Entry) → Contains l.unread.entries.items entry → gives_in g.S.PageSource.page_bytes l.fn.unread entry)

abbrev pub decreases-loop-alloc : goal.decreases-loop-alloc
decreases-loop-alloc g l = length l.unread.tiles.items
