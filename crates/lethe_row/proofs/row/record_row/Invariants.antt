use Rattle.std.proofs.Common.{◌≡◌, List, None, length}
use Rattle.lethe_core.specs.View.{view_of}
use Rattle.lethe_row.specs.declared.asking.Asked.{Asked}
use Rattle.lethe_row.proofs.Along.{IsHeld}
use Rattle.lethe_row.proofs.row.record_row.Given as goal

-- the first changes were made, and the record of the next one waits
abbrev pub invariant-loop-change : goal.invariant-loop-change
invariant-loop-change g l = record {
  held : (made : List Asked) × (length made ≡ l.done) × IsHeld g.D.Disk.tells (Unit {0}) (view_of l.fn.core) l.fn.asked.items made l.waiting l.asked.items (view_of l.core);
  runs : l.fn.core.state.stopped ≡ None;
  manifest : l.core.state.manifest ≡ l.fn.core.state.manifest;
  version : l.core.version ≡ l.fn.core.version;
  retired : l.core.retired ≡ l.fn.core.retired;
  flights : l.core.flights ≡ l.fn.core.flights;
  begun : l.core.begun ≡ l.fn.core.begun;
  pins : l.core.pins ≡ l.fn.core.pins;
}

abbrev pub decreases-loop-change : goal.decreases-loop-change
decreases-loop-change g l = length l.asked.items
