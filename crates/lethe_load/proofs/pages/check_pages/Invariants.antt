use Rattle.std.proofs.Common.{◌≡◌, ◌≤◌, List, [], All, take}
use Rattle.std.specs.Prelude.{IsSome}
use Rattle.lethe_disk.specs.Directory.{object}
use Rattle.lethe_disk.specs.Quiet.{IsQuiet}
use Rattle.lethe_file.specs.Agreement.{page_name}
use Rattle.lethe_header.specs.Facts.{lines_of}
use Rattle.lethe_manifest.specs.declared.manifest.Cited.{Cited}
use Rattle.lethe_load.specs.Damaged.{placed_in}
use Rattle.lethe_load.specs.Progress.{ArePages}
use Rattle.lethe_load.proofs.pages.check_pages.Given as goal

abbrev pub invariant-loop-tile : goal.invariant-loop-tile
invariant-loop-tile g l = record {
  there : g.D.Disk.tells → All (λ line. IsSome (object (g.D.Disk.seen l.fn.disk).directory (page_name line.no))) (lines_of (take l.tile-index l.tile-items));
  pages : g.D.Disk.tells → (before : List Cited) → ArePages (g.D.Disk.seen l.fn.disk).directory before [] l.fn.numbers → ArePages (g.D.Disk.seen l.fn.disk).directory before (placed_in (take l.tile-index l.tile-items)) l.numbers;
  next : l.numbers.next ≡ l.fn.numbers.next;
  quiet : g.D.Disk.tells → IsQuiet (g.D.Disk.seen l.fn.disk) (g.D.Disk.seen l.disk);
  faults : g.D.Disk.faults l.fn.disk ≤ g.D.Disk.faults l.disk;
}
