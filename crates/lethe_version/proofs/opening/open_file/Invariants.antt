use Rattle.std.proofs.Common.{◌≡◌, ◌≤◌, ◌+◌, Some, length, map, take}
use Rattle.lethe_disk.specs.Directory.{object}
use Rattle.lethe_disk.specs.Quiet.{IsQuiet}
use Rattle.lethe_file.specs.Agreement.{page_name}
use Rattle.lethe_header.specs.Facts.{lines_of}
use Rattle.lethe_version.proofs.opening.open_file.Given as goal

abbrev pub invariant-loop-tile : goal.invariant-loop-tile
invariant-loop-tile g l = record {
  quiet : g.D.Disk.tells → IsQuiet (g.D.Disk.seen l.fn.disk) (g.D.Disk.seen l.disk);
  faults : g.D.Disk.faults l.fn.disk ≤ g.D.Disk.faults l.disk;
  soon : g.D.Disk.tells → (g.D.Disk.seen l.disk).moment ≤ (g.D.Disk.seen l.fn.disk).moment + length (lines_of (take l.tile-index l.tile-items));
  count : length l.pages.items ≡ length (lines_of (take l.tile-index l.tile-items));
  pages : g.D.Disk.tells → map (λ page. Some (g.D.Disk.page_bytes page.value)) l.pages.items
      ≡ map (λ line. object (g.D.Disk.seen l.fn.disk).directory (page_name line.no)) (lines_of (take l.tile-index l.tile-items));
}
