use Rattle.std.proofs.Common.{◌≡◌, ◌≤◌, Some, map, take}
use Rattle.std.specs.List.{AllZip}
use Rattle.lethe_disk.specs.Directory.{object}
use Rattle.lethe_disk.specs.Quiet.{IsQuiet}
use Rattle.lethe_file.specs.Agreement.{page_name}
use Rattle.lethe_header.specs.Facts.{lines_of}
use Rattle.lethe_header.specs.Headers.{EachFollows}
use Rattle.lethe_version.specs.Versions.{bytes_of}
use Rattle.lethe_load.specs.Damaged.{IsHeaderOf, IsSoundFile}
use Rattle.lethe_load.specs.Progress.{AreFiles}
use Rattle.lethe_load.proofs.files.load_files.Given as goal

abbrev pub invariant-loop-file : goal.invariant-loop-file
invariant-loop-file g l = record {
  own : AllZip (λ cited file. file.header.no ≡ cited.no) (take l.file-index l.cited) l.files.items;
  headers : g.D.Disk.tells → AllZip (λ cited file. IsHeaderOf (g.D.Disk.seen l.fn.disk).directory cited file.header) (take l.file-index l.cited) l.files.items;
  pages : g.D.Disk.tells → AllZip (λ cited file. map Some (bytes_of file) ≡ map (λ line. object (g.D.Disk.seen l.fn.disk).directory (page_name line.no)) (lines_of file.header.tiles)) (take l.file-index l.cited) l.files.items;
  sound : g.D.Disk.tells → EachFollows (IsSoundFile (g.D.Disk.seen l.fn.disk).directory l.next) (take l.file-index l.cited);
  are : g.D.Disk.tells → AreFiles (g.D.Disk.seen l.fn.disk).directory (take l.file-index l.cited) l.numbers l.known;
  next : l.numbers.next ≡ l.next;
  quiet : g.D.Disk.tells → IsQuiet (g.D.Disk.seen l.fn.disk) (g.D.Disk.seen l.disk);
  faults : g.D.Disk.faults l.fn.disk ≤ g.D.Disk.faults l.disk;
}
