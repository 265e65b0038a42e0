use Rattle.std.proofs.Common.{◌≡◌, ◌≤◌, ◌++◌, List, All, map, take}
use Rattle.std.specs.Prelude.{IsSome}
use Rattle.lethe_disk.specs.Directory.{object}
use Rattle.lethe_disk.specs.Quiet.{IsQuiet}
use Rattle.lethe_file.specs.Agreement.{page_name}
use Rattle.lethe_header.specs.declared.header.PageLine.{PageLine}
use Rattle.lethe_header.specs.declared.header.TileLine.{TileLine}
use Rattle.lethe_agreement.specs.Soundness.{IsTaken}
use Rattle.lethe_manifest.specs.declared.manifest.Cited.{Cited}
use Rattle.lethe_load.specs.Progress.{ArePages, AreBelow}
use Rattle.lethe_load.proofs.PagesInOrder.{KeysAre}
use Rattle.lethe_load.proofs.pages.check_tile.Given as goal

abbrev pub invariant-loop-line : goal.invariant-loop-line
invariant-loop-line g l = record {
  there : g.D.Disk.tells → All (λ line. IsSome (object (g.D.Disk.seen l.fn.disk).directory (page_name line.no))) (take l.line-index l.line-items);
  keys : g.D.Disk.tells → KeysAre (g.D.Disk.seen l.fn.disk).directory (IsTaken l.keys) (take l.line-index l.line-items);
  pages : g.D.Disk.tells → (before : List Cited) (items : List (TileLine × PageLine)) → ArePages (g.D.Disk.seen l.fn.disk).directory before items l.fn.numbers → AreBelow l.tile items
      → ArePages (g.D.Disk.seen l.fn.disk).directory before (items ++ map (λ line. (l.tile, line)) (take l.line-index l.line-items)) l.numbers;
  next : l.numbers.next ≡ l.fn.numbers.next;
  quiet : g.D.Disk.tells → IsQuiet (g.D.Disk.seen l.fn.disk) (g.D.Disk.seen l.disk);
  faults : g.D.Disk.faults l.fn.disk ≤ g.D.Disk.faults l.disk;
}
