use Rattle.std.proofs.Common.{◌≡◌, ◌≤◌, All, length, take}
use Rattle.std.specs.List.{AllZip}
use Rattle.lethe_disk.specs.Quiet.{IsQuiet}
use Rattle.lethe_header.specs.Headers.{EachFollows}
use Rattle.lethe_segment.specs.Segments.{Ascends}
use Rattle.lethe_load.specs.Damaged.{IsReplayed, IsSoundSegment}
use Rattle.lethe_load.proofs.reading.load_segments.Given as goal

abbrev pub invariant-loop-place : goal.invariant-loop-place
invariant-loop-place g l = record {
  count : length l.segments.items ≡ l.place;
  ascends : All (Ascends 0) l.segments.items;
  found : g.D.Disk.tells → AllZip (IsReplayed (g.D.Disk.seen l.fn.disk).directory) (take l.place l.numbers) l.segments.items;
  sound : g.D.Disk.tells → EachFollows (IsSoundSegment (g.D.Disk.seen l.fn.disk).directory) (take l.place l.numbers);
  quiet : g.D.Disk.tells → IsQuiet (g.D.Disk.seen l.fn.disk) (g.D.Disk.seen l.disk);
  faults : g.D.Disk.faults l.fn.disk ≤ g.D.Disk.faults l.disk;
}
