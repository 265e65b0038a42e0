use Rattle.std.proofs.Common.{◌≡◌, ◌≤◌, ◌+◌, map}
use Rattle.lethe_disk.specs.Quiet.{IsQuiet}
use Rattle.lethe_advance.specs.Calls.{opened_by}
use Rattle.lethe_advance.specs.Shown.{new_parts, new_parts_at}
use Rattle.lethe_advance.proofs.exchanging.open_files.Given as goal

abbrev pub invariant-loop-new : goal.invariant-loop-new
invariant-loop-new g l = record {
  quiet : g.D.Disk.tells → IsQuiet (g.D.Disk.seen l.fn.disk) (g.D.Disk.seen l.disk);
  soon : g.D.Disk.tells → (g.D.Disk.seen l.disk).moment ≤ (g.D.Disk.seen l.fn.disk).moment + opened_by l.yielded;
  faults : g.D.Disk.faults l.fn.disk ≤ g.D.Disk.faults l.disk;
  opened : g.D.Disk.tells → map new_parts l.files.items ≡ map (new_parts_at (g.D.Disk.seen l.fn.disk).directory) l.yielded;
  levels : map (λ new. new.level) l.files.items ≡ map (λ new. new.level) l.yielded;
}
