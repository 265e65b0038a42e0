use Rattle.std.proofs.Common.{◌+◌, ◌≤◌, ◌↔◌, length, take, Contains}
use Rattle.lethe_due.specs.Due.{AreInOrder}
use Rattle.lethe_due.specs.declared.due_file.DueFile as declared
use Rattle.lethe_orders.proofs.building.link_all.Given as goal

abbrev pub invariant-loop-file : goal.invariant-loop-file
invariant-loop-file g l = record {
  same : (file : declared.DueFile) → Contains l.list.files file ↔ Contains (take l.file-index l.order) file;
  order : AreInOrder l.list.files;
  room : length l.order ≤ l.list.spare + l.file-index;
}
