use Rattle.std.proofs.Common.{◌≡◌, ◌≤◌, ◌*◌, ◌-◌, ◌^◌, take}
use Rattle.lethe_fade.specs.Saturation.{entries_in}
use Rattle.lethe_fade.proofs.saturation.entries_in.Given as goal

abbrev pub invariant-loop-file : goal.invariant-loop-file
invariant-loop-file l = record {
  sum : l.entries ≡ entries_in (take l.file-index l.files);
  small : l.entries ≤ l.file-index * (2 ^ 64 - 1);
}
