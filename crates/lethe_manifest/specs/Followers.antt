-- The manifest that follows another.
use Rattle.std.specs.Prelude.{◌+◌}
use Rattle.lethe_manifest.specs.declared.change.Change.{Change}
use Rattle.lethe_manifest.specs.declared.manifest.Manifest.{Manifest}

-- The change has its number, its count and its lists, the next number is the one behind its own, and configuration, clock and certificate stay.
abbrev pub follower : Manifest → Change → Manifest
follower m change = record m {
  no = change.no;
  count = change.count;
  next = change.no + 1;
  erases = change.erases;
  segments = change.segments;
  files = change.files;
}
